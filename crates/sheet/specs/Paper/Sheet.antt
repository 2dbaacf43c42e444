-- 02, K2: "The installer's register sheet has up to 500 lines of `register,type,decimals` with LF, type one of u8 s8
-- u16 s16 u32 s32, decimals 0 to 3, registers rising, 0 to 65535, without leading zeros."
-- Assumes nothing.
use Rattle.std.specs.Prelude.{◌≡◌, Bool, true, false, cond, List, [], ◌∷◌, ◌++◌, ℕ, suc, ◌*◌, ◌≤◌, eqb, length}
use Rattle.std.proofs.Math.Option.{Option, none, some}
use Rattle.digits.specs.Paper.Decimal.{decimal}
use Rattle.digits.specs.Paper.LowFirst.{Width, SixteenBits}
use Rattle.numbers.specs.Paper.Raw.{most_decimals}

-- what the sheet says of a register: how many bytes its value has, whether it has a sign, and its decimals
pub record RegisterType : Type 0 where
  pub width : ℕ
  pub signed : Bool
  pub decimals : ℕ

-- a line of the sheet
pub record Row : Type 0 where
  pub register : ℕ
  pub is : RegisterType

-- ---- what rows write

-- "u8 s8 u16 s16 u32 s32": `u` or `s`, and the width in bits
abbrev pub letter : Bool → ℕ
letter false = 117
letter true = 115

unfoldable pub type_name : ℕ → Bool → List ℕ
type_name width signed = letter signed ∷ decimal (8 * width)

-- "`register,type,decimals` with LF"
abbrev pub comma : ℕ
comma = 44

abbrev pub LF : ℕ
LF = 10

-- a line without its LF
unfoldable pub fields : Row → List ℕ
fields r =
    decimal r.register
    ++ comma ∷ (type_name r.is.width r.is.signed
    ++ comma ∷ decimal r.is.decimals)

unfoldable pub sheet : List Row → List ℕ
sheet [] = []
sheet (r ∷ rows) = fields r ++ LF ∷ sheet rows

-- ---- the sheet

-- "registers .. 0 to 65535", "type one of u8 s8 u16 s16 u32 s32, decimals 0 to 3"
pub record InLimits (r : Row) : Type 0 where
  pub register : SixteenBits r.register
  pub width : Width r.is.width
  pub decimals : r.is.decimals ≤ most_decimals

-- "registers rising": each from `least` on, and behind the one before
pub data Rising : ℕ → List Row → Type 0 where
  done : {least : ℕ} → Rising least []
  next : {least : ℕ} {r : Row} {rows : List Row} → InLimits r → least ≤ r.register
      → Rising (suc r.register) rows → Rising least (r ∷ rows)

abbrev pub most_rows : ℕ
most_rows = 500

-- the text is the sheet of these rows
pub record Sheet (text : List ℕ) (rows : List Row) : Type 0 where
  pub written : sheet rows ≡ text
  pub rising : Rising 0 rows
  pub few : length rows ≤ most_rows

-- ---- what the sheet says of a register: its type, if the register is in the sheet

abbrev pub Lookup : Type 0
Lookup = ℕ → Option RegisterType

unfoldable pub find : List Row → Lookup
find [] register = none
find (r ∷ rows) register = cond (eqb r.register register) (some r.is) (find rows register)
