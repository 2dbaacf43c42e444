-- 01, Homiq: "`<;CMD;VAL;SRC;DST;ID;TYPE;CRC;>` CR LF."
-- Assumes nothing.
use Rattle.std.specs.Prelude.{Bool, ◌&&◌, cond, not, List, [], ◌∷◌, ◌++◌, ℕ, ◌≤◌, T, eqb, leb, length}
use Rattle.digits.specs.Paper.Ascii.{ascii}
use Rattle.digits.specs.Paper.Decimal.{decimal}
use Rattle.checks.specs.Paper.Buses.{homiq_crc}
use Rattle.layouts.specs.Paper.Chars.{one_of, all, CR, LF}
use Rattle.layouts.specs.Paper.Layout.{Layout, Checked, compared_in, StartsWith}
use Rattle.layouts.specs.declared.Compared.{Compared}

pub record Homiq : Type 0 where
  pub cmd : List ℕ
  pub val : List ℕ
  pub src : List ℕ
  pub dst : List ℕ
  pub id : ℕ
  pub type : ℕ
  pub crc : ℕ

-- "Their characters are 0x21 to 0x7E without `;`, `<`, `>`"
unfoldable pub field_char : ℕ → Bool
field_char c = leb 0x21 c && (leb c 0x7E && not (one_of (ascii ";<>") c))

-- a field of 1 to `most` characters
pub record Field (most : ℕ) (w : List ℕ) : Type 0 where
  pub some : 1 ≤ length w
  pub short : length w ≤ most
  pub chars : T (all field_char w)

-- 02, K3, in place of 01's "ID is 1 to 511": "ID 0 is to be accepted and written as `0`"; "512 is still no frame"
abbrev pub last_id : ℕ
last_id = 511

-- "CMD 1 to 8, VAL 1 to 16, SRC and DST 1 to 4"; "CRC 0 to 255"; "TYPE is `s` or `a`"
pub record Limits (m : Homiq) : Type 0 where
  pub cmd : Field 8 m.cmd
  pub val : Field 16 m.val
  pub src : Field 4 m.src
  pub dst : Field 4 m.dst
  pub id : m.id ≤ last_id
  pub type : T (one_of (ascii "sa") m.type)
  pub crc : m.crc ≤ 255

-- "`<;"
abbrev pub before : Homiq → List ℕ
before m = ascii "<;"

-- "CMD;VAL;SRC;DST;ID;TYPE", where ID is "decimal without leading zeros"; 01, Search: "Homiq's CMD to TYPE"
abbrev pub payload : Homiq → List ℕ
payload m =
    m.cmd ++ ascii ";" ++ m.val ++ ascii ";" ++ m.src ++ ascii ";" ++ m.dst ++ ascii ";"
    ++ decimal m.id ++ ascii ";" ++ (m.type ∷ [])

-- ";CRC;>` CR LF", where CRC is "decimal without leading zeros"
abbrev pub behind : Homiq → List ℕ
behind m = ascii ";" ++ decimal m.crc ++ ascii ";>" ++ (CR ∷ LF ∷ [])

-- "the six fields joined without separators"
abbrev pub joined : Homiq → List ℕ
joined m = m.cmd ++ m.val ++ m.src ++ m.dst ++ decimal m.id ++ (m.type ∷ [])

-- the payload's characters without its separators: all but `;`
unfoldable pub without_separators : List ℕ → List ℕ
without_separators [] = []
without_separators (x ∷ s) = cond (eqb x 59) (without_separators s) (x ∷ without_separators s)

-- "The CRC covers the six fields joined without separators"
abbrev pub checked : Homiq → Checked
checked m = record { check = homiq_crc; bytes = joined m; value = m.crc }

abbrev pub compared : Homiq → List Compared
compared m = compared_in (checked m) ∷ []

-- 02, K1: "A place that lacks the whole start mark (as .. `<;`) fails at start"
abbrev pub Begun : List ℕ → Type 0
Begun s = StartsWith (ascii "<;") s

-- 02, K1: "Homiq has no length test"
abbrev pub Long : List ℕ → Type 0
Long s = Unit

abbrev pub homiq : Layout
homiq =
    record {
      Fields = Homiq;
      Limits = Limits;
      before = before;
      payload = payload;
      behind = behind;
      compared = compared;
      Begun = Begun;
      Long = Long;
    }
