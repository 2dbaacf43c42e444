-- Which line of a text is not as 02, K2, describes a sheet's, and which test it fails (ours): the first such line, and
-- the first test that it fails, in the order form, register, type, decimals, not rising, over 500, no last LF.
-- Assumes nothing.
use Rattle.std.specs.Prelude.{◌≡◌, Bool, cond, List, [], ◌∷◌, ℕ, suc, ◌+◌, ◌≤◌, ◌<◌, eqb, length}
use Rattle.digits.specs.Paper.Decimal.{decimal}
use Rattle.digits.specs.Paper.LowFirst.{Width, SixteenBits}
use Rattle.digits.specs.Paper.Refusals.{First}
use Rattle.numbers.specs.Paper.Raw.{most_decimals}
use Rattle.sheet.specs.Paper.Sheet.{type_name, comma, LF, most_rows}

-- ---- lines and fields

-- what stands before the first c, and what stands behind it
unfoldable pub up_to : ℕ → List ℕ → List ℕ
up_to c [] = []
up_to c (x ∷ s) = cond (eqb x c) [] (x ∷ up_to c s)

unfoldable pub behind : ℕ → List ℕ → List ℕ
behind c [] = []
behind c (x ∷ s) = cond (eqb x c) s (behind c s)

-- how many there are
unfoldable pub count : ℕ → List ℕ → ℕ
count c [] = 0
count c (x ∷ s) = cond (eqb x c) 1 0 + count c s

-- the first line of a text, without its LF; and its three fields
abbrev pub line : List ℕ → List ℕ
line s = up_to LF s

abbrev pub first_field : List ℕ → List ℕ
first_field l = up_to comma l

abbrev pub second_field : List ℕ → List ℕ
second_field l = up_to comma (behind comma l)

abbrev pub third_field : List ℕ → List ℕ
third_field l = behind comma (behind comma l)

-- ---- the tests of the first line of s: the line has that number, and `least` is the least register that rises

pub data Fails (least number : ℕ) (s : List ℕ) : ℕ → Type 0 where
  form : (count comma (line s) ≡ 2 → ⊥) → Fails least number s 1
  register : ((n : ℕ) → SixteenBits n → decimal n ≡ first_field (line s) → ⊥) → Fails least number s 2
  type : ((w : ℕ) (signed : Bool) → Width w → type_name w signed ≡ second_field (line s) → ⊥) → Fails least number s 3
  decimals : ((d : ℕ) → d ≤ most_decimals → decimal d ≡ third_field (line s) → ⊥) → Fails least number s 4
  not-rising : {n : ℕ} → decimal n ≡ first_field (line s) → n < least → Fails least number s 5
  over-500 : most_rows < number → Fails least number s 6
  no-last-LF : (0 < count LF s → ⊥) → Fails least number s 7

abbrev pub tests : List ℕ
tests = 1 ∷ 2 ∷ 3 ∷ 4 ∷ 5 ∷ 6 ∷ 7 ∷ []

-- the first line of s that fails a test, and the first test that it fails; 0 and 0 if there is none
pub data FirstFault : ℕ → ℕ → List ℕ → ℕ → ℕ → Type 0 where
  no_line : {least number : ℕ} → FirstFault least number [] 0 0
  here : {least number test : ℕ} {s : List ℕ} → 0 < length s → 0 < test → First (Fails least number s) tests test
      → FirstFault least number s number test
  later : {least number n l test : ℕ} {s : List ℕ} → 0 < length s → First (Fails least number s) tests 0
      → decimal n ≡ first_field (line s) → FirstFault (suc n) (suc number) (behind LF s) l test
      → FirstFault least number s l test

abbrev pub Faulty : List ℕ → ℕ → ℕ → Type 0
Faulty text l test = FirstFault 0 1 text l test
