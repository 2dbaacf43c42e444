-- What the functions on texts say of their parts.
-- Assumes nothing.
use Rattle.std.specs.Prelude.{◌≡◌, ℕ, ◌+◌, ◌*◌, ◌%◌, ◌≤◌, Bool, true, false, List, [], ◌∷◌, ltb, eqb, ℤ, pos, neg_ℤ}
use Rattle.std.specs.Prelude.{length}
use Rattle.digits.specs.Paper.Bytes.{part}

-- a text at the front of twelve characters
pub record Front (text chars : List ℕ) (len : ℕ) : Type 0 where
  pub room : length chars ≡ 12
  pub within : len ≤ 12
  pub count : len ≡ length text
  pub front : part 0 len chars ≡ text

-- ---- what the reader takes a text for, before it tries whether that number's text is the one that it has

-- the number that the digits make behind n, each character from `0` on counting as one
abbrev pub step : Bool → ℕ → ℕ → ℕ
step true n c = n
step false n c = n * 10 + c % 16

abbrev pub value : ℕ → List ℕ → ℕ
value n [] = n
value n (c ∷ t) = value (step (ltb c 48) n c) t

-- how many characters follow the first point
abbrev pub pointed : Bool → ℕ → ℕ → ℕ
pointed true here later = here
pointed false here later = later

abbrev pub behind : List ℕ → ℕ
behind [] = 0
behind (c ∷ t) = pointed (eqb c 46) (length t) (behind t)

abbrev pub minus_first : List ℕ → Bool
minus_first [] = false
minus_first (c ∷ t) = eqb c 45

abbrev pub signed : Bool → ℕ → ℤ
signed true n = neg_ℤ (pos n)
signed false n = pos n
