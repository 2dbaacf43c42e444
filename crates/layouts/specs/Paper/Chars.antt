-- Which characters stand where.
-- Assumes nothing.
use Rattle.std.specs.Prelude.{Bool, true, false, ◌&&◌, ◌||◌, List, [], ◌∷◌, ℕ, eqb}
use Rattle.digits.specs.Paper.Ascii.{ascii}

-- x is an element of l
unfoldable pub one_of : List ℕ → ℕ → Bool
one_of [] x = false
one_of (y ∷ l) x = eqb x y || one_of l x

-- f holds of each element
unfoldable pub all : (ℕ → Bool) → List ℕ → Bool
all f [] = true
all f (x ∷ s) = f x && all f s

-- 01, Nikobus: "hex digits upper case only"
unfoldable pub is_hex : ℕ → Bool
is_hex c = one_of (ascii "0123456789ABCDEF") c

-- 01: "CR", "CR LF"
abbrev pub CR : ℕ
CR = 0x0D

abbrev pub LF : ℕ
LF = 0x0A
