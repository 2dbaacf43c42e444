-- Check values: one definition over width, polynomial, start and bit order. A register is a list of bits, its head
-- the bit that leaves first. Each bit of the bytes is added to the head, and the register moves one place on; if the
-- bit that left was set, the polynomial is added. Addition is without carry: exclusive or.
-- Assumes nothing.
use Rattle.std.specs.Prelude.{ℕ, Bool, true, false, not, cond, List, [], ◌∷◌, ◌++◌}
use Rattle.checks.specs.Paper.Bits.{BitOrder, bits, of_bits, bits_of_bytes}

-- 01: "Each check has a width, a start value and a bit order of its own". `poly` has the polynomial's terms below
-- x^width, as a number whose bits stand in the check's order.
pub record Check : Type 0 where
  pub width : ℕ
  pub poly : ℕ
  pub start : ℕ
  pub order : BitOrder

abbrev pub xor : Bool → Bool → Bool
xor false b = b
xor true b = not b

-- ys added to the head of xs, place by place
abbrev pub mix : List Bool → List Bool → List Bool
mix xs [] = xs
mix [] (y ∷ ys) = []
mix (x ∷ xs) (y ∷ ys) = xor x y ∷ mix xs ys

-- one place on: a 0 comes in at the end, and if the bit that leaves is set, the polynomial p is added
abbrev pub shift : List Bool → List Bool → List Bool
shift p [] = []
shift p (out ∷ rest) = cond out (mix (rest ++ (false ∷ [])) p) (rest ++ (false ∷ []))

-- the register after the bits
abbrev pub run : List Bool → List Bool → List Bool → List Bool
run p register [] = register
run p register (b ∷ bs) = run p (shift p (mix register (b ∷ []))) bs

-- a number in the check's register, and the polynomial
abbrev pub held : Check → ℕ → List Bool
held c v = bits c.order c.width v

unfoldable pub poly_bits : Check → List Bool
poly_bits c = held c c.poly

-- the state v after the bytes
unfoldable pub feed : Check → ℕ → List ℕ → ℕ
feed c v s = of_bits c.order (run (poly_bits c) (held c v) (bits_of_bytes c.order s))

-- the check value of the bytes
abbrev pub check : Check → List ℕ → ℕ
check c s = feed c c.start s
