-- The zeros before a number's first one, the bits from there to its last one, and the zeros behind: together they are all of its bits.
-- So what the paper says of the bits between the zeros is a test on the counts of the zeros.
-- Assumes nothing.
use mathlib.Core.Path.{◌≡◌, refl, sym, ap, ◌∙◌}
use mathlib.Core.Bool.{Bool, true, false, ◌||◌}
use mathlib.Core.List.{List, [], ◌∷◌, ◌++◌, reverse, reverse-cons}
use Prim.Native.Nat.{ℕ, zero, suc, ◌+◌, ◌*◌, ◌/◌, ◌%◌, ◌^◌, ◌<◌}
use native.Mathlib.Nat.{pow-suc, zero-lt-suc, lt_irrefl}
use native.Mathlib.Omega.{arith}
use lib.Dec.{leb, eqb, eqb-suc-zero}
use lib.IntN.{ℤ, nat_abs}
use lib.ListN.{length, length-append}
use lib.Pow.{pow_pos}
use lib.Count.{count_leading_zeros, count_trailing_zeros, under, leading_of_zero, leading_top}
use borrow.Author.Tests.{leb-true, leb-false, le-leb, lt-leb}
use Rattle.digits.specs.Paper.Bits.{is_set, lows}
use Rattle.numbers.specs.Paper.Single.{from_first_one, significant_bits, fits_single}

-- ---- the zeros before the first one

-- how many bits there are from the first one on, with one more bit behind n of them
abbrev longer : Bool → ℕ → ℕ
longer true n = suc n
longer false zero = zero
longer false (suc n) = suc (suc n)

one-behind : (x : List Bool) (b : Bool) → length (from_first_one (x ++ (b ∷ []))) ≡ longer b (length (from_first_one x))
unfolding from_first_one
one-behind [] true = refl
one-behind [] false = refl
one-behind (true ∷ x) true = omega (arith, length-append x (true ∷ []))
one-behind (true ∷ x) false = omega (arith, length-append x (false ∷ []))
one-behind (false ∷ x) b = one-behind x b

longer-some : (b : Bool) (n : ℕ) → 0 < n → longer b n ≡ suc n
longer-some true n h = refl
longer-some false zero h = absurd (lt_irrefl 0 h)
longer-some false (suc n) h = refl

-- how many of the k bits of n there are from the highest one down
abbrev size : ℕ → ℕ → ℕ
size k n = length (from_first_one (reverse (lows k n)))

size-suc : (k n : ℕ) → size (suc k) n ≡ longer (is_set (n % 2)) (size k (n / 2))
unfolding lows
size-suc k n =
    ap (λ (x : List Bool). length (from_first_one x)) (reverse-cons (is_set (n % 2)) (lows k (n / 2)))
    ∙ one-behind (reverse (lows k (n / 2))) (is_set (n % 2))

halved : (k n : ℕ) → n < 2 ^ suc k → n / 2 < 2 ^ k
halved k n h = let e : 2 ^ suc k ≡ 2 ^ k * 2 = pow-suc 2 k in omega arith

-- a number that is not 0 has one bit more than its half
size-half : (k n : ℕ) → (0 < n / 2 → 0 < size k (n / 2)) → 0 < n → size (suc k) n ≡ suc (size k (n / 2))
size-half k n some h = size-suc k n ∙ go (n % 2) refl
  where
    go : (r : ℕ) → n % 2 ≡ r → longer (is_set r) (size k (n / 2)) ≡ suc (size k (n / 2))
    go zero e = longer-some false (size k (n / 2)) (some (omega arith))
    go (suc r) e = refl

-- the bits from the highest one down, and the zeros above it
size-leading : (k n : ℕ) → n < 2 ^ k → size k n + count_leading_zeros k n ≡ k
unfolding lows count_leading_zeros from_first_one
size-leading zero n h = refl
size-leading (suc k) zero h =
    let e : size k 0 ≡ 0 = omega (arith, size-leading k 0 (pow_pos k), leading_of_zero k) in
    let f : size (suc k) 0 ≡ 0 = size-suc k 0 ∙ ap (longer false) e in
    omega arith
size-leading (suc k) (suc n) h =
    let half : suc n / 2 < 2 ^ k = halved k (suc n) h in
    let ih = size-leading k (suc n / 2) half in
    let some : 0 < suc n / 2 → 0 < size k (suc n / 2) = λ p. omega (arith, (leading_top k (suc n / 2) p half).1) in
    omega (arith, size-half k (suc n) some (zero-lt-suc n))

-- ---- and the zeros behind the last one

-- the k bits of n without the zeros behind the last one, and then without those before the first
abbrev pub inner : ℕ → ℕ → List Bool
inner k n = from_first_one (reverse (from_first_one (lows k n)))

pub inner-zeros : (k n : ℕ) → 0 < n → n < 2 ^ k → length (inner k n) + (count_leading_zeros k n + count_trailing_zeros k n) ≡ k
unfolding lows count_leading_zeros count_trailing_zeros from_first_one
inner-zeros zero n p h = absurd (none n p h)
  where
    none : (m : ℕ) → 0 < m → m < 1 → ⊥
    none m q g = omega arith
inner-zeros (suc k) zero p h = absurd (lt_irrefl 0 p)
inner-zeros (suc k) (suc n) p h = go (suc n % 2) refl (λ q. inner-zeros k (suc n / 2) q (halved k (suc n) h))
  where
    m : ℕ
    m = suc n / 2

    go : (r : ℕ) → suc n % 2 ≡ r → (0 < m → length (inner k m) + (count_leading_zeros k m + count_trailing_zeros k m) ≡ k)
        → length (from_first_one (reverse (from_first_one (is_set r ∷ lows k m)))) + (count_leading_zeros k m + under r (count_trailing_zeros k m)) ≡ suc k
    go zero e ih = omega (arith, ih (omega arith))
    go (suc r) e ih =
        let s : size (suc k) (suc n) ≡ length (from_first_one (reverse (true ∷ lows k m)))
        = ap (λ (x : ℕ). length (from_first_one (reverse (is_set x ∷ lows k m)))) e in
        omega (arith, size-leading (suc k) (suc n) h)

-- ---- the test

-- of two numbers that make d + p, one is d at least exactly if the other is p at most
other-side : (d p a b : ℕ) → b + a ≡ d + p → leb d a ≡ leb b p
other-side d p a b e = go (leb d a) refl
  where
    go : (t : Bool) → leb d a ≡ t → t ≡ leb b p
    go true f = sym (le-leb b p (omega (arith, leb-true d a f)))
    go false f = sym (lt-leb b p (omega (arith, leb-false d a f)))

-- d zeros or more, of d + p bits, leave p at most
pub zeros-enough : (d p n : ℕ) → n < 2 ^ (d + p)
    → leb d (count_leading_zeros (d + p) n + count_trailing_zeros (d + p) n) ≡ (eqb n 0 || leb (length (inner (d + p) n)) p)
zeros-enough d p zero h = le-leb d (count_leading_zeros (d + p) 0 + count_trailing_zeros (d + p) 0) (omega (arith, leading_of_zero (d + p)))
zeros-enough d p (suc n) h =
    let zeros = count_leading_zeros (d + p) (suc n) + count_trailing_zeros (d + p) (suc n) in
    let bits = length (inner (d + p) (suc n)) in
    other-side d p zeros bits (inner-zeros (d + p) (suc n) (zero-lt-suc n) h) ∙ ap (λ (b : Bool). b || leb bits p) (sym (eqb-suc-zero n))

-- of 32 bits, that is the paper's test
pub by-zeros : (z : ℤ) → nat_abs z < 2 ^ 32 → leb 8 (count_leading_zeros 32 (nat_abs z) + count_trailing_zeros 32 (nat_abs z)) ≡ fits_single z
unfolding fits_single significant_bits
by-zeros z h = zeros-enough 8 24 (nat_abs z) h
