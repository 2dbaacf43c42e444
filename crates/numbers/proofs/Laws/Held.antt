-- Where a float of a format is exactly a whole number, the bits between that number's zeros are no more than the format keeps. So
-- `fits_single` leaves out no number that a single holds.
-- Assumes nothing.
use mathlib.Core.Path.{◌≡◌, refl, sym, ap, ◌∙◌, subst}
use mathlib.Core.Bool.{Bool, true, false, ◌&&◌}
use Prim.Native.Nat.{ℕ, zero, suc, ◌+◌, ◌*◌, ◌/◌, ◌%◌, ◌^◌, ◌≤◌, ◌<◌}
use native.Mathlib.Nat.{mul-one, zero-mul, one-mul, mul-pos, mul_left_comm, mul-le-mul_right, pow-succ', zero-lt-suc, lt_irrefl, lt_of_not-le}
use native.Mathlib.Omega.{arith}
use lib.Dec.{T, leb, ltb, eqb, eqb→eq, ltb→lt}
use lib.IntN.{ℤ, pos, negsuc, nat_abs}
use lib.Pow.{pow_mono, shl_lt}
use lib.Count.{count_leading_zeros, count_trailing_zeros, under, leading_length, leading_of_zero}
use lib.Ieee.{Float, nan, inf, fin, Format, binary32, prec, low, emax, up, down, fits}
use lib.Ieee.Fits.{and_l, and_r, down_pos}
use lib.Ieee.Exact.{HasValue}
use borrow.Author.Tests.{le-leb}
use Rattle.numbers.specs.Paper.Raw.{Raw}
use Rattle.numbers.specs.Paper.Single.{fits_single, Exactly}
use Rattle.numbers.proofs.Laws.Signs.{magnitude-lt}
use Rattle.numbers.proofs.Laws.Zeros.{by-zeros}

-- ---- an odd number times 2 ^ a ends in a zeros

doubled : (m a n : ℕ) → n ≡ m * 2 ^ suc a → (n % 2 ≡ 0) × (n / 2 ≡ m * 2 ^ a)
doubled m a n e =
    let f : n ≡ 2 * (m * 2 ^ a) = e ∙ ap (λ (x : ℕ). m * x) (pow-succ' 2 a) ∙ mul_left_comm m 2 (2 ^ a) in
    (omega arith, omega arith)

trailing-is : (k m a n : ℕ) → m % 2 ≡ 1 → n ≡ m * 2 ^ a → a ≤ k → count_trailing_zeros k n ≡ a
unfolding count_trailing_zeros
trailing-is zero m a n o e h = omega arith
trailing-is (suc k) m zero n o e h = ap (λ (r : ℕ). under r (count_trailing_zeros k (n / 2))) (ap (λ (x : ℕ). x % 2) (e ∙ mul-one m) ∙ o)
trailing-is (suc k) m (suc a) n o e h =
    let d = doubled m a n e in
    ap (λ (r : ℕ). under r (count_trailing_zeros k (n / 2))) d.0 ∙ ap suc (trailing-is k m a (n / 2) o d.1 (omega arith))

pow_below : (i j : ℕ) → 2 ^ i < 2 ^ j → i < j
pow_below i j h = lt_of_not-le (λ (g : j ≤ i). let p : 2 ^ j ≤ 2 ^ i = pow_mono g in omega arith)

-- so one of p bits, times a power, leaves zeros for all k bits but p
zeros-left : (p k m a n : ℕ) → m % 2 ≡ 1 → m < 2 ^ p → n ≡ m * 2 ^ a → n < 2 ^ k → k ≤ p + (count_leading_zeros k n + count_trailing_zeros k n)
zeros-left p k m a n o s e h =
    let l = leading_length k n h in
    let some : 1 * 2 ^ a ≤ m * 2 ^ a = mul-le-mul_right (2 ^ a) (omega arith) in
    let b : 2 ^ a < 2 ^ k = omega (arith, one-mul (2 ^ a)) in
    let a_lt : a < k = pow_below a k b in
    let t : count_trailing_zeros k n ≡ a = trailing-is k m a n o e (omega arith) in
    let u : m * 2 ^ a < 2 ^ (p + a) = shl_lt p a s in
    let w : 2 ^ l.0 < 2 ^ suc (p + a) = omega (arith, l.3, pow-succ' 2 (p + a)) in
    let x : l.0 < suc (p + a) = pow_below l.0 (suc (p + a)) w in
    omega (arith, l.1)

-- ---- what a float that a format holds says of its m

module _ (f : Format) (s : Bool) (m : ℕ) (e : ℤ) (t : T (fits f (fin s (suc m) e))) where
  small-odd : (suc m % 2 ≡ 1) × (suc m < 2 ^ prec f)
  unfolding fits
  small-odd =
      let a : Bool = eqb (suc m % 2) 1 in
      let b : Bool = ltb (suc m) (2 ^ prec f) in
      let c : Bool = leb (down e) (2 ^ low f) in
      let d : Bool = ltb (suc m * up e) (2 ^ suc (emax f) * down e) in
      let ab : T (a && b) = and_l (a && b) c (and_l (a && b && c) d t) in
      (eqb→eq (suc m % 2) 1 (and_l a b ab), ltb→lt (suc m) (2 ^ prec f) (and_r a b ab))

-- an odd m has a whole value only with an exponent that is not negative
whole-shape : (m : ℕ) (e : ℤ) (n : ℕ) → m % 2 ≡ 1 → m * up e * 1 ≡ n * down e → (a : ℕ) × (n ≡ m * 2 ^ a)
whole-shape m (pos a) n o h = (a, sym (mul-one n) ∙ sym h ∙ mul-one (m * 2 ^ a))
whole-shape m (negsuc a) n o h =
    let f : m ≡ 2 * (n * 2 ^ a) = sym (mul-one m) ∙ sym (mul-one (m * 1)) ∙ h ∙ ap (λ (x : ℕ). n * x) (pow-succ' 2 a) ∙ mul_left_comm n 2 (2 ^ a) in
    let z : ⊥ = omega arith in
    absurd z

zero-value : (n d : ℕ) → 0 < d → n * d ≡ 0 → n ≡ 0
zero-value zero d h e = refl
zero-value (suc n) d h e = absurd (lt_irrefl 0 (subst (λ (x : ℕ). 0 < x) e (mul-pos (zero-lt-suc n) h)))

pub held-short : (f : Format) (k : ℕ) (x : Float) (s : Bool) (n : ℕ) → n < 2 ^ k → T (fits f x) → HasValue x s n 1
    → k ≤ prec f + (count_leading_zeros k n + count_trailing_zeros k n)
held-short f k nan s n h t v = absurd v
held-short f k (inf u) s n h t v = absurd v
held-short f k (fin u zero e) s n h t v =
    let z : n ≡ 0 = zero-value n (down e) (down_pos e) (sym v.1 ∙ mul-one (0 * up e) ∙ zero-mul (up e)) in
    let all : count_leading_zeros k n ≡ k = ap (count_leading_zeros k) z ∙ leading_of_zero k in
    omega arith
held-short f k (fin u (suc m) e) s n h t v =
    let o = small-odd f u m e t in
    let w = whole-shape (suc m) e n o.0 v.1 in
    zeros-left (prec f) k (suc m) w.0 n o.0 o.1 w.1 h

-- ---- the same of numbers with a sign

pub held-exact : (f : Format) (k : ℕ) (x : Float) (z : ℤ) → nat_abs z < 2 ^ k → T (fits f x) → Exactly x z
    → k ≤ prec f + (count_leading_zeros k (nat_abs z) + count_trailing_zeros k (nat_abs z))
held-exact f k x (pos n) h t v = held-short f k x false n h t v
held-exact f k x (negsuc n) h t v = held-short f k x true (suc n) h t v

-- where a single is exactly a raw number, that number fits a single
pub held_fits : (z : ℤ) (x : Float) → Raw z → T (fits binary32 x) → Exactly x z → fits_single z ≡ true
held_fits z x r t v =
    let zeros = count_leading_zeros 32 (nat_abs z) + count_trailing_zeros 32 (nat_abs z) in
    let all : 32 ≤ 24 + zeros = held-exact binary32 32 x z (magnitude-lt z r) t v in
    sym (by-zeros z (magnitude-lt z r)) ∙ le-leb 8 zeros (omega arith)
