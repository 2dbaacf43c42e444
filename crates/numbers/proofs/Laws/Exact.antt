-- Which whole numbers a float format holds exactly; and so that the casts of a raw number to the panel's floats are exact.
-- Assumes nothing.
use mathlib.Core.Path.{◌≡◌, refl, sym, ap, ◌∙◌, subst}
use mathlib.Core.Bool.{Bool, true, false, not, ◌&&◌, cond}
use Prim.Native.Nat.{ℕ, zero, suc, ◌+◌, ◌*◌, ◌/◌, ◌%◌, ◌^◌, ◌≤◌, ◌<◌}
use native.Mathlib.Nat.{le_trans, le_of_lt, lt_of_lt_of_le, zero-lt-suc, mul-one, mul_assoc, mul_left_comm, div-one, div-div-eq-div-mul, pow-succ'}
use native.Mathlib.Omega.{arith}
use lib.Dec.{T, lit≤, le→leb, lt→ltb}
use lib.IntN.{ℤ, pos, negsuc, nat_abs}
use lib.Pow.{pow-add, pow_mono, shl_lt, shr_lt}
use lib.Count.{count_leading_zeros, count_trailing_zeros, under, leading_length, trailing_le}
use lib.Ieee.{Float, nan, inf, fin, Format, binary32, binary64, prec, emax, low, round, of_int, fits, is_nan, in_float}
use lib.Ieee.Fits.{fits_widens, of_int-fits, and_i}
use lib.Ieee.Exact.{HasValue, round_exact}
use lib.Ieee.Back.{round_whole, whole_unique}
use borrow.Author.Tests.{leb-true}
use Rattle.numbers.specs.Paper.Raw.{Raw}
use Rattle.numbers.specs.Paper.Single.{fits_single, Exactly}
use Rattle.numbers.specs.Paper.Panel.{panel_of, Panel, SingleOf}
use Rattle.numbers.specs.declared.panel.Value.{Value}
use Rattle.numbers.specs.declared.panel.Value.TheVariants.{Single, Double}
use Rattle.numbers.proofs.Laws.Signs.{magnitude-lt}
use Rattle.numbers.proofs.Laws.Zeros.{by-zeros}

-- ---- the zeros at a number's end can be divided out

whole : (n : ℕ) → n / 1 * 1 ≡ n
whole n = mul-one (n / 1) ∙ div-one n

twice_half : (n : ℕ) → n % 2 ≡ 0 → 2 * (n / 2) ≡ n
twice_half n e = omega arith

tz_div : (k n : ℕ) → n / 2 ^ count_trailing_zeros k n * 2 ^ count_trailing_zeros k n ≡ n
unfolding count_trailing_zeros
tz_div zero n = whole n
tz_div (suc k) n = go (n % 2) refl (tz_div k (n / 2))
  where
    t : ℕ
    t = count_trailing_zeros k (n / 2)

    go : (r : ℕ) → n % 2 ≡ r → n / 2 / 2 ^ t * 2 ^ t ≡ n / 2 → n / 2 ^ under r t * 2 ^ under r t ≡ n
    go zero e ih =
        ap (λ (x : ℕ). n / x * x) (pow-succ' 2 t)
        ∙ ap (λ (x : ℕ). x * (2 * 2 ^ t)) (sym (div-div-eq-div-mul n 2 (2 ^ t)))
        ∙ mul_left_comm (n / 2 / 2 ^ t) 2 (2 ^ t)
        ∙ ap (λ (x : ℕ). 2 * x) ih
        ∙ twice_half n e
    go (suc r) e ih = whole n

-- ---- a number of k bits, of which those between the zeros are no more than the format keeps

module _ (f : Format) (k n : ℕ) (small : n < 2 ^ k) (short : k ≤ prec f + (count_leading_zeros k n + count_trailing_zeros k n)) where
  kept_small : n / 2 ^ count_trailing_zeros k n < 2 ^ prec f
  kept_small =
      let l = leading_length k n small in
      let e : count_leading_zeros k n + l.0 ≡ k = l.1 in
      let b : l.0 ≤ prec f + count_trailing_zeros k n = omega arith in
      shr_lt (prec f) (count_trailing_zeros k n) (lt_of_lt_of_le l.2 (pow_mono b))

  round-short : prec f + k ≤ suc (emax f) → (s : Bool) → HasValue (round f s n 1) s n 1
  round-short room s =
      let t = count_trailing_zeros k n in
      let q = n / 2 ^ t in
      let l = low f in
      let u : t ≤ k = trailing_le k n in
      let b : prec f + (t + l) ≤ l + suc (emax f) = omega arith in
      round_exact f s n 1 q (t + l) (zero-lt-suc 0) kept_small
      (lt_of_lt_of_le (shl_lt (prec f) (t + l) kept_small) (pow_mono b))
      (ap (λ (x : ℕ). x * 2 ^ l) (sym (tz_div k n))
      ∙ mul_assoc q (2 ^ t) (2 ^ l)
      ∙ ap (λ (x : ℕ). q * x) (sym (pow-add 2 t l))
      ∙ sym (mul-one (q * 2 ^ (t + l))))

-- ---- the same of numbers with a sign

pub short-exact : (f : Format) (k : ℕ) (z : ℤ) → nat_abs z < 2 ^ k → k ≤ prec f + (count_leading_zeros k (nat_abs z) + count_trailing_zeros k (nat_abs z))
    → prec f + k ≤ suc (emax f) → Exactly (of_int f z) z
unfolding of_int
short-exact f k (pos n) h short room = round-short f k n h short room false
short-exact f k (negsuc n) h short room = round-short f k (suc n) h short room true

-- a format holds every number up to 2 ^ prec
pub whole-exact : (f : Format) (z : ℤ) → nat_abs z ≤ 2 ^ prec f → Exactly (of_int f z) z
unfolding of_int
whole-exact f (pos n) h = round_whole f false n h
whole-exact f (negsuc n) h = round_whole f true (suc n) h

-- and it can be cast to that format
pub whole-cast : (f : Format) (z : ℤ) → nat_abs z ≤ 2 ^ prec f → T (in_float f z)
unfolding in_float
whole-cast f (pos n) h = le→leb n (2 ^ prec f) h
whole-cast f (negsuc n) h = lt→ltb n (2 ^ prec f) h

-- a number is exactly one float of a format
pub one_float : (f : Format) (x y : Float) (z : ℤ) → T (fits f x) → T (fits f y) → Exactly x z → Exactly y z → x ≡ y
one_float f x y (pos n) p q v w = whole_unique f x y false n p q v w
one_float f x y (negsuc n) p q v w = whole_unique f x y true (suc n) p q v w

-- a float that is exactly a number is no NaN
pub exact-number : (x : Float) (z : ℤ) → Exactly x z → T (not (is_nan x))
unfolding is_nan
exact-number nan (pos n) v = absurd v
exact-number nan (negsuc n) v = absurd v
exact-number (inf s) z v = tt
exact-number (fin s m e) z v = tt

-- ---- raw numbers

raw-small : (z : ℤ) → Raw z → nat_abs z ≤ 2 ^ 53
raw-small z r = le_trans (le_of_lt (magnitude-lt z r)) (lit≤ tt)

pub double-exact : (z : ℤ) → Raw z → Exactly (of_int binary64 z) z
double-exact z r = whole-exact binary64 z (raw-small z r)

pub double-cast : (z : ℤ) → Raw z → T (in_float binary64 z)
double-cast z r = whole-cast binary64 z (raw-small z r)

module _ (z : ℤ) (r : Raw z) (fit : fits_single z ≡ true) where
  pub single-exact : Exactly (of_int binary32 z) z
  single-exact =
      let zeros = count_leading_zeros 32 (nat_abs z) + count_trailing_zeros 32 (nat_abs z) in
      let enough : 8 ≤ zeros = leb-true 8 zeros (by-zeros z (magnitude-lt z r) ∙ fit) in
      short-exact binary32 32 z (magnitude-lt z r) (omega arith) (lit≤ tt)

  -- the nearest single and the nearest double are one float
  pub same_float : of_int binary32 z ≡ of_int binary64 z
  same_float = one_float binary64 (of_int binary32 z) (of_int binary64 z) z
      (fits_widens (of_int binary32 z) (of_int-fits binary32 z)) (of_int-fits binary64 z) single-exact (double-exact z r)

  -- so the double can be cast to a single
  pub single-cast : T (fits binary32 (of_int binary64 z) && not (is_nan (of_int binary64 z)))
  single-cast = and_i (fits binary32 (of_int binary64 z)) (not (is_nan (of_int binary64 z)))
      (subst (λ (x : Float). T (fits binary32 x)) same_float (of_int-fits binary32 z)) (exact-number (of_int binary64 z) z (double-exact z r))

-- ---- the panel's values

-- what holds of the single where the number fits, and of the double where it does not, holds of the panel's value
pub either-shown : (z : ℤ) (P : Value → Type 0)
    → (fits_single z ≡ true → P (Single (of_int binary32 z))) → (fits_single z ≡ false → P (Double (of_int binary64 z))) → P (panel_of z)
either-shown z P p q = go (fits_single z) refl
  where
    go : (b : Bool) → fits_single z ≡ b → P (cond b (Single (of_int binary32 z)) (Double (of_int binary64 z)))
    go true e = p e
    go false e = q e

chosen : (z : ℤ) {b : Bool} → fits_single z ≡ b → cond b (Single (of_int binary32 z)) (Double (of_int binary64 z)) ≡ panel_of z
chosen z e = ap (λ (b : Bool). cond b (Single (of_int binary32 z)) (Double (of_int binary64 z))) (sym e)

pub shown-single : (z : ℤ) → Raw z → fits_single z ≡ true → Panel z (Single (of_int binary64 z))
shown-single z r e = record { cast = ap Single (sym (same_float z r e)) ∙ chosen z e; exact = double-exact z r }

pub shown-double : (z : ℤ) → Raw z → fits_single z ≡ false → Panel z (Double (of_int binary64 z))
shown-double z r e = record { cast = chosen z e; exact = double-exact z r }

pub single_of : (z : ℤ) → nat_abs z ≤ 2 ^ 24 → SingleOf z (of_int binary32 z)
single_of z h = record { cast = refl; exact = whole-exact binary32 z h }
