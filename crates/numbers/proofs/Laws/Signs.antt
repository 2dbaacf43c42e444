-- What the machine does with a signed number: it keeps its bits and reads them back. Each step by which it tests one, gets its
-- magnitude, or makes one.
-- Assumes nothing.
use mathlib.Core.Path.{◌≡◌, refl, sym, ap, ap₂, ◌∙◌, subst}
use mathlib.Core.Bool.{Bool, true, false, not}
use Prim.Native.Nat.{ℕ, zero, suc, ◌^◌, ◌≤◌, ◌<◌, zero-le}
use native.Mathlib.Nat.{lt_irrefl, lt_of_lt_of_le, lt_of_le_of_lt}
use native.Mathlib.Omega.{arith}
use lib.Dec.{T, leb→le, ltb→lt, lit≤, lit<}
use lib.IntN.{ℤ, pos, negsuc, neg_ℤ, ◌-ℤ◌, nat_abs, +ℤ_idl}
use lib.Signed.{lt_z, non_neg, ◌≤ℤ◌, ◌<ℤ◌, lt_z_yes, lt_z_no, clash_ℤ}
use borrow.Author.Tests.{le-ltb}
use mir.Syntax.{w32, w64}
use mir.Val.{Fits, SFits, to_z, of_z}
use mir.ValLaws.{to_z-of_z, to_z_pos}
use Rattle.digits.specs.Paper.Read.{Decides, holds, fails}
use Rattle.numbers.specs.Paper.Raw.{Between, Raw}
use Rattle.numbers.specs.Paper.Text.{below_zero}
use Rattle.numbers.specs.Work.Text.{signed}

abbrev pub back : ℤ → ℤ
back z = to_z w64 (of_z w64 z)

pub read_back : (z : ℤ) → SFits w64 z → back z ≡ z
read_back z f = to_z-of_z w64 z f

-- what is said of the number read back is said of the number
pub said : (P : ℤ → Type 0) (z : ℤ) → SFits w64 z → P (back z) → P z
said P z f p = subst P (read_back z f) p

-- ---- tests

module _ (y z : ℤ) (f : SFits w64 y) (g : SFits w64 z) where
  same : lt_z (back y) (back z) ≡ lt_z y z
  same = ap₂ lt_z (read_back y f) (read_back z g)

  pub less : lt_z (back y) (back z) ≡ true → y <ℤ z
  less e = lt_z_yes (subst T (sym (sym same ∙ e)) tt)

  pub not-less : lt_z (back y) (back z) ≡ false → z ≤ℤ y
  not-less e = lt_z_no (subst (λ (b : Bool). T (not b)) (sym (sym same ∙ e)) tt)

pub too-low : {least most z : ℤ} → z <ℤ least → Decides (Between least most z) false
too-low h = fails (λ b. clash_ℤ h b.low)

pub too-high : {least most z : ℤ} → most <ℤ z → Decides (Between least most z) false
too-high h = fails (λ b. clash_ℤ h b.high)

pub within : {least most z : ℤ} → least ≤ℤ z → z ≤ℤ most → Decides (Between least most z) true
within h k = holds (record { low = h; high = k })

pub below : (z : ℤ) → lt_z z (pos 0) ≡ below_zero z
below (pos n) = le-ltb n 0 zero-le
below (negsuc n) = refl

-- ---- raw numbers

pub magnitude-lt : (z : ℤ) → Raw z → nat_abs z < 2 ^ 32
magnitude-lt (pos n) r = let h : n ≤ 4294967295 = leb→le n 4294967295 r.high.le in omega arith
magnitude-lt (negsuc n) r = let h : n ≤ 2147483647 = leb→le n 2147483647 r.low.le in omega arith

pub raw-fits : (z : ℤ) → Raw z → SFits w64 z
raw-fits (pos n) r = record { sfits = omega (arith, magnitude-lt (pos n) r) }
raw-fits (negsuc n) r = record { sfits = omega (arith, magnitude-lt (negsuc n) r) }

-- ---- a magnitude

-- z can be cast to a `u32`, and the cast gives n
abbrev pub Cast : ℤ → ℕ → Type 0
Cast z n = (T (non_neg (back z)) × Fits w32 (nat_abs (back z))) × (nat_abs (back z) ≡ n)

cast-pos : (n : ℕ) → n < 2 ^ 32 → SFits w64 (pos n) × Cast (pos n) n
cast-pos n h =
    let f : SFits w64 (pos n) = record { sfits = lt_of_lt_of_le h (lit≤ tt) } in
    (f, subst (λ (y : ℤ). (T (non_neg y) × Fits w32 (nat_abs y)) × (nat_abs y ≡ n)) (sym (to_z-of_z w64 (pos n) f)) ((tt, record { fits = h }), refl))

pub plain : (z : ℤ) → Raw z → pos 0 ≤ℤ z → Cast z (nat_abs z)
plain (pos n) r h = (cast-pos n (magnitude-lt (pos n) r)).1
plain (negsuc n) r h = absurd h.le

pub turned : (z : ℤ) → Raw z → z <ℤ pos 0 → SFits w64 (pos 0 -ℤ back z) × Cast (pos 0 -ℤ back z) (nat_abs z)
turned (pos n) r h = absurd (lt_irrefl 0 (lt_of_le_of_lt zero-le (ltb→lt n 0 h.lt)))
turned (negsuc n) r h =
    subst (λ (y : ℤ). SFits w64 y × Cast y (suc n)) (sym (ap (λ (y : ℤ). pos 0 -ℤ y) (read_back (negsuc n) (raw-fits (negsuc n) r)) ∙ +ℤ_idl (pos (suc n))))
    (cast-pos (suc n) (magnitude-lt (negsuc n) r))

-- ---- a number by sign and magnitude

pub plus : (n : ℕ) → n < 2 ^ 48 → to_z w64 n ≡ pos n
plus n h = to_z_pos w64 n (lt_of_lt_of_le h (lit≤ tt))

neg-fits : (n : ℕ) → n < 2 ^ 48 → SFits w64 (neg_ℤ (pos n))
neg-fits zero h = record { sfits = lit< tt }
neg-fits (suc n) h = record { sfits = omega arith }

pub signed-fits : (m : Bool) (n : ℕ) → n < 2 ^ 48 → SFits w64 (signed m n)
signed-fits true n h = neg-fits n h
signed-fits false n h = record { sfits = lt_of_lt_of_le h (lit≤ tt) }

-- each step by which the machine negates n
pub negated : (n : ℕ) → n < 2 ^ 48 → SFits w64 (pos 0 -ℤ to_z w64 n) × (back (pos 0 -ℤ to_z w64 n) ≡ neg_ℤ (pos n))
negated n h =
    let e : pos 0 -ℤ to_z w64 n ≡ neg_ℤ (pos n) = ap (λ (y : ℤ). pos 0 -ℤ y) (plus n h) ∙ +ℤ_idl (neg_ℤ (pos n)) in
    let f : SFits w64 (neg_ℤ (pos n)) = neg-fits n h in
    (subst (λ (y : ℤ). SFits w64 y) (sym e) f, ap back e ∙ to_z-of_z w64 (neg_ℤ (pos n)) f)
