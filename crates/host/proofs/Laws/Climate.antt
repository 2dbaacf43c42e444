-- A climate message's counts: which of them 16 bits hold, and what is answered.
-- Assumes nothing.
use mathlib.Core.Bool.{true, false, true≢false}
use mathlib.Core.Path.{◌≡◌, sym, ◌∙◌, subst}
use Prim.Native.Nat.{ℕ, zero-le, ◌≤◌, ◌<◌}
use native.Mathlib.Omega.{arith}
use lib.Dec.{eqb, leb→le, le→leb, lit<}
use lib.IntN.{ℤ, pos, negsuc}
use lib.Signed.{le_z_yes}
use mir.Syntax.{w16, w32}
use mir.Val.{SFits, to_z, of_z}
use mir.ValLaws.{to_z-of_z}
use Rattle.digits.specs.Paper.Refusals.{refusal_order, clear, here, after, Answers, answers, refuses}
use Rattle.digits.proofs.Laws.Refusals.{pass-over}
use Rattle.numbers.specs.Paper.ByteValues.{HeldBy}
use Rattle.host.specs.Paper.Panel.{zero_climate, ClimateCause, not-signed, not-unsigned, ClimateOf, Pair}

-- ---- the conversions

-- the number as the machine reads it back
abbrev pub read : ℤ → ℤ
read t = to_z w32 (of_z w32 t)

-- 16 bits hold what a number of so many bits is
hold : (z : ℤ) → SFits w16 z → HeldBy 2 true z
hold (pos n) s =
    let l : n ≤ 32767 = omega (arith, s.sfits) in record { low = le_z_yes tt; high = le_z_yes (le→leb n 32767 l) }
hold (negsuc n) s =
    let l : n ≤ 32767 = omega (arith, s.sfits) in record { low = le_z_yes (le→leb n 32767 l); high = le_z_yes tt }

held-fits : (z : ℤ) → HeldBy 2 true z → SFits w16 z
held-fits (pos n) b = let h : n ≤ 32767 = leb→le n 32767 b.high.le in record { sfits = omega arith }
held-fits (negsuc n) b = let h : n ≤ 32767 = leb→le n 32767 b.low.le in record { sfits = omega arith }

module _ {t : ℤ} (f : SFits w32 t) where
  pub held : SFits w16 (read t) → HeldBy 2 true t
  held s = hold t (subst (SFits w16) (to_z-of_z w32 t f) s)

  pub too-far : {h : ℤ} → (SFits w16 (read t) → ⊥) → ClimateCause t h 5
  too-far over = not-signed (λ b. over (subst (SFits w16) (sym (to_z-of_z w32 t f)) (held-fits t b)))

  -- and what they hold stays the number
  pub kept : SFits w16 (read t) → to_z w16 (of_z w16 (read t)) ≡ t
  kept s = to_z-of_z w16 (read t) s ∙ to_z-of_z w32 t f

pub too-wet : {t : ℤ} {n : ℕ} → (n < 65536 → ⊥) → ClimateCause t (pos n) 5
too-wet {n = n} over = not-unsigned (λ b. let h : n ≤ 65535 = leb→le n 65535 b.high.le in over (omega arith))

pub few : {n : ℕ} → n < 65536 → HeldBy 2 false (pos n)
few {n} l = let h : n ≤ 65535 = omega arith in record { low = le_z_yes (le→leb 0 n zero-le); high = le_z_yes (le→leb n 65535 h) }

-- ---- the answer

module _ {t h : ℤ} where
  only : (k : ℕ) → eqb k 5 ≡ false → ClimateCause t h k → ⊥
  only k e (not-signed n) = true≢false e
  only k e (not-unsigned n) = true≢false e

  pub climate-refused : ClimateCause t h 5 → Answers zero_climate (ClimateCause t h) (ClimateOf t h) 5 zero_climate
  climate-refused c = refuses (lit< tt) (pass-over (λ k. eqb k 5) only refusal_order (here c))

  pub climate-right : {v : Pair} → HeldBy 2 true t → HeldBy 2 false h → ClimateOf t h v → Answers zero_climate (ClimateCause t h) (ClimateOf t h) 0 v
  climate-right a b p = answers (pass-over (λ k. eqb k 5) only refusal_order (after never clear)) p
    where
      never : ClimateCause t h 5 → ⊥
      never (not-signed n) = n a
      never (not-unsigned n) = n b
