-- Numbers that were read within a range, cast to the code's widths.
-- Assumes nothing.
use mathlib.Core.Path.{◌≡◌, refl, sym, ap, ◌∙◌, subst}
use Prim.Native.Nat.{ℕ, ◌≤◌}
use native.Mathlib.Omega.{arith}
use native.Mathlib.Nat.{le_trans}
use lib.Dec.{T, leb→le, le→leb}
use lib.IntN.{ℤ, pos, negsuc, nat_abs}
use lib.Signed.{non_neg, le_z_yes}
use mir.Syntax.{w8, w16, w32, w64}
use mir.Val.{Fits, SFits, to_z, of_z}
use mir.ValLaws.{to_z-of_z}
use Rattle.numbers.proofs.Laws.Signs.{back, read_back, raw-fits}
use Rattle.numbers.specs.Paper.Raw.{Between, Raw}

-- a number of a range that begins with zero
pub record Counted (m : ℕ) (z : ℤ) : Type 0 where
  pub count : ℕ
  pub is : z ≡ pos count
  pub few : count ≤ m

pub counted : {m : ℕ} (z : ℤ) → Between (pos 0) (pos m) z → Counted m z
counted {m} (pos n) h = record { count = n; is = refl; few = leb→le n m h.high.le }
counted (negsuc n) h = absurd h.low.le

module _ {m : ℕ} (small : m ≤ 4294967295) where
  in-raw : (n : ℕ) → n ≤ m → Raw (pos n)
  in-raw n h = record { low = le_z_yes tt; high = le_z_yes (le→leb n 4294967295 (le_trans h small)) }

  -- read back from its 64 bits it is the same
  pub back-again : (z : ℤ) → Between (pos 0) (pos m) z → back z ≡ z
  back-again z h = let k = counted z h in read_back z (raw-fits z (subst Raw (sym k.is) (in-raw k.count k.few)))

  pub as-count : (z : ℤ) → Between (pos 0) (pos m) z → z ≡ pos (nat_abs (back z))
  as-count z h =
      let k = counted z h in
      k.is ∙ ap {B = ℤ} (λ (y : ℤ). pos (nat_abs y)) (sym k.is) ∙ ap {B = ℤ} (λ (y : ℤ). pos (nat_abs y)) (sym (back-again z h))

  pub not-below : (z : ℤ) → Between (pos 0) (pos m) z → T (non_neg (back z))
  not-below z h = let k = counted z h in subst (λ (y : ℤ). T (non_neg y)) (sym (back-again z h ∙ k.is)) tt

  pub at_most : (z : ℤ) → Between (pos 0) (pos m) z → nat_abs (back z) ≤ m
  at_most z h = let k = counted z h in subst (λ (y : ℤ). nat_abs y ≤ m) (sym (back-again z h ∙ k.is)) k.few

-- THE CASTS
pub to-byte : (z : ℤ) → Between (pos 0) (pos 255) z → T (non_neg (back z)) × Fits w8 (nat_abs (back z))
to-byte z h = (not-below (omega arith) z h, record { fits = omega (arith, at_most {m = 255} (omega arith) z h) })

pub to_word : (z : ℤ) → Between (pos 0) (pos 65535) z → T (non_neg (back z)) × Fits w16 (nat_abs (back z))
to_word z h = (not-below (omega arith) z h, record { fits = omega (arith, at_most {m = 65535} (omega arith) z h) })

pub to-double : (z : ℤ) → Between (pos 0) (pos 4294967295) z → T (non_neg (back z)) × Fits w32 (nat_abs (back z))
to-double z h = (not-below (omega arith) z h, record { fits = omega (arith, at_most {m = 4294967295} (omega arith) z h) })

-- a number of 16 bits with its sign
pub to-signed : (z : ℤ) → Between (negsuc 32767) (pos 32767) z → SFits w16 z
to-signed (pos n) h = record { sfits = let k : n ≤ 32767 = leb→le n 32767 h.high.le in omega arith }
to-signed (negsuc n) h = record { sfits = let k : n ≤ 32767 = leb→le n 32767 h.low.le in omega arith }

wide : (z : ℤ) → Between (negsuc 32767) (pos 32767) z → back z ≡ z
wide z h = read_back z (wider z h)
  where
    wider : (z : ℤ) → Between (negsuc 32767) (pos 32767) z → SFits w64 z
    wider (pos n) h = record { sfits = let k : n ≤ 32767 = leb→le n 32767 h.high.le in omega arith }
    wider (negsuc n) h = record { sfits = let k : n ≤ 32767 = leb→le n 32767 h.low.le in omega arith }

pub cast_signed : (z : ℤ) → Between (negsuc 32767) (pos 32767) z → SFits w16 (back z)
cast_signed z h = subst (SFits w16) (sym (wide z h)) (to-signed z h)

pub as-signed : (z : ℤ) → Between (negsuc 32767) (pos 32767) z → z ≡ to_z w16 (of_z w16 (back z))
as-signed z h = sym (wide z h) ∙ sym (to_z-of_z w16 (back z) (cast_signed z h))

pub to-wide : (z : ℤ) → Between (pos 0) (pos 511) z → T (non_neg (back z)) × Fits w64 (nat_abs (back z))
to-wide z h = (not-below (omega arith) z h, record { fits = omega (arith, at_most {m = 511} (omega arith) z h) })
