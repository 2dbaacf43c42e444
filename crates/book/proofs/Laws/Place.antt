-- Whether a book has place for one entry more, test by test.
-- Assumes nothing.
use mathlib.Core.Bool.{Bool, true, false}
use mathlib.Core.Path.{◌≡◌, refl}
use Prim.Native.Nat.{ℕ, ◌-◌, ◌≤◌, ◌<◌}
use native.Mathlib.Omega.{arith}
use lib.Dec.{leb}
use borrow.Author.Tests.{leb-true, leb-false}
use Rattle.digits.specs.Paper.Read.{Decides, holds, fails}
use Rattle.book.specs.Work.Writing.{HasPlace}

pub full : {count size frame : ℕ} → 1000 ≤ count → Decides (HasPlace count size frame) false
full h = fails (λ p. omega (arith, p.few))

pub none_free : {count size frame : ℕ} → 65536 - size < 7 → Decides (HasPlace count size frame) false
none_free h = fails (λ p. omega (arith, p.small))

pub free-for : (count size frame : ℕ) → count < 1000 → size ≤ 65536 → 7 ≤ 65536 - size → Decides (HasPlace count size frame) (leb frame (65536 - size - 7))
free-for count size frame few small free = go (leb frame (65536 - size - 7)) refl
  where
    go : (b : Bool) → leb frame (65536 - size - 7) ≡ b → Decides (HasPlace count size frame) b
    go true e = let h : frame ≤ 65536 - size - 7 = leb-true _ _ e in holds (record { few = omega arith; small = omega arith })
    go false e = let h : 65536 - size - 7 < frame = leb-false _ _ e in fails (λ p. omega (arith, p.small))
