-- Byte values: what so many bytes hold, two's complement there and back.
-- Assumes nothing.
use mathlib.Core.Path.{◌≡◌, refl, sym, ap, ◌∙◌, subst}
use mathlib.Core.Bool.{Bool, true, false, true≢false, false≢true}
use Prim.Native.Nat.{ℕ, zero, suc, ◌-◌, ◌*◌, ◌/◌, ◌^◌, ◌≤◌, ◌<◌}
use native.Mathlib.Omega.{arith}
use lib.Dec.{T, leb, leb→le, le→leb, lit<}
use lib.IntN.{ℤ, pos, negsuc, neg_ℤ, nat_abs}
use lib.Signed.{le_z, ◌≤ℤ◌, le_z_yes}
use borrow.Author.Tests.{leb-true, leb-false}
use mir.Syntax.{w64}
use mir.Val.{SFits}
use Rattle.digits.specs.Paper.LowFirst.{Width, one, two, four}
use Rattle.digits.specs.Paper.Read.{Decides}
use Rattle.digits.proofs.Laws.LowFirst.{low-inj}
use Rattle.numbers.specs.Paper.Raw.{Between, Raw}
use Rattle.numbers.specs.Paper.Text.{below_zero}
use Rattle.numbers.specs.Paper.ByteValues.{least, most, HeldBy, twos, value_bytes}
use Rattle.numbers.specs.Paper.ByteValues.{from_twos, of_twos}
use Rattle.numbers.proofs.Laws.Signs.{back, read_back}

-- ---- widths

pub is-four : {w : ℕ} → Width w → (w ≡ 1 → ⊥) → (w ≡ 2 → ⊥) → w ≡ 4
is-four one a b = absurd (a refl)
is-four two a b = absurd (b refl)
is-four four a b = refl

-- how many numbers w bytes can be: an even number
pub record Size (w : ℕ) : Type 0 where
  pub some : 2 ≤ 256 ^ w
  pub even : 256 ^ w ≡ 2 * (256 ^ w / 2)

pub size : {w : ℕ} → Width w → Size w
size one = record { some = omega arith; even = omega arith }
size two = record { some = omega arith; even = omega arith }
size four = record { some = omega arith; even = omega arith }

-- at most 2 ^ 32
pub size-most : {w : ℕ} → Width w → 256 ^ w ≤ 4294967296
size-most one = omega arith
size-most two = omega arith
size-most four = omega arith

-- ---- what they hold, in natural numbers

pub data In (w : ℕ) : Bool → ℤ → Type 0 where
  plain : {n : ℕ} → n < 256 ^ w → In w false (pos n)
  lower : {n : ℕ} → 2 * n < 256 ^ w → In w true (pos n)
  upper : {n : ℕ} → 2 * suc n ≤ 256 ^ w → In w true (negsuc n)

below-zero : (h : ℕ) → 0 < h → neg_ℤ (pos h) ≡ negsuc (h - 1)
below-zero zero p = absurd (omega arith)
below-zero (suc h) p = let e : h ≡ suc h - 1 = omega arith in ap negsuc e

module _ {w : ℕ} (z : Size w) where
  lowest : least w true ≡ negsuc (256 ^ w / 2 - 1)
  lowest = below-zero (256 ^ w / 2) (omega (arith, z.some))

  pub held_in : (s : Bool) (y : ℤ) → HeldBy w s y → In w s y
  held_in false (pos n) h = plain {n = n} (omega (arith, leb→le n (256 ^ w - 1) h.high.le, z.some))
  held_in false (negsuc n) h = absurd h.low.le
  held_in true (pos n) h = lower {n = n} (omega (arith, leb→le n (256 ^ w / 2 - 1) h.high.le, z.some))
  held_in true (negsuc n) h =
      let k : T (leb n (256 ^ w / 2 - 1)) = subst (λ (x : ℤ). T (le_z x (negsuc n))) lowest h.low.le in
      upper {n = n} (omega (arith, leb→le n (256 ^ w / 2 - 1) k, z.some))

  pub in_held : {s : Bool} {y : ℤ} → In w s y → HeldBy w s y
  in_held (plain {n} h) = record { low = le_z_yes (le→leb 0 n (omega arith)); high = le_z_yes (le→leb n (256 ^ w - 1) (omega arith)) }
  in_held (lower {n} h) = record { low = subst (λ (x : ℤ). x ≤ℤ pos n) (sym lowest) (le_z_yes tt); high = le_z_yes (le→leb n (256 ^ w / 2 - 1) (omega (arith, z.even))) }
  in_held (upper {n} h) = record { low = subst (λ (x : ℤ). x ≤ℤ negsuc n) (sym lowest) (le_z_yes (le→leb n (256 ^ w / 2 - 1) (omega (arith, z.even)))); high = le_z_yes tt }

  -- they are raw numbers
  pub in-raw : 256 ^ w ≤ 4294967296 → {s : Bool} {y : ℤ} → In w s y → Raw y
  in-raw l (plain {n} h) = record { low = le_z_yes tt; high = le_z_yes (le→leb n 4294967295 (omega arith)) }
  in-raw l (lower {n} h) = record { low = le_z_yes tt; high = le_z_yes (le→leb n 4294967295 (omega arith)) }
  in-raw l (upper {n} h) = record { low = le_z_yes (le→leb n 2147483647 (omega arith)); high = le_z_yes tt }

  pub in_size : {s : Bool} {y : ℤ} → In w s y → nat_abs y ≤ 256 ^ w
  in_size (plain h) = omega arith
  in_size (lower h) = omega arith
  in_size (upper h) = omega arith

  -- ---- two's complement

  pub twos-lt : {s : Bool} {y : ℤ} → In w s y → twos w y < 256 ^ w
  twos-lt (plain h) = h
  twos-lt (lower h) = omega arith
  twos-lt (upper h) = omega arith

  -- the sign is known by the half
  twos-inj : {s : Bool} {x y : ℤ} → In w s x → In w s y → twos w x ≡ twos w y → x ≡ y
  twos-inj (plain h) (plain k) e = ap pos e
  twos-inj (lower h) (lower k) e = ap pos e
  twos-inj (lower h) (upper k) e = absurd (omega arith)
  twos-inj (upper h) (lower k) e = absurd (omega arith)
  twos-inj (upper {n = m} h) (upper {n = n} k) e = let f : m ≡ n = omega arith in ap negsuc f

  -- NO TWO NUMBERS HAVE THE SAME BYTES, of one width and sign
  pub value_inj : {s : Bool} {x y : ℤ} → In w s x → In w s y → value_bytes w x ≡ value_bytes w y → x ≡ y
  value_inj {s} {x} {y} a b e = twos-inj a b (low-inj w (twos w x) (twos w y) (twos-lt a) (twos-lt b) e)

  -- and each number of w bytes stands for one
  pub of-twos : (s : Bool) (n : ℕ) → n < 256 ^ w → In w s (of_twos w s n) × (twos w (of_twos w s n) ≡ n)
  of-twos false n h = (plain h, refl)
  of-twos true n h = go (leb (256 ^ w) (2 * n)) refl
    where
      go : (b : Bool) → leb (256 ^ w) (2 * n) ≡ b → In w true (from_twos w n b) × (twos w (from_twos w n b) ≡ n)
      go false e = (lower (leb-false (256 ^ w) (2 * n) e), refl)
      go true e =
          let l : 256 ^ w ≤ 2 * n = leb-true (256 ^ w) (2 * n) e in
          let f : neg_ℤ (pos (256 ^ w - n)) ≡ negsuc (256 ^ w - n - 1) = below-zero (256 ^ w - n) (omega arith) in
          let k : 256 ^ w - suc (256 ^ w - n - 1) ≡ n = omega arith in
          (subst (In w true) (sym f) (upper {n = 256 ^ w - n - 1} (omega arith)), ap (twos w) f ∙ k)

pub twos-below : (w : ℕ) (y : ℤ) → below_zero y ≡ true → twos w y ≡ 256 ^ w - nat_abs y
twos-below w (pos n) e = absurd (false≢true e)
twos-below w (negsuc n) e = refl

pub twos-above : (w : ℕ) (y : ℤ) → below_zero y ≡ false → twos w y ≡ nat_abs y
twos-above w (pos n) e = refl
twos-above w (negsuc n) e = absurd (true≢false e)

pub below-some : (y : ℤ) → below_zero y ≡ true → 0 < nat_abs y
below-some (pos n) e = absurd (false≢true e)
below-some (negsuc n) e = omega arith

-- ---- the ends, as the code has them

pub end_is : (f : ℕ → Bool → ℤ) {w k : ℕ} {s b : Bool} → s ≡ b → w ≡ k → f k b ≡ f w s
end_is f {w} {k} {s} {b} e g = sym (ap (λ (x : ℕ). f x s) g ∙ ap (f k) e)

pub ends-fit : {w : ℕ} → Width w → (s : Bool) → SFits w64 (least w s) × SFits w64 (most w s)
ends-fit one true = (record { sfits = lit< tt }, record { sfits = lit< tt })
ends-fit one false = (record { sfits = lit< tt }, record { sfits = lit< tt })
ends-fit two true = (record { sfits = lit< tt }, record { sfits = lit< tt })
ends-fit two false = (record { sfits = lit< tt }, record { sfits = lit< tt })
ends-fit four true = (record { sfits = lit< tt }, record { sfits = lit< tt })
ends-fit four false = (record { sfits = lit< tt }, record { sfits = lit< tt })

pub between_ends : {a b l m : ℤ} (z : ℤ) {r : Bool} → a ≡ l → b ≡ m → SFits w64 l × SFits w64 m → SFits w64 z → Decides (Between (back a) (back b) (back z)) r → Decides (Between l m z) r
between_ends {a} {b} {l} {m} z {r} e f g h t =
    subst (λ (x : ℤ). Decides (Between x m z) r) (ap back e ∙ read_back l g.0)
    (subst (λ (x : ℤ). Decides (Between (back a) x z) r) (ap back f ∙ read_back m g.1)
    (subst (λ (x : ℤ). Decides (Between (back a) (back b) x) r) (read_back z h) t))
