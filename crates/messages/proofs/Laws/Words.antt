-- Numbers of 16 bits among bytes, low byte first, there and back.
-- Assumes nothing.
use mathlib.Core.List.{List, [], ◌∷◌, ◌++◌}
use mathlib.Core.Path.{◌≡◌, refl, sym, ap, ap₂, ◌∙◌}
use Prim.Native.Nat.{ℕ, suc, ◌+◌, ◌-◌, ◌*◌, ◌/◌, ◌%◌, ◌≤◌, ◌<◌}
use native.Mathlib.Omega.{arith}
use lib.ListN.{length, get_or, take, drop}
use mir.Syntax.{w16}
use Rattle.std.specs.Int.{from_le_bytes}
use Rattle.digits.proofs.Laws.Parts.{take-ats}
use Rattle.digits.specs.Paper.Bytes.{Bytes, part}
use Rattle.digits.specs.Paper.LowFirst.{low_byte_first}
use Rattle.messages.specs.Paper.Table.{u16_at}

-- a number of two bytes is taken apart
low_of : (x y : ℕ) → x < 256 → (x + 256 * y) % 256 ≡ x
low_of x y h = omega arith

high-of : (x y : ℕ) → x < 256 → y < 256 → (x + 256 * y) / 256 % 256 ≡ y
high-of x y h k = let d : (x + 256 * y) / 256 ≡ y = omega arith in omega arith

module _ (i : ℕ) (p : List ℕ) (b : Bytes p) where
  pub word_lt : u16_at i p < 65536
  word_lt = omega (arith, b.each i, b.each (i + 1))

  -- the number's bytes are those that stand there
  pub word_bytes : i + 2 ≤ length p → low_byte_first 2 (u16_at i p) ≡ part i (i + 2) p
  unfolding low_byte_first
  word_bytes h =
      let l = low_of (get_or p i 0) (get_or p (i + 1) 0) (b.each i) in
      let m = high-of (get_or p i 0) (get_or p (i + 1) 0) (b.each i) (b.each (i + 1)) in
      let two : 2 ≡ i + 2 - i = omega arith in
      let s : i + 1 ≡ suc i = omega arith in
      ap₂ (λ (x y : ℕ). x ∷ y ∷ []) l (m ∙ ap (λ (k : ℕ). get_or p k 0) s) ∙ sym (take-ats p 2 i h) ∙ ap (λ (k : ℕ). take k (drop i p)) two

-- what stands behind a list is read there
pub word-behind : (l s : List ℕ) → u16_at (length l) (l ++ s) ≡ u16_at 0 s
word-behind [] s = refl
word-behind (x ∷ l) s = let e : suc (length l) + 1 ≡ suc (length l + 1) = omega arith in rw e (word-behind l s)

-- a number's bytes, behind a list and in front of another, are read as that number
pub word_at : (l s : List ℕ) (a : ℕ) → a < 65536 → u16_at (length l) (l ++ (low_byte_first 2 a ++ s)) ≡ a
unfolding low_byte_first
word_at l s a h =
    let e : a % 256 + 256 * (a / 256 % 256) ≡ a = omega arith in
    word-behind l (low_byte_first 2 a ++ s) ∙ e

-- the library's number of two bytes
pub two-bytes : (a b : ℕ) → from_le_bytes w16 (a ∷ b ∷ []) ≡ a + 256 * b
two-bytes a b = omega arith
