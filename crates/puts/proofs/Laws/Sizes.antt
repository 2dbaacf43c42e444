-- Bytes that are right, measured before they are written: how long they are, and whether a room has room for them.
-- Assumes nothing.
use mathlib.Core.Bool.{true, false}
use mathlib.Core.List.{List}
use mathlib.Core.Path.{◌≡◌, sym, ap, ◌∙◌}
use Prim.Native.Nat.{ℕ, ◌≤◌, ◌<◌}
use lib.Dec.{leb}
use lib.ListN.{length}
use borrow.Author.Tests.{leb-true, leb-false, le-leb}
use Rattle.puts.specs.Work.Right.{SizedRight, FitsRight}

module _ {Right : List ℕ → Type 0} where
  -- a room of a size that they never exceed
  pub always-fits : {n : ℕ} (t : List ℕ) → Right t → length t ≤ n → FitsRight Right n true
  always-fits {n} t x l = record { text = t; right = x; fits = sym (le-leb (length t) n l) }

  pub sized-fits : {m : ℕ} (n : ℕ) → SizedRight Right m → FitsRight Right n (leb m n)
  sized-fits n z = record { text = z.text; right = z.right; fits = ap (λ (m : ℕ). leb m n) z.size }

  pub too_small : {n : ℕ} (f : FitsRight Right n false) → n < length f.text
  too_small {n} f = leb-false (length f.text) n (sym f.fits)

  -- where only one list is right, a room that has room for it has room for what is put
  pub large-enough : ((a b : List ℕ) → Right a → Right b → a ≡ b) → {n : ℕ} → FitsRight Right n true → {t : List ℕ} → Right t → length t ≤ n
  large-enough one {n} f {t} x =
      leb-true (length t) n (ap (λ (u : List ℕ). leb (length u) n) (one t f.text x f.right) ∙ sym f.fits)
