-- How an input begins.
-- Assumes nothing.
use mathlib.Core.Bool.{Bool, true, false, true≢false}
use mathlib.Core.List.{List, [], ◌∷◌}
use mathlib.Core.Path.{◌≡◌, refl, sym, ap, ◌∙◌}
use Prim.Native.Nat.{ℕ, ◌+◌, ◌-◌, ◌≤◌, ◌<◌}
use native.Mathlib.Decide.{dec_le}
use native.Mathlib.Omega.{arith}
use lib.Dec.{eqb}
use lib.ListN.{length, get_or, drop}
use borrow.Author.Tests.{eqb-true, eqb-false}
use Rattle.digits.specs.Paper.Read.{Decides, holds, fails}
use Rattle.frames.specs.Paper.Kinds.{known}
use Rattle.list.specs.Paper.Listing.{Input}

module _ {s : List ℕ} (i : Input s) where
  pub two_bytes : 2 ≤ length s
  two_bytes = omega (arith, ap length i.is)

  pub digit : get_or s 0 0 ≡ 48 + i.kind
  digit = ap (λ (l : List ℕ). get_or l 0 0) i.is

  pub line-feed : get_or s 1 0 ≡ 10
  line-feed = ap (λ (l : List ℕ). get_or l 1 0) i.is

  pub behind-start : drop 2 s ≡ i.capture
  behind-start = ap (drop 2) i.is

  pub kind-known : known (get_or s 0 0 - 48) ≡ true
  kind-known = let e : get_or s 0 0 - 48 ≡ i.kind = omega (arith, digit) in ap known e ∙ i.is-kind

-- an input says one kind and one capture
module _ {s : List ℕ} (i j : Input s) where
  pub same_kind : i.kind ≡ j.kind
  same_kind = omega (arith, digit i, digit j)

  pub same-capture : i.capture ≡ j.capture
  same-capture = sym (behind-start i) ∙ behind-start j

-- ---- the tests

input_of : (s : List ℕ) → 2 ≤ length s → 48 ≤ get_or s 0 0 → known (get_or s 0 0 - 48) ≡ true → get_or s 1 0 ≡ 10 → Input s
input_of [] h a k e = absurd (omega arith)
input_of (x ∷ []) h a k e = absurd (omega arith)
input_of (x ∷ y ∷ s) h a k e =
    let d : x ≡ 48 + (x - 48) = omega arith in
    let f : y ≡ 10 = e in
    record { kind = x - 48; is-kind = k; capture = s; is = rw (f, ← d) }

module _ (s : List ℕ) where
  pub too_few : length s < 2 → Decides (Input s) false
  too_few h = fails (λ i. omega (arith, two_bytes i))

  pub no_digit : get_or s 0 0 < 48 → Decides (Input s) false
  no_digit h = fails (λ i. omega (arith, digit i))

  pub not_known : (b : Bool) → b ≡ known (get_or s 0 0 - 48) → b ≡ false → Decides (Input s) b
  not_known true e f = absurd (true≢false f)
  not_known false e f = fails (λ i. true≢false (sym (kind-known i) ∙ sym e))

  pub then-line-feed : 2 ≤ length s → 48 ≤ get_or s 0 0 → known (get_or s 0 0 - 48) ≡ true → Decides (Input s) (eqb (get_or s 1 0) 10)
  then-line-feed h a k = go (eqb (get_or s 1 0) 10) refl
    where
      go : (b : Bool) → eqb (get_or s 1 0) 10 ≡ b → Decides (Input s) b
      go true e = holds (input_of s h a k (eqb-true (get_or s 1 0) 10 e))
      go false e = fails (λ i. eqb-false (get_or s 1 0) 10 e (line-feed i))

  -- every input begins right or does not
  pub begins-or-not : Dec (Input s)
  begins-or-not = go (dec_le 2 (length s)) (dec_le 48 (get_or s 0 0)) (known (get_or s 0 0 - 48)) refl
    where
      last : (b : Bool) → Decides (Input s) b → Dec (Input s)
      last b (holds i) = yes i
      last b (fails f) = no f

      go : Dec (2 ≤ length s) → Dec (48 ≤ get_or s 0 0) → (b : Bool) → known (get_or s 0 0 - 48) ≡ b → Dec (Input s)
      go (no h) d b e = no (λ i. h (two_bytes i))
      go (yes h) (no a) b e = no (λ i. a (omega (arith, digit i)))
      go (yes h) (yes a) false e = no (λ i. true≢false (sym (kind-known i) ∙ e))
      go (yes h) (yes a) true e = last (eqb (get_or s 1 0) 10) (then-line-feed h a e)
