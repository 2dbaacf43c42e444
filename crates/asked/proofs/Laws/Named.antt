-- The row of a kind and a name.
-- Assumes nothing.
use mathlib.Core.Bool.{Bool, true, false, ◌&&◌, ◌||◌, cond, false≢true, true≢false}
use mathlib.Core.List.{List, [], ◌∷◌}
use mathlib.Core.Path.{◌≡◌, refl, sym, ap, ◌∙◌}
use Prim.Native.Nat.{ℕ, zero, suc, ◌+◌, ◌≤◌, ◌<◌}
use native.Mathlib.Omega.{arith}
use lib.Dec.{T, eqb, leb, eqb→eq, leb→le}
use lib.ListN.{length, get_or}
use borrow.Author.Tests.{eqb-true, eq-eqb, ne_eqb}
use Rattle.std.specs.Prelude.{Option, Some, None}
use Rattle.frames.specs.Paper.Kinds.{known, number_of}
use Rattle.frames.specs.declared.kinds.Kind.{Kind}
use Rattle.layouts.specs.Paper.Chars.{one_of}
use Rattle.shapes.proofs.Laws.Rows.{each_row, wired-row}
use Rattle.shapes.specs.Paper.Fields.{Named}
use Rattle.shapes.specs.Paper.Shapes.{Sort, Shape, shapes, shape_at, no_shape}
use Rattle.asked.specs.Work.Rows.{same_text, row_in, row_named}

-- ---- the same characters

pub text_same : (s t : List ℕ) → same_text s t ≡ true → s ≡ t
unfolding same_text
text_same [] [] e = refl
text_same [] (y ∷ t) e = absurd (false≢true e)
text_same (x ∷ s) [] e = absurd (false≢true e)
text_same (x ∷ s) (y ∷ t) e = by (eqb x y) refl (text_same s t) e
  where
    by : (b : Bool) → eqb x y ≡ b → (same_text s t ≡ true → s ≡ t) → (b && same_text s t) ≡ true → x ∷ s ≡ y ∷ t
    by true f r h = let p : x ≡ y = eqb-true x y f in let q : s ≡ t = r h in cc
    by false f r h = absurd (false≢true h)

pub same_text_lem : (s : List ℕ) → same_text s s ≡ true
unfolding same_text
same_text_lem [] = refl
same_text_lem (x ∷ s) = rw (eq-eqb x x refl) (same_text_lem s)

pub text-differs : (s t : List ℕ) → (t ≡ s → ⊥) → same_text s t ≡ false
text-differs s t h = by (same_text s t) refl
  where
    by : (b : Bool) → same_text s t ≡ b → b ≡ false
    by true e = absurd (h (sym (text_same s t e)))
    by false e = refl

-- ---- the first shape with a kind and a name

-- it is at some place of the list
pub record Placed (i : ℕ) (shs : List Shape) (k : ℕ) (n : List ℕ) (r : ℕ) : Type 0 where
  pub place : ℕ
  pub inside : place < length shs
  pub is : r ≡ i + place
  pub kind : (get_or shs place no_shape).kind ≡ k
  pub msg : (get_or shs place no_shape).msg ≡ n

-- or no place has them
pub data Found (i : ℕ) (shs : List Shape) (k : ℕ) (n : List ℕ) : Option ℕ → Type 0 where
  at : {r : ℕ} → Placed i shs k n r → Found i shs k n (Some r)
  nowhere : ((j : ℕ) → j < length shs → (get_or shs j no_shape).kind ≡ k → (get_or shs j no_shape).msg ≡ n → ⊥) → Found i shs k n None

module _ (k : ℕ) (n : List ℕ) where
  abbrev fits : Shape → Bool
  fits sh = eqb sh.kind k && same_text sh.msg n

  fits-so : (sh : Shape) → fits sh ≡ true → (sh.kind ≡ k) × (sh.msg ≡ n)
  fits-so sh e = by (eqb sh.kind k) refl e
    where
      by : (b : Bool) → eqb sh.kind k ≡ b → (b && same_text sh.msg n) ≡ true → (sh.kind ≡ k) × (sh.msg ≡ n)
      by true f h = (eqb-true sh.kind k f, text_same sh.msg n h)
      by false f h = absurd (false≢true h)

  so-fits : (sh : Shape) → sh.kind ≡ k → sh.msg ≡ n → fits sh ≡ true
  so-fits sh e f = rw (eq-eqb sh.kind k e, f) (same_text_lem n)

  -- the row is the first such place of the list, or no place has them
  pub row_found : (shs : List Shape) (i : ℕ) → Found i shs k n (row_in i shs k n)
  unfolding row_in
  row_found [] i = nowhere (λ j l p q. omega arith)
  row_found (sh ∷ shs) i = by (fits sh) refl (row_found shs (i + 1))
    where
      later : {r : ℕ} → Placed (i + 1) shs k n r → Placed i (sh ∷ shs) k n r
      later p = record { place = suc p.place; inside = omega (arith, p.inside); is = omega (arith, p.is); kind = p.kind; msg = p.msg }

      further : fits sh ≡ false → ((j : ℕ) → j < length shs → (get_or shs j no_shape).kind ≡ k → (get_or shs j no_shape).msg ≡ n → ⊥)
          → (j : ℕ) → j < suc (length shs) → (get_or (sh ∷ shs) j no_shape).kind ≡ k → (get_or (sh ∷ shs) j no_shape).msg ≡ n → ⊥
      further e f zero l p q = true≢false (sym (so-fits sh p q) ∙ e)
      further e f (suc j) l p q = f j (omega arith) p q

      by : {r : Option ℕ} (b : Bool) → fits sh ≡ b → Found (i + 1) shs k n r → Found i (sh ∷ shs) k n (cond b (Some i) r)
      by true e r = let f = fits-so sh e in at (record { place = 0; inside = omega arith; is = omega arith; kind = f.0; msg = f.1 })
      by false e (at p) = at (later p)
      by false e (nowhere f) = nowhere (further e f)

  pub row-found : Found 1 shapes k n (row_named k n)
  unfolding row_named
  row-found = row_found shapes 1

  -- a kind that is none
  pub no_kind : (1 ≡ k → ⊥) → (2 ≡ k → ⊥) → (3 ≡ k → ⊥) → (4 ≡ k → ⊥) → (5 ≡ k → ⊥) → None ≡ row_named k n
  unfolding row_named row_in
  no_kind a b c d e = simp (ne_eqb 1 k a, ne_eqb 2 k b, ne_eqb 3 k c, ne_eqb 4 k d, ne_eqb 5 k e)

-- ---- the kind of a row, and how many members it has

abbrev pub kind_of : ℕ → ℕ
kind_of r = cond (leb r 6) 1 (cond (eqb r 7) 2 (cond (leb r 13) 3 (cond (leb r 18) 4 5)))

pub kind-is : (r k : ℕ) → 1 ≤ r → r ≤ 23 → k ≡ kind_of r → k ≡ (shape_at r).kind
kind-is r k h l e = e ∙ so (each_row (λ j. eqb j 0 || eqb (kind_of j) (shape_at j).kind) tt r l)
  where
    so : T (eqb r 0 || eqb (kind_of r) (shape_at r).kind) → kind_of r ≡ (shape_at r).kind
    so t = eqb→eq (kind_of r) (shape_at r).kind (rw (ne_eqb r 0 (λ z. omega arith)) at t)

pub six-members : (r : ℕ) → 19 ≤ r → r ≤ 23 → 6 ≡ length (shape_at r).members
six-members r h l = ap {B = ℕ} (λ (ms : List (Named Sort)). length ms) (sym (wired-row r h l))

pub most-members : (r : ℕ) → r ≤ 23 → length (shape_at r).members ≤ 6
most-members r h = leb→le _ 6 (each_row (λ j. leb (length (shape_at j).members) 6) tt r h)

-- a number that is none of those below
pub above : (k : ℕ) {n : ℕ} → k ≤ n → (n ≡ k → ⊥) → suc k ≤ n
above k h f = omega (arith, f)

-- a kind's row, whatever the kind is called
pub by_kind : {k d : Kind} (n : List ℕ) {r : Option ℕ} → k ≡ d → r ≡ row_named (number_of d) n → r ≡ row_named (number_of k) n
by_kind n e f = f ∙ ap (λ (i : Kind). row_named (number_of i) n) (sym e)

-- a number that is no kind's has no row
pub unknown-row : (k : ℕ) (n : List ℕ) → known k ≡ false → None ≡ row_named k n
unfolding known one_of
unknown-row k n h =
    no_kind k n (λ e. true≢false (ap known e ∙ h)) (λ e. true≢false (ap known e ∙ h)) (λ e. true≢false (ap known e ∙ h)) (λ e. true≢false (ap known e ∙ h))
    (λ e. true≢false (ap known e ∙ h))
