-- What stands before the first c and behind it, and how many there are.
-- Assumes nothing.
use mathlib.Core.Path.{◌≡◌, refl, sym, ap, ◌∙◌}
use mathlib.Core.Bool.{Bool, true, false, true≢false}
use mathlib.Core.List.{List, [], ◌∷◌, ◌++◌}
use Prim.Native.Nat.{ℕ, suc, ◌+◌, ◌≤◌, ◌<◌}
use native.Mathlib.Omega.{arith}
use lib.Dec.{eqb, ltb}
use lib.ListN.{length, get_or, take, drop}
use borrow.Author.Tests.{eqb-true, eq-eqb, ne_eqb, eqb-false, ltb-false}
use Rattle.std.specs.List.{list_any, position, position_or_len}
use Rattle.std.specs.Option.{unwrap_or}
use Rattle.digits.specs.Paper.Decimal.{decimal}
use Rattle.digits.proofs.Laws.Decimal.{chars-digits}
use Rattle.sheet.specs.Paper.Fault.{up_to, behind, count}

module _ (c : ℕ) where
  -- the first is c, or it is not
  pub by_first : (x : ℕ) {A : Type 0} → (x ≡ c → eqb x c ≡ true → A) → ((x ≡ c → ⊥) → eqb x c ≡ false → A) → A
  by_first x {A} f g = go (eqb x c) refl
    where
      go : (b : Bool) → eqb x c ≡ b → A
      go true e = f (eqb-true x c e) e
      go false e = g (eqb-false x c e) e

  pub up-here : (x : ℕ) (s : List ℕ) → x ≡ c → (up_to c (x ∷ s) ≡ []) × (behind c (x ∷ s) ≡ s) × (count c (x ∷ s) ≡ suc (count c s))
  unfolding up_to behind count
  up-here x s e = let t = eq-eqb x c e in (simp t, simp t, simp t (omega arith))

  pub up-later : (x : ℕ) (s : List ℕ) → (x ≡ c → ⊥)
      → (up_to c (x ∷ s) ≡ x ∷ up_to c s) × (behind c (x ∷ s) ≡ behind c s) × (count c (x ∷ s) ≡ count c s)
  unfolding up_to behind count
  up-later x s n = let t = ne_eqb x c n in (simp t, simp t, simp t (omega arith))

  pub up-nil : (up_to c [] ≡ []) × (behind c [] ≡ []) × (count c [] ≡ 0)
  unfolding up_to behind count
  up-nil = (refl, refl, refl)

  -- ---- as parts

  pub up-take : (s : List ℕ) → take (length (up_to c s)) s ≡ up_to c s
  up-take [] = rw up-nil.0
  up-take (x ∷ s) =
      by_first x (λ e t. rw (up-here x s e).0) (λ n t. rw (up-later x s n).0 (ap (λ (l : List ℕ). x ∷ l) (up-take s)))

  pub up-drop : (s : List ℕ) → drop (suc (length (up_to c s))) s ≡ behind c s
  up-drop [] = sym up-nil.1
  up-drop (x ∷ s) =
      by_first x (λ e t. rw (up-here x s e).0 (sym (up-here x s e).1))
      (λ n t. rw (up-later x s n).0 (up-drop s ∙ sym (up-later x s n).1))

  pub up_le : (s : List ℕ) → length (up_to c s) ≤ length s
  up_le [] = omega (arith, ap length up-nil.0)
  up_le (x ∷ s) =
      by_first x (λ e t. omega (arith, ap length (up-here x s e).0))
      (λ n t. omega (arith, ap length (up-later x s n).0, up_le s))

  pub up-inside : (s : List ℕ) {n : ℕ} → n ≡ length (up_to c s) → n ≤ length s
  up-inside s e = omega (arith, up_le s)

  -- there is none
  pub up-all : (s : List ℕ) → length s ≤ length (up_to c s) → count c s ≡ 0
  up-all [] h = up-nil.2
  up-all (x ∷ s) h =
      by_first x (λ e t. absurd (omega (arith, ap length (up-here x s e).0)))
      (λ n t. (up-later x s n).2 ∙ up-all s (omega (arith, ap length (up-later x s n).0)))

  -- there is one
  pub up_split : (s : List ℕ) → length (up_to c s) < length s → (s ≡ up_to c s ++ c ∷ behind c s) × (count c s ≡ suc (count c (behind c s)))
  up_split [] h = absurd (omega arith)
  up_split (x ∷ s) h =
      by_first x
      (λ e t. let k = up-here x s e in (rw (k.0, k.1) (ap (λ (y : ℕ). y ∷ s) e), k.2 ∙ ap (λ (l : List ℕ). suc (count c l)) (sym k.1)))
      (λ n t.
      let k = up-later x s n in
      let l = up_split s (omega (arith, ap length k.0)) in
      (rw (k.0, k.1) (ap (λ (y : List ℕ). x ∷ y) l.0), k.2 ∙ l.1 ∙ ap (λ (y : List ℕ). suc (count c y)) (sym k.1)))

  pub up-some : (s : List ℕ) → 0 < count c s → length (up_to c s) < length s
  up-some [] h = absurd (omega (arith, up-nil.2))
  up-some (x ∷ s) h =
      by_first x (λ e t. omega (arith, ap length (up-here x s e).0))
      (λ n t. let k = up-later x s n in omega (arith, ap length k.0, up-some s (omega (arith, k.2))))

  -- ---- of lists one behind the other

  pub count-append : (x y : List ℕ) → count c (x ++ y) ≡ count c x + count c y
  count-append [] y = omega (arith, up-nil.2)
  count-append (a ∷ x) y =
      by_first a (λ e t. omega (arith, (up-here a (x ++ y) e).2, (up-here a x e).2, count-append x y))
      (λ n t. omega (arith, (up-later a (x ++ y) n).2, (up-later a x n).2, count-append x y))

  pub count-one : (y : List ℕ) → count c (c ∷ y) ≡ suc (count c y)
  count-one y = (up-here c y refl).2

  -- c behind a list that has none
  pub at_first : (x y : List ℕ) → count c x ≡ 0 → (up_to c (x ++ c ∷ y) ≡ x) × (behind c (x ++ c ∷ y) ≡ y)
  at_first [] y h = ((up-here c y refl).0, (up-here c y refl).1)
  at_first (a ∷ x) y h =
      by_first a (λ e t. absurd (omega (arith, (up-here a x e).2)))
      (λ n t.
      let k = up-later a (x ++ c ∷ y) n in
      let l = at_first x y (omega (arith, (up-later a x n).2)) in
      (k.0 ∙ ap (λ (z : List ℕ). a ∷ z) l.0, k.1 ∙ l.1))

  -- a list of larger ones has none
  pub count-large : (s : List ℕ) → ((i : ℕ) → i < length s → c < get_or s i 0) → count c s ≡ 0
  count-large [] h = up-nil.2
  count-large (x ∷ s) h =
      by_first x (λ e t. absurd (omega (arith, h 0 (omega arith))))
      (λ n t. (up-later x s n).2 ∙ count-large s (λ i l. h (suc i) (omega arith)))

  pub count-decimal : (n : ℕ) → c < 48 → count c (decimal n) ≡ 0
  count-decimal n h = count-large (decimal n) (λ i l. omega (arith, chars-digits n i l))

  -- ---- as a search answers

  up-place : (s : List ℕ) → position_or_len (λ x. eqb x c) s ≡ length (up_to c s)
  up-place [] = rw up-nil.0
  up-place (x ∷ s) =
      by_first x (λ e t. rw (up-here x s e).0 (simp t))
      (λ n t. rw (up-later x s n).0 (simp t (omega (arith, up-place s))))

  pub up-found : (s : List ℕ) → unwrap_or (position (λ x. eqb x c) s) (length s) ≡ length (up_to c s)
  up-found s = go (ltb (position_or_len (λ x. eqb x c) s) (length s)) refl
    where
      go : (b : Bool) → ltb (position_or_len (λ x. eqb x c) s) (length s) ≡ b → unwrap_or (position (λ x. eqb x c) s) (length s) ≡ length (up_to c s)
      go true e = simp e (up-place s)
      go false e = simp e (omega (arith, ltb-false _ _ e, up-place s, up_le s))

  pub any-some : (s : List ℕ) → list_any (λ x. eqb x c) s ≡ true → 0 < count c s
  any-some [] e = absurd (true≢false (sym e))
  any-some (x ∷ s) e =
      by_first x (λ f t. omega (arith, (up-here x s f).2))
      (λ n t. omega (arith, (up-later x s n).2, any-some s (simp t at e)))

  pub any-none : (s : List ℕ) → list_any (λ x. eqb x c) s ≡ false → count c s ≡ 0
  any-none [] e = up-nil.2
  any-none (x ∷ s) e =
      by_first x (λ f t. absurd (true≢false (simp t at e)))
      (λ n t. (up-later x s n).2 ∙ any-none s (simp t at e))
