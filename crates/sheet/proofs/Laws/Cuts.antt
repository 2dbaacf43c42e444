-- Where the first line of a text is cut: at its commas and at its end.
-- Assumes nothing.
use mathlib.Core.Path.{◌≡◌, refl, sym, ap, ◌∙◌, subst}
use mathlib.Core.Bool.{true, false}
use mathlib.Core.List.{List, [], ◌∷◌}
use Prim.Native.Nat.{ℕ, suc, ◌+◌, ◌-◌, ◌≤◌, ◌<◌}
use native.Mathlib.Omega.{arith}
use lib.ListN.{length, get_or, take, drop, drop_of_length-le}
use lib.Seq.{drop-cons}
use lib.Dec.{eqb}
use borrow.Author.Tests.{eq-eqb, ne_eqb}
use Rattle.std.specs.Prelude.{Option, Some, None, option_map}
use Rattle.std.specs.List.{list_any}
use Rattle.std.proofs.lemmas.Option.{none-some}
use Rattle.digits.proofs.Laws.Parts.{part-rest}
use Rattle.sheet.specs.Paper.Sheet.{comma, LF}
use Rattle.sheet.specs.Paper.Fault.{up_to, behind, count, line, first_field, second_field, third_field}
use Rattle.sheet.specs.Work.Lines.{comma_at}
use Rattle.sheet.proofs.Laws.Chars.{by_first, up-here, up-later, up-nil, up-take, any-some, any-none}

-- ---- the first comma of the first line

at-comma : (x : ℕ) (s : List ℕ) → x ≡ comma → comma_at (x ∷ s) ≡ Some 0
unfolding comma_at
at-comma x s e = simp (eq-eqb x comma e)

at-end : (x : ℕ) (s : List ℕ) → x ≡ LF → comma_at (x ∷ s) ≡ None
unfolding comma_at
at-end x s e = let n : x ≡ comma → ⊥ = (λ f. omega arith) in simp (ne_eqb x comma n, eq-eqb x LF e)

at-later : (x : ℕ) (s : List ℕ) → (x ≡ comma → ⊥) → (x ≡ LF → ⊥) → comma_at (x ∷ s) ≡ option_map suc (comma_at s)
unfolding comma_at
at-later x s n m = simp (ne_eqb x comma n, ne_eqb x LF m)

-- the line is cut there, and its rest is the first line of r
pub record CutAt (s : List ℕ) (a : ℕ) (r : List ℕ) : Type 0 where
  pub inside : a < length s
  pub first : take a s ≡ first_field (line s)
  pub rest : line r ≡ behind comma (line s)
  pub more : count comma (line s) ≡ suc (count comma (line r))
  pub size : length (line s) ≡ a + suc (length (line r))

pub data Cutting (s : List ℕ) : Option ℕ → Type 0 where
  uncut : count comma (line s) ≡ 0 → Cutting s None
  cut : {a : ℕ} → CutAt s a (drop (suc a) s) → Cutting s (Some a)

cut-here : (x : ℕ) (s : List ℕ) → x ≡ comma → CutAt (x ∷ s) 0 s
cut-here x s e =
    let l = (up-later LF x s (λ f. omega arith)).0 in
    let k = up-here comma x (line s) e in
    record {
      inside = omega arith;
      first = sym (ap (up_to comma) l ∙ k.0);
      rest = sym (ap (behind comma) l ∙ k.1);
      more = ap (count comma) l ∙ k.2;
      size = omega (arith, ap length l);
    }

cut_later : (x : ℕ) (s : List ℕ) {a : ℕ} {r : List ℕ} → (x ≡ comma → ⊥) → (x ≡ LF → ⊥) → CutAt s a r → CutAt (x ∷ s) (suc a) r
cut_later x s n m c =
    let l = (up-later LF x s m).0 in
    let k = up-later comma x (line s) n in
    record {
      inside = omega (arith, c.inside);
      first = ap (λ (t : List ℕ). x ∷ t) c.first ∙ sym (ap (up_to comma) l ∙ k.0);
      rest = c.rest ∙ sym (ap (behind comma) l ∙ k.1);
      more = ap (count comma) l ∙ k.2 ∙ c.more;
      size = omega (arith, ap length l, c.size);
    }

pub cutting : (s : List ℕ) → Cutting s (comma_at s)
unfolding comma_at
cutting [] = uncut (ap (count comma) (up-nil LF).0 ∙ (up-nil comma).2)
cutting (x ∷ s) =
    by_first comma x (λ e t. subst (Cutting (x ∷ s)) (sym (at-comma x s e)) (cut (cut-here x s e)))
    (λ n t. by_first LF x
    (λ e u. subst (Cutting (x ∷ s)) (sym (at-end x s e)) (uncut (ap (count comma) (up-here LF x s e).0 ∙ (up-nil comma).2)))
    (λ m u. subst (Cutting (x ∷ s)) (sym (at-later x s n m)) (onto n m (cutting s))))
  where
    onto : {o : Option ℕ} → (x ≡ comma → ⊥) → (x ≡ LF → ⊥) → Cutting s o → Cutting (x ∷ s) (option_map suc o)
    onto n m (uncut f) = uncut (ap (count comma) (up-later LF x s m).0 ∙ (up-later comma x (line s) n).2 ∙ f)
    onto n m (cut c) = cut (cut_later x s n m c)

-- what the code comes by
no_cut : (s : List ℕ) {o : Option ℕ} → o ≡ comma_at s → o ≡ None → count comma (line s) ≡ 0
no_cut s {o} e f = go (cutting s) (sym e ∙ f)
  where
    go : {o : Option ℕ} → Cutting s o → o ≡ None → count comma (line s) ≡ 0
    go (uncut h) k = h
    go (cut c) k = absurd (none-some _ (sym k))

pub cut_at : (s : List ℕ) {o : Option ℕ} {a : ℕ} → o ≡ comma_at s → o ≡ Some a → CutAt s a (take (length s - (a + 1)) (drop (a + 1) s))
cut_at s {o} {a} e f = go (cutting s) (sym e ∙ f)
  where
    go : {o : Option ℕ} → Cutting s o → o ≡ Some a → CutAt s a (take (length s - (a + 1)) (drop (a + 1) s))
    go (uncut h) k = absurd (none-some _ k)
    go (cut {a = b} c) k =
        let i : b ≡ a = cc in
        let d : CutAt s a (drop (suc a) s) = subst (λ (j : ℕ). CutAt s j (drop (suc j) s)) i c in
        let g : suc a ≡ a + 1 = omega arith in
        subst (CutAt s a) (ap (λ (j : ℕ). drop j s) g ∙ sym (part-rest (a + 1) s)) d

-- ---- three fields

pub no-comma : (s : List ℕ) {o : Option ℕ} → o ≡ comma_at s → o ≡ None → count comma (line s) ≡ 2 → ⊥
no-comma s e f g = omega (arith, no_cut s e f)

pub one-comma : {s r : List ℕ} {a : ℕ} {o : Option ℕ} → CutAt s a r → o ≡ comma_at r → o ≡ None → count comma (line s) ≡ 2 → ⊥
one-comma {r = r} x e f g = omega (arith, x.more, no_cut r e f)

module _ {s r t : List ℕ} {a b c : ℕ} (x : CutAt s a r) (y : CutAt r b t) (e : c ≡ length (line t)) where
  pub third-part : take c t ≡ line t
  third-part = ap (λ (k : ℕ). take k t) e ∙ up-take LF t

  both : count comma (line s) ≡ 2 + count comma (line t)
  both = omega (arith, x.more, y.more)

  pub more-commas : list_any (λ x. eqb x comma) (take c t) ≡ true → count comma (line s) ≡ 2 → ⊥
  more-commas h k = omega (arith, both, any-some comma (line t) (ap (list_any (λ x. eqb x comma)) (sym third-part) ∙ h))

  pub two-commas : list_any (λ x. eqb x comma) (take c t) ≡ false → count comma (line s) ≡ 2
  two-commas h = omega (arith, both, any-none comma (line t) (ap (list_any (λ x. eqb x comma)) (sym third-part) ∙ h))

  pub whole-size : a + b + c + 2 ≡ length (line s)
  whole-size = omega (arith, x.size, y.size)

  module _ (P : List ℕ → List ℕ → List ℕ → Type 0) where
    pub three : P (take a s) (take b r) (take c t) → P (first_field (line s)) (second_field (line s)) (third_field (line s))
    three z =
        subst (λ (l : List ℕ). P (first_field (line s)) (second_field (line s)) l) (third-part ∙ y.rest ∙ ap (behind comma) x.rest)
        (subst (λ (l : List ℕ). P (first_field (line s)) l (take c t)) (y.first ∙ ap (up_to comma) x.rest)
        (subst (λ (l : List ℕ). P l (take b r) (take c t)) x.first z))

-- ---- the loop: what is left says where the comma is

pub record Looking (s : List ℕ) (i : ℕ) : Type 0 where
  pub rest : option_map (λ k. i + k) (comma_at (drop i s)) ≡ comma_at s

module _ {s : List ℕ} {i : ℕ} (p : Looking s i) (h : i < length s) where
  left : drop i s ≡ get_or s i 0 ∷ drop (suc i) s
  left = drop-cons s i 0 h

  pub looking-here : get_or s i 0 ≡ comma → Some i ≡ comma_at s
  looking-here e =
      let f : i + 0 ≡ i = omega arith in
      ap (λ (k : ℕ). Some k) (sym f) ∙ ap (option_map (λ k. i + k)) (sym (ap comma_at left ∙ at-comma (get_or s i 0) (drop (suc i) s) e)) ∙ p.rest

  pub looking-stops : get_or s i 0 ≡ LF → None ≡ comma_at s
  looking-stops e = ap (option_map (λ k. i + k)) (sym (ap comma_at left ∙ at-end (get_or s i 0) (drop (suc i) s) e)) ∙ p.rest

  pub looking-next : (get_or s i 0 ≡ comma → ⊥) → (get_or s i 0 ≡ LF → ⊥) → Looking s (i + 1)
  looking-next n m =
      let e : i + 1 ≡ suc i = omega arith in
      record {
        rest =
            ap (λ (j : ℕ). option_map (λ k. j + k) (comma_at (drop j s))) e
            ∙ one-on (comma_at (drop (suc i) s))
            ∙ ap (option_map (λ k. i + k)) (sym (ap comma_at left ∙ at-later (get_or s i 0) (drop (suc i) s) n m))
            ∙ p.rest;
      }
    where
      one-on : (o : Option ℕ) → option_map (λ k. suc i + k) o ≡ option_map (λ k. i + k) (option_map suc o)
      one-on None = refl
      one-on (Some k) = let f : suc i + k ≡ i + suc k = omega arith in ap (λ (k : ℕ). Some k) f

pub looking-start : (s : List ℕ) → Looking s 0
looking-start s = record { rest = go (comma_at s) }
  where
    go : (o : Option ℕ) → option_map (λ k. 0 + k) o ≡ o
    go None = refl
    go (Some k) = let f : 0 + k ≡ k = omega arith in ap (λ (k : ℕ). Some k) f

pub looking-end : {s : List ℕ} {i : ℕ} → Looking s i → length s ≤ i → None ≡ comma_at s
unfolding comma_at
looking-end {s} {i} p h = ap (λ (l : List ℕ). option_map (λ k. i + k) (comma_at l)) (sym (drop_of_length-le s {i = i} h)) ∙ p.rest
