-- A string walked unit by unit; and two lists walked in step.
-- Assumes nothing.
use mathlib.Core.Logic.{⊎_elim}
use mathlib.Core.Path.{◌≡◌, sym, ap, subst, ◌∙◌}
use mathlib.Core.Bool.{Bool, false, true, not, true≢false}
use mathlib.Core.List.{List, [], ◌∷◌, ◌++◌}
use Prim.Native.Nat.{ℕ, ◌-◌, ◌≤◌, ◌<◌, min}
use native.Mathlib.Omega.{arith}
use lib.ListN.{length, get_or, take, drop, length-drop}
use lib.Seq.{take_all}
use Rattle.std.specs.Option.{MatchOption, is_some}
use Rattle.std.specs.Prelude.{Option, None, Some}
use Rattle.digits.specs.Paper.Read.{Decides, holds, fails}
use Rattle.jsontext.specs.Work.Names.{left}
use Rattle.jsontext.specs.Work.Units.{units, units_of, size_of, code_of, four_of, high_of, low_of}
use Rattle.jsontext.proofs.Laws.Characters.{narrow, wide}
use Rattle.jsontext.proofs.Laws.Chars.{less}
use Rattle.jsontext.proofs.Laws.Places.{tail_of, head_of, nothing, at-end, at_place, stands}
use Rattle.jsontext.proofs.Laws.Units.{units-end, units-quote, units-step}

-- m is the least of the character's size and the length of what is left
module _ (t : List ℕ) (h : 0 < length t) (f : (get_or t 0 0 ≡ 0x22) → ⊥) {m n : ℕ} (size : n ≡ size_of t)
    (least : m ≡ min n (length t)) where
  split : units t ≡ units_of t ++ units (drop (size_of t) t)
  split =
      subst (λ (l : List ℕ). units l ≡ units_of l ++ units (drop (size_of l) l)) (sym (at_place t 0 h))
      (units-step (get_or t 0 0) (drop 1 t) f)

  -- the place behind the character, or the end
  behind : drop (size_of t) t ≡ drop m t
  behind =
      ⊎_elim (λ x. at-end t (size_of t) (omega arith) ∙ sym (at-end t m (omega arith)))
      (λ x. ap (λ (i : ℕ). drop i t) (let e : m ≡ n = omega arith in sym (e ∙ size))) (less (length t) n)

  pub one_unit : get_or t 0 0 < 0xF0 → units t ≡ code_of t ∷ units (drop m t)
  one_unit b =
      split ∙ ap {B = List ℕ} (λ l. l ++ units (drop (size_of t) t)) (narrow t b) ∙ ap {B = List ℕ} (λ l. code_of t ∷ units l) behind

  pub two-units : 0xF0 ≤ get_or t 0 0 → units t ≡ high_of (four_of t) ∷ low_of (four_of t) ∷ units (drop m t)
  two-units b =
      split ∙ ap {B = List ℕ} (λ l. l ++ units (drop (size_of t) t)) (wide t b)
      ∙ ap {B = List ℕ} (λ l. high_of (four_of t) ∷ low_of (four_of t) ∷ units l) behind

-- ---- the next unit

none-waits : {o : Option ℕ} (t : List ℕ) → o ≡ None → left o t ≡ units t
none-waits t w = ap (λ (o : Option ℕ). left o t) w

pub at-the-end : {o : Option ℕ} (t : List ℕ) → o ≡ None → length t ≡ 0 → left o t ≡ []
at-the-end t w e = none-waits t w ∙ ap units (at-end t 0 (omega arith)) ∙ units-end

pub at-the-mark : {o : Option ℕ} (t : List ℕ) → o ≡ None → 0 < length t → get_or t 0 0 ≡ 0x22 → left o t ≡ []
at-the-mark t w h q = none-waits t w ∙ ap units (stands t 0 0x22 h q) ∙ units-quote (drop 1 t)

-- what is left, as a slice of it
cut : (t : List ℕ) (m : ℕ) → drop m t ≡ take (length t - m) (drop m t)
cut t m = sym (take_all (length t - m) (drop m t) (omega (arith, length-drop m t)))

module _ {o : Option ℕ} (t : List ℕ) (w : o ≡ None) (h : 0 < length t) (f : (get_or t 0 0 ≡ 0x22) → ⊥) {m n : ℕ} (size : n ≡ size_of t)
    (least : m ≡ min n (length t)) where
  pub one_taken : {u : ℕ} → get_or t 0 0 < 0xF0 → u ≡ code_of t → left o t ≡ u ∷ left o (take (length t - m) (drop m t))
  one_taken {u} b q =
      none-waits t w ∙ one_unit t h f size least b ∙ ap {B = List ℕ} (λ n. n ∷ units (drop m t)) (sym q)
      ∙ ap {B = List ℕ} (λ l. u ∷ units l) (cut t m) ∙ ap {B = List ℕ} (λ l. u ∷ l) (sym (none-waits (take (length t - m) (drop m t)) w))

  pub two_taken : {c : ℕ} → 0xF0 ≤ get_or t 0 0 → c ≡ four_of t → left o t ≡ high_of c ∷ low_of c ∷ units (take (length t - m) (drop m t))
  two_taken {c} b q =
      none-waits t w ∙ two-units t h f size least b ∙ ap {B = List ℕ} (λ n. high_of n ∷ low_of n ∷ units (drop m t)) (sym q)
      ∙ ap {B = List ℕ} (λ l. high_of c ∷ low_of c ∷ units l) (cut t m)

pub fewer : {xs ys : List ℕ} {u : ℕ} → xs ≡ u ∷ ys → length ys < length xs
fewer e = omega (arith, ap length e)

-- ---- two lists in step: what is left of both tells of all

pub record Walked (xs ys us vs : List ℕ) : Type 0 where
  pub there : xs ≡ ys → us ≡ vs
  pub back : us ≡ vs → xs ≡ ys

pub set_out : {xs ys us vs : List ℕ} → us ≡ xs → vs ≡ ys → Walked xs ys us vs
set_out e f = record { there = λ g. e ∙ g ∙ sym f; back = λ g. sym e ∙ g ∙ f }

module _ {xs ys us vs : List ℕ} (w : Walked xs ys us vs) where
  pub walk-on : {u v : ℕ} {ms ns : List ℕ} → us ≡ u ∷ ms → vs ≡ v ∷ ns → u ≡ v → Walked xs ys ms ns
  walk-on {u} {v} {ms} {ns} e f g =
      record { there = λ i. tail_of (sym e ∙ w.there i ∙ f); back = λ i. w.back (e ∙ ap {B = List ℕ} (λ n. n ∷ ms) g ∙ ap {B = List ℕ} (λ l. v ∷ l) i ∙ sym f) }

  pub differ : {u v : ℕ} {ms ns : List ℕ} → us ≡ u ∷ ms → vs ≡ v ∷ ns → ((u ≡ v) → ⊥) → Decides (xs ≡ ys) false
  differ e f g = fails (λ i. g (head_of (sym e ∙ w.there i ∙ f)))

  pub longer : {u : ℕ} {ms : List ℕ} → us ≡ u ∷ ms → vs ≡ [] → Decides (xs ≡ ys) false
  longer e f = fails (λ i. nothing (sym f ∙ sym (w.there i) ∙ e))

  pub shorter : {v : ℕ} {ns : List ℕ} → us ≡ [] → vs ≡ v ∷ ns → Decides (xs ≡ ys) false
  shorter e f = fails (λ i. nothing (sym e ∙ w.there i ∙ f))

  -- one is at its end, and b says whether the other is
  pub first_ends : (ns : List ℕ) (r : Option ℕ) (b : Bool) → is_some r ≡ not b → us ≡ [] → MatchOption r ((vs ≡ []) × (ns ≡ [])) (λ x. vs ≡ x ∷ ns)
      → Decides (xs ≡ ys) b
  first_ends ns None true q e f = holds (w.back (e ∙ sym f.0))
  first_ends ns None false q e f = absurd (true≢false (sym q))
  first_ends ns (Some x) true q e f = absurd (true≢false q)
  first_ends ns (Some x) false q e f = shorter e f

  pub second_ends : (ms : List ℕ) (r : Option ℕ) (b : Bool) → is_some r ≡ not b → vs ≡ [] → MatchOption r ((us ≡ []) × (ms ≡ [])) (λ x. us ≡ x ∷ ms)
      → Decides (xs ≡ ys) b
  second_ends ms None true q e f = holds (w.back (f.0 ∙ sym e))
  second_ends ms None false q e f = absurd (true≢false (sym q))
  second_ends ms (Some x) true q e f = absurd (true≢false q)
  second_ends ms (Some x) false q e f = longer f e
