-- What is derived where names are compared is derived where they are not.
-- Assumes nothing.
use mathlib.Core.Bool.{Bool, true, false}
use mathlib.Core.Logic.{⊎_elim}
use mathlib.Core.Path.{◌≡◌, refl, ap}
use mathlib.Core.List.{List, ◌∷◌}
use Prim.Native.Nat.{ℕ, zero, suc}
use Rattle.jsontext.specs.Paper.Abnf.{Rule}
use Rattle.jsontext.specs.Work.Tight.{Lead, lead, leads, tight, Number, Elements, last, next, Rest, empty, full, Member, member, names_in, names_of}
use Rattle.jsontext.specs.Work.Units.{name_in}
use Rattle.jsontext.proofs.Laws.Chars.{equal}
use Rattle.jsontext.proofs.Laws.Values.{leads-number}
use Rattle.jsontext.proofs.Laws.Rules.{Within}

-- another rule in the place of one, between brackets: the names stay
pub record SameNames {p : Rule} (q : Rule) {close : ℕ} {s t : List ℕ} (x : Rest p close s t) : Type 0 where
  pub rest : Rest q close s t
  pub same : names_of rest ≡ names_of x

module _ {p q : Rule} {close : ℕ} (f : Within p q) where
  elements : {s t : List ℕ} → Elements p close s t → Elements q close s t
  elements (last x b e) = last (f _ _ x) b e
  elements (next x b e c r) = next (f _ _ x) b e c (elements r)

  same_in : {s t : List ℕ} (x : Elements p close s t) → names_in (elements x) ≡ names_in x
  unfolding names_in elements
  same_in (last x b e) = refl
  same_in (next {s = s} x b e c r) = ap {B = List (List ℕ)} (λ ns. name_in s ∷ ns) (same_in r)

  pub in_place : {s t : List ℕ} (x : Rest p close s t) → SameNames q x
  unfolding names_of
  in_place (empty b e) = record { rest = empty b e; same = refl }
  in_place (full b w r) = record { rest = full b w (elements r); same = same_in r }

pub member-in-place : {p q : Rule} → Within p q → Within (Member p) (Member q)
member-in-place f s t (member n x e y v) = member n x e y (f _ _ v)

-- by the first byte: one of six, or a number's
pub by_first : (P : ℕ → Type 0) → P 0x22 → P 0x7B → P 0x5B → P 0x74 → P 0x66 → P 0x6E
    → ((b : ℕ) → ((names : Bool) (v : Rule) (u t : List ℕ) → leads names v b u t ≡ Number (b ∷ u) t) → P b) → (b : ℕ) → P b
by_first P string object array yea nay null number b =
    ⊎_elim (λ e. rw e string)
    (λ n1. ⊎_elim (λ e. rw e object)
    (λ n2. ⊎_elim (λ e. rw e array)
    (λ n3. ⊎_elim (λ e. rw e yea)
    (λ n4. ⊎_elim (λ e. rw e nay)
    (λ n5. ⊎_elim (λ e. rw e null) (λ n6. number b (λ names v u t. leads-number names v b u t n1 n2 n3 n4 n5 n6))
    (equal b 0x6E)) (equal b 0x66)) (equal b 0x74)) (equal b 0x5B)) (equal b 0x7B)) (equal b 0x22)

-- of a value one less deep, and of all
led : {p q : Rule} → Within p q → (b : ℕ) → Within (leads true p b) (leads false q b)
unfolding leads
led {p} {q} f b u t =
    by_first (λ n. leads true p n u t → leads false q n u t)
    (λ x. x) (λ x. record { members = (in_place (member-in-place f) x.members).rest; once = tt }) (λ x. (in_place f x).rest)
    (λ x. x) (λ x. x) (λ x. x) (λ c e x. rw (e false q u t) (rw (e true p u t) at x)) b

-- behind a first byte
lead-in-place : {f g : ℕ → Rule} → ((b : ℕ) → Within (f b) (g b)) → Within (Lead f) (Lead g)
lead-in-place h s t (lead {b = b} {u = u} e x) = lead e (h b u t x)

pub weaken : (d : ℕ) (s t : List ℕ) → tight true d s t → tight false d s t
unfolding tight
weaken zero s t x = absurd x
weaken (suc d) s t x = lead-in-place (led (weaken d)) s t x

-- the members of an object, with the same names
pub weaken-rest : (d : ℕ) {s t : List ℕ} (x : Rest (Member (tight true d)) 0x7D s t) → SameNames (Member (tight false d)) x
weaken-rest d x = in_place (member-in-place (weaken d)) x
