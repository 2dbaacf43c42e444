-- What stands at a place.
-- Assumes nothing.
use mathlib.Core.Path.{◌≡◌, refl, sym, ap, subst, ◌∙◌}
use mathlib.Core.Bool.{Bool, true, false}
use mathlib.Core.List.{List, [], ◌∷◌}
use Prim.Native.Nat.{ℕ, zero, suc, ◌+◌, ◌≤◌, ◌<◌}
use native.Mathlib.Numerals.{add-one}
use native.Mathlib.Omega.{arith}
use lib.ListN.{length, get_or, drop}
use lib.Seq.{drop-cons}
use Rattle.std.specs.Prelude.{Option, None, Some}
use Rattle.jsontext.specs.Paper.Abnf.{Rule, byte, ◌⨾◌}
use Rattle.jsontext.specs.Work.Tight.{Without}
use Rattle.digits.specs.Paper.Read.{Decides, holds, fails}
use Rattle.jsontext.specs.Work.Found.{Found, ends, none}

pub tail_of : {x y : ℕ} {u v : List ℕ} → x ∷ u ≡ y ∷ v → u ≡ v
tail_of e = cc

pub head_of : {x y : ℕ} {u v : List ℕ} → x ∷ u ≡ y ∷ v → x ≡ y
head_of e = cc

pub nothing : {x : ℕ} {u : List ℕ} → [] ≡ x ∷ u → ⊥
nothing e = let z : ◌≡◌ {A = ℕ} 0 1 = cc in omega arith

-- the element at a place, and what is left behind it
pub at_place : (s : List ℕ) (i : ℕ) → i < length s → drop i s ≡ get_or s i 0 ∷ drop (i + 1) s
at_place s i h = rw (add-one, drop-cons s i 0)

pub at-end : (s : List ℕ) (i : ℕ) → length s ≤ i → drop i s ≡ []
at-end [] zero h = refl
at-end [] (suc i) h = refl
at-end (x ∷ s) zero h = absurd (omega arith)
at-end (x ∷ s) (suc i) h = at-end s i (omega arith)

-- that a byte stands at a place
pub stands : (s : List ℕ) (i b : ℕ) → i < length s → get_or s i 0 ≡ b → drop i s ≡ b ∷ drop (i + 1) s
stands s i b h e = at_place s i h ∙ ap {B = List ℕ} (λ x. x ∷ drop (i + 1) s) e

pub not_there : (s : List ℕ) (i b : ℕ) → i < length s → ((get_or s i 0 ≡ b) → ⊥) → Without (byte b) (drop i s)
not_there s i b h f t e = f (head_of (sym (at_place s i h) ∙ e))

pub past : (s : List ℕ) (i b : ℕ) → length s ≤ i → Without (byte b) (drop i s)
past s i b h t e = nothing (sym (at-end s i h) ∙ e)

-- the same answer for a rule with the same meaning
pub same-found : {a b : Rule} {s : List ℕ} {p : ℕ} {r : Option ℕ} → ((t : List ℕ) → a (drop p s) t → b (drop p s) t) → ((t : List ℕ) → b (drop p s) t → a (drop p s) t) → Found a s p r → Found b s p r
same-found f g (ends h k x o) = ends h k (f _ x) (λ t y. o t (g t y))
same-found f g (none n) = none (λ t y. n t (g t y))

-- an answer for what stands one byte further on
pub after-byte : {a b : Rule} {s : List ℕ} {p : ℕ} {r : Option ℕ} → ((t : List ℕ) → a (drop (p + 1) s) t → b (drop p s) t) → ((t : List ℕ) → b (drop p s) t → a (drop (p + 1) s) t) → Found a s (p + 1) r → Found b s p r
after-byte {p = p} f g (ends {r} h k x o) = let l : p < r = omega arith in ends l k (f _ x) (λ t y. o t (g t y))
after-byte f g (none n) = none (λ t y. n t (g t y))

-- one byte
pub one : {b : ℕ} {s : List ℕ} {p : ℕ} → p < length s → get_or s p 0 ≡ b → Found (byte b) s p (Some (p + 1))
one {b} {s} {p} h e =
    let l : p < p + 1 = omega arith in
    let k : p + 1 ≤ length s = omega arith in
    ends l k (stands s p b h e) (λ t x. tail_of (sym x ∙ stands s p b h e))

pub other : {b : ℕ} {s : List ℕ} {p : ℕ} → p < length s → ((get_or s p 0 ≡ b) → ⊥) → Found (byte b) s p None
other {b} {s} {p} h f = none (not_there s p b h f)

pub beyond : {b : ℕ} {s : List ℕ} {p : ℕ} → length s ≤ p → Found (byte b) s p None
beyond {b} {s} {p} h = none (past s p b h)

-- no answer, and a place
pub not_found : {a : Rule} {s : List ℕ} {p : ℕ} → Found a s p None → Without a (drop p s)
not_found (none n) = n

pub record Ends (a : Rule) (s : List ℕ) (p r : ℕ) : Type 0 where
  pub on : p < r
  pub within : r ≤ length s
  pub is : a (drop p s) (drop r s)
  pub only : (t : List ℕ) → a (drop p s) t → t ≡ drop r s

pub found : {a : Rule} {s : List ℕ} {p r : ℕ} → Found a s p (Some r) → Ends a s p r
found (ends h k x o) = record { on = h; within = k; is = x; only = o }

-- one behind the other
pub then-none : {a b : Rule} {s : List ℕ} {p : ℕ} → Found a s p None → Found (a ⨾ b) s p None
then-none f = none (λ t x. not_found f x.0 x.1)

pub then_found : {a b : Rule} {s : List ℕ} {p q : ℕ} {r : Option ℕ} → Ends a s p q → Found b s q r → Found (a ⨾ b) s p r
then_found {a} {b} {s} {p} {q} x (ends {r} h k y o) =
    let l : p < r = omega (arith, x.on) in
    ends l k (drop q s, x.is, y) (λ t z. o t (subst (λ (l : List ℕ). b l t) (x.only z.0 z.1) z.2))
then_found {a} {b} x (none n) = none (λ t z. n t (subst (λ (l : List ℕ). b l t) (x.only z.0 z.1) z.2))

-- tests
never : true ≡ false → ⊥
never e = let z : ◌≡◌ {A = ℕ} 0 1 = cc in omega arith

pub told-yes : {A : Type 0} {b : Bool} → Decides A b → b ≡ true → A
told-yes (holds a) e = a
told-yes (fails f) e = absurd (never (sym e))

pub told-no : {A : Type 0} {b : Bool} → Decides A b → b ≡ false → A → ⊥
told-no (holds a) e = absurd (never e)
told-no (fails f) e = f
