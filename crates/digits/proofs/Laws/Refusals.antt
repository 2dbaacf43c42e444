-- Refusals: no two have the same number; the first cause that applies is one, and so there is one answer.
-- Assumes nothing.
use mathlib.Core.Path.{◌≡◌, refl, sym, ap, ◌∙◌}
use Prim.Native.Nat.{ℕ, ◌-◌, ◌<◌}
use native.Mathlib.Omega.{arith}
use mathlib.Core.Bool.{Bool, true, false, cond}
use mathlib.Core.List.{List, [], ◌∷◌}
use lib.Dec.{lit<}
use lib.ListN.{get_or}
use Rattle.digits.specs.Paper.Refusals.{refusal_number, refusal_order, First, clear, here, after, Answers, answers, refuses}
use Rattle.digits.specs.declared.refusal.Refusal.{Refusal}
use Rattle.digits.specs.declared.refusal.Refusal.TheVariants.{NoFrame, NoKind, NoPlace, NoRoom, OutOfLimits, ContentAbove, BadForm, NoBook, NoRegister, BadSheet, NotInGrammar, BadMembers}

-- ---- the table

abbrev named : ℕ → Refusal
named n = get_or (NoFrame ∷ NoKind ∷ NoPlace ∷ NoRoom ∷ OutOfLimits ∷ ContentAbove ∷ BadForm ∷ NoBook ∷ NoRegister ∷ BadSheet ∷ NotInGrammar ∷ BadMembers ∷ []) (n - 1) NoFrame

name_of : (p : Refusal) → named (refusal_number p) ≡ p
name_of NoFrame = refl
name_of NoKind = refl
name_of NoPlace = refl
name_of NoRoom = refl
name_of OutOfLimits = refl
name_of ContentAbove = refl
name_of BadForm = refl
name_of NoBook = refl
name_of NoRegister = refl
name_of BadSheet = refl
name_of NotInGrammar = refl
name_of BadMembers = refl

pub one-refusal : (p q : Refusal) → refusal_number p ≡ refusal_number q → p ≡ q
one-refusal p q e = sym (name_of p) ∙ ap named e ∙ name_of q

-- a refusal is never taken for an answer, whose number is 0
pub some_number : (p : Refusal) → 0 < refusal_number p
some_number NoFrame = lit< tt
some_number NoKind = lit< tt
some_number NoPlace = lit< tt
some_number NoRoom = lit< tt
some_number OutOfLimits = lit< tt
some_number ContentAbove = lit< tt
some_number BadForm = lit< tt
some_number NoBook = lit< tt
some_number NoRegister = lit< tt
some_number BadSheet = lit< tt
some_number NotInGrammar = lit< tt
some_number BadMembers = lit< tt

-- ---- the first cause

pub one-first : {Cause : ℕ → Type 0} {l : List ℕ} {p q : ℕ} → First Cause l p → First Cause l q → p ≡ q
one-first clear clear = refl
one-first (here c) (here d) = refl
one-first (here c) (after n f) = absurd (n c)
one-first (after n f) (here c) = absurd (n c)
one-first (after n f) (after m g) = one-first f g

-- the cause of the number that is answered
pub cause-at : {Cause : ℕ → Type 0} {l : List ℕ} {no : ℕ} → First Cause l no → 0 < no → Cause no
cause-at clear h = absurd (omega arith)
cause-at (here c) h = c
cause-at (after n f) h = cause-at f h

-- the numbers of a list that pass a test
abbrev pub keep : (ℕ → Bool) → List ℕ → List ℕ
keep known [] = []
keep known (k ∷ l) = cond (known k) (k ∷ keep known l) (keep known l)

one_more : {Cause : ℕ → Type 0} {k r : ℕ} {l m : List ℕ} → First Cause (k ∷ m) r → ((q : ℕ) → First Cause m q → First Cause l q) → First Cause (k ∷ l) r
one_more (here c) rest = here c
one_more {r = r} (after n g) rest = after n (rest r g)

-- a number that a call has no cause for is passed over
pub pass-over : {Cause : ℕ → Type 0} (known : ℕ → Bool) → ((k : ℕ) → known k ≡ false → Cause k → ⊥)
    → (l : List ℕ) {r : ℕ} → First Cause (keep known l) r → First Cause l r
pass-over known none [] f = f
pass-over {Cause} known none (k ∷ l) {r} f = go (known k) refl (λ q g. pass-over known none l {r = q} g) f
  where
    go : (b : Bool) → known k ≡ b → ((q : ℕ) → First Cause (keep known l) q → First Cause l q)
        → First Cause (cond b (k ∷ keep known l) (keep known l)) r → First Cause (k ∷ l) r
    go false e rest g = after (none k e) (rest r g)
    go true e rest g = one_more g rest

-- ---- answers

-- An answer that is an enum of a value and a refusal is its number and its value.
module _ {R A : Type 0} (is : A → R) (no : Refusal → R) (number : R → ℕ) (value : R → A)
    (is-0 : (a : A) → number (is a) ≡ 0) (no-is : (why : Refusal) → number (no why) ≡ refusal_number why) (is-value : (a : A) → value (is a) ≡ a)
    (cases : (P : R → Type 0) → ((a : A) → P (is a)) → ((why : Refusal) → P (no why)) → (r : R) → P r) where
  never : {X : Type 0} (a : A) (why : Refusal) → number (is a) ≡ number (no why) → X
  never a why e = let f : 0 ≡ refusal_number why = sym (is-0 a) ∙ e ∙ no-is why in absurd (omega (arith, some_number why))

  pub same_answer : (r q : R) → number r ≡ number q → value r ≡ value q → r ≡ q
  same_answer =
      cases (λ r. (q : R) → number r ≡ number q → value r ≡ value q → r ≡ q)
      (λ a. cases (λ q. number (is a) ≡ number q → value (is a) ≡ value q → is a ≡ q)
      (λ b e f. ap is (sym (is-value a) ∙ f ∙ is-value b)) (λ why e f. never a why e))
      (λ why. cases (λ q. number (no why) ≡ number q → value (no why) ≡ value q → no why ≡ q)
      (λ a e f. never a why (sym e)) (λ other e f. ap no (one-refusal why other (sym (no-is why) ∙ e ∙ no-is other))))

module _ {A : Type 0} {zeros : A} {Cause : ℕ → Type 0} {Right : A → Type 0} where
  -- an answer of number 0 is right, and no cause applied
  pub answered : {k : ℕ} {v : A} → Answers zeros Cause Right k v → k ≡ 0 → Right v
  answered (answers f r) e = r
  answered (refuses p f) e = absurd (omega arith)

  -- a refusal's number is the first cause's
  pub cause-of : {k : ℕ} {v : A} → Answers zeros Cause Right k v → First Cause refusal_order k
  cause-of (answers f r) = f
  cause-of (refuses p f) = f

  -- and its value is zeros
  pub refused-zeros : {k : ℕ} {v : A} → Answers zeros Cause Right k v → 0 < k → v ≡ zeros
  refused-zeros (answers f r) h = absurd (omega arith)
  refused-zeros (refuses p f) h = refl

  -- where only one value is right, two answers are the same
  pub one_answer : ((u v : A) → Right u → Right v → u ≡ v)
      → {j k : ℕ} {u v : A} → Answers zeros Cause Right j u → Answers zeros Cause Right k v → (j ≡ k) × (u ≡ v)
  one_answer one (answers {v = u} f r) (answers {v = v} g s) = (refl, one u v r s)
  one_answer one (answers f r) (refuses p g) = let e = one-first f g in absurd (omega arith)
  one_answer one (refuses p f) (answers g s) = let e = one-first f g in absurd (omega arith)
  one_answer one (refuses p f) (refuses q g) = (one-first f g, refl)
