-- Answers taken apart: a value or a reason; and two of them as one.
-- Assumes nothing.
use mathlib.Core.Bool.{true≢false, cond, Bool, true, false}
use mathlib.Core.Path.{◌≡◌, refl, sym, ap, ◌∙◌}
use Prim.Native.Nat.{ℕ, ◌≤◌}
use lib.Dec.{eqb}
use borrow.Author.Tests.{eqb-true, eqb-false}
use Rattle.std.specs.Prelude.{Result, Ok, Err, is_ok, IfOk}
use Rattle.std.proofs.lemmas.Result.{IfOk-at_ok}
use Rattle.asked.specs.declared.values.Reason.{Reason}
use Rattle.asked.specs.declared.values.Reason.TheVariants.{NoValue}
use Rattle.asked.specs.Work.Got.{joined, exact_of, firm_of}

-- ---- one answer

pub ok-value : {A E : Type 0} {x y : A} → ◌≡◌ {A = Result A E} (Ok x) (Ok y) → x ≡ y
ok-value e = cc

pub no-answer : {A E : Type 0} {x : A} {why : E} → ◌≡◌ {A = Result A E} (Ok x) (Err why) → ⊥
no-answer e = true≢false (ap is_ok e)

pub bounded : {r : Result ℕ Reason} {n : ℕ} (k : ℕ) → IfOk r (λ i. i ≤ k) → r ≡ Ok n → n ≤ k
bounded k h e = IfOk-at_ok (λ i. i ≤ k) e h

-- ---- two answers as one

module _ {A B : Type 0} where
  joined-ok : (a : Result A Reason) (b : Result B Reason) {v : A × B} → joined a b ≡ Ok v → (a ≡ Ok v.0) × (b ≡ Ok v.1)
  joined-ok (Ok x) (Ok y) e = let p = ok-value e in (ap (λ (q : A × B). Ok q.0) p, ap (λ (q : A × B). Ok q.1) p)
  joined-ok (Ok x) (Err w) e = absurd (no-answer (sym e))
  joined-ok (Err w) (Ok y) e = absurd (no-answer (sym e))
  joined-ok (Err w) (Err u) e = absurd (no-answer (sym e))

  -- both are answered
  pub both-are : (a : Result A Reason) (b : Result B Reason) {r : Result (A × B) Reason} {v : A × B} → r ≡ joined a b → r ≡ Ok v
      → (a ≡ Ok v.0) × (b ≡ Ok v.1)
  both-are a b e f = joined-ok a b (sym e ∙ f)

-- ---- a list of so many elements

pub exact-are : (r : Result ℕ Reason) (n : ℕ) {u : Unit} → exact_of r n ≡ Ok u → r ≡ Ok n
exact-are (Ok k) n {u} e = by (eqb k n) refl e
  where
    by : (b : Bool) → eqb k n ≡ b → ◌≡◌ {A = Result Unit Reason} (cond b (Ok tt) (Err NoValue)) (Ok u) → ◌≡◌ {A = Result ℕ Reason} (Ok k) (Ok n)
    by true f g = ap Ok (eqb-true k n f)
    by false f g = absurd (no-answer (sym g))
exact-are (Err w) n e = absurd (no-answer (sym e))

pub inexact : (r : Result ℕ Reason) (n : ℕ) {why : Reason} → exact_of r n ≡ Err why → (why ≡ NoValue) × (r ≡ Ok n → ⊥)
inexact (Ok k) n {why} e = by (eqb k n) refl e
  where
    by : (b : Bool) → eqb k n ≡ b → ◌≡◌ {A = Result Unit Reason} (cond b (Ok tt) (Err NoValue)) (Err why)
        → (why ≡ NoValue) × (◌≡◌ {A = Result ℕ Reason} (Ok k) (Ok n) → ⊥)
    by true f g = absurd (no-answer g)
    by false f g = (cc, λ h. eqb-false k n f (ok-value h))
inexact (Err w) n e = (cc, λ h. no-answer (sym h))

-- ---- an answer for which a large value is none

pub firm-is : {A : Type 0} (r : Result A Reason) {v : A} → firm_of r ≡ Ok v → r ≡ Ok v
firm-is (Ok x) e = e
firm-is (Err w) e = absurd (no-answer (sym e))

pub firm-none : {A : Type 0} (r : Result A Reason) {why : Reason} → firm_of r ≡ Err why → (why ≡ NoValue) × (w : Reason) × (r ≡ Err w)
firm-none (Ok x) e = absurd (no-answer e)
firm-none (Err w) e = (cc, w, refl)
