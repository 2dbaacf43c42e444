-- What `members::count` tells of how many members an object has.
-- Assumes nothing.
use mathlib.Core.Bool.{Bool, true, false}
use mathlib.Core.List.{List}
use mathlib.Core.Path.{◌≡◌, refl, sym, ap, subst, ◌∙◌}
use Prim.Native.Nat.{ℕ}
use lib.Dec.{eqb}
use lib.ListN.{length}
use borrow.Author.Tests.{eqb-true, eqb-false}
use Rattle.digits.proofs.Laws.Refusals.{some_number, answered, cause-of, cause-at}
use Rattle.digits.specs.Paper.Read.{Decides, holds, fails}
use Rattle.digits.specs.declared.refusal.Refusal.{Refusal}
use Rattle.jsontext.proofs.Theorems.{one-object}
use Rattle.jsontext.specs.Paper.Members.{CountCause, no-object, CountOf, Counts}
use Rattle.jsontext.specs.Paper.Names.{Member}
use Rattle.std.specs.Prelude.{Ok, Err, Result}
use Rattle.std.specs.Result.{result_eq}

pub one-count : {s : List ℕ} {m n : ℕ} → CountOf s m → CountOf s n → m ≡ n
one-count {s} x y = x.is ∙ ap {B = ℕ} (λ (l : List Member). length l) (one-object s _ _ x.object y.object) ∙ sym y.is

none-counted : {s : List ℕ} {k n : ℕ} → CountCause s k → CountOf s n → ⊥
none-counted (no-object f) x = f x.members x.object

pub counted : {s : List ℕ} {m : ℕ} (n : ℕ) → Counts s (Ok m) → Decides (CountOf s n) (eqb m n)
counted {s} {m} n a = by (eqb m n) refl
  where
    is : CountOf s m
    is = answered a refl

    by : (b : Bool) → eqb m n ≡ b → Decides (CountOf s n) b
    by true f = holds (subst (CountOf s) (eqb-true m n f) is)
    by false f = fails (λ x. eqb-false m n f (one-count is x))

pub uncounted : {s : List ℕ} (why : Refusal) (n : ℕ) → Counts s (Err why) → Decides (CountOf s n) false
uncounted why n a = fails (none-counted (cause-at (cause-of a) (some_number why)))

-- by comparing the count
pub count_told : {s : List ℕ} (r : Result ℕ Refusal) (n : ℕ) (same : Refusal → Refusal → Bool) {b : Bool} → Counts s r → b ≡ result_eq eqb same r (Ok n)
    → Decides (CountOf s n) b
count_told (Ok m) n same a e = rw e (counted n a)
count_told (Err why) n same a e = rw e (uncounted why n a)
