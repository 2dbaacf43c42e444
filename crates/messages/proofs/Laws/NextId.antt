-- What the code of `homiq::next_id` answers, and that only one answer is right.
-- Assumes nothing.
use mathlib.Core.Bool.{false, true≢false}
use mathlib.Core.Path.{◌≡◌, refl, sym, ◌∙◌}
use Prim.Native.Nat.{ℕ, ◌≤◌, ◌<◌}
use native.Mathlib.Omega.{arith}
use lib.Dec.{eqb, lit<}
use Rattle.std.specs.Prelude.{Result, Ok, Err}
use Rattle.digits.proofs.Laws.Refusals.{same_answer, one_answer}
use Rattle.digits.specs.Paper.Refusals.{answers, refuses}
use Rattle.digits.specs.declared.refusal.Refusal.{Refusal}
use Rattle.digits.specs.declared.refusal.Refusal.TheVariants.{OutOfLimits}
use Rattle.layouts.specs.Paper.Homiq.{last_id}
use Rattle.messages.specs.Paper.NextId.{next_id, NextIdCause, no-id, next_id_refusal, next_id_value, Follows}
use Rattle.messages.proofs.Laws.Fives.{five, none}

module _ {i : ℕ} where
  only : (k : ℕ) → eqb k 5 ≡ false → NextIdCause i k → ⊥
  only k f (no-id h) = true≢false f

  pub next-refused : last_id < i → Follows i (Err OutOfLimits)
  next-refused h = refuses (lit< tt) (five only (no-id h))

  pub next-right : {n : ℕ} → i ≤ last_id → n ≡ next_id i → Follows i (Ok n)
  next-right {n} h e = answers (none only an-id) e
    where
      an-id : NextIdCause i 5 → ⊥
      an-id (no-id k) = omega arith

next-cases : (P : Result ℕ Refusal → Type 0) → ((n : ℕ) → P (Ok n)) → ((why : Refusal) → P (Err why)) → (r : Result ℕ Refusal) → P r
next-cases P f g (Ok n) = f n
next-cases P f g (Err why) = g why

pub one-next : (i : ℕ) (r q : Result ℕ Refusal) → Follows i r → Follows i q → r ≡ q
one-next i r q a b =
    let s = one_answer (λ u v x y. x ∙ sym y) a b in
    same_answer Ok Err next_id_refusal next_id_value (λ n. refl) (λ why. refl) (λ n. refl) next-cases r q s.0 s.1
