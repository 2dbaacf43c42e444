-- Homiq's fields, taken off CMD to TYPE one after the other.
-- Assumes nothing.
use mathlib.Core.Path.{◌≡◌, sym, ap, ◌∙◌}
use mathlib.Core.Bool.{Bool, true, false, cond}
use mathlib.Core.List.{List, [], ◌∷◌}
use Prim.Native.Nat.{ℕ, suc, ◌+◌, ◌≤◌}
use native.Mathlib.Omega.{arith}
use lib.Dec.{eqb}
use lib.ListN.{length, drop, drop_of_length-le}
use Rattle.digits.specs.Paper.Bytes.{part}
use Rattle.digits.proofs.Laws.Parts.{part-rest}
use Rattle.messages.specs.Paper.Homiq.{up_to, past}
use Rattle.messages.proofs.Laws.HomiqLook.{past-field}

pub field-le : (s : List ℕ) → length (up_to s) ≤ length s
unfolding up_to
field-le [] = omega arith
field-le (x ∷ s) = go (eqb x 59) (field-le s)
  where
    go : (b : Bool) → length (up_to s) ≤ length s → length (cond b [] (x ∷ up_to s)) ≤ length (x ∷ s)
    go true h = omega arith
    go false h = omega arith

module _ (s : List ℕ) (n : ℕ) (e : n ≡ length (up_to s)) where
  pub rest-behind : part (n + 1) (length s) s ≡ past s
  rest-behind =
      let f : n + 1 ≡ suc (length (up_to s)) = omega arith in
      part-rest (n + 1) s ∙ ap (λ (i : ℕ). drop i s) f ∙ sym (past-field s)

  pub nothing-behind : length s ≤ n → part n (length s) s ≡ past s
  nothing-behind h =
      let more : length s ≤ suc (length (up_to s)) = omega arith in
      part-rest n s ∙ drop_of_length-le s h ∙ sym (past-field s ∙ drop_of_length-le s more)
