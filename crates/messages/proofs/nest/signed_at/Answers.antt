-- `messages::nest::signed_at` meets its contract: the bits of the number, read as signed.
-- Assumes nothing.
use mathlib.Core.Path.{sym, ap, subst, ◌∙◌}
use Prim.Native.Nat.{ℕ, ◌<◌}
use mir.Syntax.{w16}
use mir.Val.{to_z, of_z}
use lib.IntN.{ℤ}
use Rattle.messages.specs.Work.Look.{of_twos}
use Rattle.messages.proofs.Laws.Responses.{signed-is}
use Rattle.messages.proofs.Laws.Words.{word_lt}
use Rattle.messages.proofs.nest.signed_at.Goals as goal

pub returns : goal.returns
returns c =
    let below : c.word.result < 65536 = subst (λ (x : ℕ). x < 65536) (sym c.word.ensures) (word_lt c.args.at c.args.s.now (record { each = λ i. (c.type_inv.s i).fits })) in
    ap (λ (z : ℤ). to_z w16 (of_z w16 z)) c.cast_signed.ensures ∙ signed-is c.word.result below ∙ ap of_twos c.word.ensures
