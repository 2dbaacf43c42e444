-- `messages::find` meets its contract: a number that is no kind's is refused, and else the kind's own search and decoder answer.
-- Assumes nothing.
use mathlib.Core.Path.{sym, ◌∙◌, subst}
use Prim.Native.Nat.{ℕ}
use Rattle.std.proofs.lemmas.Result.{err_from_is_err_and}
use Rattle.frames.proofs.Laws.Kinds.{asked-kind, asked-none}
use Rattle.frames.proofs.Laws.Seek.{no_kind}
use Rattle.digits.specs.declared.refusal.Refusal.TheVariants.{NoKind}
use Rattle.messages.specs.Paper.Answers.{Finds}
use Rattle.messages.proofs.Laws.Cases.{unfound}
use Rattle.messages.proofs.find.Goals as goal

pub returns-in_err-ok_or : goal.returns-in_err-ok_or
returns-in_err-ok_or c =
    let p = err_from_is_err_and c.from_residual.result c.from_residual.ensures.1 in
    let u = asked-none c.of.result _ c.of.ensures (sym c.ok_or.ensures.value ∙ c.in_err-ok_or.was) in
    rw (p.1, p.2, u.1) (unfound NoKind (no_kind c.args.buffer.now c.args.place u.0))

pub returns : goal.returns
returns c =
    subst (λ (k : ℕ). Finds k c.args.buffer.now c.args.place c.find_as.result)
    (asked-kind c.of.result _ c.of.ensures (sym c.ok_or.ensures.value ∙ c.in_ok-ok_or.was)) c.find_as.ensures
