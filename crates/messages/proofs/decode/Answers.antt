-- `messages::decode` meets its contract: a number that is no kind's is refused, and else the kind's own decoder answers.
-- Assumes nothing.
use mathlib.Core.Path.{sym, ◌∙◌, subst}
use Prim.Native.Nat.{ℕ}
use Rattle.std.proofs.lemmas.Result.{err_from_is_err_and}
use Rattle.frames.proofs.Laws.Kinds.{asked-kind, asked-none}
use Rattle.frames.proofs.Laws.OneFrame.{whole-no-kind}
use Rattle.digits.proofs.Laws.Refusals.{cause-of}
use Rattle.digits.specs.declared.refusal.Refusal.TheVariants.{NoKind}
use Rattle.messages.specs.Paper.Answers.{Decodes}
use Rattle.messages.proofs.Laws.Cases.{undecoded}
use Rattle.messages.proofs.Laws.Decode.{first-decode}
use Rattle.messages.proofs.decode.Goals as goal

pub returns-in_err-ok_or : goal.returns-in_err-ok_or
returns-in_err-ok_or c =
    let p = err_from_is_err_and c.from_residual.result c.from_residual.ensures.1 in
    let u = asked-none c.of.result _ c.of.ensures (sym c.ok_or.ensures.value ∙ c.in_err-ok_or.was) in
    rw (p.1, p.2, u.1) (undecoded NoKind (first-decode (cause-of (whole-no-kind u.0))))

pub returns : goal.returns
returns c =
    subst (λ (k : ℕ). Decodes k c.args.frame.now c.decode_as.result)
    (asked-kind c.of.result _ c.of.ensures (sym c.ok_or.ensures.value ∙ c.in_ok-ok_or.was)) c.decode_as.ensures
