-- `frames::one_frame` meets its contract: a number that is no kind's is refused, and else the kind's own test answers.
-- Assumes nothing.
use mathlib.Core.Path.{sym, ◌∙◌}
use Rattle.std.proofs.lemmas.Result.{err_from_is_err_and}
use Rattle.frames.proofs.Laws.Kinds.{asked-none}
use Rattle.frames.proofs.Laws.OneFrame.{whole-no-kind}
use Rattle.frames.proofs.one_frame.Goals as goal

pub returns-in_err-ok_or : goal.returns-in_err-ok_or
returns-in_err-ok_or c =
    let p = err_from_is_err_and c.from_residual.result c.from_residual.ensures.1 in
    let u = asked-none c.of.result _ c.of.ensures (sym c.ok_or.ensures.value ∙ c.in_err-ok_or.was) in
    rw (p.1, p.2, u.1) (whole-no-kind u.0)
