-- `frames::why` meets its contract: the refusals in their order, and the verdict of the kind's layout.
-- Assumes nothing.
use mathlib.Core.Path.{sym, ◌∙◌}
use Rattle.std.proofs.lemmas.Result.{err_from_is_err_and}
use Rattle.frames.proofs.Laws.Kinds.{known_of, asked-kind, asked-none}
use Rattle.frames.proofs.Laws.Why.{why-no-kind, why-no-place, why-judged}
use Rattle.frames.proofs.why.Goals as goal

pub returns-in_err-kind : goal.returns-in_err-kind
returns-in_err-kind c =
    let p = err_from_is_err_and c.from_residual.result c.from_residual.ensures.1 in
    let u = asked-none c.of.result _ c.of.ensures (sym c.ok_or.ensures.value ∙ c.in_err-kind.was) in
    rw (p.1, p.2, u.1) (why-no-kind u.0)

pub returns-then-buffer-place : goal.returns-then-buffer-place
returns-then-buffer-place c =
    let e = asked-kind c.of.result _ c.of.ensures (sym c.ok_or.ensures.value ∙ c.in_ok-kind.was) in
    why-no-place (known_of c.in_ok-kind.kind e) c.if-buffer-place.true

pub returns-in-Ok : goal.returns-in-Ok
returns-in-Ok c =
    let e = asked-kind c.of.result _ c.of.ensures (sym c.ok_or.ensures.value ∙ c.in_ok-kind.was) in
    why-judged c.in_ok-kind.kind e c.if-buffer-place.false c.in-Ok.ensures.judged

pub returns-in-Err : goal.returns-in-Err
returns-in-Err c =
    let e = asked-kind c.of.result _ c.of.ensures (sym c.ok_or.ensures.value ∙ c.in_ok-kind.was) in
    why-judged c.in_ok-kind.kind e c.if-buffer-place.false c.in-Err.ensures.judged
