-- `frames::search` meets its contract: the refusals in their order, and what is found is the right answer.
-- Assumes nothing.
use mathlib.Core.Path.{sym, ◌∙◌}
use Rattle.std.proofs.lemmas.Result.{err_from_is_err_and}
use Rattle.frames.proofs.Laws.Kinds.{known_of, asked-kind, asked-none}
use Rattle.frames.proofs.Laws.Seek.{found-by, no_kind, no_place}
use Rattle.frames.proofs.search.Goals as goal

pub returns-in_err-known : goal.returns-in_err-known
returns-in_err-known c =
    let p = err_from_is_err_and c.from_residual.result c.from_residual.ensures.1 in
    let u = asked-none c.of.result _ c.of.ensures (sym c.ok_or.ensures.value ∙ c.in_err-known.was) in
    rw (p.1, p.2, u.1) (no_kind c.args.buffer.now _ u.0)

pub returns-then-buffer-place : goal.returns-then-buffer-place
returns-then-buffer-place c =
    let e = asked-kind c.of.result _ c.of.ensures (sym c.ok_or.ensures.value ∙ c.in_ok-known.was) in
    no_place c.args.buffer.now _ (known_of c.in_ok-known.known e) c.if-buffer-place.true

pub returns : goal.returns
returns c =
    let e = asked-kind c.of.result _ c.of.ensures (sym c.ok_or.ensures.value ∙ c.in_ok-known.was) in
    rw c.first.ensures (found-by c.args.buffer.now c.args.place c.in_ok-known.known e c.if-buffer-place.false)
