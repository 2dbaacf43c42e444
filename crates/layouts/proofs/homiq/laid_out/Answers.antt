-- `layouts::homiq::laid_out` meets its contract: the head, the CRC and the end follow one another as in `homiq_form_len`.
-- Assumes nothing.
use mathlib.Core.Path.{◌∙◌, ap}
use Rattle.digits.proofs.Laws.Parts.{part-rest}
use Rattle.layouts.specs.Work.Homiq.{number_in}
use Rattle.layouts.proofs.Laws.HomiqFrame.{no-head, no-claim, no-end, form-ends}
use Rattle.layouts.proofs.homiq.laid_out.Goals as goal

pub returns-in_err-before : goal.returns-in_err-before
returns-in_err-before c = rw c.from_residual.ensures (no-head c.args.s.now c.in_err-before.ensures)

pub returns-in_err-claimed : goal.returns-in_err-claimed
returns-in_err-claimed c = rw c.from_residual-in_err-claimed.ensures (no-claim c.args.s.now c.in_ok-before.ensures c.in_err-claimed.ensures)

pub returns-in_err-len : goal.returns-in_err-len
returns-in_err-len c = rw c.from_residual-in_err-len.ensures (no-end c.args.s.now c.in_ok-before.ensures c.in_ok-claimed.ensures.0 c.in_err-len.ensures)

pub returns : goal.returns
returns c = (
  form-ends c.args.s.now c.in_ok-before.ensures c.in_ok-claimed.ensures.0 c.in_ok-len.ensures,
  c.in_ok-before.ensures,
  c.in_ok-claimed.ensures.1 ∙ ap number_in (part-rest c.in_ok-before.before c.args.s.now),
)
