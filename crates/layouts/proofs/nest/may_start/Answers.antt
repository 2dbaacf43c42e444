-- `layouts::nest::may_start` meets its contract, direction by direction.
-- Assumes nothing.
use mathlib.Core.Path.{sym, ◌∙◌, ap}
use Rattle.layouts.specs.Paper.Starts.{nest_starts}
use Rattle.layouts.specs.declared.nest.Direction.{Direction}
use Rattle.layouts.proofs.nest.may_start.Goals as goal

pub returns-in-Command : goal.returns-in-Command
unfolding nest_starts
returns-in-Command c = c.three.ensures ∙ sym (ap (λ (d : Direction). nest_starts d c.args.s.now) c.in-Command.is)

pub returns-in-Response : goal.returns-in-Response
unfolding nest_starts
returns-in-Response c = c.three-in-Response.ensures ∙ sym (ap (λ (d : Direction). nest_starts d c.args.s.now) c.in-Response.is)
