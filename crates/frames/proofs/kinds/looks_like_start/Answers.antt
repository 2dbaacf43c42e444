-- `frames::kinds::looks_like_start` meets its contract: of Nest two bytes of the preamble show it, of any other kind the whole test.
-- Assumes nothing.
use mathlib.Core.Path.{sym, ◌∙◌}
use Rattle.frames.proofs.Laws.Starts.{no-command, no-response}
use Rattle.frames.proofs.kinds.looks_like_start.Goals as goal

pub returns-in-Nikobus : goal.returns-in-Nikobus
returns-in-Nikobus c f = sym c.may_start.ensures ∙ f

pub returns-in-NestCommand : goal.returns-in-NestCommand
returns-in-NestCommand c f = no-command c.args.buffer.now c.args.place c.in-NestCommand.is f

pub returns-in-NestResponse : goal.returns-in-NestResponse
returns-in-NestResponse c f = no-response c.args.buffer.now c.args.place c.in-NestResponse.is f

pub returns-in-Nibe : goal.returns-in-Nibe
returns-in-Nibe c f = sym c.may_start-in-Nibe.ensures ∙ f

pub returns-in-Homiq : goal.returns-in-Homiq
returns-in-Homiq c f = sym c.may_start-in-Homiq.ensures ∙ f
