-- `messages::limits::standing` meets its contract, by cases.
-- Assumes nothing.
use mathlib.Core.Path.{sym, ap}
use Rattle.messages.specs.Work.Answers.{standing_of}
use Rattle.messages.proofs.limits.standing.Goals as goal

pub returns-then-hold : goal.returns-then-hold
returns-then-hold c = ap standing_of (sym c.if-hold.true)

pub returns : goal.returns
returns c = ap standing_of (sym c.if-hold.false)
