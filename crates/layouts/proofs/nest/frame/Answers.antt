-- `layouts::nest::frame` meets its contract: it is `framed` with the direction's preamble.
-- Assumes nothing.
use Rattle.layouts.proofs.nest.frame.Goals as goal

pub returns-in-Command : goal.returns-in-Command
returns-in-Command c = rw c.in-Command.is c.framed.ensures

pub returns-in-Response : goal.returns-in-Response
returns-in-Response c = rw c.in-Response.is c.framed-in-Response.ensures
