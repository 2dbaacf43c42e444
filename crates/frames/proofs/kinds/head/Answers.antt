-- `frames::kinds::head` meets its contract: each kind's layout answers for it.
-- Assumes nothing.
use Rattle.frames.proofs.Laws.Kinds.{headed-as}
use Rattle.frames.proofs.kinds.head.Goals as goal

pub returns-in-Nikobus : goal.returns-in-Nikobus
returns-in-Nikobus c = headed-as c.in-Nikobus.is c.frame.ensures.0

pub returns-in-NestCommand : goal.returns-in-NestCommand
returns-in-NestCommand c = headed-as c.in-NestCommand.is c.frame-in-NestCommand.ensures.0

pub returns-in-NestResponse : goal.returns-in-NestResponse
returns-in-NestResponse c = headed-as c.in-NestResponse.is c.frame-in-NestResponse.ensures.0

pub returns-in-Nibe : goal.returns-in-Nibe
returns-in-Nibe c = headed-as c.in-Nibe.is c.frame-in-Nibe.ensures.0

pub returns-in-Homiq : goal.returns-in-Homiq
returns-in-Homiq c = headed-as c.in-Homiq.is c.frame-in-Homiq.ensures.0
