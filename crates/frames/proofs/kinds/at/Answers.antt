-- `frames::kinds::at` meets its contract: each kind's layout answers for it.
-- Assumes nothing.
use Rattle.frames.proofs.Laws.Kinds.{framed-at-as, judged-as}
use Rattle.frames.proofs.kinds.at.Goals as goal

pub returns-in-Nikobus : goal.returns-in-Nikobus
returns-in-Nikobus c = record { framed = framed-at-as c.args.buffer.now c.args.place c.in-Nikobus.is c.frame.ensures.0; judged = judged-as c.args.buffer.now c.args.place c.in-Nikobus.is c.frame.ensures.1 }

pub returns-in-NestCommand : goal.returns-in-NestCommand
returns-in-NestCommand c = record { framed = framed-at-as c.args.buffer.now c.args.place c.in-NestCommand.is c.frame-in-NestCommand.ensures.0; judged = judged-as c.args.buffer.now c.args.place c.in-NestCommand.is c.frame-in-NestCommand.ensures.1 }

pub returns-in-NestResponse : goal.returns-in-NestResponse
returns-in-NestResponse c = record { framed = framed-at-as c.args.buffer.now c.args.place c.in-NestResponse.is c.frame-in-NestResponse.ensures.0; judged = judged-as c.args.buffer.now c.args.place c.in-NestResponse.is c.frame-in-NestResponse.ensures.1 }

pub returns-in-Nibe : goal.returns-in-Nibe
returns-in-Nibe c = record { framed = framed-at-as c.args.buffer.now c.args.place c.in-Nibe.is c.frame-in-Nibe.ensures.0; judged = judged-as c.args.buffer.now c.args.place c.in-Nibe.is c.frame-in-Nibe.ensures.1 }

pub returns-in-Homiq : goal.returns-in-Homiq
returns-in-Homiq c = record { framed = framed-at-as c.args.buffer.now c.args.place c.in-Homiq.is c.frame-in-Homiq.ensures.0; judged = judged-as c.args.buffer.now c.args.place c.in-Homiq.is c.frame-in-Homiq.ensures.1 }
