-- `frames::kinds::may_start` meets its contract: each kind's layout answers for it.
-- Assumes nothing.
use mathlib.Core.Bool.{Bool, ◌&&◌}
use mathlib.Core.Path.{ap}
use Prim.Native.Nat.{◌+◌}
use lib.Dec.{leb}
use lib.ListN.{get_or}
use Rattle.digits.specs.Paper.Bytes.{part}
use Rattle.frames.proofs.Laws.Kinds.{may-start-as}
use Rattle.frames.proofs.kinds.may_start.Goals as goal

pub returns-in-Nikobus : goal.returns-in-Nikobus
returns-in-Nikobus c =
    may-start-as c.args.buffer.now c.args.place c.requires c.in-Nikobus.is (ap (λ (b : Bool). b && leb (get_or (part c.args.place (c.args.place + 3) c.args.buffer.now) 1 0) 78) c.may_start.ensures)

pub returns-in-NestCommand : goal.returns-in-NestCommand
returns-in-NestCommand c = may-start-as c.args.buffer.now c.args.place c.requires c.in-NestCommand.is c.may_start-in-NestCommand.ensures

pub returns-in-NestResponse : goal.returns-in-NestResponse
returns-in-NestResponse c = may-start-as c.args.buffer.now c.args.place c.requires c.in-NestResponse.is c.may_start-in-NestResponse.ensures

pub returns-in-Nibe : goal.returns-in-Nibe
returns-in-Nibe c = may-start-as c.args.buffer.now c.args.place c.requires c.in-Nibe.is c.may_start-in-Nibe.ensures

pub returns-in-Homiq : goal.returns-in-Homiq
returns-in-Homiq c = may-start-as c.args.buffer.now c.args.place c.requires c.in-Homiq.is c.may_start-in-Homiq.ensures
