-- `commands::write_allowed` meets its contract: a message of the table is written, and any other refused.
-- Assumes nothing.
use Rattle.commands.proofs.Laws.Written.{allowed-written, not-allowed}
use Rattle.commands.proofs.write_allowed.Goals as goal

pub returns-in-Ok : goal.returns-in-Ok
returns-in-Ok c = allowed-written c.args.message c.args.content.now c.args.room.now c.allowed.result c.write.result c.in-Ok.is c.allowed.ensures c.write.ensures

pub returns-in-Err : goal.returns-in-Err
returns-in-Err c = not-allowed c.args.message c.args.content.now c.args.room.now c.allowed.result c.in-Err.why c.in-Err.is c.allowed.ensures
