-- `commands::homiq::acknowledge` meets its contract: where the whole is one frame, the answer is that to its payload.
-- Assumes nothing.
use Rattle.messages.proofs.Laws.Decode.{one-frame, first_of}
use Rattle.commands.proofs.Laws.Acknowledged.{tested, frame-laid, frame-answered, none-acknowledged}
use Rattle.commands.proofs.homiq.acknowledge.Goals as goal

pub answer-requires : goal.answer-requires
answer-requires c = frame-laid (one-frame (tested c.one_frame.result c.number.ensures c.one_frame.ensures) c.in-Ok.is)

pub returns : goal.returns
returns c = frame-answered (one-frame (tested c.one_frame.result c.number.ensures c.one_frame.ensures) c.in-Ok.is) c.answer.result c.answer.ensures

pub returns-in_default : goal.returns-in_default
returns-in_default c = none-acknowledged c.args.room.now _ (first_of (tested c.one_frame.result c.number.ensures c.one_frame.ensures) c.in_default.is)
