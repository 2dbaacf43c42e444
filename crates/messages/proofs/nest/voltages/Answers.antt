-- `messages::nest::voltages` meets its contract: the length is the one cause of a refusal, and it is tested.
-- Assumes nothing.
use Rattle.messages.proofs.Laws.Responses.{volts-refused, volts-read}
use Rattle.messages.proofs.nest.voltages.Goals as goal

pub returns-then-payload-lt16 : goal.returns-then-payload-lt16
returns-then-payload-lt16 c = volts-refused c.if-payload-lt16.true

pub returns : goal.returns
returns c = volts-read c.if-payload-lt16.false c.word.ensures c.word-2.ensures c.word-3.ensures
