-- `messages::homiq::which` meets its contract: the tests are the definition's, in its order.
-- Assumes nothing.
use Rattle.messages.proofs.Laws.HomiqLook.{look-output, look-input, look-shutter, look-beat, look-rest}
use Rattle.messages.proofs.homiq.which.Goals as goal

pub returns-then-is_output : goal.returns-then-is_output
returns-then-is_output c = look-output _ _ c.is_output.ensures c.if-is_output.true

pub returns-then-is_input : goal.returns-then-is_input
returns-then-is_input c =
    look-input _ _ c.is_output.ensures c.is_input.ensures c.if-is_output.false
    c.if-is_input.true

pub returns-then-is_shutter : goal.returns-then-is_shutter
returns-then-is_shutter c =
    look-shutter _ _ c.is_output.ensures c.is_input.ensures
    c.if-is_output.false c.is_shutter.ensures c.if-is_input.false c.if-is_shutter.true

pub returns-then-is_beat : goal.returns-then-is_beat
returns-then-is_beat c =
    look-beat _ _ c.is_output.ensures
    c.is_input.ensures c.if-is_output.false
    c.is_shutter.ensures c.if-is_input.false c.is_beat.ensures
    c.if-is_shutter.false c.if-is_beat.true

pub returns : goal.returns
returns c =
    look-rest _ _ c.is_output.ensures
    c.is_input.ensures c.if-is_output.false
    c.is_shutter.ensures c.if-is_input.false c.is_beat.ensures
    c.if-is_shutter.false c.if-is_beat.false
