-- `nest::agree` meets its contract.
-- Assumes nothing.
use Rattle.digits.specs.Paper.Bytes.{Bytes}
use Rattle.asked.proofs.Laws.Fields.{too_few, not_in, not_op, not-bat, same-volts, all-volts}
use Rattle.asked.proofs.nest.agree.Goals as goal

pub returns-then-payload-lt14 : goal.returns-then-payload-lt14
returns-then-payload-lt14 c = too_few c.if-payload-lt14.true

pub returns-then-word-input : goal.returns-then-word-input
returns-then-word-input c = not_in c.word.ensures c.if-word-input.true

pub returns-then-word-operating : goal.returns-then-word-operating
returns-then-word-operating c = not_op c.word-2.ensures c.if-word-operating.true

pub returns-then-word-battery : goal.returns-then-word-battery
returns-then-word-battery c = not-bat c.word-3.ensures c.if-word-battery.true

pub returns : goal.returns
returns c =
    let each : Bytes c.args.payload.now = record { each = λ i. (c.shared_slice_known-1.given i).fits } in
    all-volts c.if-payload-lt14.false (same-volts 8 each c.ranges.input c.word.ensures c.if-word-input.false)
    (same-volts 10 each c.ranges.operating c.word-2.ensures c.if-word-operating.false)
    (same-volts 12 each c.ranges.battery c.word-3.ensures c.if-word-battery.false)
