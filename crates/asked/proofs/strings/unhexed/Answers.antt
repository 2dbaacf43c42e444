-- `strings::unhexed` meets its contract. The loop's invariant: the bytes of the digits passed are in the room, as far as it goes.
-- Assumes nothing.
use native.Mathlib.Omega.{arith}
use mathlib.Core.Path.{refl, ◌∙◌}
use Rattle.puts.proofs.Laws.Puts.{put-length}
use Rattle.asked.proofs.Laws.Strings.{none_yet, one_more, odd-digits, no-pair, too_many, all_read}
use borrow.Author.Rules.{rules}
use Rattle.asked.proofs.strings.unhexed.Goals as goal

pub returns-then-digits-ne0 : goal.returns-then-digits-ne0
returns-then-digits-ne0 c = odd-digits c.if-digits-ne0.true refl

pub loop-i-init : goal.loop-i-init
loop-i-init c = (omega arith, refl, none_yet _ _)

pub returns-in_default : goal.returns-in_default
returns-in_default c = no-pair c.loop-i-test.true c.in_default.ensures c.loop-i.invariant.1

pub loop-i-preserved : goal.loop-i-preserved
loop-i-preserved c = (
  search rules,
  put-length c.byte.ensures ∙ c.loop-i.invariant.1,
  one_more c.loop-i-test.true c.in-Some.ensures c.byte.ensures c.loop-i.invariant.2,
)

pub returns-then-room-n : goal.returns-then-room-n
returns-then-room-n c =
    too_many c.loop-i.invariant.2 c.if-digits-ne0.false c.loop-i-test.false
    (omega (arith, c.loop-i.invariant.1, c.if-room-n.true))

pub returns : goal.returns
returns c =
    all_read c.loop-i.invariant.2 c.if-digits-ne0.false c.loop-i-test.false
    (omega (arith, c.loop-i.invariant.1, c.if-room-n.false))
