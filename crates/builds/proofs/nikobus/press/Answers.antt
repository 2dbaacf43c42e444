-- `builds::nikobus::press` meets its contract: the number of characters and then each character is tested, and what is written is the layout's.
-- Assumes nothing.
use mathlib.Core.Bool.{not}
use mathlib.Core.Path.{ap}
use Rattle.layouts.specs.Paper.Nikobus.{nikobus, press, press-limits}
use Rattle.builds.proofs.Laws.Built.{told, not-told, not_within, fronted}
use Rattle.builds.proofs.Laws.Bytes.{press-whole}
use Rattle.layouts.proofs.Laws.Made.{press-said}
use Rattle.builds.proofs.nikobus.press.Goals as goal

pub returns-then-digits-ne6 : goal.returns-then-digits-ne6
returns-then-digits-ne6 c = not_within nikobus (press c.args.digits.now) c.args.room.now (λ l. c.if-digits-ne6.true (press-said l).0)

pub returns-then-not-all_digits : goal.returns-then-not-all_digits
returns-then-not-all_digits c = not_within nikobus (press c.args.digits.now) c.args.room.now (λ l. not-told c.all_digits.ensures (ap not c.if-not-all_digits.true) (press-said l).1)

pub returns : goal.returns
returns c = fronted nikobus (press c.args.digits.now) c.args.room.now (press-limits c.if-digits-ne6.false (told c.all_digits.ensures (ap not c.if-not-all_digits.false))) c.front.result
    (press-whole c.args.digits.now c.if-digits-ne6.false) c.front.ensures
