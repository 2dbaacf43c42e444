-- `nikobus::by_row` meets its contract.
-- Assumes nothing.
use mathlib.Core.Path.{refl}
use native.Mathlib.Omega.{arith}
use native.Mathlib.Nat.{le_antisymm}
use Rattle.messages.specs.Paper.Message.{tail}
use Rattle.messages.specs.declared.nikobus.Nikobus.TheVariants.{Tail}
use Rattle.asked.specs.Paper.Answers.{beside}
use Rattle.shapes.specs.Paper.Shapes.{fields_of}
use Rattle.asked.proofs.Laws.Drafts.{members_of}
use Rattle.asked.proofs.Laws.Slots.{slots_at, slotted}
use Rattle.asked.proofs.Laws.Named.{above}
use Rattle.asked.proofs.Laws.Shaped.{at_row, bare, fixed, without}
use Rattle.asked.proofs.nikobus.by_row.Goals as goal

pub returns-in-1 : goal.returns-in-1
returns-in-1 c = at_row c.in-1.is (without _ c.read.ensures)

pub returns-in-2 : goal.returns-in-2
returns-in-2 c = at_row c.in-2.is (without _ c.set.ensures)

pub returns-in-3 : goal.returns-in-3
returns-in-3 c = at_row c.in-3.is (without _ c.answer.ensures)

pub returns-in-4 : goal.returns-in-4
returns-in-4 c = at_row c.in-4.is (without _ c.press.ensures)

pub returns-in-5 : goal.returns-in-5
unfolding slots_at slotted members_of fields_of beside
returns-in-5 c = at_row c.in-5.is (bare 5 tail _ refl refl (λ e. absurd (omega arith)) refl refl refl (fixed Tail refl) c.tail.ensures)

pub returns-in_default : goal.returns-in_default
returns-in_default c = at_row (le_antisymm c.requires.1 (above 5 (above 4 (above 3 (above 2 (above 1 c.requires.0 c.in_default.in_default-own.rest.0.0.0.0.1) c.in_default.in_default-own.rest.0.0.0.1) c.in_default.in_default-own.rest.0.0.1) c.in_default.in_default-own.rest.0.1) c.in_default.in_default-own.rest.1)) c.link.ensures
