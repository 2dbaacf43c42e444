-- `nest::by_row` meets its contract.
-- Assumes nothing.
use mathlib.Core.Path.{refl}
use native.Mathlib.Omega.{arith}
use native.Mathlib.Nat.{le_antisymm}
use Rattle.messages.specs.Paper.Message.{break, end}
use Rattle.asked.specs.Paper.Answers.{beside}
use Rattle.shapes.specs.Paper.Shapes.{fields_of}
use Rattle.asked.proofs.Laws.Drafts.{members_of}
use Rattle.asked.proofs.Laws.Slots.{slots_at, slotted}
use Rattle.asked.proofs.Laws.Named.{above}
use Rattle.asked.proofs.Laws.Shaped.{at_row, bare, without}
use Rattle.asked.proofs.nest.by_row.Goals as goal

pub returns-in-8 : goal.returns-in-8
returns-in-8 c = at_row c.in-8.is (without _ c.climate.ensures)

pub returns-in-9 : goal.returns-in-9
returns-in-9 c = at_row c.in-9.is c.state.ensures

pub returns-in-10 : goal.returns-in-10
unfolding slots_at slotted members_of fields_of beside
returns-in-10 c = at_row c.in-10.is (bare 10 break _ refl refl (λ e. absurd (omega arith)) refl refl refl (λ s. refl) c.empty.ensures)

pub returns-in-11 : goal.returns-in-11
unfolding slots_at slotted members_of fields_of beside
returns-in-11 c = at_row c.in-11.is (bare 11 end _ refl refl (λ e. absurd (omega arith)) refl refl refl (λ s. refl) c.empty-in-11.ensures)

pub returns-in-12 : goal.returns-in-12
returns-in-12 c = at_row c.in-12.is c.chars.ensures

pub returns-in_default : goal.returns-in_default
returns-in_default c = at_row (le_antisymm c.requires.1 (above 12 (above 11 (above 10 (above 9 (above 8 c.requires.0 c.in_default.in_default-own.rest.0.0.0.0.1) c.in_default.in_default-own.rest.0.0.0.1) c.in_default.in_default-own.rest.0.0.1) c.in_default.in_default-own.rest.0.1) c.in_default.in_default-own.rest.1)) c.other.ensures
