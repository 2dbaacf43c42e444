-- `layouts::nikobus::payload_crc` meets its contract: two digits a step, what is left leads to where the whole does.
-- Assumes nothing.
use mathlib.Core.Path.{◌∙◌}
use native.Mathlib.Omega.{arith}
use borrow.Author.Rules.{rules}
use Rattle.checks.specs.Paper.Buses.{nikobus_crc16}
use Rattle.layouts.proofs.Laws.HexDigits.{hex-at, pairs-step, pairs_end}
use Rattle.layouts.proofs.nikobus.payload_crc.Goals as goal

pub loop-i-init : goal.loop-i-init
loop-i-init c = (search rules, search rules, rw c.new-crc.ensures)

pub pair-requires : goal.pair-requires
pair-requires c = record { t = hex-at _ _ (omega arith) c.requires; t_2 = hex-at _ _ (omega arith) c.requires }

pub loop-i-preserved : goal.loop-i-preserved
loop-i-preserved c = (search rules, search rules, pairs-step nikobus_crc16 _ _ _ _ c.loop-i-test.true (c.byte-crc.ensures ∙ rw c.pair.ensures) ∙ c.loop-i.invariant.2)

pub returns : goal.returns
returns c = pairs_end nikobus_crc16 _ _ _ c.loop-i.invariant.1 c.loop-i-test.false ∙ c.loop-i.invariant.2
