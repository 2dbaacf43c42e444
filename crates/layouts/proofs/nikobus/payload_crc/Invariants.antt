-- `layouts::nikobus::payload_crc` meets its contract: two digits a step, what is left leads to where the whole does.
-- Assumes nothing.
use mathlib.Core.Path.{◌≡◌}
use Prim.Native.Nat.{◌≤◌, ◌<◌, ◌-◌}
use lib.ListN.{length, drop}
use Rattle.checks.specs.Paper.Check.{feed, check}
use Rattle.checks.specs.Paper.Buses.{nikobus_crc16}
use Rattle.layouts.specs.Work.Nikobus.{bytes_of}
use Rattle.layouts.proofs.nikobus.payload_crc.Given as goal

abbrev pub invariant-loop-i : goal.invariant-loop-i
invariant-loop-i l = (l.i ≤ length l.d) × (l.crc.value < 65536) × (feed nikobus_crc16 l.crc.value (bytes_of (drop l.i l.d)) ≡ check nikobus_crc16 (bytes_of l.d))

abbrev pub decreases-loop-i : goal.decreases-loop-i
decreases-loop-i l = length l.d - l.i
