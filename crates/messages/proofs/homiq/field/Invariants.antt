-- `messages::homiq::field` meets its contract: what is left behind the fields that are passed is what stands from the one asked for on.
-- Assumes nothing.
use mathlib.Core.Path.{◌≡◌}
use Prim.Native.Nat.{◌≤◌, ◌-◌}
use lib.ListN.{length, drop}
use Rattle.messages.specs.Paper.Homiq.{fields_from}
use Rattle.messages.proofs.homiq.field.Given as goal

abbrev pub invariant-loop : goal.invariant-loop
invariant-loop l = (l.from ≤ length l.content) × (fields_from (l.number - l.counter) (drop l.from l.content) ≡ fields_from l.number l.content)
