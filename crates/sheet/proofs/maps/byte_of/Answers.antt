-- `sheet::maps::byte_of` meets its contract: beyond the end an element counts as 0.
-- Assumes nothing.
use mathlib.Core.Path.{sym}
use lib.ListN.{get_or-eq_default}
use Rattle.sheet.proofs.maps.byte_of.Goals as goal

pub returns : goal.returns
returns c = sym (get_or-eq_default c.args.map.now 0 c.if-at-map.false)
