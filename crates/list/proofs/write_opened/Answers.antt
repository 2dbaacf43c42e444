-- `list::write_opened` meets its contract: the listing by a sheet's map is the listing by the sheet.
-- Assumes nothing.
use mathlib.Core.Path.{refl}
use native.Mathlib.Omega.{arith}
use Rattle.digits.proofs.Laws.Refusals.{some_number}
use Rattle.sheet.proofs.Laws.ByMap.{by_map, no-map}
use Rattle.lines.proofs.Laws.ByText.{some-map}
use Rattle.list.proofs.Laws.Written.{by-text}
use Rattle.list.proofs.write_opened.Goals as goal

pub write_refused-requires : goal.write_refused-requires
write_refused-requires c = record { each = (no-map c.args.map.now (omega (arith, c.well_formed)) c.in-Err.ensures (some_number c.in-Err.field-0)).1 }

pub returns-in-Ok : goal.returns-in-Ok
returns-in-Ok c =
    by-text c.write_mapped.result (by_map c.args.map.now (omega (arith, c.well_formed)) c.in-Ok.ensures refl) (some-map c.in-Ok.ensures refl) c.write_mapped.ensures
