-- `sheet::maps::decimals` meets its contract: by the byte's formula.
-- Assumes nothing.
use mathlib.Core.Path.{refl}
use Rattle.sheet.proofs.Laws.Bytes.{decimals-is}
use Rattle.sheet.proofs.maps.decimals.Goals as goal

pub returns : goal.returns
returns c = decimals-is c.args.b c.requires refl
