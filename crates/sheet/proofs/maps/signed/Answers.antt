-- `sheet::maps::signed` meets its contract: by the byte's formula.
-- Assumes nothing.
use mathlib.Core.Path.{refl}
use Rattle.sheet.proofs.Laws.Bytes.{signed_is}
use Rattle.sheet.proofs.maps.signed.Goals as goal

pub returns : goal.returns
returns c = signed_is c.args.b c.requires refl
