-- `strings::hex` meets its contract.
-- Assumes nothing.
use native.Mathlib.Omega.{arith}
use mathlib.Core.Path.{refl}
use Rattle.asked.proofs.Laws.Strings.{put-within, content-put, content-unput}
use Rattle.asked.proofs.strings.hex.Goals as goal

pub returns-in_default : goal.returns-in_default
returns-in_default c =
    let x = content-unput c.args.room.now c.args.room.now _ (omega (arith, c.well_formed)) c.in_default.ensures refl in
    record { reads = x.0; len_in_bounds = x.1 }

pub slice_bounds-unhexed-end : goal.slice_bounds-unhexed-end
slice_bounds-unhexed-end c =
    let h = put-within c.in-Ok.ensures in omega (arith, h)

pub returns : goal.returns
returns c =
    let x = content-put c.in-Ok.ensures c.unhexed.ensures in record { reads = x.0; len_in_bounds = x.1 }
