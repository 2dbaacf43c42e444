-- `list::capture` meets its contract: all of the listing where the room has room for it, and else nothing.
-- Assumes nothing.
use mathlib.Core.Bool.{true}
use mathlib.Core.Path.{subst}
use lib.ListN.{length}
use Rattle.list.specs.Work.Remaining.{Fits}
use Rattle.list.proofs.Laws.Written.{roomy, refused-4, all-written}
use Rattle.sheet.specs.Paper.Map.{sheet_in}
use Rattle.list.proofs.capture.Goals as goal

pub returns-then-not-fits : goal.returns-then-not-fits
returns-then-not-fits c =
    refused-4 (subst (Fits (sheet_in c.args.map.now) c.args.kind c.args.s.now (length c.args.room.now)) c.if-not-fits.true c.fits.ensures)

pub put-requires : goal.put-requires
put-requires c =
    let fitting : Fits (sheet_in c.args.map.now) c.args.kind c.args.s.now (length c.args.room.now) true =
    subst (Fits (sheet_in c.args.map.now) c.args.kind c.args.s.now (length c.args.room.now)) c.if-not-fits.false c.fits.ensures in
    record { listable = c.requires; roomy = roomy fitting }

pub returns : goal.returns
returns c =
    let fitting : Fits (sheet_in c.args.map.now) c.args.kind c.args.s.now (length c.args.room.now) true =
    subst (Fits (sheet_in c.args.map.now) c.args.kind c.args.s.now (length c.args.room.now)) c.if-not-fits.false c.fits.ensures in
    all-written fitting c.put.ensures
