-- `lines::write_opened` meets its contract: the line by a sheet's map is the line by the sheet.
-- Assumes nothing.
use mathlib.Core.Path.{refl, ap}
use native.Mathlib.Omega.{arith}
use Rattle.lines.proofs.Laws.Write.{inside-frame, put-bounded, written}
use Rattle.std.proofs.lemmas.Result.{err_from_is_err_and}
use Rattle.lines.proofs.Laws.Types.{in-types}
use Rattle.lines.proofs.Laws.ByText.{by_map, some-map, bad-text, not-decoded}
use Rattle.sheet.proofs.Laws.ByMap as maps
use Rattle.digits.proofs.Laws.Refusals.{some_number}
use Rattle.digits.specs.declared.refusal.Refusal.TheVariants.{BadSheet}
use Rattle.puts.specs.Paper.Wrote.{written_refusal}
use Rattle.lines.proofs.write_opened.Goals as goal

pub slice_bounds-placed-count : goal.slice_bounds-placed-count
slice_bounds-placed-count c = (inside-frame c.in_ok-message.ensures).0

pub slice_bounds-placed-start : goal.slice_bounds-placed-start
slice_bounds-placed-start c = (inside-frame c.in_ok-message.ensures).0

pub slice_bounds-placed-end : goal.slice_bounds-placed-end
slice_bounds-placed-end c = (inside-frame c.in_ok-message.ensures).1

pub placed-requires : goal.placed-requires
placed-requires c =
    put-bounded c.in_ok-message.ensures (in-types c.map.new.map) c.args.at (omega (arith, c.well_formed)) (omega (arith, c.well_formed))

pub returns : goal.returns
returns c =
    let e = ap written_refusal c.in-Ok.is in
    by_map c.placed.result (maps.by_map c.args.opened.now (omega (arith, c.well_formed)) c.map.ensures e) (some-map c.map.ensures e)
    (written c.in_ok-message.ensures c.args.at c.args.room.now _ c.placed.result c.placed.ensures)

pub returns-in_default : goal.returns-in_default
returns-in_default c =
    let x = maps.no-map c.args.opened.now (omega (arith, c.well_formed)) c.in_default.ensures (some_number _) in
    bad-text c.in_ok-message.ensures BadSheet refl x.1

pub returns-in_err-message : goal.returns-in_err-message
returns-in_err-message c =
    let p = err_from_is_err_and c.from_residual.result c.from_residual.ensures.1 in rw (p.1, p.2) (not-decoded _ c.in_err-message.ensures)
