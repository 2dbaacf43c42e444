-- `book::list_opened` meets its contract: the lines by a sheet's map are the lines by the sheet.
-- Assumes nothing.
use mathlib.Core.Path.{refl, ap}
use native.Mathlib.Omega.{arith}
use Rattle.digits.proofs.Laws.Refusals.{some_number}
use Rattle.digits.specs.declared.refusal.Refusal.TheVariants.{BadSheet}
use Rattle.lines.proofs.Laws.ByText.{some-map}
use Rattle.puts.specs.Paper.Wrote.{written_refusal}
use Rattle.sheet.proofs.Laws.ByMap.{by_map, no-map}
use Rattle.book.proofs.Laws.ByText.{listed-by-map, listed-bad-text}
use Rattle.book.proofs.list_opened.Goals as goal

pub returns : goal.returns
returns c =
    let e = ap written_refusal c.in-Ok.is in
    listed-by-map c.write.result (by_map c.args.map.now (omega (arith, c.well_formed)) c.map.ensures e) (some-map c.map.ensures e) c.write.ensures

pub returns-in_default : goal.returns-in_default
returns-in_default c =
    let x = no-map c.args.map.now (omega (arith, c.well_formed)) c.in_default.ensures (some_number _) in
    listed-bad-text c.requires.counts BadSheet refl x.1
