-- `lines::nibe::reading` meets its contract: by the type, if the width agrees.
-- Assumes nothing.
use native.Mathlib.Omega.{arith}
use Rattle.digits.proofs.Laws.LowFirst.{width-most}
use Rattle.puts.proofs.Laws.Puts.{puts-as}
use Rattle.sheet.specs.Paper.Map.{lookup_in}
use Rattle.lines.proofs.Laws.Typed.{listed, not_listed, untyped, other_width, same_width}
use Rattle.lines.proofs.Laws.Types.{map-types}
use Rattle.lines.proofs.Laws.Typed.{value-asked}
use Rattle.lines.proofs.nibe.reading.Goals as goal

pub returns-in_default : goal.returns-in_default
returns-in_default c =
    puts-as (untyped c.args.valued.width c.args.valued.value (not_listed (lookup_in c.args.map.now) c.args.valued.register _ c.in_default.ensures)) c.unsigned.ensures

pub returns-then-width-valued : goal.returns-then-width-valued
returns-then-width-valued c =
    puts-as (other_width c.args.valued.width c.args.valued.value (listed (lookup_in c.args.map.now) c.args.valued.register c.in-Ok.ensures) c.if-width-valued.true) c.unsigned-then-width-valued.ensures

pub slice_bounds-typed-end : goal.slice_bounds-typed-end
slice_bounds-typed-end c =
    omega (arith, width-most ((map-types c.args.map.now).width c.args.valued.register (listed (lookup_in c.args.map.now) c.args.valued.register c.in-Ok.ensures)))

pub typed-requires : goal.typed-requires
typed-requires c =
    value-asked c.args.map.now c.args.valued.register c.args.valued.value c.in-Ok.ensures c.four-four.ensures

pub returns : goal.returns
returns c =
    puts-as (same_width c.args.valued.width c.args.valued.value (listed (lookup_in c.args.map.now) c.args.valued.register c.in-Ok.ensures) c.if-width-valued.false ((map-types c.args.map.now).width c.args.valued.register (listed (lookup_in c.args.map.now) c.args.valued.register c.in-Ok.ensures)) c.four-four.ensures) c.typed.ensures
