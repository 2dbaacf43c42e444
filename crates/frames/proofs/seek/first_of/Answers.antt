-- `frames::seek::first_of` meets its contract: what is found from the present place on is what is found from the first.
-- Assumes nothing.
use mathlib.Core.Path.{sym, ap, ◌∙◌}
use Prim.Native.Nat.{◌-◌}
use native.Mathlib.Omega.{arith}
use Rattle.std.specs.Prelude.{Ok}
use Rattle.layouts.specs.Paper.Judged.{frame_in}
use Rattle.frames.proofs.Laws.Loops.{none_passed, before-end, hit-fits, hit-found, miss-next, none_left}
use Rattle.frames.proofs.seek.first_of.Goals as goal

pub found-requires : goal.found-requires
found-requires c =
    let q = ap frame_in (sym c.in-Ok.is) ∙ c.requires.framed in
    let p = none_passed c.requires.place_in_bounds in
    let fits = hit-fits p (before-end c.args.kind c.args.buffer.now c.requires.place_in_bounds q) q (omega (arith, c.well_formed)) in
    record { from_bound = fits.0; to_bound = fits.1 }

pub returns-in-Ok : goal.returns-in-Ok
returns-in-Ok c =
    let q = ap frame_in (sym c.in-Ok.is) ∙ c.requires.framed in
    let p = none_passed c.requires.place_in_bounds in
    ap Ok c.found.ensures ∙ hit-found p (before-end c.args.kind c.args.buffer.now c.requires.place_in_bounds q) q

pub skip-at-requires : goal.skip-at-requires
skip-at-requires c = c.requires.place_in_bounds

pub loop-at-init : goal.loop-at-init
loop-at-init c = c.skip-at.ensures

pub at-requires : goal.at-requires
at-requires c = c.loop-at.invariant.within

pub found-requires-in-Ok-at : goal.found-requires-in-Ok-at
found-requires-in-Ok-at c =
    let fits = hit-fits c.loop-at.invariant c.loop-at-test.true c.in-Ok-at.ensures.framed (omega (arith, c.well_formed)) in
    record { from_bound = fits.0; to_bound = fits.1 }

pub returns-in-Ok-at : goal.returns-in-Ok-at
returns-in-Ok-at c = ap Ok c.found-in-Ok-at.ensures ∙ hit-found c.loop-at.invariant c.loop-at-test.true c.in-Ok-at.ensures.framed

pub overflow_add-at : goal.overflow_add-at
overflow_add-at c = omega (arith, c.well_formed, c.loop-at-test.true)

pub skip-at-requires-in-loop-at : goal.skip-at-requires-in-loop-at
skip-at-requires-in-loop-at c = omega (arith, c.loop-at-test.true)

pub loop-at-smaller : goal.loop-at-smaller
loop-at-smaller c = omega (arith, c.skip-at-in-loop-at.ensures.onward, c.loop-at-test.true)

pub loop-at-preserved : goal.loop-at-preserved
loop-at-preserved c = miss-next c.loop-at.invariant c.loop-at-test.true c.in_default-at.ensures.framed c.skip-at-in-loop-at.ensures

pub returns : goal.returns
returns c = none_left c.loop-at.invariant c.loop-at-test.false
