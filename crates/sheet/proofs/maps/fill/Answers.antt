-- `sheet::maps::fill` meets its contract. The loop's invariant: what is left, stored from here on, makes the whole.
-- Assumes nothing.
use mathlib.Core.Path.{sym, subst}
use mathlib.Core.List.{List}
use Prim.Native.Nat.{ℕ, ◌+◌}
use native.Mathlib.Omega.{arith}
use lib.ListN.{length-drop, set}
use Rattle.digits.proofs.Laws.Parts.{part-rest}
use Rattle.sheet.specs.Work.Maps.{Filling}
use Rattle.sheet.proofs.Laws.Scans.{line-inside, some-test}
use Rattle.sheet.proofs.Laws.Fills.{fill_start, fill-next, fill_end}
use Rattle.sheet.proofs.maps.fill.Goals as goal

pub loop-line-init : goal.loop-line-init
loop-line-init c = fill_start c.args.text.now c.args.map.now c.requires.1.0 c.requires.1.1

pub bounds-map-register : goal.bounds-map-register
bounds-map-register c = let p = c.in-Ok.ensures.1 in omega (arith, p.register-is, p.limits.register, c.loop-line.invariant.same, c.requires.0)

pub slice_bounds-left-count : goal.slice_bounds-left-count
slice_bounds-left-count c = omega (arith, line-inside c.in-Ok.ensures.1)

pub slice_bounds-left-start : goal.slice_bounds-left-start
slice_bounds-left-start c = omega (arith, line-inside c.in-Ok.ensures.1)

pub overflow_add-least : goal.overflow_add-least
overflow_add-least c = let p = c.in-Ok.ensures.1 in omega (arith, p.register-is, p.limits.register)

pub overflow_add-number : goal.overflow_add-number
overflow_add-number c = let p = c.in-Ok.ensures.1 in omega (arith, p.few)

pub loop-line-smaller : goal.loop-line-smaller
loop-line-smaller c =
    let e = part-rest c.in-Ok.line.length c.loop-line.left.now in
    rw e (omega (arith, line-inside c.in-Ok.ensures.1, length-drop c.in-Ok.line.length c.loop-line.left.now))

pub loop-line-preserved : goal.loop-line-preserved
loop-line-preserved c =
    subst (λ (s : List ℕ). Filling c.args.text.now s c.args.map.now (set c.loop-line.map c.in-Ok.line.register c.in-Ok.line.byte) (c.in-Ok.line.register + 1) (c.loop-line.number + 1)) (sym (part-rest c.in-Ok.line.length c.loop-line.left.now))
    (fill-next c.loop-line.invariant c.in-Ok.ensures.1)

pub shape_of-map : goal.shape_of-map
shape_of-map c = c.loop-line.invariant.same

pub returns : goal.returns
returns c = fill_end c.loop-line.invariant c.in_default.ensures (some-test c.in_default.field-0)
