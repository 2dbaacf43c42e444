-- `sheet::maps::clear` meets its contract. The invariant of both loops: the bytes passed are 0.
-- Assumes nothing.
use mathlib.Core.Path.{◌≡◌, refl, sym, ap, ◌∙◌}
use mathlib.Core.List.{List, ◌++◌}
use Prim.Native.Nat.{ℕ}
use native.Mathlib.Omega.{arith}
use lib.ListN.{drop, length-set}
use Rattle.sheet.specs.Work.Maps.{zeros}
use Rattle.sheet.proofs.Laws.Maps.{zeros-start, zeros-next, zeros-again, zeros-behind}
use Rattle.sheet.proofs.maps.clear.Goals as goal

pub loop-i-init : goal.loop-i-init
loop-i-init c = (omega arith, refl, zeros-start _)

pub bounds-room-i : goal.bounds-room-i
bounds-room-i c = omega (arith, c.loop-i.invariant.1, c.requires)

pub overflow_add-i : goal.overflow_add-i
overflow_add-i c = omega arith

pub loop-i-smaller : goal.loop-i-smaller
loop-i-smaller c = omega arith

pub loop-i-preserved : goal.loop-i-preserved
loop-i-preserved c =
    (omega arith, length-set c.loop-i.room c.loop-i.i 0 ∙ c.loop-i.invariant.1, zeros-next c.args.room.now c.loop-i.room c.loop-i.i (omega (arith, c.requires)) c.loop-i.invariant.2)

pub loop-i-2-init : goal.loop-i-2-init
loop-i-2-init c =
    let same = zeros-behind c.args.room.now c.loop-i.room {k = c.loop-i.i} {i = c.loop-i.i} (omega arith) c.loop-i.invariant.2 in
    (omega arith, omega arith, refl, c.loop-i.invariant.2 ∙ ap (λ (x : List ℕ). zeros c.loop-i.i ++ x) (sym same))

pub overflow_sub-room : goal.overflow_sub-room
overflow_sub-room c = omega arith

pub bounds-room-i-in-loop-i-2 : goal.bounds-room-i-in-loop-i-2
bounds-room-i-in-loop-i-2 c = omega (arith, c.loop-i-2.invariant.2, c.loop-i.invariant.1, c.requires)

pub bounds-room-i-in-loop-i-2-2 : goal.bounds-room-i-in-loop-i-2-2
bounds-room-i-in-loop-i-2-2 c = omega (arith, c.loop-i-2.invariant.2, c.loop-i.invariant.1, c.requires)

pub overflow_add-i-in-loop-i-2 : goal.overflow_add-i-in-loop-i-2
overflow_add-i-in-loop-i-2 c = omega arith

pub loop-i-2-smaller : goal.loop-i-2-smaller
loop-i-2-smaller c = omega arith

pub loop-i-2-preserved : goal.loop-i-2-preserved
loop-i-2-preserved c = (
  omega arith,
  omega arith,
  length-set c.loop-i-2.room c.loop-i-2.i _ ∙ c.loop-i-2.invariant.2,
  zeros-again c.loop-i.room c.loop-i-2.room c.loop-i-2.i (omega (arith, c.loop-i.invariant.1, c.requires)) c.loop-i-2.invariant.0 c.loop-i-2.invariant.3,
)

pub shape_of-room : goal.shape_of-room
shape_of-room c = c.loop-i-2.invariant.2 ∙ c.loop-i.invariant.1

pub returns : goal.returns
returns c =
    let e : c.loop-i-2.i ≡ 65536 = omega (arith, c.loop-i-2.invariant.1, c.loop-i-2-test.false) in
    let same = zeros-behind c.args.room.now c.loop-i.room {k = c.loop-i.i} {i = c.loop-i-2.i} (omega (arith, c.loop-i.invariant.0, c.loop-i-2.invariant.0)) c.loop-i.invariant.2 in
    c.loop-i-2.invariant.3 ∙ ap (λ (x : List ℕ). zeros c.loop-i-2.i ++ x) same ∙ ap (λ (k : ℕ). zeros k ++ drop k c.args.room.now) e
