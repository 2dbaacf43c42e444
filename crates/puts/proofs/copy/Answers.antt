-- `puts::copy` meets its contract. The loop's invariant: what is left, stored from here on, makes the whole.
-- Assumes nothing.
use mathlib.Core.Path.{◌≡◌, refl, sym, ap, ◌∙◌}
use mathlib.Core.List.{[]}
use Prim.Native.Nat.{ℕ, ◌+◌}
use native.Mathlib.Omega.{arith}
use lib.ListN.{length, get_or, drop, length-set}
use lib.Seq.{sets, drop-length}
use Rattle.puts.proofs.Laws.Puts.{stored}
use Rattle.puts.proofs.copy.Goals as goal

pub loop-i-init : goal.loop-i-init
loop-i-init c = (omega arith, refl, ap (λ (j : ℕ). sets c.args.room.now j c.args.s.now) (omega arith))

pub overflow_add-room : goal.overflow_add-room
overflow_add-room c = omega (arith, c.requires, c.loop-i.invariant.1, c.well_formed)

pub bounds-room-at : goal.bounds-room-at
bounds-room-at c = omega (arith, c.requires, c.loop-i.invariant.1)

pub loop-i-preserved : goal.loop-i-preserved
loop-i-preserved c =
    (omega arith, length-set c.loop-i.room (c.args.at + c.loop-i.i) (get_or c.args.s.now c.loop-i.i 0) ∙ c.loop-i.invariant.1, stored c.args.s.now c.loop-i.room c.args.at c.loop-i.i c.loop-i-test.true c.loop-i.invariant.2)

pub shape_of-room : goal.shape_of-room
shape_of-room c = c.loop-i.invariant.1

pub returns : goal.returns
returns c =
    let e : length c.args.s.now ≡ c.loop-i.i = omega (arith, c.loop-i.invariant.0, c.loop-i-test.false) in
    let none : [] ≡ drop c.loop-i.i c.args.s.now = sym (drop-length c.args.s.now) ∙ ap (λ (j : ℕ). drop j c.args.s.now) e in
    ap (sets c.loop-i.room (c.args.at + c.loop-i.i)) none ∙ c.loop-i.invariant.2
