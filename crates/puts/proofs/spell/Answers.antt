-- `puts::spell` meets its contract. The loop's invariant: what is left, stored from here on, makes the whole.
-- Assumes nothing.
use mathlib.Core.Path.{◌≡◌, refl, sym, ap, ◌∙◌}
use mathlib.Core.List.{List, []}
use Prim.Native.Nat.{ℕ, ◌+◌, ◌*◌}
use native.Mathlib.Omega.{arith}
use lib.ListN.{length, drop, length-set}
use lib.Seq.{sets, drop-length}
use Rattle.digits.specs.Paper.Hex.{hex_bytes}
use Rattle.puts.proofs.Laws.Spelt.{two-stored}
use Rattle.puts.proofs.spell.Goals as goal

pub loop-i-init : goal.loop-i-init
loop-i-init c = (omega arith, refl, ap (λ (j : ℕ). sets c.args.room.now j (hex_bytes c.args.s.now)) (omega arith))

pub bounds-room-at-in-loop-i : goal.bounds-room-at-in-loop-i
bounds-room-at-in-loop-i c = simp length-set (omega (arith, c.requires, c.loop-i.invariant.1, c.loop-i-test.true))

pub loop-i-preserved : goal.loop-i-preserved
loop-i-preserved c =
    (omega arith, simp length-set c.loop-i.invariant.1, two-stored c.args.s.now c.loop-i.room c.two_digits-pair.result c.args.at c.loop-i.i c.loop-i-test.true c.two_digits-pair.ensures c.loop-i.invariant.2)

pub shape_of-room : goal.shape_of-room
shape_of-room c = c.loop-i.invariant.1

pub returns : goal.returns
unfolding hex_bytes
returns c =
    let e : length c.args.s.now ≡ c.loop-i.i = omega (arith, c.loop-i.invariant.0, c.loop-i-test.false) in
    let none : [] ≡ drop c.loop-i.i c.args.s.now = sym (drop-length c.args.s.now) ∙ ap (λ (j : ℕ). drop j c.args.s.now) e in
    ap (λ (t : List ℕ). sets c.loop-i.room (c.args.at + 2 * c.loop-i.i) (hex_bytes t)) none ∙ c.loop-i.invariant.2
