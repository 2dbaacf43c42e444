-- `numbers::byte_values::write` meets its contract: each refusal by its test, in order, and else the first of the four bytes are written, or none.
-- Assumes nothing.
use mathlib.Core.Path.{ap, ◌∙◌}
use native.Mathlib.Omega.{arith}
use lib.IntN.{ℤ}
use lib.ListN.{length}
use Rattle.digits.specs.Paper.Read.{Decides}
use Rattle.digits.proofs.Laws.LowFirst.{width-most, length-low}
use Rattle.digits.proofs.Laws.Tests.{told, untold}
use Rattle.numbers.specs.Paper.ByteValues.{twos, HeldBy}
use Rattle.numbers.proofs.Laws.Signs.{back, read_back, said}
use Rattle.numbers.proofs.Laws.Values.{size, size-most, held_in, in-raw, in_size}
use Rattle.numbers.proofs.Laws.Writing.{value-part, bad-width, not-held, value-fronted}
use Rattle.numbers.proofs.byte_values.write.Goals as goal

pub returns-then-not-is_width : goal.returns-then-not-is_width
returns-then-not-is_width c =
    bad-width c.args.width c.args.signed c.args.raw c.args.room.now (untold c.is_width.ensures c.if-not-is_width.true)

pub returns-then-not-holds : goal.returns-then-not-holds
returns-then-not-holds c =
    not-held c.args.width c.args.signed c.args.raw c.args.room.now (told c.is_width.ensures c.if-not-is_width.false)
    (untold (said (λ (y : ℤ). Decides (HeldBy c.args.width c.args.signed y) c.holds.result) c.args.raw c.ranges.raw c.holds.ensures) c.if-not-holds.true)

pub in_twos-requires : goal.in_twos-requires
in_twos-requires c =
    let z = size (told c.is_width.ensures c.if-not-is_width.false) in
    let i = held_in z c.args.signed (back c.args.raw) (told c.holds.ensures c.if-not-holds.false) in
    (told c.is_width.ensures c.if-not-is_width.false, in-raw z (size-most (told c.is_width.ensures c.if-not-is_width.false)) i, in_size z i)

pub slice_bounds-front-end : goal.slice_bounds-front-end
slice_bounds-front-end c = omega (arith, width-most (told c.is_width.ensures c.if-not-is_width.false), ap length c.four-four.ensures, length-low 4 c.in_twos.result)

pub returns : goal.returns
returns c =
    value-fronted c.args.width c.args.signed c.args.raw c.args.room.now (told c.is_width.ensures c.if-not-is_width.false) (said (HeldBy c.args.width c.args.signed) c.args.raw c.ranges.raw (told c.holds.ensures c.if-not-holds.false)) c.front.result
    (value-part c.args.raw (told c.is_width.ensures c.if-not-is_width.false) (c.in_twos.ensures ∙ ap (twos c.args.width) (read_back c.args.raw c.ranges.raw)) c.four-four.ensures) c.front.ensures
