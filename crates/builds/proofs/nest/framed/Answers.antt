-- `builds::nest::framed` meets its contract: the limit of the length by its test, then the room, and then the bytes are put.
-- Assumes nothing.
use native.Mathlib.Omega.{arith}
use Rattle.layouts.specs.Paper.Made.{nest_of}
use Rattle.layouts.specs.Paper.Nest.{Limits, nest_with}
use Rattle.builds.proofs.Laws.Built.{not_within, no_room, built}
use Rattle.builds.proofs.Laws.Bytes.{length-nest}
use Rattle.layouts.proofs.Laws.Made.{nest-fit}
use Rattle.builds.proofs.nest.framed.Goals as goal

pub returns-then-payload-gt1024 : goal.returns-then-payload-gt1024
returns-then-payload-gt1024 c = not_within (nest_with c.args.preamble.now) (nest_of c.args.id c.args.payload.now) c.args.room.now (λ l. omega (arith, l.short, c.if-payload-gt1024.true))

pub returns-then-room-len : goal.returns-then-room-len
returns-then-room-len c =
    let limits : Limits (nest_of c.args.id c.args.payload.now) = nest-fit c.args.id c.args.payload.now (omega (arith, c.ranges.id)) c.if-payload-gt1024.false (record { each = λ i. (c.type_inv.payload i).fits }) in
    no_room (nest_with c.args.preamble.now) (nest_of c.args.id c.args.payload.now) c.args.room.now limits (length-nest c.args.preamble.now c.args.id c.args.payload.now) c.if-room-len.true

pub returns : goal.returns
returns c =
    let limits : Limits (nest_of c.args.id c.args.payload.now) = nest-fit c.args.id c.args.payload.now (omega (arith, c.ranges.id)) c.if-payload-gt1024.false (record { each = λ i. (c.type_inv.payload i).fits }) in
    built (nest_with c.args.preamble.now) (nest_of c.args.id c.args.payload.now) c.args.room.now limits (length-nest c.args.preamble.now c.args.id c.args.payload.now) c.if-room-len.false c.put_frame.ensures
