-- `builds::nikobus::link` meets its contract: each limit by its test, then the room, and then the bytes are put.
-- Assumes nothing.
use native.Mathlib.Omega.{arith}
use Rattle.layouts.specs.Paper.Made.{link_of}
use Rattle.layouts.specs.Paper.Nikobus.{Limits, nikobus}
use Rattle.builds.proofs.Laws.Built.{not_within, no_room, built}
use Rattle.builds.proofs.Laws.Bytes.{length-link}
use Rattle.layouts.proofs.Laws.Made.{link-fit, link-said}
use Rattle.builds.proofs.nikobus.link.Goals as goal

pub returns-then-n-lt1 : goal.returns-then-n-lt1
returns-then-n-lt1 c = not_within nikobus (link_of c.args.payload.now) c.args.room.now (λ l. omega (arith, (link-said l).0, c.if-n-lt1.true))

pub returns-then-n-gt122 : goal.returns-then-n-gt122
returns-then-n-gt122 c = not_within nikobus (link_of c.args.payload.now) c.args.room.now (λ l. omega (arith, (link-said l).1, c.if-n-gt122.true))

pub returns-then-room-len : goal.returns-then-room-len
returns-then-room-len c =
    let limits : Limits (link_of c.args.payload.now) = link-fit c.args.payload.now c.if-n-lt1.false c.if-n-gt122.false (record { each = λ i. (c.type_inv.payload i).fits }) in
    no_room nikobus (link_of c.args.payload.now) c.args.room.now limits (length-link c.args.payload.now) c.if-room-len.true

pub returns : goal.returns
returns c =
    let limits : Limits (link_of c.args.payload.now) = link-fit c.args.payload.now c.if-n-lt1.false c.if-n-gt122.false (record { each = λ i. (c.type_inv.payload i).fits }) in
    built nikobus (link_of c.args.payload.now) c.args.room.now limits (length-link c.args.payload.now) c.if-room-len.false c.put_link.ensures
