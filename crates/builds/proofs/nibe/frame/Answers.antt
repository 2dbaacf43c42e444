-- `builds::nibe::frame` meets its contract: each limit by its test, then the room, and then the bytes are put.
-- Assumes nothing.
use mathlib.Core.Bool.{not}
use mathlib.Core.Path.{ap}
use native.Mathlib.Omega.{arith}
use Rattle.layouts.specs.Paper.Made.{nibe_of}
use Rattle.layouts.specs.Paper.Nibe.{Limits, nibe}
use Rattle.builds.proofs.Laws.Built.{told, not-told, not_within, no_room, built}
use Rattle.builds.proofs.Laws.Bytes.{length-nibe}
use Rattle.layouts.proofs.Laws.Made.{nibe-fit}
use Rattle.builds.proofs.nibe.frame.Goals as goal

pub returns-then-not-is_command : goal.returns-then-not-is_command
returns-then-not-is_command c = not_within nibe (nibe_of c.args.command c.args.content.now) c.args.room.now (λ l. not-told c.is_command.ensures (ap not c.if-not-is_command.true) l.command)

pub returns-then-content-gt255 : goal.returns-then-content-gt255
returns-then-content-gt255 c = not_within nibe (nibe_of c.args.command c.args.content.now) c.args.room.now (λ l. omega (arith, l.short, c.if-content-gt255.true))

pub returns-then-room-len : goal.returns-then-room-len
returns-then-room-len c =
    let limits : Limits (nibe_of c.args.command c.args.content.now) = nibe-fit c.args.command c.args.content.now (told c.is_command.ensures (ap not c.if-not-is_command.false)) c.if-content-gt255.false
    (record { each = λ i. (c.type_inv.content i).fits }) in
    no_room nibe (nibe_of c.args.command c.args.content.now) c.args.room.now limits (length-nibe c.args.command c.args.content.now) c.if-room-len.true

pub returns : goal.returns
returns c =
    let limits : Limits (nibe_of c.args.command c.args.content.now) = nibe-fit c.args.command c.args.content.now (told c.is_command.ensures (ap not c.if-not-is_command.false)) c.if-content-gt255.false
    (record { each = λ i. (c.type_inv.content i).fits }) in
    built nibe (nibe_of c.args.command c.args.content.now) c.args.room.now limits (length-nibe c.args.command c.args.content.now) c.if-room-len.false c.put_frame.ensures
