-- `messages::of` meets its contract, tag by tag.
-- Assumes nothing.
use Rattle.std.specs.Prelude.{Ok}
use Rattle.messages.specs.declared.Message.TheVariants.{Nikobus}
use Rattle.messages.specs.declared.nikobus.Nikobus.TheVariants.{Tail}
use Rattle.messages.proofs.Laws.Meant.{in-arm, tail-meant}
use Rattle.messages.proofs.of.Goals as goal

pub returns-in-Link : goal.returns-in-Link
returns-in-Link c = in-arm c.args.payload.now c.of_link.result c.in-Link.is c.of_link.ensures

pub returns-in-Press : goal.returns-in-Press
returns-in-Press c = in-arm c.args.payload.now c.of_press.result c.in-Press.is c.of_press.ensures

pub returns-in-Tail : goal.returns-in-Tail
returns-in-Tail c = in-arm c.args.payload.now (Ok (Nikobus Tail)) c.in-Tail.is tail-meant

pub returns-in-Command : goal.returns-in-Command
returns-in-Command c = in-arm c.args.payload.now c.of_command.result c.in-Command.is c.of_command.ensures

pub returns-in-Response : goal.returns-in-Response
returns-in-Response c = in-arm c.args.payload.now c.of_response.result c.in-Response.is c.of_response.ensures

pub returns-in-Nibe : goal.returns-in-Nibe
returns-in-Nibe c = in-arm c.args.payload.now c.of.result c.in-Nibe.is c.of.ensures

pub returns-in-Homiq : goal.returns-in-Homiq
returns-in-Homiq c = in-arm c.args.payload.now c.of-in-Homiq.result c.in-Homiq.is c.of-in-Homiq.ensures
