-- `messages::allowed` meets its contract, bus by bus.
-- Assumes nothing.
use mathlib.Core.Path.{refl}
use native.Mathlib.Omega.{arith}
use Rattle.digits.specs.Paper.Bytes.{Bytes}
use Rattle.messages.proofs.Laws.Allowed.{allows-as, only_if}
use Rattle.messages.proofs.Laws.Given.{sized}
use Rattle.messages.specs.Paper.Message.{command}
use Rattle.messages.specs.Paper.Table.{content_of}
use Rattle.messages.specs.Work.Look.{look}
use Rattle.messages.specs.declared.Message.TheVariants.{Nikobus, Command, Response, Nibe, Homiq}
use Rattle.messages.proofs.allowed.Goals as goal

pub returns-in-Nikobus : goal.returns-in-Nikobus
returns-in-Nikobus c = allows-as (Nikobus _) c.args.content.now c.allowed.result c.in-Nikobus.is c.allowed.ensures

pub returns-in-Command : goal.returns-in-Command
unfolding look content_of
returns-in-Command c =
    let b : Bytes c.args.content.now = record { each = λ j. (c.type_inv.content j).fits } in
    let stands = only_if (command c.in-Command.id c.args.content.now) (λ p. (omega (arith, c.in-Command.known_told-in-Command-1-own.given), sized p b)) (λ l. l.1.short) (λ l. refl) in
    allows-as (Command c.in-Command.id) c.args.content.now c.standing.result c.in-Command.is (stands c.is_short.ensures c.standing.ensures)

pub returns-in-Response : goal.returns-in-Response
returns-in-Response c = allows-as (Response _) c.args.content.now c.allowed-in-Response.result c.in-Response.is c.allowed-in-Response.ensures

pub returns-in-Nibe : goal.returns-in-Nibe
returns-in-Nibe c = allows-as (Nibe _) c.args.content.now c.allowed-in-Nibe.result c.in-Nibe.is c.allowed-in-Nibe.ensures

pub returns-in-Homiq : goal.returns-in-Homiq
returns-in-Homiq c = allows-as (Homiq _) c.args.content.now c.allowed-in-Homiq.result c.in-Homiq.is c.allowed-in-Homiq.ensures
