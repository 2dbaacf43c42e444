-- `messages::nibe::allowed` meets its contract, case by case.
-- Assumes nothing.
use native.Mathlib.Omega.{arith}
use Rattle.messages.specs.Paper.Message.{ask, reply, put, done}
use Rattle.messages.proofs.Laws.Allowed.{nibe-as, only-good, only_if}
use Rattle.messages.proofs.Laws.NibeRows.{ask-found, reply-found, put-found, done-found}
use Rattle.messages.specs.Paper.Table.{Limits}
use Rattle.std.specs.Prelude.{Ok}
use Rattle.messages.specs.declared.nibe.Nibe.TheVariants.{Ask, Reply, Put, Done, Other}
use Rattle.messages.proofs.nibe.allowed.Goals as goal

pub returns-in-Ask : goal.returns-in-Ask
returns-in-Ask c = let l : Limits (ask c.in-Ask.register) = omega (arith, c.in-Ask.known_told-1-own.given) in nibe-as (Ask c.in-Ask.register) c.args.content.now (Ok tt) c.in-Ask.is (only-good (ask c.in-Ask.register) l (ask-found c.in-Ask.register l))

pub returns-in-Reply : goal.returns-in-Reply
returns-in-Reply c =
    let stands = only_if (reply c.in-Reply.v.register c.in-Reply.v.width c.in-Reply.v.value) (λ p. (omega (arith, c.in-Reply.known_told-in-Reply-1-own.given), p)) (λ l. l.1) (reply-found c.in-Reply.v.register c.in-Reply.v.width c.in-Reply.v.value) in
    nibe-as (Reply c.in-Reply.v) c.args.content.now c.standing.result c.in-Reply.is
    (stands c.holds.ensures c.standing.ensures)

pub returns-in-Put : goal.returns-in-Put
returns-in-Put c =
    let stands = only_if (put c.in-Put.v.register c.in-Put.v.width c.in-Put.v.value) (λ p. (omega (arith, c.in-Put.known_told-in-Put-1-own.given), p)) (λ l. l.1) (put-found c.in-Put.v.register c.in-Put.v.width c.in-Put.v.value) in
    nibe-as (Put c.in-Put.v) c.args.content.now c.standing-in-Put.result c.in-Put.is
    (stands c.holds-in-Put.ensures c.standing-in-Put.ensures)

pub returns-in-Done : goal.returns-in-Done
returns-in-Done c = nibe-as (Done c.in-Done.ok) c.args.content.now (Ok tt) c.in-Done.is (only-good (done c.in-Done.ok) tt (done-found c.in-Done.ok))

pub returns-in-Other : goal.returns-in-Other
returns-in-Other c = nibe-as (Other _) c.args.content.now c.plain_allowed.result c.in-Other.is c.plain_allowed.ensures
