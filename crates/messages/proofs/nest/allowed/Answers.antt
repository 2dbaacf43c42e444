-- `messages::nest::allowed` meets its contract, case by case.
-- Assumes nothing.
use native.Mathlib.Omega.{arith}
use Rattle.messages.specs.Paper.Message.{climate, break, end}
use Rattle.messages.proofs.Laws.Allowed.{response-as, only-good}
use Rattle.messages.proofs.Laws.Given.{holds-sixteen}
use Rattle.messages.proofs.Laws.NestRows.{climate-found, break-found, end-found}
use Rattle.messages.specs.Paper.Table.{Limits}
use Rattle.std.specs.Prelude.{Ok}
use Rattle.messages.specs.declared.nest.Response.TheVariants.{Climate, State, Break, End, Text, Other}
use Rattle.messages.proofs.nest.allowed.Goals as goal

pub returns-in-Climate : goal.returns-in-Climate
returns-in-Climate c = let l : Limits (climate c.in-Climate.temperature c.in-Climate.humidity) = (holds-sixteen c.in-Climate.temperature (record { sfits = c.in-Climate.known_told-1-own.given.0.1 }), omega (arith, c.in-Climate.known_told-1-own.given)) in response-as (Climate c.in-Climate.temperature c.in-Climate.humidity) c.args.payload.now (Ok tt) c.in-Climate.is (only-good (climate c.in-Climate.temperature c.in-Climate.humidity) l (climate-found c.in-Climate.temperature c.in-Climate.humidity l))

pub returns-in-State : goal.returns-in-State
returns-in-State c = response-as State c.args.payload.now c.state_allowed.result c.in-State.is c.state_allowed.ensures

pub returns-in-Break : goal.returns-in-Break
returns-in-Break c = response-as Break c.args.payload.now (Ok tt) c.in-Break.is (only-good break tt break-found)

pub returns-in-End : goal.returns-in-End
returns-in-End c = response-as End c.args.payload.now (Ok tt) c.in-End.is (only-good end tt end-found)

pub returns-in-Text : goal.returns-in-Text
returns-in-Text c = response-as (Text _) c.args.payload.now c.text_allowed.result c.in-Text.is c.text_allowed.ensures

pub returns-in-Other : goal.returns-in-Other
returns-in-Other c = response-as (Other _) c.args.payload.now c.response_allowed.result c.in-Other.is c.response_allowed.ensures
