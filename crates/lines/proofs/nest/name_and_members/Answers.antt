-- `lines::nest::name_and_members` meets its contract, message by message.
-- Assumes nothing.
use mathlib.Core.Path.{sym, ap, ◌∙◌}
use lib.IntN.{ℤ}
use mir.Syntax.{w16}
use mir.ValLaws.{to_z-of_z}
use Rattle.puts.proofs.Laws.Puts.{puts-as}
use Rattle.messages.specs.Paper.Message.{climate}
use Rattle.lines.specs.Paper.Line.{members}
use Rattle.messages.specs.declared.nest.Response.{Response}
use Rattle.lines.specs.Work.Put.{commaed, named, response_name_and_members}
use Rattle.lines.proofs.nest.name_and_members.Goals as goal

pub returns-in-Climate : goal.returns-in-Climate
unfolding response_name_and_members
returns-in-Climate c =
    puts-as
    (ap (λ (z : ℤ). named (climate z c.in-Climate.humidity)) (to_z-of_z w16 c.in-Climate.temperature (record { sfits = c.in-Climate.known_told-1-own.given.0.1 }))
    ∙ sym (ap (λ (e : Response). response_name_and_members e c.args.payload.now) c.in-Climate.is))
    c.climate.ensures

pub returns-in-State : goal.returns-in-State
unfolding response_name_and_members
returns-in-State c = puts-as (sym (ap (λ (e : Response). response_name_and_members e c.args.payload.now) c.in-State.is)) c.state.ensures

pub returns-in-Break : goal.returns-in-Break
unfolding response_name_and_members named members commaed
returns-in-Break c = puts-as (sym (ap (λ (e : Response). response_name_and_members e c.args.payload.now) c.in-Break.is)) c.bytes.ensures

pub returns-in-End : goal.returns-in-End
unfolding response_name_and_members named members commaed
returns-in-End c = puts-as (sym (ap (λ (e : Response). response_name_and_members e c.args.payload.now) c.in-End.is)) c.bytes-in-End.ensures

pub returns-in-Text : goal.returns-in-Text
unfolding response_name_and_members
returns-in-Text c = puts-as (sym (ap (λ (e : Response). response_name_and_members e c.args.payload.now) c.in-Text.is)) c.text.ensures

pub returns-in-Other : goal.returns-in-Other
unfolding response_name_and_members
returns-in-Other c = puts-as (sym (ap (λ (e : Response). response_name_and_members e c.args.payload.now) c.in-Other.is)) c.response.ensures
