-- `lines::nibe::name_and_members` meets its contract, message by message.
-- Assumes nothing.
use mathlib.Core.Path.{sym, ap}
use Rattle.puts.proofs.Laws.Puts.{◌then◌, puts-as}
use Rattle.lines.specs.Paper.Line.{members}
use Rattle.lines.proofs.Laws.Put.{last-put}
use Rattle.messages.specs.Paper.Says.{of_nibe}
use Rattle.messages.specs.declared.nibe.Nibe.{Nibe}
use Rattle.sheet.specs.Paper.Map.{sheet_in}
use Rattle.lines.specs.Paper.WithSheet.{members_with, further_members}
use Rattle.lines.specs.Work.Put.{commaed, named_with}
use Rattle.lines.proofs.nibe.name_and_members.Goals as goal

pub returns-in-Ask : goal.returns-in-Ask
unfolding named_with members members_with further_members commaed
returns-in-Ask c = puts-as (sym (ap (λ (e : Nibe). named_with (sheet_in c.args.map.now) (of_nibe e c.args.content.now)) c.in-Ask.is)) (last-put c.number.ensures)

pub returns-in-Reply : goal.returns-in-Reply
unfolding named_with members members_with further_members commaed
returns-in-Reply c =
    puts-as (sym (ap (λ (e : Nibe). named_with (sheet_in c.args.map.now) (of_nibe e c.args.content.now)) c.in-Reply.is))
    (c.bytes-a.ensures
    then c.value.ensures)

pub returns-in-Put : goal.returns-in-Put
unfolding named_with members members_with further_members commaed
returns-in-Put c =
    puts-as (sym (ap (λ (e : Nibe). named_with (sheet_in c.args.map.now) (of_nibe e c.args.content.now)) c.in-Put.is))
    (c.bytes-a-in-Put.ensures
    then c.value-in-Put.ensures)

pub returns-in-Done : goal.returns-in-Done
unfolding named_with members members_with further_members commaed
returns-in-Done c =
    puts-as (sym (ap (λ (e : Nibe). named_with (sheet_in c.args.map.now) (of_nibe e c.args.content.now)) c.in-Done.is))
    (c.bytes-a-in-Done.ensures
    then last-put c.truth.ensures)

pub returns-in-Other : goal.returns-in-Other
unfolding named_with members members_with further_members commaed
returns-in-Other c =
    puts-as (sym (ap (λ (e : Nibe). named_with (sheet_in c.args.map.now) (of_nibe e c.args.content.now)) c.in-Other.is))
    (c.number-a.ensures
    then c.hex-b.ensures
    then c.member.ensures)
