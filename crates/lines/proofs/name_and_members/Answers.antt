-- `lines::name_and_members` meets its contract, bus by bus.
-- Assumes nothing.
use mathlib.Core.Path.{sym, ap}
use Rattle.puts.proofs.Laws.Puts.{puts-as}
use Rattle.messages.specs.declared.Message.{Message}
use Rattle.lines.specs.Work.Put.{name_and_members}
use Rattle.sheet.specs.Paper.Map.{sheet_in}
use Rattle.lines.proofs.name_and_members.Goals as goal

pub returns-in-Nikobus : goal.returns-in-Nikobus
unfolding name_and_members
returns-in-Nikobus c = puts-as (sym (ap (λ (e : Message). name_and_members (sheet_in c.args.map.now) e c.args.content.now) c.in-Nikobus.is)) c.name_and_members.ensures

pub returns-in-Command : goal.returns-in-Command
unfolding name_and_members
returns-in-Command c = puts-as (sym (ap (λ (e : Message). name_and_members (sheet_in c.args.map.now) e c.args.content.now) c.in-Command.is)) c.command.ensures

pub returns-in-Response : goal.returns-in-Response
unfolding name_and_members
returns-in-Response c = puts-as (sym (ap (λ (e : Message). name_and_members (sheet_in c.args.map.now) e c.args.content.now) c.in-Response.is)) c.name_and_members-in-Response.ensures

pub returns-in-Nibe : goal.returns-in-Nibe
unfolding name_and_members
returns-in-Nibe c = puts-as (sym (ap (λ (e : Message). name_and_members (sheet_in c.args.map.now) e c.args.content.now) c.in-Nibe.is)) c.name_and_members-in-Nibe.ensures

pub returns-in-Homiq : goal.returns-in-Homiq
unfolding name_and_members
returns-in-Homiq c = puts-as (sym (ap (λ (e : Message). name_and_members (sheet_in c.args.map.now) e c.args.content.now) c.in-Homiq.is)) c.name_and_members-in-Homiq.ensures
