-- `lines::nikobus::name_and_members` meets its contract, message by message.
-- Assumes nothing.
use mathlib.Core.Path.{sym, ap}
use Rattle.puts.proofs.Laws.Puts.{puts-as}
use Rattle.lines.specs.Paper.Line.{members}
use Rattle.messages.specs.declared.nikobus.Nikobus.{Nikobus}
use Rattle.lines.specs.Work.Put.{commaed, named, nikobus_name_and_members}
use Rattle.lines.proofs.nikobus.name_and_members.Goals as goal

pub returns-in-Read : goal.returns-in-Read
unfolding nikobus_name_and_members
returns-in-Read c = puts-as (sym (ap (λ (e : Nikobus). nikobus_name_and_members e c.args.digits.now) c.in-Read.is)) c.read.ensures

pub returns-in-Set : goal.returns-in-Set
unfolding nikobus_name_and_members
returns-in-Set c = puts-as (sym (ap (λ (e : Nikobus). nikobus_name_and_members e c.args.digits.now) c.in-Set.is)) c.set.ensures

pub returns-in-Answer : goal.returns-in-Answer
unfolding nikobus_name_and_members
returns-in-Answer c = puts-as (sym (ap (λ (e : Nikobus). nikobus_name_and_members e c.args.digits.now) c.in-Answer.is)) c.answer.ensures

pub returns-in-Press : goal.returns-in-Press
unfolding nikobus_name_and_members
returns-in-Press c = puts-as (sym (ap (λ (e : Nikobus). nikobus_name_and_members e c.args.digits.now) c.in-Press.is)) c.press.ensures

pub returns-in-Tail : goal.returns-in-Tail
unfolding nikobus_name_and_members named members commaed
returns-in-Tail c = puts-as (sym (ap (λ (e : Nikobus). nikobus_name_and_members e c.args.digits.now) c.in-Tail.is)) c.bytes.ensures

pub returns-in-Link : goal.returns-in-Link
unfolding nikobus_name_and_members
returns-in-Link c = puts-as (sym (ap (λ (e : Nikobus). nikobus_name_and_members e c.args.digits.now) c.in-Link.is)) c.link.ensures
