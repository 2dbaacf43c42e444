-- `frames::seek::first` meets its contract: the kind is the one by whose name it was handed on.
-- Assumes nothing.
use mathlib.Core.Path.{sym, ◌∙◌, ap}
use Rattle.frames.specs.Work.Seek.{seek}
use Rattle.frames.specs.declared.kinds.Kind.{Kind}
use Rattle.frames.proofs.seek.first.Goals as goal

pub returns-in-Nikobus : goal.returns-in-Nikobus
returns-in-Nikobus c = c.first_of.ensures ∙ sym (ap (λ (k : Kind). seek k c.args.buffer.now c.args.place) c.in-Nikobus.is)

pub returns-in-NestCommand : goal.returns-in-NestCommand
returns-in-NestCommand c = c.first_of-in-NestCommand.ensures ∙ sym (ap (λ (k : Kind). seek k c.args.buffer.now c.args.place) c.in-NestCommand.is)

pub returns-in-NestResponse : goal.returns-in-NestResponse
returns-in-NestResponse c = c.first_of-in-NestResponse.ensures ∙ sym (ap (λ (k : Kind). seek k c.args.buffer.now c.args.place) c.in-NestResponse.is)

pub returns-in-Nibe : goal.returns-in-Nibe
returns-in-Nibe c = c.first_of-in-Nibe.ensures ∙ sym (ap (λ (k : Kind). seek k c.args.buffer.now c.args.place) c.in-Nibe.is)

pub returns-in-Homiq : goal.returns-in-Homiq
returns-in-Homiq c = c.first_of-in-Homiq.ensures ∙ sym (ap (λ (k : Kind). seek k c.args.buffer.now c.args.place) c.in-Homiq.is)
