-- `frames::kinds::of` meets its contract, number by number.
-- Assumes nothing.
use mathlib.Core.Path.{sym}
use borrow.Author.Tests.{ne_eqb}
use Rattle.frames.proofs.Laws.Kinds.{resolves-to, resolves-none}
use Rattle.layouts.specs.Paper.Chars.{one_of}
use Rattle.frames.specs.Paper.Kinds.{known}
use Rattle.frames.specs.declared.kinds.Kind.TheVariants.{Nikobus, NestCommand, NestResponse, Nibe, Homiq}
use Rattle.frames.proofs.kinds.of.Goals as goal

pub returns-in-1 : goal.returns-in-1
returns-in-1 c = resolves-to Nikobus (sym c.in-1.is)

pub returns-in-2 : goal.returns-in-2
returns-in-2 c = resolves-to NestCommand (sym c.in-2.is)

pub returns-in-3 : goal.returns-in-3
returns-in-3 c = resolves-to NestResponse (sym c.in-3.is)

pub returns-in-4 : goal.returns-in-4
returns-in-4 c = resolves-to Nibe (sym c.in-4.is)

pub returns-in-5 : goal.returns-in-5
returns-in-5 c = resolves-to Homiq (sym c.in-5.is)

pub returns-in_default : goal.returns-in_default
unfolding known one_of
returns-in_default c =
    let r = c.in_default.in_default-own.rest in
    resolves-none (simp (ne_eqb _ _ r.0.0.0.0.1, ne_eqb _ _ r.0.0.0.1, ne_eqb _ _ r.0.0.1, ne_eqb _ _ r.0.1, ne_eqb _ _ r.1))
