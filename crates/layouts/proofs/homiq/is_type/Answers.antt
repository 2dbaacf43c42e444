-- `layouts::homiq::is_type` meets its contract, value by value.
-- Assumes nothing.
use mathlib.Core.Bool.{or-false}
use mathlib.Core.Path.{sym}
use lib.Dec.{eqb}
use borrow.Author.Tests.{ne_eqb}
use Rattle.layouts.specs.Paper.Chars.{one_of}
use Rattle.layouts.proofs.homiq.is_type.Goals as goal

pub returns-then-c-eq115 : goal.returns-then-c-eq115
unfolding one_of
returns-then-c-eq115 c = rw c.if-c-eq115.true

pub returns : goal.returns
unfolding one_of
returns c = simp (ne_eqb c.args.c 115 c.if-c-eq115.false) (sym (or-false (eqb c.args.c 97)))
