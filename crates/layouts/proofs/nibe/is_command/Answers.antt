-- `layouts::nibe::is_command` meets its contract, value by value.
-- Assumes nothing.
use mathlib.Core.Path.{sym}
use mathlib.Core.Bool.{or-false}
use lib.Dec.{eqb}
use borrow.Author.Tests.{ne_eqb}
use Rattle.layouts.specs.Paper.Chars.{one_of}
use Rattle.layouts.proofs.nibe.is_command.Goals as goal

pub returns-then-c-eq96 : goal.returns-then-c-eq96
unfolding one_of
returns-then-c-eq96 c = rw c.if-c-eq96.true

pub returns-then-c-eq98 : goal.returns-then-c-eq98
unfolding one_of
returns-then-c-eq98 c = rw c.if-c-eq98.true

pub returns-then-c-eq104 : goal.returns-then-c-eq104
unfolding one_of
returns-then-c-eq104 c = rw c.if-c-eq104.true

pub returns-then-c-eq105 : goal.returns-then-c-eq105
unfolding one_of
returns-then-c-eq105 c = rw c.if-c-eq105.true

pub returns-then-c-eq106 : goal.returns-then-c-eq106
unfolding one_of
returns-then-c-eq106 c = rw c.if-c-eq106.true

pub returns-then-c-eq107 : goal.returns-then-c-eq107
unfolding one_of
returns-then-c-eq107 c = rw c.if-c-eq107.true

pub returns : goal.returns
unfolding one_of
returns c = simp (
  ne_eqb c.args.c 0x60 c.if-c-eq96.false,
  ne_eqb c.args.c 0x62 c.if-c-eq98.false,
  ne_eqb c.args.c 0x68 c.if-c-eq104.false,
  ne_eqb c.args.c 0x69 c.if-c-eq105.false,
  ne_eqb c.args.c 0x6A c.if-c-eq106.false,
  ne_eqb c.args.c 0x6B c.if-c-eq107.false,
)
    (sym (or-false (eqb c.args.c 0x6C)))
