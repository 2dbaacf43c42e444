-- `json_values::escaped` meets its contract, by the tests.
-- Assumes nothing.
use Rattle.puts.proofs.Laws.Puts.{puts-as}
use Rattle.json_values.proofs.Laws.Spelt.{quote, backslash, low, high, plain}
use Rattle.json_values.proofs.escaped.Goals as goal

pub returns-then-b-eq34 : goal.returns-then-b-eq34
returns-then-b-eq34 c =
    puts-as (quote c.args.b c.if-b-eq34.true) c.bytes.ensures

pub returns-then-b-eq92 : goal.returns-then-b-eq92
returns-then-b-eq92 c =
    puts-as (backslash c.args.b c.if-b-eq92.true) c.bytes-then-b-eq92.ensures

pub returns-then-b-lt32 : goal.returns-then-b-lt32
returns-then-b-lt32 c =
    puts-as (low c.args.b c.if-b-eq34.false c.if-b-eq92.false c.if-b-lt32.true) c.code.ensures

pub returns-then-b-gt126 : goal.returns-then-b-gt126
returns-then-b-gt126 c =
    puts-as (high c.args.b c.if-b-eq34.false c.if-b-eq92.false c.if-b-lt32.false c.if-b-gt126.true) c.code-then-b-gt126.ensures

pub returns : goal.returns
returns c =
    puts-as (plain c.args.b c.if-b-eq34.false c.if-b-eq92.false c.if-b-lt32.false c.if-b-gt126.false) c.byte.ensures
