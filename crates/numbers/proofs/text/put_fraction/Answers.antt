-- `numbers::text::put_fraction` meets its contract: the digits of 10 ^ d and the fraction are a `1` and then the d digits behind the point.
-- Assumes nothing.
use mathlib.Core.Path.{sym}
use Rattle.puts.proofs.Laws.Puts.{◌then◌, puts-as}
use Rattle.numbers.proofs.Laws.Text.{ten-pos, fraction-some, fraction-part}
use Rattle.numbers.proofs.text.put_fraction.Goals as goal

pub nonzero_rem-n : goal.nonzero_rem-n
nonzero_rem-n c = rw c.unit-one.ensures (ten-pos c.args.decimals)

pub returns : goal.returns
returns c =
    puts-as (sym (fraction-some c.args.decimals c.args.n c.if-decimals-eq0.false))
    (c.byte-next.ensures then puts-as (fraction-part c.args.decimals c.args.n _ c.unit-one.ensures c.requires c.digits-d.ensures) c.bytes.ensures)
