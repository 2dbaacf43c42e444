-- `json_values::whole` meets its contract, below zero and from zero on.
-- Assumes nothing.
use Rattle.puts.proofs.Laws.Puts.{◌then◌, puts-as}
use Rattle.json_values.proofs.Laws.Raws.{lower-fits, lower-cast, lower-text, upper-cast, upper-text}
use Rattle.json_values.proofs.whole.Goals as goal

pub overflow_sub-raw : goal.overflow_sub-raw
overflow_sub-raw c = lower-fits c.args.raw c.ranges.raw c.requires c.if-raw-lt0.true

pub overflow_cast-raw : goal.overflow_cast-raw
overflow_cast-raw c = lower-cast c.args.raw c.ranges.raw c.requires c.if-raw-lt0.true

pub returns-then-raw-lt0 : goal.returns-then-raw-lt0
returns-then-raw-lt0 c =
    puts-as (lower-text c.args.raw c.ranges.raw c.requires c.if-raw-lt0.true) (c.byte-a.ensures then c.whole.ensures)

pub overflow_cast-raw-2 : goal.overflow_cast-raw-2
overflow_cast-raw-2 c = upper-cast c.args.raw c.ranges.raw c.requires c.if-raw-lt0.false

pub returns : goal.returns
returns c =
    puts-as (upper-text c.args.raw c.ranges.raw c.requires c.if-raw-lt0.false) c.whole-2.ensures
