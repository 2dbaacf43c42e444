-- `json_values::chars` meets its contract: the writers' promises, one after the other. What needs no escape at the head and what stands behind it are all of it.
-- Assumes nothing.
use native.Mathlib.Omega.{arith}
use Rattle.puts.proofs.Laws.Puts.{◌then◌, puts-as}
use Rattle.json_values.proofs.Laws.Spelt.{plain_then}
use Rattle.json_values.proofs.chars.Goals as goal

pub slice_bounds-bytes-end : goal.slice_bounds-bytes-end
slice_bounds-bytes-end c = omega (arith, c.plain-n.ensures.upper_bound)

pub slice_bounds-escaped_bytes-count : goal.slice_bounds-escaped_bytes-count
slice_bounds-escaped_bytes-count c = omega (arith, c.plain-n.ensures.upper_bound)

pub slice_bounds-escaped_bytes-start : goal.slice_bounds-escaped_bytes-start
slice_bounds-escaped_bytes-start c = omega (arith, c.plain-n.ensures.upper_bound)

pub returns : goal.returns
returns c =
    c.byte-from.ensures
    then puts-as (plain_then c.args.s.now c.plain-n.result c.plain-n.ensures.s_value) (c.bytes-next.ensures then c.escaped_bytes-end.ensures)
    then c.byte.ensures
