-- `lacks::found` meets its contract.
-- Assumes nothing.
use mathlib.Core.Path.{refl}
use Rattle.asked.proofs.Laws.Sorted.{within-room, found-by, always-written}
use Rattle.asked.proofs.lacks.found.Goals as goal

pub slice_bounds-value_of-end : goal.slice_bounds-value_of-end
slice_bounds-value_of-end c = within-room c.args.row c.args.member c.name_of.ensures c.in_ok-n.was

pub returns : goal.returns
returns c = found-by c.args.row c.args.member c.name_of.ensures c.value_of.result c.in_ok-n.was c.value_of.ensures

pub returns-in_err-n : goal.returns-in_err-n
returns-in_err-n c = absurd (always-written c.args.row c.args.member c.name_of.ensures c.in_err-n.was c.requires.0 c.requires.1 refl)
