-- `units::same_name` meets its contract. The loop's invariant: what is left of both strings tells of all.
-- Assumes nothing.
use lib.ListN.{drop}
use Rattle.jsontext.specs.Work.Names.{left}
use Rattle.jsontext.specs.Work.Units.{name_in}
use Rattle.jsontext.proofs.Laws.Cursors.{Walked}
use Rattle.jsontext.proofs.units.same_name.Given as goal

abbrev pub invariant-loop-u : goal.invariant-loop-u
invariant-loop-u l =
    Walked (name_in (drop l.a l.s)) (name_in (drop l.b l.s)) (left l.u-iterator.low l.u-iterator.rest.now)
    (left l.others.low l.others.rest.now)
