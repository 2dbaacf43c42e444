-- `characters::is_name` meets its contract. The loop's invariant: what is left of the string and of the name tells of all.
-- Assumes nothing.
use lib.ListN.{drop}
use Rattle.jsontext.specs.Work.Names.{left}
use Rattle.jsontext.specs.Work.Units.{name_in}
use Rattle.jsontext.proofs.Laws.Cursors.{Walked}
use Rattle.jsontext.proofs.characters.is_name.Given as goal

abbrev pub invariant-loop-b : goal.invariant-loop-b
invariant-loop-b l = Walked (name_in (drop l.p l.s)) l.name (left l.units.low l.units.rest.now) (drop l.b-index l.name)
