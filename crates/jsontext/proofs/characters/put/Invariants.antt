-- `characters::put` meets its contract. The loop's invariant: the units that are put, and those that are left, are all.
-- Assumes nothing.
use Rattle.jsontext.specs.Work.Names.{left}
use Rattle.jsontext.specs.Work.Units.{name_in}
use Rattle.jsontext.proofs.Laws.Narrow.{Putting}
use Rattle.jsontext.proofs.characters.put.Given as goal

abbrev pub invariant-loop-u : goal.invariant-loop-u
invariant-loop-u l = Putting (name_in l.text) l.initial.room l.room (left l.u-iterator.low l.u-iterator.rest.now) l.n
