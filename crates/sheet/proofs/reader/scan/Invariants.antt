-- `sheet::reader::scan` meets its contract. The loop's invariant: the lines passed are good, and what the rest is says what the text is.
-- Assumes nothing.
use lib.ListN.{length}
use Rattle.sheet.specs.Work.Lines.{Scanning}
use Rattle.sheet.proofs.reader.scan.Given as goal

abbrev pub invariant-loop-left : goal.invariant-loop-left
invariant-loop-left l = Scanning l.text l.left l.least l.number

abbrev pub decreases-loop-left : goal.decreases-loop-left
decreases-loop-left l = length l.left
