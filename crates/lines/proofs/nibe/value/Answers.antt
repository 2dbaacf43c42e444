-- `lines::nibe::value` meets its contract: one member after the other.
-- Assumes nothing.
use mathlib.Core.Option.{Option}
use mathlib.Core.Path.{sym, ap}
use Rattle.puts.proofs.Laws.Puts.{◌then◌, puts-as}
use Rattle.sheet.specs.Paper.Sheet.{RegisterType}
use Rattle.lines.specs.Paper.WithSheet.{value_reading}
use Rattle.lines.specs.Work.Put.{commaed}
use Rattle.lines.proofs.Laws.Put.{last-put}
use Rattle.lines.proofs.Laws.Types.{type-in}
use Rattle.lines.proofs.nibe.value.Goals as goal

pub returns : goal.returns
unfolding commaed
returns c =
    let o = type-in c.args.map.now c.args.valued.register in
    c.number-a.ensures
    then c.number-b.ensures
    then c.bytes-c.ensures
    then last-put (puts-as (sym (ap (λ (t : Option RegisterType). value_reading t c.args.valued.width c.args.valued.value) o)) c.reading.ensures)
