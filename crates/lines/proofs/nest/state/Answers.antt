-- `lines::nest::state` meets its contract: the voltages are those of the payload.
-- Assumes nothing.
use mathlib.Core.Path.{ap}
use mathlib.Core.List.{List, ◌++◌}
use Prim.Native.Nat.{ℕ}
use Rattle.std.specs.Prelude.{Ok, Err}
use Rattle.digits.specs.Paper.Ascii.{ascii}
use Rattle.puts.proofs.Laws.Puts.{◌then◌, puts-as}
use Rattle.lines.proofs.Laws.Put.{last-put}
use Rattle.lines.proofs.Laws.Said.{state-members}
use Rattle.lines.specs.Work.Put.{commaed, volts_members}
use Rattle.lines.proofs.nest.state.Goals as goal

pub returns : goal.returns
unfolding volts_members commaed
returns c =
    puts-as
    (ap (λ (x : List ℕ). ascii "state\"" ++ x)
    (state-members c.args.payload.now (Ok c.in-Ok.volts) c.in-Ok.ensures))
    (c.bytes-a.ensures
    then c.reading-b.ensures
    then c.reading-c.ensures
    then c.reading-d.ensures
    then last-put c.hex.ensures)

pub returns-in_default : goal.returns-in_default
unfolding volts_members
returns-in_default c =
    puts-as
    (ap (λ (x : List ℕ). ascii "state\"" ++ x)
    (state-members c.args.payload.now (Err c.in_default.field-0) c.in_default.ensures))
    (last-put c.bytes-a.ensures)
