-- What the members of an answer say, in the words of the promises. The first member, the refusal number, is not spoken
-- of here.
-- Assumes nothing.
use Rattle.std.specs.Prelude.{List, ℕ, length}
use Rattle.std.proofs.Math.Option.{Option}
use Rattle.puts.specs.Paper.Right.{AnswersInto}
use Rattle.lines.specs.Paper.Answers.{Placed, zero_placed, NextCause, NextLine}
use Rattle.sheet.specs.Paper.Sheet.{Lookup}
use Rattle.host_lines.specs.declared.Listed.{Listed}

-- a line that begins at the room's front ends at its length
abbrev pub placed_in : Listed → Placed
placed_in r = record { start = r.start; len = r.length; behind = r.line_length }

-- r is the right answer, and `later` the right room afterwards, of a call that writes the line of the next frame from
-- the front of a lent room
abbrev pub WroteNext : Option Lookup → ℕ → List ℕ → ℕ → List ℕ → Listed → List ℕ → Type 0
WroteNext sheet k s place room r later =
    AnswersInto zero_placed room (NextCause sheet k s place (length room)) (NextLine sheet k s place room 0)
    r.refusal (placed_in r) later
