-- 02, K4: "Reading a line of 01, with those members exchanged, gives its message."
-- Assumes nothing.
use Rattle.std.specs.Prelude.{List, ◌∷◌, ℕ}
use Rattle.digits.specs.Paper.Ascii.{ascii}
use Rattle.messages.specs.Paper.Message.{Message, row, name}
use Rattle.json_values.specs.Paper.Json.{◌∶◌, object, number, quoted}
use Rattle.lines.specs.Paper.Line.{members}
use Rattle.shapes.specs.Paper.Shapes.{shape_at}

-- a message's line, "`kind` in place of at and len"
abbrev pub command_line : Message → List ℕ
command_line m =
    object (ascii "kind" ∶ number (shape_at (row m)).kind ∷ ascii "msg" ∶ quoted (name m) ∷ members m)
