-- Recognisers of Nibe frames.
-- Assumes nothing.
use Rattle.std.specs.Prelude.{List, [], ◌∷◌, ℕ, ◌+◌, ◌-◌, eqb, leb, length, get_or}
use Rattle.digits.specs.Paper.Bytes.{part}
use Rattle.checks.specs.Paper.Buses.{nibe_xor}
use Rattle.checks.specs.Paper.Check.{check}
use Rattle.layouts.specs.Paper.Chars.{one_of}
use Rattle.layouts.specs.Paper.Nibe.{commands}
use Rattle.layouts.specs.Work.Heads.{only_if, bytes_len}
use Rattle.layouts.specs.Work.Recogniser.{Recogniser}
use Rattle.layouts.specs.declared.Compared.{Compared}

-- C0, command, length, as many bytes as that, one byte more
unfoldable pub nibe_form_len : List ℕ → ℕ
nibe_form_len s =
    only_if (eqb (get_or s 0 0) 0xC0)
    (only_if (one_of commands (get_or s 1 0))
    (bytes_len (get_or s 2 0 + 4) s))

-- how long a frame with the length that stands there is, 0 if there are fewer bytes
unfoldable pub claimed_len : List ℕ → ℕ
claimed_len s = only_if (leb (get_or s 2 0 + 4) (length s)) (get_or s 2 0 + 4)

-- the last byte, and the check value of the length and the data (as the code has it: the check of x^8 + 1, which is
-- their XOR)
unfoldable pub nibe_pair : List ℕ → Compared
nibe_pair w = record { found = get_or w (length w - 1) 0; expected = check nibe_xor (part 2 (length w - 1) w) }

-- the payload of what is laid out so begins at 3 and ends before the last byte
abbrev pub nibe_recogniser : Recogniser
nibe_recogniser = record { form = nibe_form_len; pairs = λ w. nibe_pair w ∷ []; from = λ w. 3; to = λ w. length w - 1 }
