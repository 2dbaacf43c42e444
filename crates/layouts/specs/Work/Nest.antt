-- Recognisers of Nest frames.
-- Assumes nothing.
use Rattle.std.specs.Prelude.{List, [], ◌∷◌, ℕ, ◌+◌, ◌-◌, ◌*◌, leb, length, get_or, take, drop}
use Rattle.checks.specs.Paper.Buses.{nest_crc}
use Rattle.checks.specs.Paper.Check.{check}
use Rattle.layouts.specs.Paper.Nest.{claimed}
use Rattle.layouts.specs.Work.Heads.{only_if, word_len, bytes_len, and_then}
use Rattle.layouts.specs.Work.Recogniser.{Recogniser}
use Rattle.layouts.specs.declared.Compared.{Compared}

-- id, length, payload and CRC
unfoldable pub body_len : List ℕ → ℕ
body_len s = only_if (leb (claimed s) 1024) (bytes_len (claimed s + 6) s)

-- the preamble before them
unfoldable pub nest_form_len : List ℕ → List ℕ → ℕ
nest_form_len mark = and_then (word_len mark) (λ _. body_len)

-- of what stands behind the preamble, the number that the last two bytes are and the CRC of the others
unfoldable pub crc_pair : List ℕ → Compared
crc_pair u =
    record {
      found = get_or u (length u - 2) 0 + get_or u (length u - 2 + 1) 0 * 256;
      expected = check nest_crc (take (length u - 2) u);
    }

-- the payload of what is laid out so begins four bytes behind the preamble and ends before the last two bytes
abbrev pub nest_recogniser : List ℕ → Recogniser
nest_recogniser mark =
    record {
      form = nest_form_len mark;
      pairs = λ w. crc_pair (drop (length mark) w) ∷ [];
      from = λ w. length mark + 4;
      to = λ w. length w - 2;
    }
