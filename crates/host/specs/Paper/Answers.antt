-- What the members of an answer say, in the words of the promises. An answer gives the start and the length of a
-- part, and so its end. Its first member, the refusal number, is not spoken of here.
-- Assumes nothing.
use Rattle.std.specs.Prelude.{Bool, true, false, ℕ, ◌+◌}
use Rattle.digits.specs.Paper.Part.{Ends}
use Rattle.numbers.specs.Paper.Text.{Number}
use Rattle.frames.specs.Paper.Search.{Hit}
use Rattle.host.specs.declared.answers.Found.{Found}
use Rattle.host.specs.declared.answers.Payload.{Payload}
use Rattle.host.specs.declared.answers.Reading.{Reading}

abbrev pub hit_in : Found → Hit
hit_in r =
    record {
      start = r.start;
      len = r.length;
      from = r.payload_start;
      to = r.payload_start + r.payload_length;
    }

abbrev pub ends_in : Payload → Ends
ends_in r = record { from = r.payload_start; to = r.payload_start + r.payload_length }

abbrev pub number_in : Reading → Number
number_in r = record { raw = r.raw; decimals = r.decimals }

-- a test's answer as a number
abbrev pub flag : Bool → ℕ
flag true = 1
flag false = 0
