-- What the readers of characters answer.
-- Assumes nothing.
use Rattle.std.specs.Prelude.{List, [], ℕ, ◌≤◌, length}
use Rattle.digits.specs.Paper.Bytes.{Bytes}
use Rattle.jsontext.specs.Paper.Json.{string}
use Rattle.jsontext.specs.Paper.Names.{most_bytes}
use Rattle.jsontext.specs.Work.Units.{name_in}

-- the text is a string of characters that are bytes, and not over the limit
pub record NarrowString (s : List ℕ) : Type 0 where
  pub short : length s ≤ most_bytes
  pub string : string s []
  pub bytes : Bytes (name_in s)
