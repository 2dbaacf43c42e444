-- The acknowledgement, from the payload of the frame that it answers.
-- Assumes nothing.
use Rattle.std.specs.Prelude.{List, ◌++◌, ℕ}
use Rattle.digits.specs.Paper.Ascii.{ascii}
use Rattle.puts.specs.Paper.Wrote.{Written}
use Rattle.layouts.specs.Paper.Homiq as homiqs
use Rattle.layouts.specs.Paper.Layout.{bytes_of}
use Rattle.layouts.specs.Paper.Made.{Wire, homiq_of, Payload}
use Rattle.messages.specs.Paper.Homiq.{field_at}
use Rattle.commands.specs.Paper.Acknowledge.{Acknowledges}

-- p is the payload of fields within their limits
pub record Laid (p : List ℕ) : Type 0 where
  pub wire : Wire
  pub payload : Payload p wire

-- r is the right answer to the frame whose payload p is
abbrev pub Answered : List ℕ → List ℕ → Written → List ℕ → Type 0
Answered p room r later = (w : Wire) → Payload p w → Acknowledges (bytes_of homiqs.homiq (homiq_of w)) room r later

-- CMD, VAL, two of the payload's fields as SRC and DST, ID, and `a`
abbrev pub relaid : ℕ → ℕ → List ℕ → List ℕ
relaid src dst p =
    field_at 0 p ++ ascii ";" ++ (field_at 1 p ++ ascii ";") ++ (field_at src p ++ ascii ";")
    ++ (field_at dst p ++ ascii ";") ++ (field_at 4 p ++ ascii ";") ++ ascii "a"

-- SRC and DST exchanged, and `a`
abbrev pub exchanged : List ℕ → List ℕ
exchanged p = relaid 3 2 p
