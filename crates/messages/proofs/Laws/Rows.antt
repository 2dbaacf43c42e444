-- What each row of the table has to show.
-- Assumes nothing.
use mathlib.Core.Logic.{◌⊎◌}
use mathlib.Core.Path.{◌≡◌}
use Prim.Native.Nat.{◌<◌}
use Rattle.messages.specs.Paper.Content.{Content}
use Rattle.messages.specs.Paper.Message.{Message, row}
use Rattle.messages.specs.Paper.Table.{content_of, Limits}

-- m is a message within its limits with this content
pub record ReadsTo (x : Content) (m : Message) : Type 0 where
  pub same : content_of m ≡ x
  pub limits : Limits m

-- what is found for the content of m: m itself, or a message above it
abbrev pub Found : Message → Message → Type 0
Found m n = (n ≡ m) ⊎ (row n < row m)
