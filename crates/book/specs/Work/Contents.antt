-- What the frame of an entry says.
-- Assumes nothing.
use Rattle.std.specs.Prelude.{List, ℕ}
use Rattle.frames.specs.Paper.Kinds.{Frame}
use Rattle.messages.specs.Paper.Content.{content_at, payload_in}
use Rattle.messages.specs.Paper.Meant.{ContentWith}
use Rattle.messages.specs.declared.Tag.{Tag}

-- f is a frame of the kind with the number k, and what it says has this tag and its payload
pub record Tagged (k : ℕ) (f : List ℕ) (tag : Tag) : Type 0 where
  pub frame : Frame k f
  pub is : ContentWith tag (payload_in (content_at frame)) (content_at frame)
