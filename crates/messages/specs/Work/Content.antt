-- Contents that make a frame, for the laws of the table.
-- Assumes nothing.
use Rattle.frames.specs.Paper.Kinds.{layout_of}
use Rattle.messages.specs.Paper.Content.{Content, kind_of, made}

-- its fields are within the layout's limits
abbrev pub Fit : Content → Type 0
Fit c = (layout_of (kind_of c)).Limits (made c)
