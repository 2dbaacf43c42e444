-- `messages::nikobus::word_at` meets its contract: the two bytes.
-- Assumes nothing.
use mathlib.Core.Path.{ap₂, ◌∙◌}
use Prim.Native.Nat.{ℕ, ◌+◌, ◌*◌}
use Rattle.messages.proofs.Laws.Words.{two-bytes}
use Rattle.messages.proofs.nikobus.word_at.Goals as goal

pub returns : goal.returns
returns c = λ p b e. c.from_le_bytes.ensures ∙ two-bytes _ _ ∙ ap₂ (λ (x y : ℕ). x + 256 * y) (c.byte_at.ensures p b e) (c.byte_at-2.ensures p b e)
