-- 01, Kinds: "1 Nikobus, 2 Nest command, 3 Nest response, 4 Nibe, 5 Homiq". A program in C gives a kind as a number
-- of 32 bits, and a kind is handed on as a byte.
-- Assumes nothing.
use Rattle.std.specs.Prelude.{ℕ, ◌≤◌, ◌<◌}

-- the byte of a kind: the kind itself; or 0, which is no kind, if no byte holds it
pub data KindByte (kind : ℕ) : ℕ → Type 0 where
  held : kind < 256 → KindByte kind kind
  beyond : 256 ≤ kind → KindByte kind 0
