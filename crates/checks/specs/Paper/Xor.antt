-- The exclusive or of bytes.
-- Assumes nothing.
use Rattle.std.specs.Prelude.{ℕ, List, [], ◌∷◌}
use Rattle.std.specs.Int.Bits.{bit_xor}

-- 01, Nibe: "the XOR of the length and the data"
unfoldable pub xor_from : ℕ → List ℕ → ℕ
xor_from v [] = v
xor_from v (b ∷ s) = xor_from (bit_xor v b) s

abbrev pub xor_of : List ℕ → ℕ
xor_of s = xor_from 0 s
