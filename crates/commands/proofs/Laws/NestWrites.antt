-- Nest: a climate's payload, and its temperature's two bytes.
-- Assumes nothing.
use mathlib.Core.Path.{◌≡◌, refl, ap, ◌∙◌}
use mathlib.Core.List.{List, [], ◌∷◌, ◌++◌}
use Prim.Native.Nat.{ℕ}
use lib.IntN.{ℤ, pos, negsuc}
use lib.ListN.{get_or}
use mir.Syntax.{w16}
use mir.Val.{SFits, to_z, of_z}
use mir.ValLaws.{to_z-of_z}
use Rattle.digits.specs.Paper.LowFirst.{low_byte_first}
use Rattle.std.specs.Int.{bytes_low_first}
use Rattle.digits.proofs.Laws.LowFirst.{low-bytes}
use Rattle.numbers.specs.Paper.ByteValues.{twos, value_bytes}
use Rattle.commands.proofs.Laws.NikobusWrites.{low-two, behind-address}

pub climate-payload : (t : ℤ) (h : ℕ) {l k : List ℕ} → l ≡ value_bytes 2 t → k ≡ low_byte_first 2 h
    → get_or l 0 0 ∷ get_or l 1 0 ∷ get_or k 0 0 ∷ get_or k 1 0 ∷ [] ≡ value_bytes 2 t ++ low_byte_first 2 h
climate-payload t h {l} {k} e f = behind-address (twos 2 t) (get_or k 0 0 ∷ get_or k 1 0 ∷ []) e ∙ ap (λ (s : List ℕ). value_bytes 2 t ++ s) (low-two k h f)

-- ---- a number of 16 bits

-- the machine keeps its bits and reads them back
pub sixteen-back : (z : ℤ) → SFits w16 z → to_z w16 (of_z w16 z) ≡ z
sixteen-back z f = to_z-of_z w16 z f

-- the library's two bytes of it are those of document 01
twos-bits : (z : ℤ) → of_z w16 z ≡ twos 2 z
twos-bits (pos n) = refl
twos-bits (negsuc n) = refl

pub signed-bytes : (z : ℤ) → SFits w16 z → bytes_low_first 0 2 (of_z w16 (to_z w16 (of_z w16 z))) ≡ value_bytes 2 z
signed-bytes z f = ap (bytes_low_first 0 2) (ap (of_z w16) (sixteen-back z f) ∙ twos-bits z) ∙ low-bytes 2 (twos 2 z)
