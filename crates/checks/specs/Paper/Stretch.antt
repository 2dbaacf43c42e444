-- 01, demand 3: which differences a check finds.
-- Assumes nothing.
use Rattle.std.specs.Prelude.{◌≡◌, Bool, false, List, ℕ, ◌+◌, ◌<◌, get_or}
use Rattle.checks.specs.Paper.Bits.{bits_of_bytes}
use Rattle.checks.specs.Paper.Check.{Check}

-- the bits differ at the place i
abbrev pub Differ : List Bool → List Bool → ℕ → Type 0
Differ u v i = ¬ (get_or u i false ≡ get_or v i false)

-- 01: "Differing bits fit in a stretch of n when the last lies less than n places behind the first, also where there
-- are fewer than n bits in all": whichever two of them are taken
unfoldable pub FitIn : ℕ → List Bool → List Bool → Type 0
FitIn n u v = (first last : ℕ) → Differ u v first → Differ u v last → last < first + n

-- the differing bits of two byte strings, in the check's bit order, fit in a stretch as long as the check is wide
abbrev pub Burst : Check → List ℕ → List ℕ → Type 0
Burst c a b = FitIn c.width (bits_of_bytes c.order a) (bits_of_bytes c.order b)
