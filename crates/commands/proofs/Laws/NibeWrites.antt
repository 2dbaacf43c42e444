-- Nibe: the data of a reply and of a put, a register and a value.
-- Assumes nothing.
use mathlib.Core.Path.{◌≡◌, refl, ◌∙◌, ap, subst}
use mathlib.Core.Bool.{Bool, true, false, cond}
use mir.Val.{bool_byte}
use mathlib.Core.List.{List, [], ◌∷◌, ◌++◌}
use Prim.Native.Nat.{ℕ, suc, ◌+◌}
use native.Mathlib.Omega.{arith}
use lib.ListN.{get_or, take}
use Rattle.digits.specs.Paper.Bytes.{part}
use Rattle.digits.specs.Paper.LowFirst.{Width, low_byte_first}
use Rattle.digits.proofs.Laws.LowFirst.{width-most, low-take}
use Rattle.digits.proofs.Laws.Parts.{part-front}
use Rattle.layouts.specs.Paper.Made.{nibe_of}
use Rattle.layouts.specs.Paper.Nibe.{nibe}
use Rattle.puts.specs.Paper.Wrote.{Written}
use Rattle.builds.specs.Paper.Builds.{Builds}
use Rattle.messages.specs.Paper.Table.{valued}

-- a done's byte
pub bit-byte : (ok : Bool) → bool_byte ok ≡ cond ok 1 0
bit-byte false = refl
bit-byte true = refl

pub six-bytes : {a b : List ℕ} (reg v : ℕ) → a ≡ low_byte_first 2 reg → b ≡ low_byte_first 4 v
    → get_or a 0 0 ∷ get_or a 1 0 ∷ get_or b 0 0 ∷ get_or b 1 0 ∷ get_or b 2 0 ∷ get_or b 3 0 ∷ [] ≡ valued reg 4 v
unfolding low_byte_first
six-bytes reg v e f = rw (e, f)

-- of a value of fewer than four bytes, those are the first
valued-part : {s : List ℕ} {w : ℕ} (reg v : ℕ) → s ≡ valued reg 4 v → Width w → part 0 (w + 2) s ≡ valued reg w v
unfolding low_byte_first
valued-part {s} {w} reg v e k =
    let z : w + 2 ≡ suc (suc w) = omega arith in
    part-front (w + 2) s ∙ ap (take (w + 2)) e ∙ ap (λ (n : ℕ). take n (valued reg 4 v)) z
    ∙ ap (λ (l : List ℕ). low_byte_first 2 reg ++ l) (low-take w 4 v (width-most k))

pub valued-built : {s room later : List ℕ} {w : ℕ} (c reg v : ℕ) (r : Written) → s ≡ valued reg 4 v → Builds nibe (nibe_of c (part 0 (w + 2) s)) room r later
    → Width w → Builds nibe (nibe_of c (valued reg w v)) room r later
valued-built {room = room} {later = later} c reg v r e b k = subst (λ (d : List ℕ). Builds nibe (nibe_of c d) room r later) (valued-part reg v e k) b
