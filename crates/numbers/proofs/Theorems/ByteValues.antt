-- What the definition of byte values comes to, for a reader.
-- Assumes nothing.
use mathlib.Core.Path.{◌≡◌, ap, ◌∙◌}
use mathlib.Core.Bool.{Bool}
use mathlib.Core.List.{List}
use Prim.Native.Nat.{ℕ}
use lib.IntN.{ℤ}
use lib.ListN.{length}
use Rattle.digits.specs.Paper.Bytes.{Bytes}
use Rattle.digits.specs.Paper.LowFirst.{Width, low_byte_first}
use Rattle.digits.proofs.Laws.LowFirst.{length-low, low-all}
use Rattle.numbers.specs.Paper.Raw.{Raw}
use Rattle.numbers.specs.Paper.ByteValues.{HeldBy, twos, value_bytes}
use Rattle.numbers.specs.Paper.Answers.{ValueIn}
use Rattle.numbers.specs.Paper.ByteValues.{of_twos}
use Rattle.numbers.proofs.Laws.Values as values

-- NO TWO NUMBERS OF ONE WIDTH AND SIGN HAVE THE SAME BYTES
pub one_value : {w : ℕ} (signed : Bool) (y z : ℤ) → Width w → HeldBy w signed y → HeldBy w signed z → value_bytes w y ≡ value_bytes w z → y ≡ z
one_value signed y z known h k e =
    let s = values.size known in
    values.value_inj s (values.held_in s signed y h) (values.held_in s signed z k) e

-- ALL BYTES OF A WIDTH ARE A NUMBER'S, signed and not
pub every_value : (s : List ℕ) (signed : Bool) → Bytes s → Width (length s) → (z : ℤ) × ValueIn (length s) signed s z
every_value s signed b known =
    let n = low-all s b in
    let v = values.of-twos (values.size known) signed n.0 n.1 in
    (of_twos (length s) signed n.0, record { known = known; held = values.in_held (values.size known) v.0; bytes = ap (low_byte_first (length s)) v.1 ∙ n.2 })

-- SO MANY BYTES, and raw numbers all
pub value-width : (w : ℕ) (z : ℤ) → length (value_bytes w z) ≡ w
value-width w z = length-low w (twos w z)

pub value-raw : {w : ℕ} (signed : Bool) (z : ℤ) → Width w → HeldBy w signed z → Raw z
value-raw signed z known h = let s = values.size known in values.in-raw s (values.size-most known) (values.held_in s signed z h)
