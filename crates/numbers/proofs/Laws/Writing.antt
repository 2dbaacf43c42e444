-- What a call that writes into a lent room answers, way by way.
-- Assumes nothing.
use Rattle.std.specs.Prelude.{Err}
use mathlib.Core.Path.{◌≡◌, ap, ◌∙◌, subst}
use mathlib.Core.Bool.{Bool}
use Prim.Native.Nat.{ℕ, ◌≤◌, ◌<◌}
use native.Mathlib.Nat.{sub-zero}
use native.Mathlib.Omega.{arith}
use mathlib.Core.List.{List}
use lib.Dec.{lit<}
use lib.IntN.{ℤ}
use lib.ListN.{length, take}
use Rattle.digits.specs.Paper.Bytes.{part}
use Rattle.digits.specs.Paper.LowFirst.{Width, low_byte_first}
use Rattle.digits.proofs.Laws.LowFirst.{width-most, length-low, low-take}
use Rattle.digits.specs.declared.refusal.Refusal.TheVariants.{OutOfLimits, BadForm}
use Rattle.puts.specs.Paper.Wrote.{refused, RoomCause, Writes, Written}
use Rattle.puts.proofs.Laws.Wrote.{after-tests}
use Rattle.numbers.specs.Paper.Raw.{Raw, most_decimals}
use Rattle.numbers.specs.Paper.Text.{text}
use Rattle.numbers.specs.Paper.ByteValues.{HeldBy, twos, value_bytes}
use Rattle.numbers.specs.Paper.Answers as A
use Rattle.numbers.specs.Paper.Answers.{TextCause, ValueCause}
use Rattle.numbers.proofs.Laws.Causes.{first-7, first-5, first-4, no-cause, text-only, decimals-right, range-right, room-enough, value-only, width-right, held-right, bytes-enough}

-- ---- text::write
module _ (z : ℤ) (d : ℕ) (room : List ℕ) where
  abbrev Text : Written → List ℕ → Type 0
  Text = Writes (TextCause z d (length room)) (text z d) room

  pub bad-decimals : most_decimals < d → Text (Err BadForm) room
  bad-decimals h = refused (lit< tt) (first-7 text-only (A.decimals h))

  module _ (few : d ≤ most_decimals) where
    pub bad-range : (Raw z → ⊥) → Text (Err OutOfLimits) room
    bad-range f = refused (lit< tt) (first-5 text-only (decimals-right few) (A.range f))

    module _ (raw : Raw z) where
      -- the text is written whole, or the room is too short for it
      pub text-fronted : {s later : List ℕ} (r : Written) → s ≡ text z d → Writes (RoomCause (length room) (length s)) s room r later → Text r later
      text-fronted {s} {later} r e w =
          after-tests (λ h. no-cause text-only (decimals-right few) (range-right raw) (room-enough h))
          (λ h. first-4 text-only (decimals-right few) (range-right raw) (A.room h))
          (subst (λ (t : List ℕ). Writes (RoomCause (length room) (length t)) t room r later) e w)

-- ---- byte_values::write

-- the bytes of every width are the first of the four
pub value-part : {w : ℕ} (z : ℤ) {n : ℕ} {bytes : List ℕ} → Width w → n ≡ twos w z → bytes ≡ low_byte_first 4 n → part 0 w bytes ≡ value_bytes w z
value-part {w} z {n} {bytes} known e f =
    ap (λ (k : ℕ). take k bytes) (sub-zero w) ∙ ap (take w) f ∙ low-take w 4 n (width-most known) ∙ ap (low_byte_first w) e

module _ (w : ℕ) (signed : Bool) (z : ℤ) (room : List ℕ) where
  abbrev Value : Written → List ℕ → Type 0
  Value = Writes (ValueCause w signed z (length room)) (value_bytes w z) room

  pub bad-width : (Width w → ⊥) → Value (Err BadForm) room
  bad-width f = refused (lit< tt) (first-7 value-only (A.width f))

  module _ (known : Width w) where
    pub not-held : (HeldBy w signed z → ⊥) → Value (Err OutOfLimits) room
    not-held f = refused (lit< tt) (first-5 value-only (width-right known) (A.held f))

    module _ (held : HeldBy w signed z) where
      pub value-fronted : {s later : List ℕ} (r : Written) → s ≡ value_bytes w z → Writes (RoomCause (length room) (length s)) s room r later → Value r later
      value-fronted {s} {later} r e v =
          let n : length (value_bytes w z) ≡ w = length-low w (twos w z) in
          after-tests (λ h. no-cause value-only (width-right known) (held-right held) (bytes-enough (omega arith)))
          (λ h. first-4 value-only (width-right known) (held-right held) (A.room (omega arith)))
          (subst (λ (t : List ℕ). Writes (RoomCause (length room) (length t)) t room r later) e v)
