-- What the reader of Nibe's messages answers, test by test.
-- Assumes nothing.
use mathlib.Core.Bool.{true, false}
use mathlib.Core.List.{List}
use mathlib.Core.Path.{◌≡◌, refl, sym, ◌∙◌, ap, subst}
use Prim.Native.Nat.{ℕ, ◌-◌, ◌≤◌}
use native.Mathlib.Nat.{le_refl}
use borrow.Author.Tests.{eqb-true}
use lib.Dec.{eqb, lit<}
use lib.ListN.{length, get_or}
use Rattle.std.specs.Prelude.{Option, Some, None, unwrap_or}
use Rattle.digits.proofs.Laws.LowFirst.{value_low, never-refused}
use Rattle.digits.proofs.Laws.Reads.{answered}
use Rattle.digits.specs.Paper.Answers.{ReadsNumber}
use Rattle.digits.proofs.Laws.Parts.{length_part}
use Rattle.digits.specs.Paper.Bytes.{Bytes, part}
use Rattle.digits.specs.Paper.LowFirst.{Width, Held, low_byte_first}
use Rattle.digits.specs.Paper.LowFirst.{low_value}
use Rattle.messages.specs.Paper.Message.{ask, reply, put, done, nibe}
use Rattle.messages.specs.Paper.Table.{u16_at}
use Rattle.messages.specs.Work.Look.{is_ask, is_valued, is_done, ValuedIn, look_nibe}
use Rattle.messages.specs.declared.nibe.Valued.{Valued}
use Rattle.messages.proofs.Laws.Choices.{both_true}
use Rattle.messages.proofs.Laws.NibeRows.{sizes}

-- ---- numbers

-- bytes of which a number is written are that number's
number-value : {s : List ℕ} {n : ℕ} → Held (length s) n × (low_byte_first (length s) n ≡ s) → n ≡ low_value s
number-value {s} {n} p = sym (value_low (length s) n p.0.below) ∙ ap low_value p.1

-- and so many bytes always are one
pub number-read : (s : List ℕ) (r : Option ℕ) → Bytes s → Width (length s) → ReadsNumber s r → unwrap_or r 0 ≡ low_value s
number-read s (Some n) b w a = number-value (answered (lit< tt) a refl)
number-read s None b w a = absurd (never-refused s b w a refl)

-- what stands behind a register has the value's width
pub behind-two : (d : List ℕ) → (2 ≤ length d) × Width (length d - 2) → Width (length (part 2 (length d) d))
behind-two d p = subst Width (sym (length_part 2 (length d) d p.0 (le_refl (length d)))) p.1

module _ (c : ℕ) (d : List ℕ) where
  -- ---- what the tests say of the length

  pub ask-size : is_ask c d ≡ true → length d ≡ 2
  unfolding is_ask
  ask-size t = eqb-true (length d) 2 (both_true (eqb c 0x69) (eqb (length d) 2) t).1

  pub valued-size : (want : ℕ) → is_valued want c d ≡ true → (2 ≤ length d) × Width (length d - 2)
  unfolding is_valued
  valued-size want t = sizes (length d) (both_true (eqb c want) _ t).1

  pub done-size : is_done c d ≡ true → length d ≡ 1
  unfolding is_done
  done-size t = eqb-true (length d) 1 (both_true (eqb (length d) 1) _ (both_true (eqb c 0x6C) _ t).1).0

  -- ---- the message

  pub look-ask : {r : ℕ} → r ≡ u16_at 0 d → is_ask c d ≡ true → ask r ≡ look_nibe c d
  unfolding look_nibe
  look-ask e t = rw (t, e)

  pub look-reply : {v : Valued} → ValuedIn d v → is_ask c d ≡ false → is_valued 0x6A c d ≡ true → reply v.register v.width v.value ≡ look_nibe c d
  unfolding look_nibe
  look-reply v t₁ t₂ = rw (t₁, t₂, v.register, v.width, v.value)

  pub look-put : {v : Valued} → ValuedIn d v → is_ask c d ≡ false → is_valued 0x6A c d ≡ false → is_valued 0x6B c d ≡ true
      → put v.register v.width v.value ≡ look_nibe c d
  unfolding look_nibe
  look-put v t₁ t₂ t₃ = rw (t₁, t₂, t₃, v.register, v.width, v.value)

  pub look-done : is_ask c d ≡ false → is_valued 0x6A c d ≡ false → is_valued 0x6B c d ≡ false → is_done c d ≡ true
      → done (eqb (get_or d 0 0) 1) ≡ look_nibe c d
  unfolding look_nibe
  look-done t₁ t₂ t₃ t₄ = rw (t₁, t₂, t₃, t₄)

  pub look-nibe : is_ask c d ≡ false → is_valued 0x6A c d ≡ false → is_valued 0x6B c d ≡ false → is_done c d ≡ false → nibe c d ≡ look_nibe c d
  unfolding look_nibe
  look-nibe t₁ t₂ t₃ t₄ = rw (t₁, t₂, t₃, t₄)
