-- What the encoder answers, way by way.
-- Assumes nothing.
use Rattle.std.specs.Prelude.{Err}
use mathlib.Core.Path.{◌≡◌, sym, ◌∙◌}
use mathlib.Core.Bool.{Bool, true, false, ◌||◌, true≢false}
use mathlib.Core.List.{List}
use Prim.Native.Nat.{ℕ}
use lib.Dec.{eqb, lit<}
use lib.ListN.{length}
use Rattle.digits.specs.Paper.LowFirst.{Width}
use Rattle.digits.specs.Paper.Refusals.{refusal_order, here, after}
use Rattle.digits.specs.declared.refusal.Refusal.TheVariants.{NoKind, BadForm, OutOfLimits}
use Rattle.digits.proofs.Laws.Refusals.{pass-over}
use Rattle.puts.specs.Paper.Right.{WroteRight, refused}
use Rattle.puts.proofs.Laws.Right.{recast}
use Rattle.frames.specs.Paper.Kinds.{known, number_of}
use Rattle.messages.specs.Paper.Message.{Message}
use Rattle.messages.specs.Paper.Says.{Says, kind_in}
use Rattle.messages.specs.Paper.Table.{HasWidth}
use Rattle.messages.specs.declared.Message.{Message as Coded}
use Rattle.commands.specs.Paper.Answers.{MessageCause, outside, taken, short, EncodeCause, no_kind, no-width, other-kind, by-message, MeantBytes, Encodes}
use Rattle.messages.proofs.Laws.Decode.{first-same}

abbrev ours : ℕ → Bool
ours k = eqb k 2 || (eqb k 7 || (eqb k 5 || (eqb k 6 || eqb k 4)))

-- every message that e says has a width that there is, where it has one
abbrev pub Widths : Coded → List ℕ → Type 0
Widths e s = (m : Message) (w : ℕ) → Says e s m → HasWidth m w → Width w

module _ (k : ℕ) (e : Coded) (s room : List ℕ) where
  abbrev Cause : ℕ → Type 0
  Cause = EncodeCause k e s (length room)

  none-else : (no : ℕ) → ours no ≡ false → MessageCause (Says e s) (length room) no → ⊥
  none-else i h (outside f) = true≢false h
  none-else i h (taken a b) = true≢false h
  none-else i h (short a b) = true≢false h

  only : (no : ℕ) → ours no ≡ false → Cause no → ⊥
  only i h (no_kind f) = true≢false h
  only i h (no-width a b c) = true≢false h
  only i h (other-kind f) = true≢false h
  only i h (by-message c) = none-else i h c

  -- 2
  pub unknown : known k ≡ false → Encodes k e s room (Err NoKind) room
  unknown h = refused (lit< tt) (pass-over ours only refusal_order (here (no_kind h)))

  module _ (is_Known : known k ≡ true) where
    not-2 : Cause 2 → ⊥
    not-2 (no_kind h) = true≢false (sym is_Known ∙ h)
    not-2 (by-message c) = elim c [ ]

    -- 7
    pub bad-width : (m : Message) (w : ℕ) → Says e s m → HasWidth m w → (Width w → ⊥) → Encodes k e s room (Err BadForm) room
    bad-width m w a b c = refused (lit< tt) (pass-over ours only refusal_order (after not-2 (here (no-width a b c))))

    module _ (widths : Widths e s) where
      not-7 : Cause 7 → ⊥
      not-7 (no-width {m = m} {w = w} a b c) = c (widths m w a b)
      not-7 (by-message c) = elim c [ ]

      -- 5
      pub of-other-kind : (number_of (kind_in e) ≡ k → ⊥) → Encodes k e s room (Err OutOfLimits) room
      of-other-kind h = refused (lit< tt) (pass-over ours only refusal_order (after not-2 (after not-7 (here (other-kind h)))))

      -- and else what the message's own writer answers
      module _ (same : number_of (kind_in e) ≡ k) where
        back : (no : ℕ) → Cause no → MessageCause (Says e s) (length room) no
        back i (no_kind h) = absurd (not-2 (no_kind h))
        back i (no-width a b c) = absurd (not-7 (no-width a b c))
        back i (other-kind h) = absurd (h same)
        back i (by-message c) = c

        pub as_written : {later : List ℕ} {no count : ℕ} → WroteRight (MessageCause (Says e s) (length room)) (MeantBytes (Says e s)) room no count later
            → WroteRight Cause (MeantBytes (Says e s)) room no count later
        as_written w = recast (first-same (λ i c. by-message c) back refusal_order) (λ bs b. b) w
