-- The public functions of `frames`.
-- Assumes nothing.
use Rattle.std.specs.Prelude.{List, [], ◌∷◌, Bool, ◌≡◌, ℕ, Option, Result}
use Rattle.std.specs.Borrow.{Bor}
use Rattle.digits.specs.declared.refusal.Refusal.{Refusal}
use Rattle.digits.specs.Paper.Part.{zero_ends}
use Rattle.frames.specs.Paper.Kinds as paper
use Rattle.frames.specs.Paper.Kinds.{KindCause, number_of, resolved_refusal, resolved_value}
use Rattle.frames.specs.Paper.Search.{Hit, Leftmost, SearchCause, found_hit, found_refusal, frame_ends, payload_ends}
use Rattle.frames.specs.Paper.Search.{zero_hit}
use Rattle.frames.specs.Paper.OneFrame.{OneFrame, OneFrameCause, frame_payload_ends, frame_payload_refusal}
use Rattle.frames.specs.Paper.Why.{Failing, JudgedAt, WhyCause, verdict_failing, verdict_refusal, zero_failing}
use Rattle.frames.specs.declared.Found.{Found}
use Rattle.frames.specs.declared.FramePayload.{FramePayload}
use Rattle.frames.specs.declared.kinds.Kind.{Kind}
use Rattle.claims.specs.Paper.Claim.{Claim, answering, refuses, hands}

-- The frame with the smallest start at or after the place.
pub record SearchArgs : Type 0 where
  pub kind : ℕ
  pub buffer : List ℕ
  pub place : ℕ

abbrev pub search : Claim (Result Found Refusal)
search =
    record {
      name = "frames::search";
      Args = SearchArgs;
      refusals = 2 ∷ 3 ∷ 1 ∷ [];
      Cause = λ a. SearchCause a.kind a.buffer a.place;
      form = refuses
          (record {
            refusal = found_refusal;
            value = found_hit;
            zeros = zero_hit;
            Right = λ a. Leftmost a.kind a.buffer a.place;
          });
    }

-- That frame, as a part of the buffer; empty for a refusal.
pub record FrameArgs : Type 0 where
  pub kind : ℕ
  pub buffer : Bor (List ℕ)
  pub place : ℕ

abbrev pub frame : Claim (Bor (List ℕ))
frame =
    record {
      name = "frames::frame";
      Args = FrameArgs;
      refusals = 2 ∷ 3 ∷ 1 ∷ [];
      Cause = λ a. SearchCause a.kind a.buffer.now a.place;
      form = hands (λ a. a.buffer)
          (λ a e. (v : Hit) × (Leftmost a.kind a.buffer.now a.place v) × (e ≡ frame_ends v));
    }

-- Its payload, as a part of the buffer; empty for a refusal.
pub record PayloadArgs : Type 0 where
  pub kind : ℕ
  pub buffer : Bor (List ℕ)
  pub place : ℕ

abbrev pub payload : Claim (Bor (List ℕ))
payload =
    record {
      name = "frames::payload";
      Args = PayloadArgs;
      refusals = 2 ∷ 3 ∷ 1 ∷ [];
      Cause = λ a. SearchCause a.kind a.buffer.now a.place;
      form = hands (λ a. a.buffer)
          (λ a e. (v : Hit) × (Leftmost a.kind a.buffer.now a.place v) × (e ≡ payload_ends v));
    }

-- Whether s is one frame and no byte more.
pub record OneFrameArgs : Type 0 where
  pub kind : ℕ
  pub s : List ℕ

abbrev pub one-frame : Claim (Result FramePayload Refusal)
one-frame =
    record {
      name = "frames::one_frame";
      Args = OneFrameArgs;
      refusals = 2 ∷ 5 ∷ [];
      Cause = λ a. OneFrameCause a.kind a.s;
      form = refuses
          (record {
            refusal = frame_payload_refusal;
            value = frame_payload_ends;
            zeros = zero_ends;
            Right = λ a. OneFrame a.kind a.s;
          });
    }

-- The first test that a frame at the place fails.
pub record WhyArgs : Type 0 where
  pub kind : ℕ
  pub buffer : List ℕ
  pub place : ℕ

abbrev pub why : Claim (Result Failing Refusal)
why =
    record {
      name = "frames::why";
      Args = WhyArgs;
      refusals = 2 ∷ 3 ∷ [];
      Cause = λ a. WhyCause a.kind a.buffer a.place;
      form = refuses
          (record {
            refusal = verdict_refusal;
            value = verdict_failing;
            zeros = zero_failing;
            Right = λ a. JudgedAt a.kind a.buffer a.place;
          });
    }

-- The kind of a number.
pub record KindsOfArgs : Type 0 where
  pub number : ℕ

abbrev pub kinds-of : Claim (Option Kind)
kinds-of =
    record {
      name = "frames::kinds::of";
      Args = KindsOfArgs;
      refusals = 2 ∷ [];
      Cause = λ a. KindCause a.number;
      form = refuses
          (record {
            refusal = resolved_refusal;
            value = resolved_value;
            zeros = 0;
            Right = λ a v. v ≡ a.number;
          });
    }

-- The number of a kind.
pub record KindsNumberArgs : Type 0 where
  pub kind : Kind

abbrev pub kinds-number : Claim ℕ
kinds-number =
    answering {Args = KindsNumberArgs} "frames::kinds::number" (λ a r. r ≡ number_of a.kind)

-- Whether a number is that of a kind.
pub record KindsKnownArgs : Type 0 where
  pub number : ℕ

abbrev pub kinds-known : Claim Bool
kinds-known =
    answering {Args = KindsKnownArgs} "frames::kinds::known" (λ a r. r ≡ paper.known a.number)
