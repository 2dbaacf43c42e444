-- 01, Search: "The decoder takes one frame and no byte more, .. else 5."
-- Assumes nothing.
use Rattle.std.specs.Prelude.{false, List, ◌≡◌, ℕ, Result, Ok, Err}
use Rattle.digits.specs.Paper.Part.{Ends, zero_ends}
use Rattle.digits.specs.Paper.Refusals.{refusal_number, Answers}
use Rattle.digits.specs.declared.refusal.Refusal.{Refusal}
use Rattle.frames.specs.Paper.Kinds.{known, Frame, payload_from, payload_to}
use Rattle.frames.specs.declared.FramePayload.{FramePayload}

-- 01, "Refusal numbers": 2 "kind not 1 to 5", 5 "a .. frame .. outside its limits"
pub data OneFrameCause (k : ℕ) (s : List ℕ) : ℕ → Type 0 where
  no_kind : known k ≡ false → OneFrameCause k s 2
  no-frame : (Frame k s → ⊥) → OneFrameCause k s 5

-- s is a frame, and its payload goes from the one place to the other
pub record OneFrame (k : ℕ) (s : List ℕ) (v : Ends) : Type 0 where
  pub frame : Frame k s
  pub from_is : v.from ≡ payload_from frame
  pub to_is : v.to ≡ payload_to frame

abbrev pub frame_payload_refusal : Result FramePayload Refusal → ℕ
frame_payload_refusal (Ok v) = 0
frame_payload_refusal (Err why) = refusal_number why

abbrev pub frame_payload_ends : Result FramePayload Refusal → Ends
frame_payload_ends (Ok v) = record { from = v.from; to = v.to }
frame_payload_ends (Err why) = zero_ends

-- r is the right answer
abbrev pub TestsOneFrame : ℕ → List ℕ → Result FramePayload Refusal → Type 0
TestsOneFrame k s r =
    Answers zero_ends (OneFrameCause k s) (OneFrame k s) (frame_payload_refusal r) (frame_payload_ends r)
