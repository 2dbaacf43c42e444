-- 01, Search: "The search takes a kind, a buffer and a place, and finds the frame with the smallest start at or after
-- the place".
-- Assumes nothing.
use Rattle.std.specs.Prelude.{false, List, ◌≡◌, ℕ, ◌+◌, ◌≤◌, ◌<◌, length, Result, Ok, Err}
use Rattle.std.specs.Borrow.{Bor}
use Rattle.digits.specs.Paper.Bytes.{part}
use Rattle.digits.specs.Paper.Part.{Ends, HandsPart}
use Rattle.digits.specs.Paper.Refusals.{refusal_number, Answers}
use Rattle.digits.specs.declared.refusal.Refusal.{Refusal}
use Rattle.frames.specs.Paper.Kinds.{known, Frame, payload_from, payload_to}
use Rattle.frames.specs.declared.Found.{Found}

-- a frame of n bytes stands at the place i of the buffer
pub record FrameAt (k : ℕ) (s : List ℕ) (i n : ℕ) : Type 0 where
  pub inside : i + n ≤ length s
  pub frame : Frame k (part i (i + n) s)

-- what a search answers: the frame's start and length, and the places where its payload begins and ends
abbrev pub Hit : Type 0
Hit = Found

-- "the frame with the smallest start at or after the place"
pub record Leftmost (k : ℕ) (s : List ℕ) (place : ℕ) (v : Hit) : Type 0 where
  pub behind : place ≤ v.start
  pub stands : FrameAt k s v.start v.len
  pub from_is : v.from ≡ v.start + payload_from stands.frame
  pub to_is : v.to ≡ v.start + payload_to stands.frame
  pub none_before : (j m : ℕ) → place ≤ j → j < v.start → FrameAt k s j m → ⊥

-- 01, "Refusal numbers": 1 "no frame from that place on", 2 "kind not 1 to 5", 3 "place beyond the buffer's length"
pub data SearchCause (k : ℕ) (s : List ℕ) (place : ℕ) : ℕ → Type 0 where
  no-frame : ((j m : ℕ) → place ≤ j → FrameAt k s j m → ⊥) → SearchCause k s place 1
  no_kind : known k ≡ false → SearchCause k s place 2
  no_place : length s < place → SearchCause k s place 3

-- the refusal number and the values of an answer
abbrev pub found_refusal : Result Found Refusal → ℕ
found_refusal (Ok v) = 0
found_refusal (Err why) = refusal_number why

abbrev pub zero_hit : Hit
zero_hit = record { start = 0; len = 0; from = 0; to = 0 }

abbrev pub found_hit : Result Found Refusal → Hit
found_hit (Ok v) = v
found_hit (Err why) = zero_hit

-- r is the right answer
abbrev pub Searches : ℕ → List ℕ → ℕ → Result Found Refusal → Type 0
Searches k s place r = Answers zero_hit (SearchCause k s place) (Leftmost k s place) (found_refusal r) (found_hit r)

-- "The frame and its payload are handed back as that part of the caller's buffer": where each begins and ends
abbrev pub frame_ends : Hit → Ends
frame_ends v = record { from = v.start; to = v.start + v.len }

abbrev pub payload_ends : Hit → Ends
payload_ends v = record { from = v.from; to = v.to }

-- r is that part of the buffer, of what the search finds
abbrev pub Hands : ℕ → Bor (List ℕ) → ℕ → (Hit → Ends) → Bor (List ℕ) → Type 0
Hands k buffer place ends r =
    HandsPart (SearchCause k buffer.now place)
    (λ e. (v : Hit) × (Leftmost k buffer.now place v) × (e ≡ ends v)) buffer r

-- the bytes of a frame that is found
abbrev pub frame_part : List ℕ → Hit → List ℕ
frame_part s v = part (frame_ends v).from (frame_ends v).to s
