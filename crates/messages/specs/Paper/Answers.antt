-- The promises: decode, the content beside a message, and find.
-- Assumes nothing.
use Rattle.std.specs.Prelude.{false, List, ◌≡◌, ℕ, ◌-◌, Result, Ok, Err}
use Rattle.std.proofs.Math.Option.{Option, none, some}
use Rattle.std.specs.Borrow.{Bor}
use Rattle.digits.specs.Paper.Part.{Ends, zero_ends, HandsPart}
use Rattle.digits.specs.Paper.Refusals.{refusal_number, Answers}
use Rattle.digits.specs.declared.refusal.Refusal.{Refusal}
use Rattle.frames.specs.Paper.Kinds.{known, Frame}
use Rattle.frames.specs.Paper.Search.{Hit, zero_hit, Leftmost, SearchCause, frame_part}
use Rattle.messages.specs.Paper.Content.{content_at, payload_in, payload_from, payload_to}
use Rattle.messages.specs.Paper.Message.{Message}
use Rattle.messages.specs.Paper.Says.{Says}
use Rattle.messages.specs.Paper.Table.{content_of, Good}
use Rattle.messages.specs.declared.Message.{Message as Coded}
use Rattle.messages.specs.declared.Decoded.{Decoded}
use Rattle.messages.specs.declared.FoundMessage.{FoundMessage}

-- the message m stands in f: f is a frame of kind k, and what it says is the content of m
pub record Stands (k : ℕ) (f : List ℕ) (m : Message) : Type 0 where
  pub good : Good m
  pub frame : Frame k f
  pub content : content_at frame ≡ content_of m

-- ---- decode

-- 01, "Refusal numbers": 2 "kind not 1 to 5"; 5: "The decoder takes one frame and no byte more, .. else 5"
pub data DecodeCause (k : ℕ) (f : List ℕ) : ℕ → Type 0 where
  no_kind : known k ≡ false → DecodeCause k f 2
  no-message : ((m : Message) → Stands k f m → ⊥) → DecodeCause k f 5

-- e says the message that stands in f, with the payload of f beside it, which goes from the one place to the other
pub record Said (k : ℕ) (f : List ℕ) (e : Coded) (from to : ℕ) : Type 0 where
  pub message : Message
  pub stands : Stands k f message
  pub says : Says e (payload_in (content_of message)) message
  pub from_is : from ≡ payload_from (content_of message)
  pub to_is : to ≡ payload_to (content_of message)

-- the values of an answer: the message, and the places in the frame of what stands beside it
pub record DecodedValue : Type 0 where
  pub message : Option Coded
  pub ends : Ends

-- of a refusal there is no message, and the places are zeros
abbrev pub zero_decoded : DecodedValue
zero_decoded = record { message = none; ends = zero_ends }

abbrev pub decoded_refusal : Result Decoded Refusal → ℕ
decoded_refusal (Ok d) = 0
decoded_refusal (Err why) = refusal_number why

abbrev pub decoded_value : Result Decoded Refusal → DecodedValue
decoded_value (Ok d) = record { message = some d.message; ends = record { from = d.from; to = d.to } }
decoded_value (Err why) = zero_decoded

-- v has the right values
pub record DecodedTo (k : ℕ) (f : List ℕ) (v : DecodedValue) : Type 0 where
  pub message : Coded
  pub is : v.message ≡ some message
  pub said : Said k f message v.ends.from v.ends.to

-- r is the right answer
abbrev pub Decodes : ℕ → List ℕ → Result Decoded Refusal → Type 0
Decodes k f r = Answers zero_decoded (DecodeCause k f) (DecodedTo k f) (decoded_refusal r) (decoded_value r)

-- ---- content: what stands beside the message of a frame, "handed back as that part of the caller's buffer"

-- where the payload of a message's frame begins and ends
abbrev pub content_ends : Message → Ends
content_ends m = record { from = payload_from (content_of m); to = payload_to (content_of m) }

-- r is that part of the frame
abbrev pub Contents : ℕ → Bor (List ℕ) → Bor (List ℕ) → Type 0
Contents k frame r =
    HandsPart (DecodeCause k frame.now)
    (λ e. (m : Message) × (Stands k frame.now m) × (e ≡ content_ends m)) frame r

-- ---- find: the search and the decoder in one

-- the values of an answer: the message of the frame that is found, and what the search finds
pub record FoundValue : Type 0 where
  pub message : Option Coded
  pub hit : Hit

-- of a refusal there is no message, and what the search finds is zeros
abbrev pub zero_found_message : FoundValue
zero_found_message = record { message = none; hit = zero_hit }

abbrev pub found_message_refusal : Result FoundMessage Refusal → ℕ
found_message_refusal (Ok h) = 0
found_message_refusal (Err why) = refusal_number why

abbrev pub found_message_value : Result FoundMessage Refusal → FoundValue
found_message_value (Ok h) =
    record { message = some h.message; hit = record { start = h.start; len = h.len; from = h.from; to = h.to } }
found_message_value (Err why) = zero_found_message

-- v has the right values; its places are those in the buffer, and `Said` speaks of places in the frame
pub record FoundAs (k : ℕ) (s : List ℕ) (place : ℕ) (v : FoundValue) : Type 0 where
  pub message : Coded
  pub is : v.message ≡ some message
  pub found : Leftmost k s place v.hit
  pub said : Said k (frame_part s v.hit) message (v.hit.from - v.hit.start) (v.hit.to - v.hit.start)

-- r is the right answer; it is refused as the search is
abbrev pub Finds : ℕ → List ℕ → ℕ → Result FoundMessage Refusal → Type 0
Finds k s place r =
    Answers zero_found_message (SearchCause k s place) (FoundAs k s place)
    (found_message_refusal r) (found_message_value r)
