-- 01, Messages: what a message is encoded to, and the promise.
-- Assumes nothing.
use Rattle.std.specs.Prelude.{false, List, ◌≡◌, ℕ, ◌<◌, length}
use Rattle.digits.specs.Paper.LowFirst.{Width}
use Rattle.puts.specs.Paper.Wrote.{Written}
use Rattle.puts.specs.Paper.Right.{WritesRight}
use Rattle.frames.specs.Paper.Kinds.{known, number_of}
use Rattle.messages.specs.Paper.Message.{Message}
use Rattle.messages.specs.Paper.Says.{Says, kind_in}
use Rattle.messages.specs.Paper.Table.{bytes, HasWidth, Limits, Above, Good}
use Rattle.messages.specs.declared.Message.{Message as Coded}

-- why the message that is meant is not written into a room of n bytes. 5: "a field .. outside its limits", "not held
-- by its width"; 6: "a message with the content of one above it in the table"; 4: "lent room too short for the
-- answer"
pub data MessageCause (Means : Message → Type 0) (n : ℕ) : ℕ → Type 0 where
  outside : ((m : Message) → Means m → Limits m → ⊥) → MessageCause Means n 5
  taken : {m : Message} → Means m → Above m → MessageCause Means n 6
  short : {m : Message} → Means m → n < length (bytes m) → MessageCause Means n 4

-- or not as a frame of kind k. 2: "kind not 1 to 5"; 7: "width .. not as above"; 5: "the encoder a message of the
-- kind asked, else 5"
pub data EncodeCause (k : ℕ) (e : Coded) (s : List ℕ) (n : ℕ) : ℕ → Type 0 where
  no_kind : known k ≡ false → EncodeCause k e s n 2
  no-width : {m : Message} {w : ℕ} → Says e s m → HasWidth m w → (Width w → ⊥) → EncodeCause k e s n 7
  other-kind : (number_of (kind_in e) ≡ k → ⊥) → EncodeCause k e s n 5
  by-message : {no : ℕ} → MessageCause (Says e s) n no → EncodeCause k e s n no

-- bs are the bytes of the message of the table that is meant
pub record MeantBytes (Means : Message → Type 0) (bs : List ℕ) : Type 0 where
  pub message : Message
  pub meant : Means message
  pub good : Good message
  pub is : bs ≡ bytes message

-- r is the right answer, and `later` the right room afterwards, of encoding e, with s beside it, as a frame of kind k
abbrev pub Encodes : ℕ → Coded → List ℕ → List ℕ → Written → List ℕ → Type 0
Encodes k e s room r later = WritesRight (EncodeCause k e s (length room)) (MeantBytes (Says e s)) room r later
