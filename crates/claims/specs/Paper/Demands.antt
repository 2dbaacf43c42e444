-- The demands on messages and on check values, over the definitions and the public functions' promises. (The demand
-- on every public call is in Row: it is said of each function.)
-- Assumes nothing.
use Rattle.std.specs.Prelude.{true, ◌≡◌, ℕ, ◌+◌, ◌-◌, ◌≤◌, ℤ, length, Ok, Result, take, drop, Err}
use mathlib.Core.List.{List, ◌++◌, Memᴰ}
use Rattle.std.proofs.Math.Option.{Option, none}
use Rattle.digits.specs.declared.refusal.Refusal.{Refusal}
use Rattle.digits.specs.Paper.Bytes.{part}
use Rattle.digits.specs.declared.refusal.Refusal.TheVariants.{NoFrame}
use Rattle.checks.specs.Paper.Bits.{bits_of_bytes}
use Rattle.checks.specs.Paper.Check.{Check, check}
use Rattle.checks.specs.Paper.Stretch.{FitIn}
use Rattle.puts.specs.Paper.Wrote.{written_refusal, written_count, Written}
use Rattle.numbers.specs.Paper.Answers.{ReadsText}
use Rattle.numbers.specs.Paper.Exact.{Exact}
use Rattle.numbers.specs.Paper.Raw.{Raw, most_decimals}
use Rattle.numbers.specs.Paper.Text.{text}
use Rattle.numbers.specs.declared.text.Reading.{Reading}
use Rattle.frames.specs.Paper.Demand.{stretch, bit_order, Carrying, Carries}
use Rattle.frames.specs.Paper.Kinds.{number_of, known, Frame}
use Rattle.frames.specs.Paper.Runs.{Run}
use Rattle.frames.specs.Paper.Search.{FrameAt, Hit, Leftmost, Searches, frame_part}
use Rattle.frames.specs.declared.Found.{Found}
use Rattle.messages.specs.Paper.Answers.{Stands, Said, Decodes}
use Rattle.messages.specs.Paper.Message.{Message}
use Rattle.messages.specs.Paper.Says.{Says}
use Rattle.messages.specs.Paper.Table.{bytes}
use Rattle.messages.specs.declared.Decoded.{Decoded}
use Rattle.messages.specs.declared.Message.{Message as Coded}
use Rattle.commands.specs.Paper.Answers.{Encodes}
use Rattle.sheet.specs.Paper.Sheet.{Lookup}
use Rattle.lines.specs.Paper.Line.{line}
use Rattle.lines.specs.Paper.WithSheet.{line_with}
use Rattle.lines.specs.Paper.Answers.{LineOf, WritesLine, PutsNext, NextLine, listed_refusal, listed_placed}
use Rattle.lines.specs.declared.Listed.{Listed}
use Rattle.book.specs.Paper.Answers.{EntryLine, WritesEntryLine, BookLines, WritesBookLines}
use Rattle.list.specs.Paper.Answers.{WritesListing}
use Rattle.list.specs.Paper.Listing.{Lists, NoSheet, OfMap, OfText, Listing, inside}
use Rattle.list.specs.Paper.Skipped.{InNone}

-- ---- DEMAND 2

-- "the leftmost frame .., or says that none exists"
pub data LeftmostOrNone (k : ℕ) (s : List ℕ) (place : ℕ) : Result Found Refusal → Type 0 where
  leftmost : {start len from to : ℕ}
      → Leftmost k s place (record { start = start; len = len; from = from; to = to })
      → LeftmostOrNone k s place (Ok (record { start = start; len = len; from = from; to = to }))
  none-exists : ((j m : ℕ) → place ≤ j → FrameAt k s j m → ⊥) → LeftmostOrNone k s place (Err NoFrame)

-- what the decoder answers: this case of the code's enum, which says the message that stands in the frame
pub record DecodedAs (k : ℕ) (f : List ℕ) (e : Coded) (d : Result Decoded Refusal) : Type 0 where
  pub from : ℕ
  pub to : ℕ
  pub answer : d ≡ Ok (record { message = e; from = from; to = to })
  pub said : Said k f e from to

pub record Demand2 : Type 0 where
  -- "For a chosen bus and any buffer the search gives the leftmost frame that meets the published layout, lengths and
  -- check values, or says that none exists."
  pub search : {k place : ℕ} {s : List ℕ} → known k ≡ true → place ≤ length s → (r : Result Found Refusal)
      → Searches k s place r
      → LeftmostOrNone k s place r
  -- 01: "At one place at most one length makes a frame"
  pub one-length : {k : ℕ} {s : List ℕ} {place n m : ℕ} → FrameAt k s place n → FrameAt k s place m
      → n ≡ m
  -- "Messages, their bytes .. are those of document 01": in a frame stands one message of the table, whose bytes it
  -- is, and the decoder answers that message
  pub a-message : {k : ℕ} {f : List ℕ} → Frame k f → (m : Message) × Stands k f m
  pub one-message : {k : ℕ} {f : List ℕ} (m n : Message) → Stands k f m → Stands k f n → m ≡ n
  pub a-frame : {k : ℕ} {f : List ℕ} {m : Message} → Stands k f m → Frame k f
  pub its-bytes : {k : ℕ} {f : List ℕ} {m : Message} → Stands k f m → f ≡ bytes m
  pub decoded : {k : ℕ} {f : List ℕ} → Frame k f → (r : Result Decoded Refusal) → Decodes k f r
      → (e : Coded) × DecodedAs k f e r
  -- ".. and their JSON lines are those of document 01", and of 02, K2, if there is a register sheet: under one sheet a
  -- frame has one line, which no other frame has. Without a sheet it is 01's
  pub no-sheet : (at len : ℕ) (m : Message) → line_with none at len m ≡ line at len m
  pub a-line : {sheet : Option Lookup} {k : ℕ} {f : List ℕ} (at : ℕ) → Frame k f
      → (t : List ℕ) × LineOf sheet k f at t
  pub one_line : {sheet : Option Lookup} {k : ℕ} {f : List ℕ} {at : ℕ} (s t : List ℕ) → LineOf sheet k f at s
      → LineOf sheet k f at t → s ≡ t
  pub of-one-frame : {sheet : Option Lookup} {k j at there : ℕ} {f g t : List ℕ} → LineOf sheet k f at t
      → LineOf sheet j g there t
      → (at ≡ there) × (k ≡ j) × (f ≡ g)
  -- and if a call is not refused, what it has written is that line: of a frame, and of the next frame of a capture
  pub line-written : {sheet : Option Lookup} {k : ℕ} {f : List ℕ} {at : ℕ} {room later : List ℕ} (r : Written)
      → WritesLine sheet k f at room r later
      → written_refusal r ≡ 0 → LineOf sheet k f at (take (written_count r) later)
  pub next-line-put : {sheet : Option Lookup} {k : ℕ} {s : List ℕ} {place to : ℕ} {room later : List ℕ}
      (r : Result Listed Refusal) → PutsNext sheet k s place room to r later → listed_refusal r ≡ 0
      → NextLine sheet k s place room to (listed_placed r) later
  -- of an entry of a book, and of all its entries
  pub entry-line-written : {sheet : Option Lookup} {s room later : List ℕ} {number : ℕ} (r : Written)
      → WritesEntryLine sheet s number room r later
      → written_refusal r ≡ 0 → EntryLine sheet s number (take (written_count r) later)
  pub book-lines-written : {sheet : Option Lookup} {s room later : List ℕ} (r : Written)
      → WritesBookLines sheet s room r later
      → written_refusal r ≡ 0 → BookLines sheet s (take (written_count r) later)
  -- and of all frames of a capture. The listing's frames are as long as their lines say. The frames and the bytes
  -- that are skipped make up the capture, and these bytes, counted one by one, are in no frame
  pub listing-written : {s room later : List ℕ} (r : Written) → WritesListing NoSheet s room r later
      → written_refusal r ≡ 0
      → Listing NoSheet s (take (written_count r) later)
  pub listing-by-map : (map : List ℕ) {s room later : List ℕ} (r : Written)
      → WritesListing (OfMap map) s room r later
      → written_refusal r ≡ 0
      → Listing (OfMap map) s (take (written_count r) later)
  pub listing-by-text : (text : List ℕ) {s room later : List ℕ} (r : Written)
      → WritesListing (OfText text) s room r later
      → written_refusal r ≡ 0
      → Listing (OfText text) s (take (written_count r) later)
  pub listed-length : {k place : ℕ} {s : List ℕ} {hits : List Hit} {v : Hit} → Run k s place hits
      → Memᴰ v hits
      → length (frame_part s v) ≡ v.len
  pub listed-all : {sheet : Option Lookup} {k : ℕ} {s t : List ℕ} (l : Lists sheet k s t)
      → inside l.frames + (length s - inside l.frames) ≡ length s
  pub skipped : {sheet : Option Lookup} {k : ℕ} {s t : List ℕ} (l : Lists sheet k s t)
      → InNone l.frames 0 (length s) (length s - inside l.frames)
  -- "An encoded message decodes to itself": if the encoder has written bytes for a case with its content, decoding
  -- them answers that case, and the message in them is the one that was said
  pub same-message : {k : ℕ} (e : Coded) (s room later : List ℕ) (r : Written) → Encodes k e s room r later
      → written_refusal r ≡ 0 → (d : Result Decoded Refusal) → Decodes k (take (written_count r) later) d
      → (a : DecodedAs k (take (written_count r) later) e d) × Says e s a.said.message
  -- "a frame, decoded and encoded, has the same bytes": its payload stands beside what it is decoded to, and the room
  -- is long enough
  pub same_bytes : {k : ℕ} {f : List ℕ} {e : Coded} {from to : ℕ} (said : Said k f e from to)
      (room later : List ℕ)
      (r : Written) → length f ≤ length room → Encodes k e (part from to f) room r later
      → (written_refusal r ≡ 0) × (written_count r ≡ length f) × (later ≡ f ++ drop (length f) room)
  -- "Each number's decimal text is exact and reads back to the same number", and what is read is what was written
  pub exact : (z : ℤ) (d : ℕ) → Exact z d (text z d)
  pub reads-back : (z : ℤ) (d : ℕ) (r : Result Reading Refusal) → Raw z → d ≤ most_decimals → ReadsText (text z d) r
      → r ≡ Ok (record { raw = z; decimals = d })
  pub written-so : (t : List ℕ) (z : ℤ) (d : ℕ) → ReadsText t (Ok (record { raw = z; decimals = d })) → text z d ≡ t

-- ---- DEMAND 3

pub record Demand3 : Type 0 where
  -- "that carry a check value": each frame of kinds 2 to 5 and each link does, and no other
  pub each-carries : {k : ℕ} {f : List ℕ} (h : Frame k f) → Carrying h.kind h.frame.form.fields
      → (c : Check) × (covered : List ℕ) × (value : ℕ) × Carries k f c covered value
  pub only-those : {k : ℕ} {f : List ℕ} {c : Check} {covered : List ℕ} {value : ℕ}
      → Carries k f c covered value
      → (h : Frame k f) → Carrying h.kind h.frame.form.fields
  -- "and pass": what carries is a frame, and the value that stands in it is the check's over those bytes
  pub what-carries : {k : ℕ} {f : List ℕ} {c : Check} {covered : List ℕ} {value : ℕ}
      → Carries k f c covered value
      → Frame k f
  pub passes : {k : ℕ} {f : List ℕ} {c : Check} {covered : List ℕ} {value : ℕ} → Carries k f c covered value
      → value ≡ check c covered
  -- "Two frames of one bus and direction that carry a check value and pass: if their checked bytes are equally long
  -- and their check values equal, but the checked bytes differ, then the differing bits don't fit" in the kind's
  -- stretch, in the kind's bit order
  pub found : {k : ℕ} {f g : List ℕ} {c d : Check} {x y : List ℕ} {v w : ℕ} (a : Carries k f c x v)
      → Carries k g d y w
      → length x ≡ length y → v ≡ w → ¬ (x ≡ y)
      → ¬ FitIn (stretch a.frame.kind) (bits_of_bytes (bit_order a.frame.kind) x)
      (bits_of_bytes (bit_order a.frame.kind) y)
