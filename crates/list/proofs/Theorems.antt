-- What the definition of a listing comes to, for a reader.
-- Assumes nothing.
use mathlib.Core.List.{List, Memᴰ}
use mathlib.Core.Option.{Option, none}
use mathlib.Core.Path.{◌≡◌, refl, sym, subst}
use Prim.Native.Nat.{ℕ, ◌+◌, ◌-◌, ◌*◌, ◌≤◌}
use native.Mathlib.Omega.{arith}
use lib.ListN.{length, take, drop}
use Rattle.digits.proofs.Laws.Refusals.{cause-at}
use Rattle.puts.specs.Paper.Wrote.{Wrote, wrote, refused, RoomCause, short, written_refusal, written_count, Written}
use Rattle.puts.proofs.Laws.Right.{written-right, rest-kept, as-right}
use Rattle.puts.proofs.Laws.Wrote.{has_room}
use Rattle.frames.specs.Paper.Runs.{Run, InOrder, nothing, next}
use Rattle.frames.specs.Paper.Search.{Hit, frame_part}
use Rattle.frames.proofs.Laws.Places.{size-at}
use Rattle.frames.proofs.Theorems.{in_order}
use Rattle.sheet.specs.Paper.Map.{sheet_in}
use Rattle.sheet.specs.Paper.Sheet.{Lookup}
use Rattle.lines.proofs.Laws.Types.{InTypes, no-types, in-types, row-types}
use Rattle.list.specs.Paper.Answers.{WroteListing, WritesListing}
use Rattle.list.specs.Paper.Listing.{inside, Lists, NoSheet, OfMap, OfText, Listing, listing_room}
use Rattle.list.specs.Paper.Skipped.{InNone}
use Rattle.list.proofs.Laws.One as one
use Rattle.list.proofs.Laws.Sizes as sizes
use Rattle.list.proofs.Laws.Skipped as skips
use Rattle.list.proofs.Laws.Some as some

-- EVERY INPUT HAS A LISTING, without a sheet and by whatever map
pub a-listing : (map s : List ℕ) → (t : List ℕ) × Listing (OfMap map) s t
a-listing map = some.some-listing (yes (sheet_in map, refl))

pub a-plain-listing : (s : List ℕ) → (t : List ℕ) × Listing NoSheet s t
a-plain-listing = some.some-listing (yes (none, refl))

-- AND ONE ONLY
pub one-listing : {Given : Option Lookup → Type 0} → one.OneGiven Given → {s a b : List ℕ} → Listing Given s a → Listing Given s b → a ≡ b
one-listing given = one.listing-one given

-- IT ADDS UP: the frames lie in the capture, no two in one byte, so that their lengths, which the lines say, and the bytes in no
-- frame, which the last line says, are together the capture's length
pub adds-up : {sheet : Option Lookup} {k : ℕ} {s t : List ℕ} (l : Lists sheet k s t) → inside l.frames + (length s - inside l.frames) ≡ length s
adds-up l = let h = sizes.inside-most l.run in omega arith

-- counted one by one, so many bytes of the capture are in no frame
pub in-no-frame : {sheet : Option Lookup} {k : ℕ} {s t : List ℕ} (l : Lists sheet k s t) → InNone l.frames 0 (length s) (length s - inside l.frames)
in-no-frame l = skips.skipped-count l.run

-- the frame of each line is as long as the line says it is
pub its-length : {k place : ℕ} {s : List ℕ} {hits : List Hit} {v : Hit} → Run k s place hits → Memᴰ v hits → length (frame_part s v) ≡ v.len
its-length {k} {s = s} {v = v} r m = of (in_order r) m
  where
    of : {place : ℕ} {hits : List Hit} → InOrder k s place hits → Memᴰ v hits → length (frame_part s v) ≡ v.len
    of nothing m = elim m [ ]
    of (next {v = u} b q later) (Memᴰ.head e) = subst (λ (x : Hit). length (frame_part s x) ≡ x.len) (sym e) (size-at q)
    of (next b q later) (Memᴰ.tail n) = of later n

-- a frame has four bytes at least, so there are not many
pub few-frames : {sheet : Option Lookup} {k : ℕ} {s t : List ℕ} (l : Lists sheet k s t) → 4 * length l.frames ≤ length s
few-frames l = let h = sizes.inside-most l.run in omega (arith, sizes.few-found l.run)

-- ROOM ENOUGH: no listing is longer than this
pub types-none : (sheet : Option Lookup) → NoSheet sheet → InTypes sheet
types-none sheet e = subst InTypes (sym e) no-types

pub types-map : (map : List ℕ) (sheet : Option Lookup) → OfMap map sheet → InTypes sheet
types-map map sheet e = subst InTypes (sym e) (in-types map)

pub types-text : (text : List ℕ) (sheet : Option Lookup) → OfText text sheet → InTypes sheet
types-text text sheet g = subst InTypes (sym g.says) (row-types g.is.rising)

module _ {Given : Option Lookup → Type 0} (types : (sheet : Option Lookup) → Given sheet → InTypes sheet) where
  pub size-most : {s t : List ℕ} → Listing Given s t → length t ≤ listing_room (length s)
  size-most = sizes.listing-room types

  pub size-always : {s t : List ℕ} → Listing Given s t → length t ≤ 2097202
  size-always = sizes.listing-most types

answered : {room bytes : ℕ} {bs before later : List ℕ} {number n : ℕ} → bytes ≤ room → Wrote (RoomCause room bytes) bs before number n later → number ≡ 0
answered h (wrote f) = refl
answered {room} {bytes} h (refused p f) = absurd (of (cause-at f p))
  where
    of : {m : ℕ} → RoomCause room bytes m → ⊥
    of (short k) = omega arith

-- so a room of that size is never refused with 4, and one of 2,097,202 bytes is for no input
module _ {Given : Option Lookup → Type 0} (types : (sheet : Option Lookup) → Given sheet → InTypes sheet) {s room later : List ℕ} (r : Written)
    (w : WritesListing Given s room r later) where
  pub enough : listing_room (length s) ≤ length room → written_refusal r ≡ 0
  enough h = answered (omega (arith, size-most types w.lists)) w.written

  pub always-enough : 2097202 ≤ length room → written_refusal r ≡ 0
  always-enough h = answered (omega (arith, size-always types w.lists)) w.written

-- WHAT IS WRITTEN IS THE LISTING: where nothing is refused, it stands in the room's front, and the rest is as it was
pub written-listing : {Given : Option Lookup → Type 0} {s room later : List ℕ} (r : Written) → WritesListing Given s room r later → written_refusal r ≡ 0 → Listing Given s (take (written_count r) later)
written-listing {Given} {s} r w z = written-right {Right = Listing Given s} (as-right w.lists w.written) z

pub behind-listing : {Given : Option Lookup → Type 0} {s room later : List ℕ} (r : Written) → WritesListing Given s room r later → drop (written_count r) later ≡ drop (written_count r) room
behind-listing {Given} {s} r w = rest-kept {Right = Listing Given s} (as-right w.lists w.written)

-- WHAT IS WRITTEN LIES IN THE ROOM
fitting : {room : ℕ} {t before later : List ℕ} {number n : ℕ} → Wrote (RoomCause room (length t)) t before number n later → n ≤ room
fitting (wrote f) = has_room f
fitting (refused p f) = omega arith

pub in-room : {Given : Option Lookup → Type 0} {s room later : List ℕ} {number n : ℕ} → WroteListing Given s room number n later → n ≤ length room
in-room w = fitting w.written
