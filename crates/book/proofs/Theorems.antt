-- What the definition of a book comes to, for a reader.
-- Assumes nothing.
use mathlib.Core.List.{List, [], ◌∷◌, ◌++◌, append_assoc}
use mathlib.Core.Option.{Option, none}
use mathlib.Core.Path.{◌≡◌, refl, ap, ◌∙◌, subst}
use Prim.Native.Nat.{ℕ, ◌+◌, ◌*◌, ◌≤◌, ◌<◌}
use native.Mathlib.Omega.{arith}
use denote.Ref.{Bor}
use lib.ListN.{length, take, drop, length-append}
use Rattle.digits.specs.Paper.Bytes.{part}
use Rattle.digits.specs.Paper.Part.{Ends, IsPart}
use Rattle.digits.specs.Paper.Refusals as refusals
use Rattle.digits.proofs.Laws.Refusals.{answered, cause-at, cause-of, one-first}
use Rattle.lines.proofs.Laws.Types.{in-types}
use Rattle.lines.proofs.Theorems.{has-line}
use Rattle.puts.specs.Paper.Right.{WroteRight, wrote, refused}
use Rattle.puts.specs.Paper.Wrote.{written_refusal, written_count, Written}
use Rattle.puts.proofs.Laws.Right.{written-right, rest-kept}
use Rattle.sheet.specs.Paper.Map.{sheet_in}
use Rattle.sheet.specs.Paper.Sheet.{Lookup}
use Rattle.book.specs.Paper.Answers.{Counts, Opens, EntryOf, LocatesEntry, location_ends, HandsFrame, EntryLine, WritesEntryLine, BookLines, ListCause, no-book, short, WritesBookLines, Adds, WritesAdded}
use Rattle.book.specs.Paper.Book.{Entry, head, entry_bytes, entries, book, counted, trailer, Within, Book, EntryAt}
use Rattle.book.specs.declared.Located.{Located}
use Rattle.digits.specs.declared.refusal.Refusal.{Refusal}
use Rattle.std.specs.Prelude.{Result, Ok}
use Rattle.book.proofs.Laws.BookLines as lines
use Rattle.book.proofs.Laws.Entries as its
use Rattle.book.proofs.Laws.Layout as layout
use Rattle.book.proofs.Laws.One as one
use Rattle.book.proofs.Laws.Pieces as pieces
use Rattle.book.proofs.Unique as unique

-- ENTRIES WITHIN THE LIMITS HAVE A BOOK, AND IT IS VALID
pub a-book : {es : List Entry} → Within es → Book (book es) es
a-book w = record { within = w; is = refl }

-- TWO LISTS OF ENTRIES WITH THE SAME BOOK ARE EQUAL
pub same-book : {es ts : List Entry} → Within es → Within ts → book es ≡ book ts → es ≡ ts
same-book v w e = one.one-book (a-book v) (record { within = w; is = e })

-- so bytes are the book of one list of entries at most
pub one-book : {s : List ℕ} {es ts : List Entry} → Book s es → Book s ts → es ≡ ts
one-book = one.one-book

-- THE DISTANCE BACK, from the book's end to the trailer's start, is the number that stands there
pub distance : (es : List Entry) → length (trailer es) ≡ length (counted es) + 4
distance = layout.length-trailer

-- EVERY BOOK COMES OF ADDING ONE ENTRY AFTER THE OTHER: without its last entry a book is within the limits too, and adding that entry
-- makes the book
pub front-within : (es : List Entry) (e : Entry) → Within (es ++ e ∷ []) → Within es
front-within es e w =
    record {
      framed = layout.framed-front es (e ∷ []) w.framed;
      few = omega (arith, w.few, length-append es (e ∷ []));
      small = omega (arith, w.small, pieces.length-added es e);
    }

pub last-added : (es : List Entry) (e : Entry) → Within (es ++ e ∷ []) → Adds (book es) e (book (es ++ e ∷ []))
last-added es e w = record { all = es; valid = a-book (front-within es e w); new = a-book w }

-- ---- OPENING AND THE ENTRIES GIVE BACK WHAT WAS ADDED

-- opening answers the count
pub opens-count : {s : List ℕ} {es : List Entry} → Book s es → (r : Result ℕ Refusal) → Opens s r → r ≡ Ok (length es)
opens-count {s} {es} b r a = unique.open-one r (Ok (length es)) a there
  where
    there : Opens s (Ok (length es))
    there = refusals.answers {v = length es} (its.open-0 b) (record { all = es; valid = b; is = refl })

-- every number below it has an entry
pub has-entry : (es : List Entry) (number : ℕ) → number < length es → (e : Entry) × ((at : ℕ) × EntryAt es number e at)
has-entry = its.has-entry

module _ {s : List ℕ} {es : List Entry} {number : ℕ} {e : Entry} {at : ℕ} (b : Book s es) (n : EntryAt es number e at) where
  -- which lies inside the book
  pub entry-inside : at + length (entry_bytes e) ≤ length s
  entry-inside = its.numbered-inside b n

  told : EntryOf s number (record { kind = e.kind; offset = at; from = at + length (head e); to = at + length (entry_bytes e) })
  told = record { all = es; valid = b; entry = e; numbered = n; kind-is = refl; from_is = refl; to_is = refl }

  -- and its frame with it
  pub frame-inside : part (at + length (head e)) (at + length (entry_bytes e)) s ≡ e.frame
  unfolding told
  frame-inside = its.told-frame told

  there : LocatesEntry s number (Ok (record { kind = e.kind; offset = at; from = at + length (head e); to = at + length (entry_bytes e) }))
  there = refusals.answers (its.entry-0 b (omega (arith, its.numbered_below b n))) told

  -- and is told as it was added
  pub entry-back : (r : Result Located Refusal) → LocatesEntry s number r → r ≡ Ok (record { kind = e.kind; offset = at; from = at + length (head e); to = at + length (entry_bytes e) })
  entry-back r a = unique.entry-one r (Ok (record { kind = e.kind; offset = at; from = at + length (head e); to = at + length (entry_bytes e) })) a there

-- with the frame that it was added with, as that part of the book
pub frame_back : {s : Bor (List ℕ)} {es : List Entry} {number : ℕ} {e : Entry} {at : ℕ} → Book s.now es → EntryAt es number e at
    → (r : Bor (List ℕ)) → HandsFrame s number r → IsPart s (record { from = at + length (head e); to = at + length (entry_bytes e) }) r × (r.now ≡ e.frame)
frame_back {s} {e = e} {at = at} b n r a =
    let x = answered a.answer (one-first (cause-of a.answer) (its.entry-0 b (omega (arith, its.numbered_below b n)))) in
    let q : a.ends ≡ record { from = at + length (head e); to = at + length (entry_bytes e) } = x.2 ∙ ap location_ends (unique.told-one x.0 _ x.1 (told b n)) in
    let i = subst (λ (i : Ends). IsPart s i r) q a.is in
    (i, i.bytes ∙ frame-inside b n)

-- ---- WHAT ADDING WRITES OPENS

-- the old entries have their numbers and offsets still, and the new one stands behind them
pub old-entry : {es : List Entry} {number : ℕ} {e : Entry} {at : ℕ} (new : Entry) → EntryAt es number e at → EntryAt (es ++ new ∷ []) number e at
old-entry {e = e} new n =
    record {
      before = n.before;
      behind = n.behind ++ new ∷ [];
      is = ap (λ (us : List Entry). us ++ new ∷ []) n.is ∙ append_assoc n.before (e ∷ n.behind) (new ∷ []);
      number_is = n.number_is;
      offset-is = n.offset-is;
    }

pub new-entry : (es : List Entry) (e : Entry) → EntryAt (es ++ e ∷ []) (length es) e (length (entries es))
new-entry es e = record { before = es; behind = []; is = refl; number_is = refl; offset-is = refl }

module _ {s room later : List ℕ} {es : List Entry} {e : Entry} (r : Written) (b : Book s es) (w : WritesAdded s e room r later) (z : written_refusal r ≡ 0) where
  -- the old entries and the new one
  pub added-book : Book (take (written_count r) later) (es ++ e ∷ [])
  added-book =
      let a = written-right w z in
      subst (λ (us : List Entry). Book (take (written_count r) later) (us ++ e ∷ [])) (one.one-book a.valid b) a.new

  pub added-opens : (o : Result ℕ Refusal) → Opens (take (written_count r) later) o → o ≡ Ok (length es + 1)
  added-opens o a = opens-count added-book o a ∙ ap Ok (length-append es (e ∷ []))

-- ---- THE LINES OF A BOOK, by the sheet that there is

-- every book has lines, and only those
pub book-lines : {sheet : Option Lookup} {s : List ℕ} {es : List Entry} → Book s es → (t : List ℕ) × BookLines sheet s t
book-lines = lines.book-lines

pub one-book-lines : {sheet : Option Lookup} {s a b : List ℕ} → BookLines sheet s a → BookLines sheet s b → a ≡ b
one-book-lines = lines.one-book-lines

-- every entry has a line
pub entry-line : {sheet : Option Lookup} {s : List ℕ} {es : List Entry} {number : ℕ} {e : Entry} {at : ℕ} → Book s es → EntryAt es number e at
    → (l : List ℕ) × EntryLine sheet s number l
entry-line {es = es} {e = e} {at = at} b n =
    let l = has-line at (its.numbered-frame b n) in
    (l.0, record { all = es; valid = b; entry = e; offset = at; numbered = n; line = l.1 })

-- and it stands in the lines of the book
pub line-in : {sheet : Option Lookup} {s t l : List ℕ} {number : ℕ} → BookLines sheet s t → EntryLine sheet s number l → (x : List ℕ) × (y : List ℕ) × (t ≡ x ++ (l ++ y))
line-in = lines.line-in

-- WHAT IS WRITTEN ARE THE LINES: where nothing is refused, they stand in the room's front, and the rest is as it was
pub written-lines : {sheet : Option Lookup} {s room later : List ℕ} (r : Written) → WritesBookLines sheet s room r later → written_refusal r ≡ 0
    → BookLines sheet s (take (written_count r) later)
written-lines r w z = written-right w z

pub behind-lines : {sheet : Option Lookup} {s room later : List ℕ} (r : Written) → WritesBookLines sheet s room r later
    → drop (written_count r) later ≡ drop (written_count r) room
behind-lines r w = rest-kept w

pub written_entry : {sheet : Option Lookup} {s room later : List ℕ} {number : ℕ} (r : Written) → WritesEntryLine sheet s number room r later → written_refusal r ≡ 0
    → EntryLine sheet s number (take (written_count r) later)
written_entry r w z = written-right w z

pub behind-entry : {sheet : Option Lookup} {s room later : List ℕ} {number : ℕ} (r : Written) → WritesEntryLine sheet s number room r later
    → drop (written_count r) later ≡ drop (written_count r) room
behind-entry r w = rest-kept w

-- ROOM ENOUGH: a room that no lines of the book are longer than is never refused
module _ {sheet : Option Lookup} {s room later : List ℕ} {es : List Entry} (r : Written) (b : Book s es) (w : WritesBookLines sheet s room r later) where
  count : Counts s (length es)
  count = record { all = es; valid = b; is = refl }

  roomy : ((t : List ℕ) → BookLines sheet s t → length t ≤ length room) → written_refusal r ≡ 0
  roomy most = of w
    where
      no-cause : {no : ℕ} → ListCause sheet s (length room) no → ⊥
      no-cause (no-book f) = f es b
      no-cause (short {t = t} l g) = omega (arith, most t l)

      of : {no n : ℕ} {later : List ℕ} → WroteRight (ListCause sheet s (length room)) (BookLines sheet s) room no n later → no ≡ 0
      of (wrote f x) = refl
      of (refused p f) = absurd (no-cause (cause-at f p))

-- without a sheet
pub enough : {s room later : List ℕ} {es : List Entry} (r : Written) → Book s es → WritesBookLines none s room r later → 8 * length s + 40 * length es ≤ length room
    → written_refusal r ≡ 0
enough r b w h = roomy r b w (λ t l. omega (arith, lines.book-lines-most (count r b w) l))

-- by the sheet that a map is
pub enough-mapped : (map : List ℕ) {s room later : List ℕ} {es : List Entry} (r : Written) → Book s es → WritesBookLines (sheet_in map) s room r later
    → 26 * length s ≤ length room → written_refusal r ≡ 0
enough-mapped map r b w h = roomy r b w (λ t l. omega (arith, lines.sheet-lines-most (count r b w) (in-types map) l))
