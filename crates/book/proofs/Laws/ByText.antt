-- The lines of a book by the text of a sheet.
-- Assumes nothing.
use mathlib.Core.Bool.{Bool, false, ◌||◌, true≢false}
use mathlib.Core.List.{List}
use mathlib.Core.Option.{Option, some}
use mathlib.Core.Path.{◌≡◌, sym, ap, ◌∙◌, subst, subst₂}
use Prim.Native.Nat.{ℕ, ◌<◌}
use lib.Dec.{eqb}
use lib.ListN.{length}
use Rattle.digits.specs.Paper.Bytes.{part}
use Rattle.digits.specs.Paper.Refusals.{refusal_number, refusal_order, First, here, after}
use Rattle.std.specs.Prelude.{Ok, Err}
use Rattle.digits.specs.declared.refusal.Refusal.{Refusal}
use Rattle.digits.proofs.Laws.Refusals.{some_number, pass-over}
use Rattle.frames.proofs.Laws.Kinds.{frame-known}
use Rattle.lines.specs.Paper.Answers.{LineByText, LineByTextCause, WritesLineByText}
use Rattle.lines.specs.Paper.Answers as lines
use Rattle.lines.proofs.Laws.ByText.{some-sheet}
use Rattle.puts.specs.Paper.Right.{refused}
use Rattle.puts.specs.Paper.Wrote.{Written}
use Rattle.puts.proofs.Laws.Right.{recast}
use Rattle.sheet.specs.Paper.Map.{sheet_in}
use Rattle.sheet.specs.Paper.Sheet.{Row, Sheet, Lookup, find}
use Rattle.sheet.proofs.Laws.ByMap.{ByMap}
use Rattle.sheet.proofs.Laws.Scans.{one-sheet}
use Rattle.sheet.proofs.Laws.Split.{first-map}
use Rattle.book.specs.Paper.Answers.{Counts, EntryCause, LocatesEntry, EntryLine, EntryLineByText, EntryLineByTextCause, WritesEntryLineByText}
use Rattle.book.specs.Paper.Answers.{BookLines, ListCause, WritesBookLines, BookLinesByText, ListByTextCause, WritesBookLinesByText}
use Rattle.book.specs.Paper.Answers as answers
use Rattle.book.specs.Paper.Book.{Entry, Book, EntryAt}
use Rattle.book.specs.Work.Reading.{OpensNoting}
use Rattle.book.specs.declared.opening.Places.{Places}
use Rattle.book.specs.declared.Located.{Located}
use Rattle.book.proofs.Laws.BookLines.{one-book-lines}
use Rattle.book.proofs.Laws.Entries.{numbered-frame, told-frame, entry_of, unopened, opens-so}
use Rattle.book.proofs.Laws.EntryLines.{number-below, line-here, the-line, unlocated}

-- ---- the line of an entry

module _ {s : List ℕ} {es : List Entry} {number : ℕ} {e : Entry} {offset : ℕ} (b : Book s es) (n : EntryAt es number e offset) {text : List ℕ} where
  text-here : (t : List ℕ) → LineByText e.kind e.frame offset text t → EntryLineByText s number text t
  text-here t l = record { rows = l.rows; is = l.is; line = line-here b n t l.line }

  pub the-line-by-text : {t : List ℕ} → EntryLineByText s number text t → LineByText e.kind e.frame offset text t
  the-line-by-text l = record { rows = l.rows; is = l.is; line = the-line b n l.line }

  -- it is refused as the line of its frame is: for the sheet, or for its length
  entry-cause : {room : ℕ} (i : ℕ) → LineByTextCause e.kind e.frame offset text room i → EntryLineByTextCause s number text room i
  entry-cause i (lines.no_kind h) = absurd (true≢false (sym (frame-known (numbered-frame b n)) ∙ h))
  entry-cause i (lines.no-frame f) = absurd (f (numbered-frame b n))
  entry-cause i (lines.bad-sheet f) = answers.bad-sheet f
  entry-cause i (lines.short {t = t} l h) = answers.short (text-here t l) h

  frame-cause : {room : ℕ} (i : ℕ) → EntryLineByTextCause s number text room i → LineByTextCause e.kind e.frame offset text room i
  frame-cause i (answers.no-book f) = absurd (f es b)
  frame-cause i (answers.no-entry c h) = absurd (number-below b n c h)
  frame-cause i (answers.bad-sheet f) = lines.bad-sheet f
  frame-cause i (answers.short l h) = lines.short (the-line-by-text l) h

module _ {s : List ℕ} {number : ℕ} {text : List ℕ} where
  pub entry-lined-by-text : {v : Located} → LocatesEntry s number (Ok v) → {room later : List ℕ} (w : Written)
      → WritesLineByText v.kind (part v.from v.to s) v.offset text room w later → WritesEntryLineByText s number text room w later
  entry-lined-by-text {v} a {room} {later} w p =
      let x = entry_of a in
      let own : WritesLineByText x.entry.kind x.entry.frame v.offset text room w later =
      subst₂ (λ (k : ℕ) (f : List ℕ). WritesLineByText k f v.offset text room w later) x.kind-is (told-frame x) p in
      recast (λ no c. first-map (entry-cause x.valid x.numbered) (frame-cause x.valid x.numbered) c) (text-here x.valid x.numbered) own

  pub unlocated-by-text : (why : Refusal) (room : List ℕ) → LocatesEntry s number (Err why) → WritesEntryLineByText s number text room (Err why) room
  unlocated-by-text why room a = refused (some_number why) (unlocated causes valid (λ c. elim c [ ]) why a)
    where
      causes : (i : ℕ) → EntryCause s number i → EntryLineByTextCause s number text (length room) i
      causes i (answers.no-book f) = answers.no-book f
      causes i (answers.no-entry b h) = answers.no-entry b h

      valid : (es : List Entry) → Book s es → EntryLineByTextCause s number text (length room) 8 → ⊥
      valid es b (answers.no-book f) = f es b

-- ---- the lines of all entries

-- a book has one list of lines by a text
pub one-lines-by-text : {s text : List ℕ} (a b : List ℕ) → BookLinesByText s text a → BookLinesByText s text b → a ≡ b
one-lines-by-text {s} a b x y =
    one-book-lines x.lines (subst (λ (rows : List Row). BookLines (some (find rows)) s b) (one-sheet y.is x.is) y.lines)

module _ {s text : List ℕ} {room : ℕ} {rows : List Row} (w : Sheet text rows) where
  text-cause : (i : ℕ) → ListCause (some (find rows)) s room i → ListByTextCause s text room i
  text-cause i (answers.no-book f) = answers.no-book f
  text-cause i (answers.short l h) = answers.short (record { rows = rows; is = w; lines = l }) h

  rows-cause : (i : ℕ) → ListByTextCause s text room i → ListCause (some (find rows)) s room i
  rows-cause i (answers.no-book f) = answers.no-book f
  rows-cause i (answers.bad-sheet f) = absurd (f rows w)
  rows-cause i (answers.short {t = t} l h) =
      answers.short (subst (λ (q : List Row). BookLines (some (find q)) s t) (one-sheet l.is w) l.lines) h

abbrev ours : ℕ → Bool
ours k = eqb k 8 || (eqb k 10 || eqb k 4)

only : {s text : List ℕ} {room : ℕ} (i : ℕ) → ours i ≡ false → ListByTextCause s text room i → ⊥
only i q (answers.no-book f) = true≢false q
only i q (answers.bad-sheet f) = true≢false q
only i q (answers.short l h) = true≢false q

module _ {s text room : List ℕ} where
  pub listed-by-map : {map later : List ℕ} (r : Written) → ByMap text map → 0 < length map → WritesBookLines (sheet_in map) s room r later
      → WritesBookLinesByText s text room r later
  listed-by-map {map} {later} r m h x =
      let e : sheet_in map ≡ some (find m.rows) = some-sheet map h ∙ ap some m.look in
      recast (λ no c. first-map (text-cause m.is) (rows-cause m.is) c) (λ bs l. record { rows = m.rows; is = m.is; lines = l })
      (subst (λ (sheet : Option Lookup). WritesBookLines sheet s room r later) e x)

  -- a valid book, and a text that is no sheet
  pub listed-bad-text : {count : ℕ} → Counts s count → (why : Refusal) → refusal_number why ≡ 10 → ((rows : List Row) → Sheet text rows → ⊥)
      → WritesBookLinesByText s text room (Err why) room
  listed-bad-text k why e f = refused (some_number why) (subst (First (ListByTextCause s text (length room)) refusal_order) (sym e) ten)
    where
      valid : ListByTextCause s text (length room) 8 → ⊥
      valid (answers.no-book g) = g k.all k.valid

      ten : First (ListByTextCause s text (length room)) refusal_order 10
      ten = pass-over ours only refusal_order (after valid (here (answers.bad-sheet f)))

  -- anything else than a valid book
  pub unopened-by-text : {places : Places} (why : Refusal) → OpensNoting s places (Err why) → WritesBookLinesByText s text room (Err why) room
  unopened-by-text why a =
      let u = unopened why (opens-so a) in
      refused (some_number why) (subst (First (ListByTextCause s text (length room)) refusal_order) u.1 (here (answers.no-book u.0)))
