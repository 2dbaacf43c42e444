-- What writing the line of an entry answers.
-- Assumes nothing.
use mathlib.Core.Bool.{true≢false}
use mathlib.Core.List.{List}
use mathlib.Core.Option.{Option}
use mathlib.Core.Path.{sym, ap, ◌∙◌, subst, subst₂}
use Prim.Native.Nat.{ℕ, ◌≤◌}
use native.Mathlib.Omega.{arith}
use lib.ListN.{length}
use Rattle.digits.specs.Paper.Bytes.{part}
use Rattle.digits.specs.Paper.Refusals.{refusal_number, refusal_order, First, here, after}
use Rattle.std.specs.Prelude.{Ok, Err}
use Rattle.digits.specs.declared.refusal.Refusal.{Refusal}
use Rattle.digits.proofs.Laws.Refusals.{some_number, cause-at, cause-of}
use Rattle.frames.proofs.Laws.Kinds.{frame-known}
use Rattle.lines.specs.Paper.Answers.{LineOf, LineCause, WritesLine}
use Rattle.lines.specs.Paper.Answers as lines
use Rattle.puts.specs.Paper.Right.{refused}
use Rattle.puts.specs.Paper.Wrote.{Written}
use Rattle.puts.proofs.Laws.Right.{recast}
use Rattle.sheet.specs.Paper.Sheet.{Lookup}
use Rattle.sheet.proofs.Laws.Split.{first-map}
use Rattle.book.specs.Paper.Answers.{EntryCause, LocatesEntry, EntryLine, EntryLineCause, WritesEntryLine}
use Rattle.book.specs.Paper.Answers as answers
use Rattle.book.specs.Paper.Book.{Entry, Book, EntryAt}
use Rattle.book.specs.declared.Located.{Located}
use Rattle.book.proofs.Laws.Entries.{numbered-frame, numbered_below, told-frame, entry_of}
use Rattle.book.proofs.Laws.One.{one-book, one-numbered}

-- ---- the line of an entry that there is

module _ {s : List ℕ} {es : List Entry} {number : ℕ} {e : Entry} {offset : ℕ} (b : Book s es) (n : EntryAt es number e offset) where
  pub number-below : {us : List Entry} → Book s us → length us ≤ number → ⊥
  number-below c h = omega (arith, numbered_below b n, ap (λ (us : List Entry). length us) (one-book c b))

  module _ {sheet : Option Lookup} where
    pub line-here : (t : List ℕ) → LineOf sheet e.kind e.frame offset t → EntryLine sheet s number t
    line-here t l = record { all = es; valid = b; entry = e; offset = offset; numbered = n; line = l }

    -- and it has no other
    pub the-line : {t : List ℕ} → EntryLine sheet s number t → LineOf sheet e.kind e.frame offset t
    the-line {t} l =
        let m : EntryAt es number l.entry l.offset = subst (λ (us : List Entry). EntryAt us number l.entry l.offset) (one-book l.valid b) l.numbered in
        let q = one-numbered m n in
        subst (λ (x : Entry). LineOf sheet x.kind x.frame offset t) q.0 (subst (λ (o : ℕ). LineOf sheet l.entry.kind l.entry.frame o t) q.1 l.line)

    -- it is refused as the line of its frame is: for its length alone
    entry-cause : {room : ℕ} (i : ℕ) → LineCause sheet e.kind e.frame offset room i → EntryLineCause sheet s number room i
    entry-cause i (lines.no_kind h) = absurd (true≢false (sym (frame-known (numbered-frame b n)) ∙ h))
    entry-cause i (lines.no-frame f) = absurd (f (numbered-frame b n))
    entry-cause i (lines.short {t = t} l h) = answers.short (line-here t l) h

    frame-cause : {room : ℕ} (i : ℕ) → EntryLineCause sheet s number room i → LineCause sheet e.kind e.frame offset room i
    frame-cause i (answers.no-book f) = absurd (f es b)
    frame-cause i (answers.no-entry c h) = absurd (number-below c h)
    frame-cause i (answers.short l h) = lines.short (the-line l) h

-- ---- the answers

module _ {s : List ℕ} {number : ℕ} where
  pub entry-lined : {v : Located} → LocatesEntry s number (Ok v) → {sheet : Option Lookup} {room later : List ℕ} (w : Written)
      → WritesLine sheet v.kind (part v.from v.to s) v.offset room w later → WritesEntryLine sheet s number room w later
  entry-lined {v} a {sheet} {room} {later} w p =
      let x = entry_of a in
      let own : WritesLine sheet x.entry.kind x.entry.frame v.offset room w later =
      subst₂ (λ (k : ℕ) (f : List ℕ). WritesLine sheet k f v.offset room w later) x.kind-is (told-frame x) p in
      recast (λ no c. first-map (entry-cause x.valid x.numbered) (frame-cause x.valid x.numbered) c) (line-here x.valid x.numbered) own

  -- anything else than an entry of a valid book is refused before all else
  pub unlocated : {Cause : ℕ → Type 0} → ((i : ℕ) → EntryCause s number i → Cause i) → ((es : List Entry) → Book s es → Cause 8 → ⊥) → (Cause 2 → ⊥) → (why : Refusal) → LocatesEntry s number (Err why)
      → First Cause refusal_order (refusal_number why)
  unlocated {Cause} causes valid kind why a = go (cause-at (cause-of a) (some_number why))
    where
      go : {no : ℕ} → EntryCause s number no → First Cause refusal_order no
      go (answers.no-book f) = here (causes 8 (answers.no-book f))
      go (answers.no-entry {es = es} b h) = after (valid es b) (after kind (here (causes 3 (answers.no-entry b h))))

  pub unlocated-line : {sheet : Option Lookup} (why : Refusal) (room : List ℕ) → LocatesEntry s number (Err why) → WritesEntryLine sheet s number room (Err why) room
  unlocated-line {sheet} why room a = refused (some_number why) (unlocated causes valid (λ c. elim c [ ]) why a)
    where
      causes : (i : ℕ) → EntryCause s number i → EntryLineCause sheet s number (length room) i
      causes i (answers.no-book f) = answers.no-book f
      causes i (answers.no-entry b h) = answers.no-entry b h

      valid : (es : List Entry) → Book s es → EntryLineCause sheet s number (length room) 8 → ⊥
      valid es b (answers.no-book f) = f es b
