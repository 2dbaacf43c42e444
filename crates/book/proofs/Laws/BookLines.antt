-- The lines of a book: every book has them, and only those; the line of each entry stands in them; and how long they can be.
-- Assumes nothing.
use mathlib.Core.List.{List, [], ◌∷◌, ◌++◌, append_assoc}
use mathlib.Core.Option.{Option}
use mathlib.Core.Option as option
use mathlib.Core.Path.{◌≡◌, refl, sym, ap, ap₂, ◌∙◌, subst}
use Prim.Native.Nat.{ℕ, ◌+◌, ◌*◌, ◌^◌, ◌≤◌, ◌<◌}
use native.Mathlib.Omega.{arith}
use lib.ListN.{length, length-append}
use Rattle.lines.specs.Paper.Answers.{LineOf}
use Rattle.lines.proofs.Laws.Sizes.{Short, as_before, split, line-shorter}
use Rattle.lines.proofs.Laws.Types.{InTypes}
use Rattle.lines.proofs.Theorems.{has-line, one_line, line-room}
use Rattle.sheet.specs.Paper.Sheet.{Lookup}
use Rattle.book.specs.Paper.Answers.{Counts, EntryLine, EntryLines, none, line, BookLines}
use Rattle.book.specs.Paper.Book.{Entry, entry_bytes, entries, Framed, Book}
use Rattle.book.specs.Paper.Book as books
use Rattle.book.proofs.Laws.Entries.{counts-trailed}
use Rattle.book.proofs.Laws.Layout.{length-entry, length-entries}
use Rattle.book.proofs.Laws.One.{one-book}
use Rattle.book.proofs.Laws.Pieces.{book-size}

-- ---- some, and one

pub some-lines : {sheet : Option Lookup} (place : ℕ) {es : List Entry} → Framed es → (t : List ℕ) × EntryLines sheet place es t
some-lines place books.none = ([], none)
some-lines place (books.also {e = e} r f) =
    let l = has-line place r in
    let ts = some-lines (place + length (entry_bytes e)) f in
    (l.0 ++ ts.0, line l.1 ts.1)

pub book-lines : {sheet : Option Lookup} {s : List ℕ} {es : List Entry} → Book s es → (t : List ℕ) × BookLines sheet s t
book-lines {s} {es} b = let l = some-lines 0 b.within.framed in (l.0, record { all = es; valid = b; lines = l.1 })

pub one-lines : {sheet : Option Lookup} {place : ℕ} {es : List Entry} {a b : List ℕ} → EntryLines sheet place es a → EntryLines sheet place es b → a ≡ b
one-lines none none = refl
one-lines (line {t = t} l ls) (line {t = u} m ms) = ap₂ (λ (x y : List ℕ). x ++ y) (one_line t u l m) (one-lines ls ms)

pub one-book-lines : {sheet : Option Lookup} {s a b : List ℕ} → BookLines sheet s a → BookLines sheet s b → a ≡ b
one-book-lines {sheet} {a = a} x y = one-lines (subst (λ (es : List Entry). EntryLines sheet 0 es a) (one-book x.valid y.valid) x.lines) y.lines

-- ---- the line of one entry

-- the lines of entries one behind the other are the lines of the first, and then those of the others
lines_split : {sheet : Option Lookup} (place : ℕ) (a b : List Entry) {t : List ℕ} → EntryLines sheet place (a ++ b) t
    → (x : List ℕ) × (y : List ℕ) × (EntryLines sheet (place + length (entries a)) b y) × (t ≡ x ++ y)
unfolding entries
lines_split {sheet} place [] b {t} l = ([], t, subst (λ (p : ℕ). EntryLines sheet p b t) (omega arith) l, refl)
lines_split {sheet} place (e ∷ a) b (line {t = t} l ls) =
    let c = lines_split (place + length (entry_bytes e)) a b ls in
    let there : place + length (entry_bytes e) + length (entries a) ≡ place + length (entry_bytes e ++ entries a) = omega (arith, length-append (entry_bytes e) (entries a)) in (
      t ++ c.0,
      c.1,
      subst (λ (p : ℕ). EntryLines sheet p b c.1) there c.2,
      ap (λ (u : List ℕ). t ++ u) c.3 ∙ sym (append_assoc t c.0 c.1),
    )

first-line : {sheet : Option Lookup} {place : ℕ} {e : Entry} {es : List Entry} {y : List ℕ} → EntryLines sheet place (e ∷ es) y → (l : List ℕ) × (z : List ℕ) × (LineOf sheet e.kind e.frame place l) × (y ≡ l ++ z)
first-line (line {t = t} {rest = rest} l ls) = (t, rest, l, refl)

-- it stands in the lines of the book
pub line-in : {sheet : Option Lookup} {s t l : List ℕ} {number : ℕ} → BookLines sheet s t → EntryLine sheet s number l → (x : List ℕ) × (y : List ℕ) × (t ≡ x ++ (l ++ y))
line-in {sheet} {s} {t} {l} b o =
    let n = o.numbered in
    let e = o.entry in
    let all : EntryLines sheet 0 (n.before ++ e ∷ n.behind) t = subst (λ (es : List Entry). EntryLines sheet 0 es t) (one-book b.valid o.valid ∙ n.is) b.lines in
    let c = lines_split 0 n.before (e ∷ n.behind) all in
    let f = first-line c.2 in
    let there : 0 + length (entries n.before) ≡ o.offset = omega (arith, n.offset-is) in
    let same : f.0 ≡ l = one_line f.0 l (subst (λ (p : ℕ). LineOf sheet e.kind e.frame p f.0) there f.2) o.line in
    (c.0, f.1, c.3 ∙ ap (λ (u : List ℕ). c.0 ++ u) f.3 ∙ ap (λ (u : List ℕ). c.0 ++ (u ++ f.1)) same)

-- ---- their length

-- without a sheet
lines-most : {place : ℕ} {es : List Entry} {t : List ℕ} → place + length (entries es) < 10 ^ 20 → EntryLines option.none place es t → length t ≤ 8 * length (entries es) + 72 * length es
lines-most h none = omega arith
lines-most {place} h (line {e = e} {es = es} {t = t} {rest = rest} l ls) =
    let n = length-entries e es in
    let m = length-entry e in
    let few : place < 10 ^ 20 = omega arith in
    omega (arith, length-append t rest, line-room few l, lines-most {es = es} (omega arith) ls)

-- by a sheet
line-sheet-most : {sheet : Option Lookup} {n t : ℕ} → Short sheet n t → t ≤ 26 * n + 96
line-sheet-most (as_before x) = omega arith
line-sheet-most (split e x) = omega arith

lines-sheet-most : {sheet : Option Lookup} {place : ℕ} {es : List Entry} {t : List ℕ} → InTypes sheet → place + length (entries es) < 10 ^ 20 → EntryLines sheet place es t
    → length t ≤ 26 * length (entries es) + 18 * length es
lines-sheet-most types h none = omega arith
lines-sheet-most {place = place} types h (line {e = e} {es = es} {t = t} {rest = rest} l ls) =
    let n = length-entries e es in
    let m = length-entry e in
    let few : place < 10 ^ 20 = omega arith in
    omega (arith, length-append t rest, line-sheet-most (line-shorter types few l), lines-sheet-most {es = es} types (omega arith) ls)

module _ {s : List ℕ} {count : ℕ} (k : Counts s count) where
  small : {sheet : Option Lookup} {t : List ℕ} (l : BookLines sheet s t) → 0 + length (entries l.all) < 10 ^ 20
  small l = omega (arith, book-size l.valid, (counts-trailed k).small)

  pub book-lines-most : {t : List ℕ} → BookLines option.none s t → length t ≤ 8 * length s + 40 * count
  book-lines-most l =
      let b = l.valid in
      let n = book-size b in
      let m : length k.all ≡ length l.all = ap (λ (es : List Entry). length es) (one-book k.valid b) in
      omega (arith, k.is, lines-most {es = l.all} (small l) l.lines)

  -- an entry has four bytes in the trailer, so no more is needed for each
  pub sheet-lines-most : {sheet : Option Lookup} {t : List ℕ} → InTypes sheet → BookLines sheet s t → length t ≤ 26 * length s
  sheet-lines-most types l = omega (arith, book-size l.valid, lines-sheet-most {es = l.all} types (small l) l.lines)
