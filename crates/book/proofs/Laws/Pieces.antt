-- What is put of an entry, and of a book with an entry more, one piece behind the other.
-- Assumes nothing.
use mathlib.Core.List.{List, [], ◌∷◌, ◌++◌, append_assoc, append-nil}
use mathlib.Core.Path.{◌≡◌, ap, ap₂, ◌∙◌}
use Prim.Native.Nat.{ℕ, ◌+◌, ◌*◌, ◌%◌, ◌<◌}
use native.Mathlib.Omega.{arith}
use lib.ListN.{length, length-append}
use Rattle.digits.specs.Paper.LowFirst.{low_byte_first}
use Rattle.book.specs.Paper.Answers.{Adds}
use Rattle.book.specs.Paper.Book.{Entry, head, entry_bytes, entries, offsets, book, Book}
use Rattle.book.proofs.Laws.Layout.{length-entry, entries-append, offsets-append, ending, book-pieces, length-book}

-- ---- an entry

pub entry-laid : (kind : ℕ) (frame : List ℕ) → kind < 256 → (kind ∷ []) ++ (low_byte_first 2 (length frame) ++ frame) ≡ entry_bytes (record { kind = kind; frame = frame })
unfolding entry_bytes head low_byte_first
entry-laid kind frame h =
    let k : kind ≡ kind % 256 = omega arith in
    ap (λ (b : ℕ). b ∷ (low_byte_first 2 (length frame) ++ frame)) k

-- ---- a book with an entry more

-- one entry by itself
entries-one : (e : Entry) → entries (e ∷ []) ≡ entry_bytes e
unfolding entries
entries-one e = append-nil (entry_bytes e)

offsets-one : (at : ℕ) (e : Entry) → offsets at (e ∷ []) ≡ low_byte_first 4 at
unfolding offsets
offsets-one at e = append-nil (low_byte_first 4 at)

regroup : (a b c d x : List ℕ) → (a ++ b) ++ ((c ++ d) ++ x) ≡ a ++ (b ++ (c ++ (d ++ x)))
regroup a b c d x = simp append_assoc

pub book-added : (es : List Entry) (e : Entry)
    → book (es ++ e ∷ []) ≡ entries es ++ (entry_bytes e ++ (offsets 0 es ++ (low_byte_first 4 (length (entries es)) ++ ending (length es + 1))))
book-added es e =
    let n = length (entries es) in
    let more : entries (es ++ e ∷ []) ≡ entries es ++ entry_bytes e = entries-append es (e ∷ []) ∙ ap (λ (t : List ℕ). entries es ++ t) (entries-one e) in
    let place : 0 + n ≡ n = omega arith in
    let places : offsets 0 (es ++ e ∷ []) ≡ offsets 0 es ++ low_byte_first 4 n =
    offsets-append 0 es (e ∷ []) ∙ ap (λ (t : List ℕ). offsets 0 es ++ t) (offsets-one (0 + n) e ∙ ap (low_byte_first 4) place) in
    let count : length (es ++ e ∷ []) ≡ length es + 1 = length-append es (e ∷ []) in
    book-pieces (es ++ e ∷ [])
    ∙ ap₂ (λ (x y : List ℕ). x ++ (y ++ ending (length (es ++ e ∷ [])))) more places
    ∙ ap (λ (m : ℕ). (entries es ++ entry_bytes e) ++ ((offsets 0 es ++ low_byte_first 4 n) ++ ending m)) count
    ∙ regroup (entries es) (entry_bytes e) (offsets 0 es) (low_byte_first 4 n) (ending (length es + 1))

pub length-added : (es : List Entry) (e : Entry) → length (book (es ++ e ∷ [])) ≡ length (book es) + (length e.frame + 7)
length-added es e =
    let n : length (entries (es ++ e ∷ [])) ≡ length (entries es) + length (entry_bytes e) =
    ap length (entries-append es (e ∷ []) ∙ ap (λ (t : List ℕ). entries es ++ t) (entries-one e)) ∙ length-append (entries es) (entry_bytes e) in
    omega (arith, length-book (es ++ e ∷ []), length-book es, n, length-append es (e ∷ []), length-entry e)

-- a book that has an entry more is so much longer
pub adds-size : {s bs : List ℕ} {e : Entry} → Adds s e bs → length bs ≡ length s + (length e.frame + 7)
adds-size {e = e} a = omega (arith, ap length a.new.is, ap length a.valid.is, length-added a.all e)

-- a book is so long
pub book-size : {s : List ℕ} {es : List Entry} → Book s es → length s ≡ length (entries es) + (4 * length es + 6)
book-size {es = es} b = ap length b.is ∙ length-book es
