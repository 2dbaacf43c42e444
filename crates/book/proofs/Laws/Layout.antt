-- The pieces of a book, and how long they are.
-- Assumes nothing.
use mathlib.Core.List.{List, [], ◌∷◌, ◌++◌, append_assoc}
use mathlib.Core.Path.{◌≡◌, refl, sym, ap, ◌∙◌}
use Prim.Native.Nat.{ℕ, ◌+◌, ◌*◌}
use native.Mathlib.Omega.{arith}
use lib.ListN.{length, length-append}
use Rattle.digits.specs.Paper.LowFirst.{low_byte_first}
use Rattle.digits.proofs.Laws.LowFirst.{length-low}
use Rattle.frames.specs.Paper.Kinds.{Frame}
use Rattle.book.specs.Paper.Book.{Entry, head, entry_bytes, entries, offsets, counted, trailer, book, Framed, none, also}

-- ---- an entry

pub length-head : (e : Entry) → length (head e) ≡ 3
unfolding head
length-head e =
    let n = length e.frame in
    omega (arith, length-append (low_byte_first 1 e.kind) (low_byte_first 2 n), length-low 1 e.kind, length-low 2 n)

pub length-entry : (e : Entry) → length (entry_bytes e) ≡ 3 + length e.frame
unfolding entry_bytes
length-entry e = omega (arith, length-append (head e) e.frame, length-head e)

-- ---- entries, one behind the other

pub entries-append : (a b : List Entry) → entries (a ++ b) ≡ entries a ++ entries b
unfolding entries
entries-append [] b = refl
entries-append (e ∷ a) b = ap (λ (t : List ℕ). entry_bytes e ++ t) (entries-append a b) ∙ sym (append_assoc (entry_bytes e) (entries a) (entries b))

pub length-entries : (e : Entry) (es : List Entry) → length (entries (e ∷ es)) ≡ length (entry_bytes e) + length (entries es)
unfolding entries
length-entries e es = length-append (entry_bytes e) (entries es)

-- the first of entries has a frame, and the others have theirs
pub first-framed : {e : Entry} {es : List Entry} → Framed (e ∷ es) → Frame e.kind e.frame
first-framed (also f r) = f

pub rest-framed : {e : Entry} {es : List Entry} → Framed (e ∷ es) → Framed es
rest-framed (also f r) = r

pub framed-append : {a b : List Entry} → Framed a → Framed b → Framed (a ++ b)
framed-append none g = g
framed-append (also f r) g = also f (framed-append r g)

pub framed-front : (a b : List Entry) → Framed (a ++ b) → Framed a
framed-front [] b f = none
framed-front (e ∷ a) b (also f r) = also f (framed-front a b r)

pub framed-back : (a b : List Entry) → Framed (a ++ b) → Framed b
framed-back [] b f = f
framed-back (e ∷ a) b (also f r) = framed-back a b r

-- ---- the trailer

pub length-offsets : (at : ℕ) (es : List Entry) → length (offsets at es) ≡ 4 * length es
unfolding offsets
length-offsets at [] = refl
length-offsets at (e ∷ es) =
    let there = at + length (entry_bytes e) in
    omega (arith, length-append (low_byte_first 4 at) (offsets there es), length-low 4 at, length-offsets there es)

pub offsets-append : (at : ℕ) (a b : List Entry) → offsets at (a ++ b) ≡ offsets at a ++ offsets (at + length (entries a)) b
unfolding offsets entries
offsets-append at [] b = ap (λ (n : ℕ). offsets n b) (omega arith)
offsets-append at (e ∷ a) b =
    let there = at + length (entry_bytes e) in
    let n : there + length (entries a) ≡ at + length (entry_bytes e ++ entries a) = omega (arith, length-append (entry_bytes e) (entries a)) in
    ap (λ (t : List ℕ). low_byte_first 4 at ++ t) (offsets-append there a b ∙ ap (λ (m : ℕ). offsets there a ++ offsets m b) n)
    ∙ sym (append_assoc (low_byte_first 4 at) (offsets there a) (offsets (at + length (entry_bytes e ++ entries a)) b))

pub length-counted : (es : List Entry) → length (counted es) ≡ 4 * length es + 2
length-counted es = omega (arith, length-append (offsets 0 es) (low_byte_first 2 (length es)), length-offsets 0 es, length-low 2 (length es))

-- THE DISTANCE BACK is the trailer's length
pub length-trailer : (es : List Entry) → length (trailer es) ≡ length (counted es) + 4
unfolding trailer
length-trailer es = omega (arith, length-append (counted es) (low_byte_first 4 (length (counted es) + 4)), length-low 4 (length (counted es) + 4))

-- the end of a trailer: the count, and the distance back
abbrev pub ending : ℕ → List ℕ
ending count = low_byte_first 2 count ++ low_byte_first 4 (4 * count + 6)

pub trailer-pieces : (es : List Entry) → trailer es ≡ offsets 0 es ++ ending (length es)
unfolding trailer
trailer-pieces es =
    let n : length (counted es) + 4 ≡ 4 * length es + 6 = omega (arith, length-counted es) in
    ap (λ (m : ℕ). counted es ++ low_byte_first 4 m) n ∙ append_assoc (offsets 0 es) (low_byte_first 2 (length es)) (low_byte_first 4 (4 * length es + 6))

pub length-ending : (count : ℕ) → length (ending count) ≡ 6
length-ending count = omega (arith, length-append (low_byte_first 2 count) (low_byte_first 4 (4 * count + 6)), length-low 2 count, length-low 4 (4 * count + 6))

-- ---- the book

pub book-pieces : (es : List Entry) → book es ≡ entries es ++ (offsets 0 es ++ ending (length es))
unfolding book
book-pieces es = ap (λ (t : List ℕ). entries es ++ t) (trailer-pieces es)

pub length-book : (es : List Entry) → length (book es) ≡ length (entries es) + (4 * length es + 6)
unfolding book
length-book es = omega (arith, length-append (entries es) (trailer es), length-trailer es, length-counted es)
