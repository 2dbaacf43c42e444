-- Two lists of entries with the same book are the same.
-- Assumes nothing.
use mathlib.Core.List.{List, [], ◌∷◌, ◌++◌, append_assoc}
use mathlib.Core.Path.{◌≡◌, refl, sym, ap, ap₂, ◌∙◌, subst}
use Prim.Native.Nat.{ℕ, ◌<◌}
use native.Mathlib.Omega.{arith}
use lib.Dec.{T}
use lib.ListN.{length, length-append}
use Rattle.digits.specs.Paper.LowFirst.{low_byte_first}
use Rattle.digits.proofs.Laws.LowFirst.{length-low, low-inj}
use Rattle.layouts.proofs.Laws.Heads.{cut-same}
use Rattle.layouts.proofs.Laws.ByteRuns.{one-of-bytes}
use Rattle.layouts.specs.Paper.Chars.{all, one_of}
use Rattle.layouts.specs.Work.Heads.{is_byte}
use Rattle.frames.specs.Paper.Kinds.{Frame, known_kinds, known}
use Rattle.frames.proofs.Laws.Kinds.{frame-known}
use Rattle.book.specs.Paper.Book.{Entry, head, entry_bytes, entries, offsets, book, Framed, also, Book, EntryAt}
use Rattle.book.proofs.Laws.Layout.{length-entry, ending, length-ending, book-pieces, length-book}

-- ---- one entry

-- a kind is one byte
pub kind-byte : {k : ℕ} {f : List ℕ} → Frame k f → k < 256
unfolding known one_of all is_byte
kind-byte {k} r = one-of-bytes known_kinds k tt (subst T (sym (frame-known r)) tt)

regroup : (a b c d : List ℕ) → ((a ++ b) ++ c) ++ d ≡ a ++ (b ++ (c ++ d))
regroup a b c d = simp append_assoc

pub entry-pieces : (e : Entry) (x : List ℕ) → entry_bytes e ++ x ≡ low_byte_first 1 e.kind ++ (low_byte_first 2 (length e.frame) ++ (e.frame ++ x))
unfolding entry_bytes head
entry-pieces e x = regroup (low_byte_first 1 e.kind) (low_byte_first 2 (length e.frame)) e.frame x

-- what begins with an entry begins with no other
pub entry-cut : (e f : Entry) (x y : List ℕ) → e.kind < 256 → f.kind < 256 → length e.frame < 65536 → length f.frame < 65536 → entry_bytes e ++ x ≡ entry_bytes f ++ y
    → (e ≡ f) × (x ≡ y)
entry-cut e f x y k j l m same =
    let n = length e.frame in
    let o = length f.frame in
    let whole = sym (entry-pieces e x) ∙ same ∙ entry-pieces f y in
    let p = cut-same (low_byte_first 1 e.kind) (low_byte_first 1 f.kind) (low_byte_first 2 n ++ (e.frame ++ x)) (low_byte_first 2 o ++ (f.frame ++ y)) (length-low 1 e.kind ∙ sym (length-low 1 f.kind)) whole in
    let q = cut-same (low_byte_first 2 n) (low_byte_first 2 o) (e.frame ++ x) (f.frame ++ y) (length-low 2 n ∙ sym (length-low 2 o)) p.1 in
    let kinds : e.kind ≡ f.kind = low-inj 1 e.kind f.kind k j p.0 in
    let sizes : n ≡ o = low-inj 2 n o l m q.0 in
    let r = cut-same e.frame f.frame x y sizes q.1 in
    (ap₂ (λ (i : ℕ) (g : List ℕ). record { kind = i; frame = g }) kinds r.0, r.1)

-- ---- a book

entries-same : (es ts : List Entry) (x y : List ℕ) → Framed es → Framed ts → length es ≡ length ts → length (entries es) < 65536 → length (entries ts) < 65536 → entries es ++ x ≡ entries ts ++ y
    → es ≡ ts
unfolding entries
entries-same [] [] x y a b n l m same = refl
entries-same [] (f ∷ ts) x y a b n l m same = absurd (omega arith)
entries-same (e ∷ es) [] x y a b n l m same = absurd (omega arith)
entries-same (e ∷ es) (f ∷ ts) x y (also r a) (also q b) n l m same =
    let le = length-append (entry_bytes e) (entries es) in
    let lf = length-append (entry_bytes f) (entries ts) in
    let c = entry-cut e f (entries es ++ x) (entries ts ++ y) (kind-byte r) (kind-byte q) (omega (arith, le, length-entry e)) (omega (arith, lf, length-entry f)) (sym (append_assoc (entry_bytes e) (entries es) x) ∙ same ∙ append_assoc (entry_bytes f) (entries ts) y) in
    ap₂ (λ (u : Entry) (us : List Entry). u ∷ us) c.0 (entries-same es ts x y a b (omega arith) (omega (arith, le)) (omega (arith, lf)) c.1)

-- the count stands in the last six bytes
counts_same : (es ts : List Entry) → length es < 65536 → length ts < 65536 → book es ≡ book ts → length es ≡ length ts
counts_same es ts l m same =
    let n = length es in
    let o = length ts in
    let front = entries es ++ offsets 0 es in
    let other = entries ts ++ offsets 0 ts in
    let pieces : front ++ ending n ≡ other ++ ending o =
    append_assoc (entries es) (offsets 0 es) (ending n) ∙ sym (book-pieces es) ∙ same ∙ book-pieces ts ∙ sym (append_assoc (entries ts) (offsets 0 ts) (ending o)) in
    let sizes : length front ≡ length other = omega (arith, ap length pieces, length-append front (ending n), length-append other (ending o), length-ending n, length-ending o) in
    let c = cut-same front other (ending n) (ending o) sizes pieces in
    let q = cut-same (low_byte_first 2 n) (low_byte_first 2 o) _ _ (length-low 2 n ∙ sym (length-low 2 o)) c.1 in
    low-inj 2 n o l m q.0

pub book-one : {es ts : List Entry} → Framed es → Framed ts → length es < 65536 → length ts < 65536 → length (book es) < 65537 → book es ≡ book ts → es ≡ ts
book-one {es} {ts} a b l m small same =
    entries-same es ts (offsets 0 es ++ ending (length es)) (offsets 0 ts ++ ending (length ts)) a b (counts_same es ts l m same)
    (omega (arith, length-book es)) (omega (arith, length-book ts, ap length same)) (sym (book-pieces es) ∙ same ∙ book-pieces ts)

-- bytes are the book of one list of entries at most
pub one-book : {s : List ℕ} {es ts : List Entry} → Book s es → Book s ts → es ≡ ts
one-book {s} {es} {ts} a b =
    book-one a.within.framed b.within.framed (omega (arith, a.within.few)) (omega (arith, b.within.few)) (omega (arith, a.within.small)) (sym a.is ∙ b.is)

-- ---- the entry of a number

abbrev first_or : Entry → List Entry → Entry
first_or d [] = d
first_or d (u ∷ us) = u

abbrev others : List Entry → List Entry
others [] = []
others (u ∷ us) = us

fronts-same : (a b : List Entry) (e f : Entry) (x y : List Entry) → length a ≡ length b → a ++ e ∷ x ≡ b ++ f ∷ y → (a ≡ b) × (e ≡ f)
fronts-same [] [] e f x y n same = (refl, ap (first_or e) same)
fronts-same [] (g ∷ b) e f x y n same = absurd (omega arith)
fronts-same (g ∷ a) [] e f x y n same = absurd (omega arith)
fronts-same (g ∷ a) (h ∷ b) e f x y n same =
    let c = fronts-same a b e f x y (omega arith) (ap others same) in
    (ap₂ (λ (u : Entry) (us : List Entry). u ∷ us) (ap (first_or g) same) c.0, c.1)

pub one-numbered : {es : List Entry} {number : ℕ} {e f : Entry} {at there : ℕ} → EntryAt es number e at → EntryAt es number f there → (e ≡ f) × (at ≡ there)
one-numbered {e = e} {f = f} a b =
    let c = fronts-same a.before b.before e f a.behind b.behind (sym a.number_is ∙ b.number_is) (sym a.is ∙ b.is) in
    (c.1, a.offset-is ∙ ap (λ (u : List Entry). length (entries u)) c.0 ∙ sym b.offset-is)
