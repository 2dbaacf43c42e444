-- The entry of a number: where it stands, what is told of it, and the causes.
-- Assumes nothing.
use mathlib.Core.Bool.{Bool, false, ◌||◌, true≢false}
use mathlib.Core.List.{List, [], ◌∷◌, ◌++◌}
use mathlib.Core.Path.{◌≡◌, refl, sym, ap, ◌∙◌, subst}
use Prim.Native.Nat.{ℕ, suc, ◌+◌, ◌-◌, ◌*◌, ◌≤◌, ◌<◌}
use native.Mathlib.Omega.{arith}
use denote.Ref.{Bor}
use lib.Dec.{eqb}
use lib.ListN.{length, get_or, take, drop, length-append, length-take}
use lib.Seq.{split_at}
use Rattle.digits.specs.Paper.Bytes.{part}
use Rattle.digits.specs.Paper.LowFirst.{low_byte_first}
use Rattle.digits.specs.Paper.Part.{zero_ends, IsPart}
use Rattle.digits.specs.Paper.Refusals.{refusal_number, refusal_order, First, clear, here, after, answers, refuses}
use Rattle.std.specs.Prelude.{Result, Ok, Err}
use Rattle.digits.specs.declared.refusal.Refusal.{Refusal}
use Rattle.digits.specs.declared.refusal.Refusal.TheVariants.{NoPlace, NoBook}
use Rattle.digits.proofs.Laws.Handed.{hands-right, hands_none}
use Rattle.digits.proofs.Laws.LowFirst.{length-low}
use Rattle.digits.proofs.Laws.Refusals.{answered, cause-of, cause-at, pass-over, some_number}
use Rattle.frames.specs.Paper.Kinds.{Frame}
use Rattle.book.specs.Paper.Book.{Entry, head, entry_bytes, entries, offsets, Framed, Book, EntryAt}
use Rattle.book.specs.Paper.Answers.{NoValidBook, OpenCause, Counts, Opens, EntryCause, no-book, no-entry, Location, EntryOf, LocatesEntry, HandsFrame}
use Rattle.book.specs.Paper.Answers as paper
use Rattle.book.specs.Work.Reading.{NumberAt, Heads, Fills, FillsNoted, Noting, OpensNoting, Trailed}
use Rattle.book.specs.declared.opening.Places.{Places}
use Rattle.book.specs.Work.Reading as work
use Rattle.book.specs.declared.Located.{Located}
use Rattle.book.proofs.Laws.Layout.{length-head, length-entry, length-offsets, entries-append, offsets-append, length-book, first-framed, framed-back}
use Rattle.book.proofs.Laws.One.{kind-byte, one-book}
use Rattle.book.proofs.Laws.Opening.{pieces_of, trailer_at, trailer-place, book-trailed, book-filled, filled-book, the-count}
use Rattle.book.proofs.Laws.Reading.{part_cut, one_number, headed}

-- ---- where it stands

module _ {s : List ℕ} {es : List Entry} {number : ℕ} {e : Entry} {at : ℕ} (b : Book s es) (n : EntryAt es number e at) where
  pub numbered-frame : Frame e.kind e.frame
  numbered-frame = first-framed (framed-back n.before (e ∷ n.behind) (subst Framed n.is b.within.framed))

  pub numbered_below : length es ≡ number + suc (length n.behind)
  numbered_below = ap length n.is ∙ length-append n.before (e ∷ n.behind) ∙ ap (λ (x : ℕ). x + suc (length n.behind)) (sym n.number_is)

  -- the entries before it, itself, and the others
  pieces : entries es ≡ entries n.before ++ (entry_bytes e ++ entries n.behind)
  unfolding entries
  pieces = ap entries n.is ∙ entries-append n.before (e ∷ n.behind)

  sizes : at + (length (entry_bytes e) + length (entries n.behind)) ≡ trailer_at s (length es)
  sizes =
      let behind = entries n.behind in
      omega (
        arith,
        n.offset-is,
        ap length pieces,
        length-append (entries n.before) (entry_bytes e ++ behind),
        length-append (entry_bytes e) behind,
        trailer-place b,
        length-book es,
        ap length b.is,
      )

  pub numbered-inside : at + length (entry_bytes e) ≤ length s
  numbered-inside = omega (arith, sizes)

  pub numbered-bytes : part at (trailer_at s (length es)) s ≡ entry_bytes e ++ entries n.behind
  numbered-bytes =
      let end = trailer_at s (length es) in
      (part_cut 0 at end s (entries n.before) (entry_bytes e ++ entries n.behind) (omega arith) (omega (arith, sizes)) (omega arith) (omega (arith, n.offset-is))
      ((pieces_of s es end b.is (trailer-place b)).0 ∙ pieces)).1

  -- its offset in the trailer
  pub numbered-offset : NumberAt s (trailer_at s (length es) + 4 * number) 4 at
  unfolding offsets
  numbered-offset =
      let end = trailer_at s (length es) in
      let there = 0 + length (entries n.before) in
      let others = offsets (there + length (entry_bytes e)) n.behind in
      let all : part end (end + 4 * length es) s ≡ offsets 0 n.before ++ (low_byte_first 4 there ++ others) =
      (pieces_of s es end b.is (trailer-place b)).1 ∙ ap (offsets 0) n.is ∙ offsets-append 0 n.before (e ∷ n.behind) in
      let from = end + 4 * number in
      let p =
      part_cut end from (end + 4 * length es) s (offsets 0 n.before) (low_byte_first 4 there ++ others) (omega arith) (omega (arith, numbered_below)) (omega (arith, trailer-place b))
      (omega (arith, length-offsets 0 n.before, n.number_is)) all in
      let q =
      part_cut from (from + 4) (end + 4 * length es) s (low_byte_first 4 there) others (omega arith) (omega (arith, numbered_below)) (omega (arith, trailer-place b))
      (omega (arith, length-low 4 there)) p.1 in
      let z : there ≡ at = omega (arith, n.offset-is) in
      record { bytes = q.0 ∙ ap (low_byte_first 4) z }

-- what no number below the count is
no_entry : Entry
no_entry = record { kind = 0; frame = [] }

-- a number below the count has an entry
pub has-entry : (es : List Entry) (number : ℕ) → number < length es → (e : Entry) × ((at : ℕ) × EntryAt es number e at)
has-entry es number h = (
  get_or es number no_entry,
  (
    length (entries (take number es)),
    record {
      before = take number es;
      behind = drop (suc number) es;
      is = split_at es number no_entry h;
      number_is = omega (arith, length-take number es);
      offset-is = refl;
    },
  ),
)

-- and it stands where the trailer says
pub entry-placed : {s : List ℕ} {count number at : ℕ} (c : Counts s count) → number < count → at < 4294967296 → NumberAt s (trailer_at s count + 4 * number) 4 at
    → (e : Entry) × EntryAt c.all number e at
entry-placed {s} {count} {number} {at} c h few p =
    let es = c.all in
    let b = c.valid in
    let x = has-entry es number (omega (arith, c.is)) in
    let n = x.1.1 in
    let small = (book-trailed b).small in
    let same : x.1.0 ≡ at =
    one_number (omega (arith, numbered-inside b n)) few (numbered-offset b n) (subst (λ (k : ℕ). NumberAt s (trailer_at s k + 4 * number) 4 at) c.is p) in
    (x.0, subst (EntryAt es number x.0) same n)

-- ---- the causes

abbrev ours : ℕ → Bool
ours k = eqb k 8 || eqb k 3

module _ {s : List ℕ} {number : ℕ} where
  only : (k : ℕ) → ours k ≡ false → EntryCause s number k → ⊥
  only k e (no-book h) = true≢false e
  only k e (no-entry b h) = true≢false e

  is-book : {es : List Entry} → Book s es → EntryCause s number 8 → ⊥
  is-book {es} b (no-book h) = h es b

  pub entry-0 : {es : List Entry} → Book s es → number < length es → First (EntryCause s number) refusal_order 0
  entry-0 {es} b h = pass-over ours only refusal_order (after (is-book b) (after below clear))
    where
      below : EntryCause s number 3 → ⊥
      below (no-entry q l) = let e = ap length (one-book q b) in omega arith

  pub entry-3 : {es : List Entry} → Book s es → length es ≤ number → First (EntryCause s number) refusal_order 3
  entry-3 b h = pass-over ours only refusal_order (after (is-book b) (here (no-entry b h)))

  pub entry-8 : NoValidBook s → First (EntryCause s number) refusal_order 8
  entry-8 h = pass-over ours only refusal_order (here (no-book h))

open-only : {s : List ℕ} (k : ℕ) → eqb k 8 ≡ false → OpenCause s k → ⊥
open-only k e (paper.no-book h) = true≢false e

pub open-0 : {s : List ℕ} {es : List Entry} → Book s es → First (OpenCause s) refusal_order 0
open-0 {s} {es} b = pass-over (λ k. eqb k 8) open-only refusal_order (after there clear)
  where
    there : OpenCause s 8 → ⊥
    there (paper.no-book h) = h es b

pub open-8 : {s : List ℕ} → NoValidBook s → First (OpenCause s) refusal_order 8
open-8 h = pass-over (λ k. eqb k 8) open-only refusal_order (here (paper.no-book h))

-- ---- opening

pub not-trailed : {s : List ℕ} {places : Places} → ((count : ℕ) × Trailed s count → ⊥) → OpensNoting s places (Err NoBook)
not-trailed f = work.refuses (λ es b. f (length es, book-trailed b))

module _ {s : List ℕ} {n : ℕ} (few : n < 65536) (p : NumberAt s (length s - 6) 2 n) where
  pub trailed-count : (count : ℕ) × Trailed s count → Trailed s n
  trailed-count t = subst (Trailed s) (sym (the-count few p t.1).0) t.1

  pub not-filled : {places : Places} → (Fills s n (trailer_at s n) 0 0 → ⊥) → OpensNoting s places (Err NoBook)
  not-filled f = work.refuses (λ es b. f (subst (λ (k : ℕ). Fills s k (trailer_at s k) 0 0) (sym (the-count few p (book-trailed b)).0) (book-filled b)))

pub counts-trailed : {s : List ℕ} {n : ℕ} → Counts s n → Trailed s n
counts-trailed {s} c = subst (Trailed s) (sym c.is) (book-trailed c.valid)

pub opened : {s : List ℕ} {n size : ℕ} {places : Places} → Trailed s n → size ≡ 4 * n + 6 → FillsNoted s n (length s - size) 0 0 places
    → OpensNoting s places (Ok n)
opened {s} {n = n} {places = places} t e noted =
    let f = subst (λ (k : ℕ). FillsNoted s n (length s - k) 0 0 places) e noted in
    let g = f.fills in
    work.opens {n = n} (record { counts = record { all = g.remaining; valid = filled-book t g; is = omega (arith, g.left) }; noted = f.noted })

-- opening answers the count alone
pub opens-so : {s : List ℕ} {places : Places} {r : Result ℕ Refusal} → OpensNoting s places r → Opens s r
opens-so (work.opens {n = n} x) = answers {v = n} (open-0 x.counts.valid) x.counts
opens-so (work.refuses h) = refuses {no = 8} (omega arith) (open-8 h)

pub noting-of : {s : List ℕ} {places : Places} {n : ℕ} → OpensNoting s places (Ok n) → Noting s n places
noting-of (work.opens x) = x

-- ---- what is told of an entry

pub entry-told : {s : List ℕ} {es : List Entry} {number : ℕ} {e : Entry} {at kind from to : ℕ} → Book s es → EntryAt es number e at → Heads s at kind from to
    → LocatesEntry s number (Ok (record { kind = kind; offset = at; from = from; to = to }))
entry-told {s} {es} {e = e} {at} {kind} {from} {to} b n h =
    let inside = numbered-inside b n in
    let end = trailer_at s (length es) in
    let q = headed {e = e} h (omega (arith, sizes b n)) (omega arith) (book-trailed b).small (kind-byte (numbered-frame b n)) (numbered-bytes b n) in
    answers {v = record { kind = kind; offset = at; from = from; to = to }} (entry-0 b (omega (arith, numbered_below b n)))
    (record {
      all = es;
      valid = b;
      entry = e;
      numbered = n;
      kind-is = q.0;
      from_is = omega (arith, h.from_is, length-head e);
      to_is = q.1;
    })

pub no-entry-told : {s : List ℕ} {count number : ℕ} → Counts s count → count ≤ number → LocatesEntry s number (Err NoPlace)
no-entry-told c h = refuses {no = 3} (omega arith) (entry-3 c.valid (omega (arith, c.is)))

pub opened-counts : {s : List ℕ} {n : ℕ} → Opens s (Ok n) → Counts s n
opened-counts a = answered a refl

module _ {s : List ℕ} (why : Refusal) (a : Opens s (Err why)) where
  pub unopened : (x : NoValidBook s) × (8 ≡ refusal_number why)
  unopened = go (cause-at (cause-of a) (some_number why))
    where
      go : {k : ℕ} → OpenCause s k → (x : NoValidBook s) × (8 ≡ k)
      go (paper.no-book h) = (h, refl)

  pub unopened-told : {number : ℕ} → LocatesEntry s number (Err why)
  unopened-told {number} = refuses (some_number why) (subst (First (EntryCause s number) refusal_order) unopened.1 (entry-8 unopened.0))

-- ---- its frame, as a part of the book

-- what was told of an entry are places in the book, and its frame lies between them
pub told-inside : {s : List ℕ} {number : ℕ} {v : Location} → EntryOf s number v → (v.from ≤ v.to) × (v.to ≤ length s)
told-inside o =
    let e = o.entry in
    (omega (arith, o.from_is, o.to_is, length-head e, length-entry e), omega (arith, o.to_is, numbered-inside o.valid o.numbered))

pub told-frame : {s : List ℕ} {number : ℕ} {v : Location} (o : EntryOf s number v) → part v.from v.to s ≡ o.entry.frame
unfolding entry_bytes
told-frame {s} {v = v} o =
    let e = o.entry in
    let b = o.valid in
    let n = o.numbered in
    let end = trailer_at s (length o.all) in
    let bounds : (v.from ≤ v.to) × (v.offset ≤ v.from) = (omega (arith, (told-inside o).0), omega (arith, o.from_is)) in
    let to = part_cut v.offset v.to end s (entry_bytes e) (entries n.behind) (omega (arith, bounds)) (omega (arith, o.to_is, sizes b n)) (omega arith)
    (omega (arith, o.to_is)) (numbered-bytes b n) in
    (part_cut v.offset v.from v.to s (head e) e.frame bounds.1 bounds.0 (omega (arith, (told-inside o).1)) (omega (arith, o.from_is)) to.0).1

pub entry_of : {s : List ℕ} {number : ℕ} {v : Located} → LocatesEntry s number (Ok v) → EntryOf s number v
entry_of a = answered a refl

module _ {s p : Bor (List ℕ)} {number : ℕ} where
  pub hands-frame : {v : Located} → LocatesEntry s.now number (Ok v) → IsPart s (record { from = v.from; to = v.to }) p → HandsFrame s number p
  hands-frame {v} a i = hands-right (cause-of a) (v, entry_of a, refl) i

  pub hands-nothing : (why : Refusal) → LocatesEntry s.now number (Err why) → IsPart s zero_ends p → HandsFrame s number p
  hands-nothing why a = hands_none why (cause-of a)
