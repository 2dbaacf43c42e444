-- Opening a book: what ends as a book does and is filled with entries is one, and a book is.
-- Assumes nothing.
use mathlib.Core.Bool.{Bool, true, false, true≢false}
use mathlib.Core.List.{List, [], ◌∷◌, ◌++◌}
use mathlib.Core.Path.{◌≡◌, refl, sym, ap, ap₂, ◌∙◌, subst, subst₂}
use Prim.Native.Nat.{ℕ, suc, ◌+◌, ◌-◌, ◌*◌, ◌≤◌, ◌<◌}
use native.Mathlib.Omega.{arith}
use borrow.Author.Tests.{eqb-true, eqb-false}
use lib.Dec.{eqb}
use lib.ListN.{length, get_or, set, length-append, length-set}
use lib.Seq.{get_or-set_same, get_or-set_other}
use Rattle.digits.specs.Paper.Bytes.{part}
use Rattle.digits.specs.Paper.LowFirst.{low_byte_first}
use Rattle.digits.specs.Paper.Read.{Decides, holds, fails}
use Rattle.std.specs.Prelude.{Ok, Err, Some, None}
use Rattle.digits.specs.declared.refusal.Refusal.{Refusal}
use Rattle.digits.proofs.Laws.LowFirst.{length-low}
use Rattle.digits.proofs.Laws.Parts.{length_part, part_join, part-all}
use Rattle.digits.proofs.Laws.Refusals.{answered, cause-of, cause-at, some_number}
use Rattle.frames.specs.Paper.Kinds.{Frame}
use Rattle.frames.specs.Paper.OneFrame.{OneFrameCause, no_kind, no-frame, OneFrame, TestsOneFrame}
use Rattle.frames.specs.declared.FramePayload.{FramePayload}
use Rattle.frames.proofs.Laws.Kinds.{frame-known}
use Rattle.book.specs.Paper.Book.{Entry, head, entry_bytes, entries, offsets, book, Framed, none, also, Book}
use Rattle.book.specs.Work.Reading.{NumberAt, Heads, Slots, taken as filled-slot, empty, Fills, Noted, none as noted-none, also as noted-also, FillsNoted, Agree, Turns, FillsNoting, noting, unfilled, Trailed}
use Rattle.book.specs.declared.opening.Places.{Places}
use Rattle.book.specs.declared.opening.Slot.{Slot}
use Rattle.book.proofs.Laws.Layout.{length-entry, length-offsets, ending, book-pieces, length-book}
use Rattle.book.proofs.Laws.One.{kind-byte, entry-cut}
use Rattle.book.proofs.Laws.Reading.{part_cut, one_number, headed}

-- ---- the entry at a place

-- a frame that was refused is none
not-refused : {k : ℕ} {f : List ℕ} {no : ℕ} → Frame k f → OneFrameCause k f no → ⊥
not-refused r (no_kind h) = true≢false (sym (frame-known r) ∙ h)
not-refused r (no-frame h) = h r

module _ (s : List ℕ) (at end : ℕ) (below : at ≤ end) (inside : end ≤ length s) where
  pub slot-short : end - at < 3 → Slots s at end None
  slot-short h = empty (λ e rest r same. absurd (omega (arith, length_part at end s below inside, ap length same, length-append (entry_bytes e) rest, length-entry e)))

  module _ {kind from to : ℕ} (small : length s ≤ 65536) (h : Heads s at kind from to) where
    pub slot-long : end < to → Slots s at end None
    slot-long l = empty (λ e rest r same. let q = headed {e = e} h below inside small (kind-byte r) same in absurd (omega (arith, q.2)))

    pub slot-none : (why : Refusal) → TestsOneFrame kind (part from to s) (Err why) → Slots s at end None
    slot-none why t = empty (λ e rest r same.
        let p = headed {e = e} h below inside small (kind-byte r) same in
        let f : Frame kind (part from to s) = subst (λ (k : ℕ). Frame k (part from to s)) (sym p.0) (subst (Frame e.kind) (sym p.3) r) in
        not-refused f (cause-at (cause-of t) (some_number why)))

    pub slot_is : {v : FramePayload} → to ≤ end → TestsOneFrame kind (part from to s) (Ok v) → Slots s at end (Some (record { to = to; payload = v }))
    unfolding entry_bytes head
    slot_is l t =
        let start : at ≤ from = omega (arith, h.from_is) in
        let forth : from ≤ to = h.forward in
        let n : to - from ≡ length (part from to s) = sym (length_part from to s forth (omega arith)) in
        filled-slot start forth l (answered t refl)
        (sym (part_join at from to s start forth) ∙ ap (λ (t : List ℕ). t ++ part from to s) (h.bytes ∙ ap (λ (x : ℕ). low_byte_first 1 kind ++ low_byte_first 2 x) n))

-- ---- the entries, one after the other

-- the next of the entries that fill the book
record Next (s : List ℕ) (count end i at : ℕ) : Type 0 where
  entry : Entry
  others : List Entry
  frame : Frame entry.kind entry.frame
  framed : Framed others
  left : i + suc (length others) ≡ count
  bytes : part at end s ≡ entry_bytes entry ++ entries others
  places : part (end + 4 * i) (end + 4 * count) s ≡ low_byte_first 4 at ++ offsets (at + length (entry_bytes entry)) others

next-in : {s : List ℕ} {count end i at : ℕ} (rest : List Entry) → i < count → Framed rest → i + length rest ≡ count → part at end s ≡ entries rest
    → part (end + 4 * i) (end + 4 * count) s ≡ offsets at rest → Next s count end i at
unfolding entries offsets
next-in [] m g l b p = absurd (omega arith)
next-in (e ∷ es) m (also r g) l b p = record { entry = e; others = es; frame = r; framed = g; left = l; bytes = b; places = p }

next-fill : (s : List ℕ) (count end i at : ℕ) (places : Places) (e : Entry) (es : List Entry) → Noted places i (e ∷ es) → Frame e.kind e.frame → Framed es → i + suc (length es) ≡ count
    → part at end s ≡ entry_bytes e ++ entries es → part (end + 4 * i) (end + 4 * count) s ≡ low_byte_first 4 at ++ offsets (at + length (entry_bytes e)) es → FillsNoted s count end i at places
unfolding entries offsets
next-fill s count end i at places e es n r g l b p = record { fills = record { remaining = e ∷ es; framed = also r g; left = l; bytes = b; places = p }; noted = n }

module _ {s : List ℕ} {count end : ℕ} {places : Places} {i at : ℕ} (inside : end + 4 * count ≤ length s) (small : length s ≤ 65536) (t : Turns s count end places i at) (more : i < count) where
  next_of : Fills s count end i at → Next s count end i at
  next_of f = next-in f.remaining more f.framed f.left f.bytes f.places

  -- the offset in the trailer, and those behind it
  next-places : (n : Next s count end i at) → (part (end + 4 * i) (end + 4 * i + 4) s ≡ low_byte_first 4 at)
      × (part (end + 4 * i + 4) (end + 4 * count) s ≡ offsets (at + length (entry_bytes n.entry)) n.others)
  next-places n =
      part_cut (end + 4 * i) (end + 4 * i + 4) (end + 4 * count) s (low_byte_first 4 at) (offsets (at + length (entry_bytes n.entry)) n.others)
      (omega arith) (omega arith) inside (omega (arith, length-low 4 at)) n.places

  pub other_offset : (part (end + 4 * i) (end + 4 * i + 4) s ≡ low_byte_first 4 at → ⊥) → Fills s count end 0 0 → ⊥
  other_offset other f = other (next-places (next_of (t.onward f))).0

  pub no-next : Slots s at end None → Fills s count end 0 0 → ⊥
  no-next (empty never) f = let n = next_of (t.onward f) in never n.entry (entries n.others) n.frame n.bytes

  module _ (kind from to start stop : ℕ) (here : part (end + 4 * i) (end + 4 * i + 4) s ≡ low_byte_first 4 at) where
    abbrev this : Entry
    this = record { kind = kind; frame = part from to s }

    module _ (forward : at ≤ from) (forth : from ≤ to) (l : to ≤ end) (o : OneFrame kind (part from to s) (record { from = start; to = stop })) (b : part at to s ≡ entry_bytes this) where
      r : Frame kind (part from to s)
      r = o.frame

      within : to ≤ length s
      within = omega arith

      size : to ≡ at + length (entry_bytes this)
      size = omega (arith, length_part at to s (omega arith) within, ap length b, forward, forth)

      over : end + 4 * i + 4 ≡ end + 4 * (i + 1)
      over = omega arith

      next-turn : Fills s count end i at → Fills s count end (i + 1) to
      next-turn f =
          let n = next_of f in
          let e = n.entry in
          let es = n.others in
          let cut = entry-cut this e (part to end s) (entries es) (kind-byte r) (kind-byte n.frame)
          (omega (arith, length-entry this, size, small, inside, l, forward, forth))
          (omega (arith, length_part at end s t.place_in (omega arith), ap length n.bytes, length-append (entry_bytes e) (entries es), length-entry e, small, inside))
          (ap (λ (x : List ℕ). x ++ part to end s) (sym b) ∙ part_join at to end s (omega (arith, forward, forth)) l ∙ n.bytes) in
          let next : at + length (entry_bytes e) ≡ to = ap (λ (x : Entry). at + length (entry_bytes x)) (sym cut.0) ∙ sym size in
          record {
            remaining = es;
            framed = n.framed;
            left = omega (arith, n.left);
            bytes = cut.1;
            places = ap (λ (x : ℕ). part x (end + 4 * count) s) (sym over) ∙ (next-places n).1 ∙ ap (λ (x : ℕ). offsets x es) next;
          }

      -- what is noted in this turn
      abbrev newly : Places
      newly = record { starts = set places.starts i start; stops = set places.stops i stop }

      module _ (later : Places) (agree : Agree later newly (i + 1)) where
        agree-before : Agree later places i
        agree-before =
            record {
              starts = λ j h. agree.starts j (omega arith) ∙ get_or-set_other places.starts i j start 0 (λ e. absurd (omega arith));
              stops = λ j h. agree.stops j (omega arith) ∙ get_or-set_other places.stops i j stop 0 (λ e. absurd (omega arith));
            }

        this-start : get_or later.starts i 0 ≡ start
        this-start = agree.starts i (omega arith) ∙ get_or-set_same places.starts i start 0 (omega (arith, t.few, t.starts_in))

        this-stop : get_or later.stops i 0 ≡ stop
        this-stop = agree.stops i (omega arith) ∙ get_or-set_same places.stops i stop 0 (omega (arith, t.few, t.stops_in))

        this-noted : OneFrame kind (part from to s) (record { from = get_or later.starts i 0; to = get_or later.stops i 0 })
        this-noted = subst₂ (λ (x y : ℕ). OneFrame kind (part from to s) (record { from = x; to = y })) (sym this-start) (sym this-stop) o

      turn-back : (later : Places) → Agree later newly (i + 1) → FillsNoted s count end (i + 1) to later
          → FillsNoted s count end i at later
      turn-back later agree g =
          let f = g.fills in
          next-fill s count end i at later this f.remaining (noted-also (this-noted later agree) g.noted) r f.framed (omega (arith, f.left))
          (sym (part_join at to end s (omega (arith, forward, forth)) l) ∙ ap₂ (λ (x y : List ℕ). x ++ y) b f.bytes)
          (sym (part_join (end + 4 * i) (end + 4 * i + 4) (end + 4 * count) s (omega arith) (omega arith))
          ∙ ap₂ (λ (x y : List ℕ). x ++ y) here (ap (λ (x : ℕ). part x (end + 4 * count) s) over ∙ f.places ∙ ap (λ (x : ℕ). offsets x f.remaining) size))

      turned : Turns s count end newly (i + 1) to
      turned =
          record {
            place_in = l;
            turn_in = omega arith;
            few = t.few;
            starts_in = omega (arith, t.starts_in, length-set places.starts i start);
            stops_in = omega (arith, t.stops_in, length-set places.stops i stop);
            onward = λ f. next-turn (t.onward f);
            completes = λ later agree f. t.completes later (agree-before later agree) (turn-back later agree f);
          }

  pub turn : {v : Slot} → part (end + 4 * i) (end + 4 * i + 4) s ≡ low_byte_first 4 at → Slots s at end (Some v)
      → Turns s count end (record { starts = set places.starts i v.payload.from; stops = set places.stops i v.payload.to }) (i + 1) v.to
  turn here (filled-slot {kind} {from} {to} {start} {stop} forward forth l o b) = turned kind from to start stop here forward forth l o b

-- ---- all of them

pub no-turns : (s : List ℕ) (count end : ℕ) (places : Places) → count ≤ 1000 → 1000 ≤ length places.starts → 1000 ≤ length places.stops → Turns s count end places 0 0
no-turns s count end places few h k =
    record { place_in = omega arith; turn_in = omega arith; few = few; starts_in = h; stops_in = k; onward = λ f. f; completes = λ later agree f. f }

none_left : (s : List ℕ) (end at : ℕ) (rest : List Entry) → at ≤ end → end ≤ length s → length rest ≡ 0 → part at end s ≡ entries rest → at ≡ end
unfolding entries
none_left s end at [] h k l b = omega (arith, length_part at end s h k, ap length b)
none_left s end at (e ∷ es) h k l b = absurd (omega arith)

all_left : (s : List ℕ) (count end i at : ℕ) (places : Places) → at ≡ end → i ≡ count → FillsNoted s count end i at places
unfolding entries offsets
all_left s count end i at places e k =
    let z : end - at ≡ 0 = omega arith in
    let y : (end + 4 * count) - (end + 4 * i) ≡ 0 = omega arith in
    record { fills = record { remaining = []; framed = none; left = omega arith; bytes = rw z refl; places = rw y refl }; noted = noted-none }

pub turns-end : {s : List ℕ} {count end : ℕ} {places : Places} {i at : ℕ} → end + 4 * count ≤ length s → Turns s count end places i at → count ≤ i
    → FillsNoting s count end places (eqb at end)
turns-end {s} {count} {end} {places = places} {i = i} {at = at} inside t h = go (eqb at end) refl
  where
    go : (b : Bool) → eqb at end ≡ b → FillsNoting s count end places b
    go true e = noting (t.completes places (record { starts = λ j l. refl; stops = λ j l. refl }) (all_left s count end i at places (eqb-true at end e) (omega (arith, t.turn_in))))
    go false e = unfilled (λ f. let g = t.onward f in eqb-false at end e (none_left s end at g.remaining t.place_in (omega arith) (omega (arith, g.left)) g.bytes))

-- what the loop answers
pub noted_in : {s : List ℕ} {count end : ℕ} {places : Places} {b : Bool} → FillsNoting s count end places b → b ≡ true → FillsNoted s count end 0 0 places
noted_in (noting f) e = f
noted_in (unfilled f) e = absurd (true≢false (sym e))

pub not_noted : {s : List ℕ} {count end : ℕ} {places : Places} {b : Bool} → FillsNoting s count end places b → b ≡ false → Fills s count end 0 0 → ⊥
not_noted (noting f) e = absurd (true≢false e)
not_noted (unfilled f) e = f

-- ---- the end of the trailer

-- what ends as the book of some count does says that count
pub the-count : {s : List ℕ} {count n : ℕ} → n < 65536 → NumberAt s (length s - 6) 2 n → Trailed s count
    → (n ≡ count) × (part (length s - 4) (length s) s ≡ low_byte_first 4 (4 * count + 6))
the-count {s} {count} {n} h p t =
    let room = t.room in
    let z : length s - 6 + 2 ≡ length s - 4 = omega arith in
    let cut = part_cut (length s - 6) (length s - 6 + 2) (length s) s (low_byte_first 2 count) (low_byte_first 4 (4 * count + 6)) (omega arith) (omega arith) (omega arith)
    (omega (arith, length-low 2 count)) t.bytes in
    (one_number h (omega (arith, t.few)) p (record { bytes = cut.0 }), ap (λ (x : ℕ). part x (length s) s) (sym z) ∙ cut.1)

pub trailed-is : {s : List ℕ} {count : ℕ} {b : Bool} → length s ≤ 65536 → count ≤ 1000 → 4 * count + 6 ≤ length s → NumberAt s (length s - 6) 2 count
    → Decides (part (length s - 4) (length s - 4 + 4) s ≡ low_byte_first 4 (4 * count + 6)) b → Decides ((n : ℕ) × Trailed s n) b
trailed-is {s} {count} small few room p (holds e) =
    let z : length s - 6 + 2 ≡ length s - 4 = omega arith in
    let y : length s - 4 + 4 ≡ length s = omega arith in
    holds (
      count,
      record {
        few = few;
        small = small;
        room = room;
        bytes =
            sym (part_join (length s - 6) (length s - 6 + 2) (length s) s (omega arith) (omega arith))
            ∙ ap₂ (λ (x y : List ℕ). x ++ y) p.bytes (ap (λ (x : ℕ). part x (length s) s) z ∙ sym (ap (λ (x : ℕ). part (length s - 4) x s) y) ∙ e);
      },
    )
trailed-is {s} {count} small few room p (fails other) =
    let y : length s - 4 + 4 ≡ length s = omega arith in
    fails (λ t. let q = the-count (omega arith) p t.1 in other (ap (λ (x : ℕ). part (length s - 4) x s) y ∙ q.1 ∙ ap (λ (n : ℕ). low_byte_first 4 (4 * n + 6)) (sym q.0)))

-- ---- the whole

-- a book is its entries, their offsets, and the end of the trailer
pub pieces_of : (s : List ℕ) (es : List Entry) (end : ℕ) → s ≡ book es → end + (4 * length es + 6) ≡ length s
    → (part 0 end s ≡ entries es) × (part end (end + 4 * length es) s ≡ offsets 0 es) × (part (end + 4 * length es) (length s) s ≡ ending (length es))
pieces_of s es end is n =
    let sizes : length s ≡ length (entries es) + (4 * length es + 6) = ap length is ∙ length-book es in
    let p = part_cut 0 end (length s) s (entries es) (offsets 0 es ++ ending (length es)) (omega arith) (omega arith) (omega arith) (omega arith) (part-all s ∙ is ∙ book-pieces es) in
    let q = part_cut end (end + 4 * length es) (length s) s (offsets 0 es) (ending (length es)) (omega arith) (omega arith) (omega arith) (omega (arith, length-offsets 0 es)) p.1 in
    (p.0, q.0, q.1)

pub pieces-book : (s : List ℕ) (es : List Entry) (end : ℕ) → end + (4 * length es + 6) ≡ length s
    → part 0 end s ≡ entries es → part end (end + 4 * length es) s ≡ offsets 0 es → part (end + 4 * length es) (length s) s ≡ ending (length es) → s ≡ book es
pieces-book s es end n a b d =
    sym (part-all s) ∙ sym (part_join 0 end (length s) s (omega arith) (omega arith))
    ∙ ap₂ (λ (x y : List ℕ). x ++ y) a (sym (part_join end (end + 4 * length es) (length s) s (omega arith) (omega arith)) ∙ ap₂ (λ (x y : List ℕ). x ++ y) b d)
    ∙ sym (book-pieces es)

-- where the trailer of so many entries begins
abbrev pub trailer_at : List ℕ → ℕ → ℕ
trailer_at s count = length s - (4 * count + 6)

pub trailer-place : {s : List ℕ} {es : List Entry} → Book s es → trailer_at s (length es) + (4 * length es + 6) ≡ length s
trailer-place {s} {es} b = let n : length s ≡ length (book es) = ap length b.is in omega (arith, length-book es)

pub book-trailed : {s : List ℕ} {es : List Entry} → Book s es → Trailed s (length es)
book-trailed {s} {es} b =
    let place = trailer-place b in
    let z : trailer_at s (length es) + 4 * length es ≡ length s - 6 = omega arith in
    record {
      few = b.within.few;
      small = subst (λ (x : List ℕ). length x ≤ 65536) (sym b.is) b.within.small;
      room = omega arith;
      bytes = ap (λ (x : ℕ). part x (length s) s) (sym z) ∙ (pieces_of s es (trailer_at s (length es)) b.is place).2;
    }

pub book-filled : {s : List ℕ} {es : List Entry} → Book s es → Fills s (length es) (trailer_at s (length es)) 0 0
book-filled {s} {es} b =
    let end = trailer_at s (length es) in
    let p = pieces_of s es end b.is (trailer-place b) in
    let z : end + 4 * 0 ≡ end = omega arith in
    record { remaining = es; framed = b.within.framed; left = omega arith; bytes = p.0; places = ap (λ (x : ℕ). part x (end + 4 * length es) s) z ∙ p.1 }

pub filled-book : {s : List ℕ} {count : ℕ} → Trailed s count → (f : Fills s count (trailer_at s count) 0 0) → Book s f.remaining
filled-book {s} {count} t f =
    let es = f.remaining in
    let n : length es ≡ count = omega (arith, f.left) in
    let end = trailer_at s count in
    let place : end + (4 * length es + 6) ≡ length s = omega (arith, t.room) in
    let z : end + 4 * 0 ≡ end = omega arith in
    let y : end + 4 * length es ≡ length s - 6 = omega (arith, t.room) in
    let is : s ≡ book es =
    pieces-book s es end place f.bytes (ap₂ (λ (u v : ℕ). part u (end + 4 * v) s) (sym z) n ∙ f.places)
    (ap (λ (x : ℕ). part x (length s) s) y ∙ t.bytes ∙ ap ending (sym n)) in
    record {
      within = record { framed = f.framed; few = omega (arith, t.few); small = subst (λ (x : List ℕ). length x ≤ 65536) is t.small };
      is = is;
    }
