-- What adding an entry answers.
-- Assumes nothing.
use mathlib.Core.Bool.{Bool, false, ◌||◌, true≢false}
use mathlib.Core.List.{List, [], ◌∷◌, ◌++◌}
use mathlib.Core.Path.{◌≡◌, refl, sym, ap, ap₂, ◌∙◌, subst}
use Prim.Native.Nat.{ℕ, ◌+◌, ◌-◌, ◌*◌, ◌≤◌, ◌<◌}
use native.Mathlib.Decide.{dec_le}
use native.Mathlib.Omega.{arith}
use lib.Dec.{eqb, lit<}
use lib.ListN.{length, length-append}
use Rattle.digits.specs.Paper.Bytes.{part}
use Rattle.digits.specs.Paper.LowFirst.{low_byte_first}
use Rattle.digits.specs.Paper.Refusals.{refusal_number, refusal_order, First, clear, here, after}
use Rattle.std.specs.Prelude.{Err, Ok}
use Rattle.digits.specs.declared.refusal.Refusal.{Refusal}
use Rattle.digits.specs.declared.refusal.Refusal.TheVariants.{NoRoom, OutOfLimits}
use Rattle.digits.proofs.Laws.Refusals.{some_number, one-first, cause-at, cause-of, answered, pass-over}
use Rattle.frames.specs.Paper.Kinds.{Frame}
use Rattle.frames.specs.Paper.OneFrame.{OneFrameCause, TestsOneFrame}
use Rattle.frames.specs.Paper.OneFrame as whole
use Rattle.frames.specs.declared.FramePayload.{FramePayload}
use Rattle.frames.proofs.Laws.Kinds.{frame-known}
use Rattle.puts.specs.Paper.Put.{Put}
use Rattle.puts.specs.Paper.Right.{refused}
use Rattle.puts.proofs.Laws.Puts.{puts-as}
use Rattle.puts.proofs.Laws.Right.{as-right, refused-5}
use Rattle.puts.proofs.Laws.Wrote.{wrote_by}
use Rattle.book.specs.Paper.Answers.{Counts, Opens, Adds, AddCause, no_kind, no-frame, too_many, too_long, short, WritesAdded}
use Rattle.book.specs.Paper.Answers as answers
use Rattle.book.specs.Paper.Book.{Entry, entry_bytes, entries, offsets, book, none, also, Within, Book}
use Rattle.book.specs.Work.Writing.{HasPlace, PutsAdded}
use Rattle.book.proofs.Laws.Entries.{unopened}
use Rattle.book.proofs.Laws.Layout.{framed-append, ending}
use Rattle.book.proofs.Laws.One.{one-book}
use Rattle.book.proofs.Laws.Opening.{pieces_of}
use Rattle.book.proofs.Laws.Pieces.{book-added, length-added, adds-size, book-size}

-- ---- what is put

pub puts-added : {s : List ℕ} {count : ℕ} → Counts s count → (e : Entry) {room later : List ℕ} {next : ℕ} (end : ℕ) (offset : List ℕ) → end ≡ length s - (4 * count + 6) → offset ≡ low_byte_first 4 end
    → Put room later 0 next (part 0 end s ++ (entry_bytes e ++ (part end (end + 4 * count) s ++ (offset ++ ending (count + 1))))) → PutsAdded s e room later next
puts-added {s} {count} k e end offset n o p =
    let es = k.all in
    let b = k.valid in
    let c = k.is in
    let m : end ≡ length (entries es) = omega (arith, book-size b) in
    let to : end + 4 * count ≡ end + 4 * length es = omega arith in
    let old = pieces_of s es end b.is (omega (arith, book-size b)) in
    let last : offset ++ ending (count + 1) ≡ low_byte_first 4 (length (entries es)) ++ ending (length es + 1) =
    ap₂ (λ (x : List ℕ) (i : ℕ). x ++ ending (i + 1)) (o ∙ ap (low_byte_first 4) m) c in
    let behind : part end (end + 4 * count) s ++ (offset ++ ending (count + 1)) ≡ offsets 0 es ++ (low_byte_first 4 (length (entries es)) ++ ending (length es + 1)) =
    ap₂ (λ (x y : List ℕ). x ++ y) (ap (λ (i : ℕ). part end i s) to ∙ old.1) last in
    let all = ap₂ (λ (x y : List ℕ). x ++ (entry_bytes e ++ y)) old.0 behind in
    record { all = es; valid = b; put = puts-as (all ∙ sym (book-added es e)) p }

-- where there is place for it, the book with the entry more is valid
module _ {s : List ℕ} {e : Entry} {count : ℕ} (k : Counts s count) (r : Frame e.kind e.frame) (p : HasPlace count (length s) (length e.frame)) where
  still-within : {es : List Entry} → Book s es → Within (es ++ e ∷ [])
  still-within {es} b =
      let n : length es ≡ length k.all = ap length (one-book b k.valid) in
      record {
        framed = framed-append b.within.framed (also r none);
        few = omega (arith, p.few, k.is, length-append es (e ∷ []));
        small = omega (arith, p.small, ap length b.is, length-added es e);
      }

  added : {es : List Entry} → Book s es → Adds s e (book (es ++ e ∷ []))
  added {es} b = record { all = es; valid = b; new = record { within = still-within b; is = refl } }

-- ---- the causes

abbrev ours : ℕ → Bool
ours k = eqb k 8 || (eqb k 2 || (eqb k 5 || eqb k 4))

module _ {s : List ℕ} {e : Entry} {room : ℕ} where
  only : (i : ℕ) → ours i ≡ false → AddCause s e room i → ⊥
  only i q (answers.no-book f) = true≢false q
  only i q (no_kind h) = true≢false q
  only i q (no-frame f) = true≢false q
  only i q (too_many b h) = true≢false q
  only i q (too_long b h) = true≢false q
  only i q (short a h) = true≢false q

  kind-known : Frame e.kind e.frame → AddCause s e room 2 → ⊥
  kind-known r (no_kind h) = true≢false (sym (frame-known r) ∙ h)

  module _ {count : ℕ} (k : Counts s count) where
    valid-book : AddCause s e room 8 → ⊥
    valid-book (answers.no-book f) = f k.all k.valid

    -- what testing the frame is refused for
    not-framed : {no : ℕ} → First (OneFrameCause e.kind e.frame) refusal_order no → OneFrameCause e.kind e.frame no → First (AddCause s e room) refusal_order no
    not-framed c (whole.no_kind h) = pass-over ours only refusal_order (after valid-book (here (no_kind h)))
    not-framed c (whole.no-frame f) = pass-over ours only refusal_order (after valid-book (after kind (here (no-frame f))))
      where
        no-8 : {no : ℕ} → OneFrameCause e.kind e.frame no → no ≡ 8 → ⊥
        no-8 (whole.no_kind h) q = omega arith
        no-8 (whole.no-frame h) q = omega arith

        kind : AddCause s e room 2 → ⊥
        kind (no_kind g) = let q = one-first c (after (λ u. no-8 u refl) (here (whole.no_kind g))) in omega arith

    module _ (r : Frame e.kind e.frame) where
      no_place : (HasPlace count (length s) (length e.frame) → ⊥) → First (AddCause s e room) refusal_order 5
      no_place f = pass-over ours only refusal_order (after valid-book (after (kind-known r) (here (go (dec_le (count + 1) 1000)))))
        where
          go : Dec (count + 1 ≤ 1000) → AddCause s e room 5
          go (no h) = too_many k.valid (omega (arith, k.is, length-append k.all (e ∷ [])))
          go (yes h) = too_long k.valid (small (dec_le (length s + (length e.frame + 7)) 65536))
            where
              small : Dec (length s + (length e.frame + 7) ≤ 65536) → 65536 < length (book (k.all ++ e ∷ []))
              small (yes g) = absurd (f (record { few = omega arith; small = g }))
              small (no g) = omega (arith, ap length k.valid.is, length-added k.all e)

      module _ (p : HasPlace count (length s) (length e.frame)) where
        has-place : AddCause s e room 5 → ⊥
        has-place (no-frame f) = f r
        has-place (too_many {es = es} b h) = let n = ap length (one-book b k.valid) in omega (arith, p.few, k.is, length-append es (e ∷ []))
        has-place (too_long {es = es} b h) = omega (arith, p.small, ap length b.is, length-added es e)

        no_room : room < length s + (length e.frame + 7) → First (AddCause s e room) refusal_order 4
        no_room h = pass-over ours only refusal_order (after valid-book (after (kind-known r) (after has-place (here (short new (omega (arith, adds-size new)))))))
          where
            new : Adds s e (book (k.all ++ e ∷ []))
            new = added k r p k.valid

        enough : length s + (length e.frame + 7) ≤ room → First (AddCause s e room) refusal_order 0
        enough h = pass-over ours only refusal_order (after valid-book (after (kind-known r) (after has-place (after fits clear))))
          where
            fits : AddCause s e room 4 → ⊥
            fits (short a g) = omega (arith, adds-size a)

-- ---- the answers

-- what the test of the frame says
pub whole-frame : {k : ℕ} {f : List ℕ} {v : FramePayload} → TestsOneFrame k f (Ok v) → Frame k f
whole-frame a = (answered a refl).frame

module _ {s : List ℕ} {count : ℕ} (k : Counts s count) (e : Entry) {room : List ℕ} where
  pub refused-frame : (why : Refusal) → TestsOneFrame e.kind e.frame (Err why) → WritesAdded s e room (Err why) room
  refused-frame why a =
      let c : First (OneFrameCause e.kind e.frame) refusal_order (refusal_number why) = cause-of a in
      refused (some_number why) (not-framed k c (cause-at c (some_number why)))

  module _ (r : Frame e.kind e.frame) where
    pub refused-place : (HasPlace count (length s) (length e.frame) → ⊥) → WritesAdded s e room (Err OutOfLimits) room
    refused-place f = refused-5 (no_place k r f)

    pub refused-room : HasPlace count (length s) (length e.frame) → length room < length s + (length e.frame + 7) → WritesAdded s e room (Err NoRoom) room
    refused-room p h = refused (lit< tt) (no_room k r p h)

    pub all-added : {later : List ℕ} {n : ℕ} → HasPlace count (length s) (length e.frame) → length s + (length e.frame + 7) ≤ length room → PutsAdded s e room later n
        → WritesAdded s e room (Ok n) later
    all-added p h w = let new = added k r p w.valid in as-right new (wrote_by (enough k r p h) w.put (omega (arith, adds-size new)))

-- anything else than a valid book
pub unopened-add : {s : List ℕ} (why : Refusal) (e : Entry) (room : List ℕ) → Opens s (Err why) → WritesAdded s e room (Err why) room
unopened-add {s} why e room a =
    let u = unopened why a in
    refused (some_number why) (subst (First (AddCause s e (length room)) refusal_order) u.1 (here (answers.no-book u.0)))
