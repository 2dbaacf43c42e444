-- The loop over a book's entries: what stands there in a turn, a line more behind it, and the end.
-- Assumes nothing.
use mathlib.Core.List.{List, [], ◌∷◌, ◌++◌, append_assoc, append-nil}
use mathlib.Core.Option.{Option}
use mathlib.Core.Path.{◌≡◌, refl, sym, ap, ◌∙◌, subst, subst₂}
use Prim.Native.Nat.{ℕ, ◌+◌, ◌≤◌, ◌<◌}
use native.Mathlib.Omega.{arith}
use lib.ListN.{length, get_or}
use Rattle.digits.specs.Paper.Bytes.{part}
use Rattle.frames.specs.Paper.Kinds.{Frame}
use Rattle.frames.specs.Paper.OneFrame.{OneFrame}
use Rattle.lines.specs.Paper.Answers.{LineOf}
use Rattle.puts.specs.Paper.Put.{largest_place}
use Rattle.puts.proofs.Laws.Puts.{◌then◌}
use Rattle.puts.proofs.Laws.Puts.{none as nothing}
use Rattle.sheet.specs.Paper.Sheet.{Lookup}
use Rattle.book.specs.Paper.Answers.{EntryLines, none, line, BookLines}
use Rattle.book.specs.Paper.Book.{Entry, entry_bytes, entries, Framed}
use Rattle.book.specs.Work.Reading.{Heads, Noted, also as noted-also, Noting}
use Rattle.book.specs.declared.opening.Places.{Places}
use Rattle.book.specs.Work.Writing.{PutsOne, Lists, Listing}
use Rattle.book.proofs.Laws.Layout.{length-entry, length-entries, first-framed, rest-framed}
use Rattle.book.proofs.Laws.One.{kind-byte}
use Rattle.book.proofs.Laws.Opening.{pieces_of}
use Rattle.book.proofs.Laws.Pieces.{book-size}
use Rattle.book.proofs.Laws.Reading.{headed}

-- ---- the loop begins

pub started : {sheet : Option Lookup} {s : List ℕ} {places : Places} {count : ℕ} (room : List ℕ) → length room ≤ largest_place → Noting s count places → Listing sheet s places room room count 0 0 0
started {s = s} room slice x =
    let k = x.counts in
    let es = k.all in
    record {
      remaining = es;
      noted = x.noted;
      framed = k.valid.within.framed;
      left = omega (arith, k.is);
      place_in = omega (arith, book-size k.valid);
      bytes = (pieces_of s es (0 + length (entries es)) k.valid.is (omega (arith, book-size k.valid))).0;
      done = [];
      put = nothing room 0 slice (omega arith);
      completes = λ t l. record { all = es; valid = k.valid; lines = l };
    }

-- ---- what stands there

-- what is noted of them
first-noted : {places : Places} {i : ℕ} {e : Entry} {es : List Entry} → Noted places i (e ∷ es)
    → OneFrame e.kind e.frame (record { from = get_or places.starts i 0; to = get_or places.stops i 0 })
first-noted (noted-also o n) = o

rest-noted : {places : Places} {i : ℕ} {e : Entry} {es : List Entry} → Noted places i (e ∷ es) → Noted places (i + 1) es
rest-noted (noted-also o n) = n

module _ {sheet : Option Lookup} {s room room₀ : List ℕ} {places : Places} {next count i place : ℕ} (c : Listing sheet s places room room₀ count next i place) where
  abbrev end : ℕ
  end = place + length (entries c.remaining)

  -- an entry is left
  record Left : Type 0 where
    entry : Entry
    later : List Entry
    is : c.remaining ≡ entry ∷ later

  module _ (small : length s ≤ 65536) (h : i < count) where
    an-entry : Left
    an-entry = go c.remaining refl c.left
      where
        go : (es : List Entry) → c.remaining ≡ es → i + length es ≡ count → Left
        go [] e n = absurd (omega arith)
        go (x ∷ es) e n = record { entry = x; later = es; is = e }

    abbrev entry : Entry
    entry = an-entry.entry

    abbrev later : List Entry
    later = an-entry.later

    framed : Framed (entry ∷ later)
    framed = subst Framed an-entry.is c.framed

    is-frame : Frame entry.kind entry.frame
    is-frame = first-framed framed

    sizes : length (entries c.remaining) ≡ length (entry_bytes entry) + length (entries later)
    sizes = ap (λ (es : List Entry). length (entries es)) an-entry.is ∙ length-entries entry later

    pub head_in : place + 3 ≤ length s
    head_in = omega (arith, c.place_in, sizes, length-entry entry)

    stands : part place end s ≡ entry_bytes entry ++ entries later
    unfolding entries
    stands = c.bytes ∙ ap entries an-entry.is

    -- ---- what its head says

    module _ {kind from behind : ℕ} (g : Heads s place kind from behind) where
      says : (kind ≡ entry.kind) × (behind ≡ place + length (entry_bytes entry)) × (behind ≤ end) × (part from behind s ≡ entry.frame) × (part behind end s ≡ entries later)
      says = headed {e = entry} g (omega arith) c.place_in small (kind-byte is-frame) stands

      pub frame-in : (from ≤ behind) × (behind ≤ length s)
      frame-in = (g.forward, omega (arith, says.2, c.place_in))

      noted : Noted places i (entry ∷ later)
      noted = subst (Noted places i) an-entry.is c.noted

      -- it was tested, and its payload's places are noted
      pub tested-so : OneFrame kind (part from behind s) (record { from = get_or places.starts i 0; to = get_or places.stops i 0 })
      tested-so =
          subst₂ (λ (k : ℕ) (f : List ℕ). OneFrame k f (record { from = get_or places.starts i 0; to = get_or places.stops i 0 }))
          (sym says.0) (sym says.3) (first-noted noted)

      -- ---- its line

      own : {t : List ℕ} → LineOf sheet kind (part from behind s) place t → LineOf sheet entry.kind entry.frame place t
      own {t} = subst₂ (λ (k : ℕ) (f : List ℕ). LineOf sheet k f place t) says.0 says.3

      -- it completes the lines with those that are left
      line-more : {t : List ℕ} (u : List ℕ) → LineOf sheet kind (part from behind s) place t → EntryLines sheet behind later u → BookLines sheet s (c.done ++ (t ++ u))
      line-more {t} u l ls =
          c.completes (t ++ u)
          (subst (λ (es : List Entry). EntryLines sheet place es (t ++ u)) (sym an-entry.is) (line (own l) (subst (λ (a : ℕ). EntryLines sheet a later u) says.1 ls)))

      module _ {now : List ℕ} {n : ℕ} (p : PutsOne sheet kind (part from behind s) place room₀ now next n) where
        pub turned : Listing sheet s places room now count n (i + 1) behind
        turned =
            let t = p.text in
            let m : length c.remaining ≡ length (entry ∷ later) = ap (λ (es : List Entry). length es) an-entry.is in
            let w : behind ≡ place + length (entry_bytes entry) = says.1 in
            let z : behind + length (entries later) ≡ end = omega (arith, sizes) in
            record {
              remaining = later;
              noted = rest-noted noted;
              framed = rest-framed framed;
              left = omega (arith, c.left);
              place_in = omega (arith, c.place_in);
              bytes = ap (λ (e : ℕ). part behind e s) z ∙ says.4;
              done = c.done ++ t;
              put = c.put then p.put;
              completes = λ u ls. subst (BookLines sheet s) (sym (append_assoc c.done t u)) (line-more u p.right ls);
            }

  -- no entry is left
  pub ended : count ≤ i → Lists sheet s room room₀ next
  ended h =
      record { text = c.done; right = subst (BookLines sheet s) (append-nil c.done) (c.completes [] (go c.remaining c.left)); put = c.put }
    where
      go : (es : List Entry) → i + length es ≡ count → EntryLines sheet place es []
      go [] e = none
      go (x ∷ es) e = absurd (omega arith)
