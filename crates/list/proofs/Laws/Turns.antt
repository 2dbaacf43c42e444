-- The turns of the two loops: the one that measures a listing, and the one that puts it.
-- Assumes nothing.
use mathlib.Core.Bool.{true}
use mathlib.Core.List.{List, ◌++◌}
use mathlib.Core.Option.{Option}
use mathlib.Core.Path.{◌≡◌, refl, ◌∙◌, subst}
use Prim.Native.Nat.{ℕ, ◌+◌, ◌-◌, min, ◌≤◌, ◌<◌}
use native.Mathlib.Omega.{arith}
use lib.ListN.{length, length-append}
use Rattle.digits.specs.Paper.Refusals.{refuses}
use Rattle.digits.specs.declared.refusal.Refusal.{Refusal}
use Rattle.digits.proofs.Laws.Refusals.{answered, cause-of, some_number}
use Rattle.puts.specs.Paper.Put.{Put, largest_place}
use Rattle.puts.proofs.Laws.Puts.{◌then◌, put-length}
use Rattle.frames.specs.Paper.Kinds.{known}
use Rattle.frames.specs.Paper.Search.{Hit, Leftmost, Searches, frame_part}
use Rattle.frames.proofs.Laws.Places.{positive}
use Rattle.lines.specs.Paper.Answers.{LineOf, PutsNext, NextSize, Measures}
use Rattle.lines.specs.declared.Listed.{Listed}
use Rattle.lines.specs.declared.Measured.{Measured}
use Rattle.std.specs.Prelude.{Ok, Err}
use Rattle.lines.proofs.Laws.Next.{hit-found, refused-by-search, line-next, room-kept}
use Rattle.sheet.specs.Paper.Sheet.{Lookup}
use Rattle.lines.proofs.Laws.Types.{InTypes}
use Rattle.list.specs.Paper.Listing.{last_line}
use Rattle.list.specs.Work.Remaining.{Listable, Remaining, Passed, SizedListing, Roomy, Sums, PutsLists, Completes}
use Rattle.list.proofs.Laws.Remaining.{from_start, found-line, last-left, refused_none}
use Rattle.list.proofs.Laws.Sizes.{lists-most}
use Rattle.list.proofs.Laws.Some.{some-rest}

-- ---- where the next frame stands

abbrev Ahead : List ℕ → (place start len : ℕ) → Type 0
Ahead s place start len = (place ≤ start) × (start + len ≤ length s) × (0 < len)

module _ {k : ℕ} {s : List ℕ} {place : ℕ} where
  ahead : {v : Hit} → Leftmost k s place v → Ahead s place v.start v.len
  ahead l = (l.behind, l.stands.inside, positive l.stands)

  -- its line, and what is left behind it
  line-left : {sheet : Option Lookup} (v : Hit) {count within : ℕ} {u t : List ℕ} → Leftmost k s place v → LineOf sheet k (frame_part s v) v.start u
      → Remaining sheet k s (v.start + v.len) (count + 1) (within + v.len) t → Remaining sheet k s place count within (u ++ t)
  line-left v l o x = found-line (hit-found l) o x

  some_left : (sheet : Option Lookup) → known k ≡ true → (v : Hit) (count within : ℕ) → Leftmost k s place v
      → (t : List ℕ) × Remaining sheet k s (v.start + v.len) (count + 1) (within + v.len) t
  some_left sheet kn v count within l = some-rest sheet k s (v.start + v.len) (count + 1) (within + v.len) kn l.stands.inside

passed_on : {s : List ℕ} {place count within start len : ℕ} → Passed s place count within → Ahead s place start len
    → Passed s (start + len) (count + 1) (within + len)
passed_on p h =
    record { place_in = h.1; few = omega (arith, p.few, h.0, h.2); within-place = omega (arith, p.within-place, h.0) }

none_passed : {s : List ℕ} → Passed s 0 0 0
none_passed = record { place_in = omega arith; few = omega arith; within-place = omega arith }

-- ---- measuring

pub sums-start : {sheet : Option Lookup} {k : ℕ} {s : List ℕ} → Sums sheet k s 0 0 0 0
sums-start = record { passed = none_passed; completes = λ t r. record { text = t; right = from_start r; size = omega arith } }

module _ {sheet : Option Lookup} {k : ℕ} {s : List ℕ} {place : ℕ} where
  module _ {v : Measured} (m : Measures sheet k s place (Ok v)) where
    size-next : NextSize sheet k s place (record { start = v.start; len = v.len; size = v.size })
    size-next = answered m refl

    pub measured-ahead : Ahead s place v.start v.len
    measured-ahead = ahead size-next.found

    module _ {sum count within : ℕ} (c : Sums sheet k s sum place count within) where
      -- a line more
      added : (t : List ℕ) → Remaining sheet k s (v.start + v.len) (count + 1) (within + v.len) t → SizedListing sheet k s (sum + v.size + length t)
      added t x =
          let z = c.completes (size-next.text ++ t) (line-left _ size-next.found size-next.line x) in
          record { text = z.text; right = z.right; size = omega (arith, z.size, length-append size-next.text t, size-next.size_is) }

      pub summed : Sums sheet k s (sum + v.size) (v.start + v.len) (count + 1) (within + v.len)
      summed = record { passed = passed_on c.passed measured-ahead; completes = added }

      -- the sum stays small
      pub sum-most : InTypes sheet → Listable k s → sum + v.size ≤ largest_place
      sum-most types l =
          let x = some_left sheet l.is-kind _ count within size-next.found in
          let z = added x.0 x.1 in
          omega (arith, z.size, lists-most types l.short z.right, l.short)

  -- where none is left the last line completes the listing
  pub sums-end : InTypes sheet → (why : Refusal) {sum count within n : ℕ} → Measures sheet k s place (Err why) → Listable k s → Sums sheet k s sum place count within
      → n ≡ min (sum + length (last_line count (length s - within))) largest_place → SizedListing sheet k s n
  sums-end types why m l c b =
      let f : Searches k s place (Err why) = refuses (some_number why) (cause-of m) in
      let z = c.completes _ (last-left (refused_none why l.is-kind c.passed.place_in f)) in
      record { text = z.text; right = z.right; size = omega (arith, b, z.size, lists-most types l.short z.right, l.short) }

-- ---- putting

pub started : {sheet : Option Lookup} {k : ℕ} {s room : List ℕ} → length room ≤ largest_place → Roomy sheet k s (length room) → Completes sheet k s room room 0 0 0 0
started h e =
    record {
      passed = none_passed;
      slice = h;
      same = refl;
      enough = λ t r. omega (arith, e.each t (from_start r));
      completes = λ later behind t r p. record { text = t; lists = from_start r; put = p };
    }

module _ {sheet : Option Lookup} {k : ℕ} {s : List ℕ} {place : ℕ} {room₀ : List ℕ} {next : ℕ} where
  pub next-ahead : {v : Listed} {later : List ℕ} → PutsNext sheet k s place room₀ next (Ok v) later → Ahead s place v.start v.len
  next-ahead n = ahead (line-next n).found

  module _ {room : List ℕ} {count within : ℕ} (l : Listable k s) (c : Completes sheet k s room room₀ next place count within) where
    -- what is left of the room is enough for the line of what is found, and for whatever is left behind it
    roomy : (v : Hit) (t : List ℕ) → Leftmost k s place v → LineOf sheet k (frame_part s v) v.start t → next + length t ≤ length room₀
    roomy v t m o =
        let x = some_left sheet l.is-kind v count within m in
        omega (arith, c.enough (t ++ x.0) (line-left v m o x.1), length-append t x.0, c.same)

    -- a line more
    pub turned : {v : Listed} {later : List ℕ} → PutsNext sheet k s place room₀ next (Ok v) later
        → Completes sheet k s room later v.behind (v.start + v.len) (count + 1) (within + v.len)
    turned {v} {later} n =
        let a = line-next n in
        let u = a.text in
        let p : Put room₀ later next v.behind u =
        record {
          slice = omega (arith, c.same, c.slice);
          room-is = a.room-is;
          behind = omega (arith, a.behind-is, roomy _ u a.found a.line, c.same, c.slice);
        } in
        record {
          passed = passed_on c.passed (next-ahead n);
          slice = c.slice;
          same = put-length p ∙ c.same;
          enough = λ t x. omega (arith, c.enough (u ++ t) (line-left _ a.found a.line x), length-append u t, a.behind-is);
          completes = λ end to t x q. c.completes end to _ (line-left _ a.found a.line x) (p then q);
        }

    -- where none is left the room is as it was, and the last line completes the listing
    pub ended : (why : Refusal) {later end : List ℕ} {behind : ℕ} → PutsNext sheet k s place room₀ next (Err why) later
        → Put later end next behind (last_line count (length s - within)) → PutsLists sheet k s room end behind
    ended why {later} {end} {behind} a p =
        let f : Searches k s place (Err why) =
        refuses (some_number why) (refused-by-search (λ v t m o. let h = roomy v t m o in omega arith) (cause-of a)) in
        c.completes end behind _ (last-left (refused_none why l.is-kind c.passed.place_in f))
        (subst (λ (x : List ℕ). Put x end next behind (last_line count (length s - within))) (room-kept why a) p)
