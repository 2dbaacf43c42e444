-- What listing a book answers.
-- Assumes nothing.
use mathlib.Core.Bool.{Bool, true, false, ◌||◌, true≢false}
use mathlib.Core.List.{List, [], ◌∷◌}
use mathlib.Core.Option.{Option}
use mathlib.Core.Path.{◌≡◌, subst}
use Prim.Native.Nat.{ℕ, ◌+◌, ◌*◌, ◌≤◌}
use native.Mathlib.Omega.{arith}
use lib.Dec.{eqb, lit<}
use lib.ListN.{length}
use Rattle.digits.specs.Paper.Refusals.{refusal_order, First, clear, here, after}
use Rattle.std.specs.Prelude.{Err, Ok}
use Rattle.digits.specs.declared.refusal.Refusal.{Refusal}
use Rattle.digits.specs.declared.refusal.Refusal.TheVariants.{NoRoom}
use Rattle.digits.proofs.Laws.Refusals.{some_number, pass-over}
use Rattle.lines.proofs.Laws.Types.{in-types}
use Rattle.puts.specs.Paper.Right.{wrote, refused}
use Rattle.puts.proofs.Laws.Puts.{front-count, front-room}
use Rattle.puts.proofs.Laws.Sizes.{too_small, large-enough}
use Rattle.puts.proofs.Laws.Sizes as sizes
use Rattle.sheet.specs.Paper.Map.{sheet_in}
use Rattle.sheet.specs.Paper.Sheet.{Lookup}
use Rattle.book.specs.Paper.Answers.{Counts, BookLines, ListCause, WritesBookLines}
use Rattle.book.specs.Paper.Answers as answers
use Rattle.book.specs.Work.Reading.{OpensNoting}
use Rattle.book.specs.declared.opening.Places.{Places}
use Rattle.book.specs.Work.Writing.{Lists, Most, SizedLines, Fits}
use Rattle.book.proofs.Laws.BookLines.{book-lines, one-book-lines, book-lines-most, sheet-lines-most}
use Rattle.book.proofs.Laws.Entries.{counts-trailed, unopened, opens-so}

-- ---- how long the lines are

-- a room that they fit has room for them
pub roomy : {sheet : Option Lookup} {s : List ℕ} {n : ℕ} → Fits sheet s n true → (t : List ℕ) → BookLines sheet s t → length t ≤ n
roomy f t b = large-enough (λ x y. one-book-lines) f b

module _ {s : List ℕ} {count : ℕ} (k : Counts s count) where
  pub most-plain : (map : List ℕ) → length map ≡ 0 → Most (sheet_in map) s (8 * length s + 40 * count)
  most-plain [] h = record { most = λ t l. book-lines-most k l }
  most-plain (b ∷ map) h = absurd (omega arith)

  pub most-mapped : (map : List ℕ) → Most (sheet_in map) s (26 * length s)
  most-mapped map = record { most = λ t l. sheet-lines-most k (in-types map) l }

  pub always-fits : {sheet : Option Lookup} {m : ℕ} (n : ℕ) → Most sheet s m → m ≤ n → Fits sheet s n true
  always-fits n b h = let l = book-lines k.valid in sizes.always-fits l.0 l.1 (omega (arith, b.most l.0 l.1))

  -- where they end, put at a room's front, is their length
  pub measured : (map : List ℕ) {room later : List ℕ} {n : ℕ} → Lists (sheet_in map) s room later n → SizedLines (sheet_in map) s n
  measured map l =
      record { text = l.text; right = l.right; size = omega (arith, l.put.behind, sheet-lines-most k (in-types map) l.right, (counts-trailed k).small) }

-- ---- the answers

abbrev ours : ℕ → Bool
ours k = eqb k 8 || eqb k 4

module _ {sheet : Option Lookup} {s : List ℕ} {room : ℕ} where
  only : (i : ℕ) → ours i ≡ false → ListCause sheet s room i → ⊥
  only i q (answers.no-book f) = true≢false q
  only i q (answers.short l h) = true≢false q

  valid-book : {t : List ℕ} → BookLines sheet s t → ListCause sheet s room 8 → ⊥
  valid-book l (answers.no-book f) = f l.all l.valid

pub list-refused-4 : {sheet : Option Lookup} {s room : List ℕ} → Fits sheet s (length room) false → WritesBookLines sheet s room (Err NoRoom) room
list-refused-4 f = refused (lit< tt) (pass-over ours only refusal_order (after (valid-book f.right) (here (answers.short f.right (too_small f)))))

pub list_written : {sheet : Option Lookup} {s room later : List ℕ} {n : ℕ} → Fits sheet s (length room) true → Lists sheet s room later n → WritesBookLines sheet s room (Ok n) later
list_written {sheet} {s} {room} {later} {n} f l =
    let t = l.text in
    let h = roomy f t l.right in
    rw (front-count l.put h, front-room l.put h) (wrote (pass-over ours only refusal_order (after (valid-book l.right) (after not_short clear))) l.right)
  where
    not_short : ListCause sheet s (length room) 4 → ⊥
    not_short (answers.short {t = u} b h) = omega (arith, roomy f u b)

-- anything else than a valid book
pub unopened-list : {sheet : Option Lookup} {s : List ℕ} {places : Places} (why : Refusal) (room : List ℕ) → OpensNoting s places (Err why)
    → WritesBookLines sheet s room (Err why) room
unopened-list {sheet} {s} why room a =
    let u = unopened why (opens-so a) in
    refused (some_number why) (subst (First (ListCause sheet s (length room)) refusal_order) u.1 (here (answers.no-book u.0)))
