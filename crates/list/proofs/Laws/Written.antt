-- What is put is a listing, and the answer says so.
-- Assumes nothing.
use mathlib.Core.Bool.{true, false}
use mathlib.Core.List.{List, ◌++◌, append_assoc}
use mathlib.Core.Option.{Option, some}
use mathlib.Core.Path.{◌≡◌, refl, sym, ap, ◌∙◌, subst}
use Prim.Native.Nat.{ℕ, ◌-◌, ◌/◌, ◌≤◌, ◌<◌}
use native.Mathlib.Omega.{arith}
use lib.Dec.{lit<}
use lib.ListN.{length, get_or}
use Rattle.digits.specs.Paper.Ascii.{ascii}
use Rattle.digits.specs.Paper.Bytes.{part}
use Rattle.digits.specs.Paper.Decimal.{decimal, decimal_in, enough}
use Rattle.digits.specs.declared.refusal.Refusal.TheVariants.{NoRoom}
use Rattle.digits.proofs.Laws.Parts.{part-rest}
use Rattle.json_values.specs.Paper.Json.{number, further, object}
use Rattle.puts.specs.Paper.Wrote.{refused, RoomCause, Writes, Written}
use Rattle.std.specs.Prelude.{Ok, Err}
use Rattle.puts.proofs.Laws.Sizes.{too_small, large-enough}
use Rattle.puts.proofs.Laws.Sizes as sizes
use Rattle.puts.proofs.Laws.Wrote.{wrote_by, too_short, room_for}
use Rattle.sheet.specs.Paper.Map.{sheet_in}
use Rattle.sheet.specs.Paper.Sheet.{Row, Sheet, Lookup}
use Rattle.sheet.proofs.Laws.ByMap.{ByMap}
use Rattle.lines.proofs.Laws.ByText.{some-sheet}
use Rattle.lines.proofs.Laws.Types.{InTypes}
use Rattle.list.specs.Paper.Answers.{WritesListing}
use Rattle.list.specs.Paper.Listing.{last_line, Lists, Input, most_input, refused_with, OfMap, OfText, Listing, bad-start, too_long, bad-sheet, listed}
use Rattle.list.specs.Work.Remaining.{Listable, Fits, Roomy, PutsLists, WritesLists}
use Rattle.list.proofs.Laws.Inputs.{digit, behind-start, kind-known}
use Rattle.list.proofs.Laws.One.{lists-one}
use Rattle.list.proofs.Laws.Sizes.{lists-most}
use Rattle.list.proofs.Laws.Some.{some-lists}

-- ---- the pieces of the last line

regroup : (a p b q e : List ℕ) → (a ++ (p ++ (b ++ q))) ++ e ≡ a ++ (p ++ (b ++ (q ++ e)))
regroup a p b q e = simp append_assoc

pub last_line_lem : (n m : ℕ) → ascii "{\"frames\":" ++ (number n ++ (ascii ",\"skipped\":" ++ (number m ++ ascii "}\n"))) ≡ last_line n m
unfolding object further
last_line_lem n m = sym (ap (λ (x : List ℕ). ascii "{\"frames\":" ++ x) (regroup (number n) (ascii ",\"skipped\":") (number m) (ascii "}") (ascii "\n")))

-- ---- the listing of a capture

module _ {sheet : Option Lookup} {k : ℕ} {s : List ℕ} where
  -- a room of a size that no listing of so long a capture exceeds
  pub always-fits : InTypes sheet → Listable k s → (n : ℕ) → 50 ≤ n → length s ≤ (n - 50) / 32 → Fits sheet k s n true
  always-fits types l n h m = let t = some-lists sheet k s l.is-kind in sizes.always-fits t.0 t.1 (omega (arith, lists-most types l.short t.1))

  pub roomy : {n : ℕ} → Fits sheet k s n true → Roomy sheet k s n
  roomy f = record { each = λ t l. large-enough (λ a b. lists-one) f l }

  pub refused-4 : {room : List ℕ} → Fits sheet k s (length room) false → WritesLists sheet k s room (Err NoRoom) room
  refused-4 f = record { text = f.text; lists = f.right; written = refused (lit< tt) (too_short (too_small f)) }

  pub all-written : {room later : List ℕ} {n : ℕ} → Fits sheet k s (length room) true → PutsLists sheet k s room later n → WritesLists sheet k s room (Ok n) later
  all-written f p =
      let l = (roomy f).each p.text p.lists in
      record { text = p.text; lists = p.lists; written = wrote_by (room_for l) p.put l }

-- ---- the listing of an input

module _ {Given : Option Lookup → Type 0} {s room later : List ℕ} (r : Written) where
  pub wrote-2 : (Input s → ⊥) → Writes (RoomCause (length room) 14) (ascii "{\"refused\":2}\n") room r later → WritesListing Given s room r later
  unfolding object further decimal decimal_in enough
  wrote-2 f w = record { listing = refused_with 2; lists = bad-start f; written = w }

  pub wrote-5 : Input s → most_input < length s → Writes (RoomCause (length room) 14) (ascii "{\"refused\":5}\n") room r later → WritesListing Given s room r later
  unfolding object further decimal decimal_in enough
  wrote-5 i h w = record { listing = refused_with 5; lists = too_long i h; written = w }

  pub wrote-10 : Input s → length s ≤ most_input → ((sheet : Option Lookup) → Given sheet → ⊥)
      → Writes (RoomCause (length room) 15) (ascii "{\"refused\":10}\n") room r later → WritesListing Given s room r later
  unfolding object further decimal decimal_in enough
  wrote-10 i h f w = record { listing = refused_with 10; lists = bad-sheet i h f; written = w }

module _ {s : List ℕ} (i : Input s) (h : length s ≤ most_input) where
  -- the capture, as the code takes it out of the input
  taken_out : part 2 (length s) s ≡ i.capture
  taken_out = part-rest 2 s ∙ behind-start i

  pub listable : Listable (get_or s 0 0 - 48) (part 2 (length s) s)
  listable = record { is-kind = kind-known i; short = omega (arith, ap length taken_out, ap length i.is) }

  pub wrote-capture : {Given : Option Lookup → Type 0} {sheet : Option Lookup} → Given sheet → {room later : List ℕ} {r : Written}
      → WritesLists sheet (get_or s 0 0 - 48) (part 2 (length s) s) room r later → WritesListing Given s room r later
  wrote-capture {sheet = sheet} g w =
      let k : get_or s 0 0 - 48 ≡ i.kind = omega (arith, digit i) in
      let x : Lists sheet i.kind (part 2 (length s) s) w.text = subst (λ (n : ℕ). Lists sheet n (part 2 (length s) s) w.text) k w.lists in
      record { listing = w.text; lists = listed g i h (subst (λ (c : List ℕ). Lists sheet i.kind c w.text) taken_out x); written = w.written }

-- ---- by a text, as by its map

pub by-text : {text map s room later : List ℕ} (r : Written) → ByMap text map → 0 < length map → WritesListing (OfMap map) s room r later
    → WritesListing (OfText text) s room r later
by-text {text} {map} {s} r m h w = record { listing = w.listing; lists = go w.lists; written = w.written }
  where
    given : (sheet : Option Lookup) → OfMap map sheet → OfText text sheet
    given sheet e = record { rows = m.rows; is = m.is; says = e ∙ some-sheet map h ∙ ap some m.look }

    go : {t : List ℕ} → Listing (OfMap map) s t → Listing (OfText text) s t
    go (bad-start f) = bad-start f
    go (too_long i k) = too_long i k
    go (bad-sheet i k f) = absurd (f (sheet_in map) refl)
    go (listed {sheet = sheet} g i k l) = listed (given sheet g) i k l

pub no_text : {text : List ℕ} → ((rows : List Row) → Sheet text rows → ⊥) → (sheet : Option Lookup) → OfText text sheet → ⊥
no_text f sheet g = f g.rows g.is
