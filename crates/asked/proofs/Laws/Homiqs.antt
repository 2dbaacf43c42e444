-- The draft of a Homiq message, from its six fields.
-- Assumes nothing.
use mathlib.Core.List.{List, [], ◌∷◌}
use mathlib.Core.Path.{◌≡◌, refl, sym, ap, ◌∙◌, subst}
use Prim.Native.Nat.{ℕ}
use native.Mathlib.Omega.{arith}
use lib.Dec.{T, leb→le}
use lib.ListN.{get_or}
use Rattle.std.specs.Prelude.{Result, Ok, Err}
use Rattle.checks.proofs.Laws.Feed.{check-lt}
use Rattle.checks.specs.Paper.Buses.{homiq_crc}
use Rattle.digits.specs.Paper.Ascii.{ascii}
use Rattle.layouts.specs.Paper.Chars.{one_of}
use Rattle.layouts.specs.Paper.Homiq as homiqs
use Rattle.layouts.specs.Paper.Made.{Wire, closed, homiq_of}
use Rattle.messages.specs.Paper.Message.{row}
use Rattle.messages.specs.Paper.Says.{of_homiq}
use Rattle.messages.specs.declared.Message.TheVariants.{Homiq as OnHomiq}
use Rattle.messages.specs.declared.homiq.Homiq.{Homiq}
use Rattle.messages.specs.declared.homiq.Homiq.TheVariants.{Output, Input, Shutter, Beat, Other}
use Rattle.asked.specs.Paper.Answers.{beside, wired_payload}
use Rattle.shapes.specs.Paper.Fields.{Field}
use Rattle.asked.specs.Paper.Means.{state_row}
use Rattle.shapes.specs.Paper.Shapes.{shape_at, fields_of, wired_fields}
use Rattle.asked.specs.Work.Draft.{Drafts}
use Rattle.asked.specs.Work.Got.{Slot, ReadsAll}
use Rattle.asked.specs.Work.Homiq as homiq
use Rattle.asked.specs.Work.Homiq.{Wires, wired_slots, row_of_homiq}
use Rattle.asked.specs.declared.Draft.{Draft}
use Rattle.asked.specs.declared.values.Reason.{Reason}
use Rattle.asked.proofs.Laws.Drafts.{Settled, settled, SaysRow, drafted, no-draft, members_of}
use Rattle.asked.proofs.Laws.Drafts as settling
use Rattle.asked.proofs.Laws.Shaped.{said_row}
use Rattle.asked.proofs.Laws.Slots.{AllHeld, slots_at, slotted}
use Rattle.asked.proofs.Laws.Slots as slots

-- ---- the five rows have one shape

members-of : (e : Homiq) → members_of (slots_at (row_of_homiq e)) ≡ (shape_at (row_of_homiq e)).members
unfolding slots_at slotted members_of
members-of Output = refl
members-of Input = refl
members-of Shutter = refl
members-of Beat = refl
members-of Other = refl

slots-of : (e : Homiq) → slots_at (row_of_homiq e) ≡ wired_slots
unfolding slots_at slotted
slots-of Output = refl
slots-of Input = refl
slots-of Shutter = refl
slots-of Beat = refl
slots-of Other = refl

no-state : (e : Homiq) → row_of_homiq e ≡ state_row → ⊥
no-state Output h = omega arith
no-state Input h = omega arith
no-state Shutter h = omega arith
no-state Beat h = omega arith
no-state Other h = omega arith

row_of : (e : Homiq) (w : Wire) → row (of_homiq e w) ≡ row_of_homiq e
row_of Output w = refl
row_of Input w = refl
row_of Shutter w = refl
row_of Beat w = refl
row_of Other w = refl

fields-of : (e : Homiq) (w : Wire) → fields_of (of_homiq e w) ≡ wired_fields w
unfolding fields_of
fields-of Output w = refl
fields-of Input w = refl
fields-of Shutter w = refl
fields-of Beat w = refl
fields-of Other w = refl

beside-of : (e : Homiq) (w : Wire) → beside (of_homiq e w) ≡ wired_payload w
unfolding beside
beside-of Output w = refl
beside-of Input w = refl
beside-of Shutter w = refl
beside-of Beat w = refl
beside-of Other w = refl

-- ---- fields that are held are within their limits

letter-type : {t : ℕ} (s : List ℕ) (l : ℕ) → T (one_of s l) → t ∷ [] ≡ l ∷ [] → T (one_of s t)
letter-type {t} s l h e = let i : l ≡ t = ap (λ (x : List ℕ). get_or x 0 0) (sym e) in subst (λ (x : ℕ). T (one_of s x)) i h

limits_of : (w : Wire) → AllHeld wired_slots (wired_fields w) → homiqs.Limits (homiq_of w)
limits_of w (slots.and a (slots.and b (slots.and c (slots.and d (slots.and i (slots.and t slots.none)))))) =
    record {
      cmd = a;
      val = b;
      src = c;
      dst = d;
      id = leb→le w.id homiqs.last_id i.high.le;
      type = letter-type (ascii "sa") t.letter t.one t.is;
      crc = let h = check-lt homiq_crc (homiqs.joined (closed w 0)) in omega (arith, h);
    }

-- THE DRAFT
all-read : (e : Homiq) {s : List ℕ} {q : Result (List Field) Reason} → ReadsAll s wired_slots q → ReadsAll s (slots_at (row_of_homiq e)) q
all-read e {s} {q} x = subst (λ (l : List Slot). ReadsAll s l q) (sym (slots-of e)) x

module _ (e : Homiq) {s content : List ℕ} {r : ℕ} (row_is : row_of_homiq e ≡ r) where
  pub homiq-draft : {len : ℕ} → Wires s content (Ok len) → {d : Draft} → d.message ≡ OnHomiq e → d.len ≡ len → Drafts s r content (Ok d)
  homiq-draft {len} (homiq.is {wire = w} x within joined) {d} f g =
      subst (λ (r : ℕ). Drafts s r content (Ok d)) row_is
      (drafted (row_of_homiq e) (members-of e) (no-state e) (λ (l : List Field). l) (all-read e x) refl
      (rw (f, g) (by (settled x))))
    where
      by : Settled s wired_slots (Ok (wired_fields w)) → SaysRow (row_of_homiq e) content (OnHomiq e) len (wired_fields w)
      by (settling.all o h k) =
          said_row (of_homiq e w) (row_of e w) (fields-of e w) within
          (record { wire = w; payload = record { limits = limits_of w k; laid = joined }; is = refl }) (beside-of e w ∙ sym joined)

  pub no-homiq : {why : Reason} → Wires s content (Err why) → Drafts s r content (Err why)
  no-homiq {why} (homiq.not x) =
      subst (λ (r : ℕ). Drafts s r content (Err why)) row_is
      (no-draft (row_of_homiq e) (members-of e) (no-state e) (λ (l : List Field). l) (all-read e x) refl)
