-- What the definition of a line comes to, for a reader.
-- Assumes nothing.
use mathlib.Core.List.{List, []}
use mathlib.Core.Option.{Option, none}
use mathlib.Core.Path.{◌≡◌, refl, sym, ap, ◌∙◌, subst}
use Prim.Native.Nat.{ℕ, ◌+◌, ◌-◌, ◌*◌, ◌^◌, ◌≤◌, ◌<◌}
use native.Mathlib.Omega.{arith}
use lib.ListN.{length, take, drop}
use Rattle.std.specs.Prelude.{Result, Ok, Err}
use Rattle.digits.specs.declared.refusal.Refusal.{Refusal}
use Rattle.digits.specs.declared.refusal.Refusal.TheVariants.{NoRoom}
use Rattle.digits.proofs.Laws.Refusals.{answered}
use Rattle.frames.specs.Paper.Kinds.{Frame}
use Rattle.frames.specs.Paper.Search.{no-frame, no_kind, no_place}
use Rattle.messages.specs.Paper.Answers.{Stands}
use Rattle.messages.specs.Paper.Content.{content_at}
use Rattle.messages.specs.Paper.Meant.{ContentWith}
use Rattle.messages.specs.Paper.Message.{Message}
use Rattle.messages.specs.Paper.Says.{Says}
use Rattle.messages.specs.Paper.Table.{content_of, Good}
use Rattle.messages.specs.declared.Message.{Message as Coded}
use Rattle.messages.specs.declared.Tag.{Tag}
use Rattle.messages.proofs.Laws.Frames.{one-content}
use Rattle.messages.proofs.Laws.Says.{one-said}
use Rattle.messages.proofs.Theorems.{has-message}
use Rattle.puts.specs.Paper.Put.{largest_place}
use Rattle.puts.specs.Paper.Wrote.{written_refusal, written_count, Written}
use Rattle.puts.proofs.Laws.Right.{written-right, rest-kept}
use Rattle.lines.specs.Paper.Answers.{LineOf, LineCause, short, WritesLine, LineSaid, SaidCause, HasContent}
use Rattle.lines.specs.Paper.Answers.{NextCause, searched, PutsNext, NextSize, Measures}
use Rattle.sheet.specs.Paper.Map.{sheet_in}
use Rattle.sheet.specs.Paper.Sheet.{Lookup}
use Rattle.lines.specs.Paper.Line.{line, line_room}
use Rattle.lines.specs.Paper.WithSheet.{line_with}
use Rattle.lines.specs.Work.Put.{all, none}
use Rattle.lines.specs.declared.Listed.{Listed}
use Rattle.lines.proofs.Laws.Next as nexts
use Rattle.lines.proofs.Laws.Of as of
use Rattle.lines.proofs.Laws.Same as same
use Rattle.lines.proofs.Laws.Plain as plain
use Rattle.lines.proofs.Laws.Sizes as sizes
use Rattle.lines.proofs.Laws.Types as types
use Rattle.lines.proofs.Unique as unique

-- EVERY FRAME HAS A LINE at every place, and one only
pub has-line : {sheet : Option Lookup} {k : ℕ} {f : List ℕ} (at : ℕ) → Frame k f → (t : List ℕ) × LineOf sheet k f at t
has-line {sheet} {f = f} at r = let m = has-message r in (line_with sheet at (length f) m.0, record { message = m.0; stands = m.1; is = refl })

pub one_line : {sheet : Option Lookup} {k : ℕ} {f : List ℕ} {at : ℕ} (s t : List ℕ) → LineOf sheet k f at s → LineOf sheet k f at t → s ≡ t
one_line = nexts.one_line

-- WHAT IS WRITTEN IS THE LINE: where nothing is refused, the line of the frame stands in the room's front, and the rest is as it was
pub written-line : {sheet : Option Lookup} {k : ℕ} {f : List ℕ} {at : ℕ} {room later : List ℕ} (r : Written) → WritesLine sheet k f at room r later → written_refusal r ≡ 0
    → LineOf sheet k f at (take (written_count r) later)
written-line r w z = written-right w z

pub behind-line : {sheet : Option Lookup} {k : ℕ} {f : List ℕ} {at : ℕ} {room later : List ℕ} (r : Written) → WritesLine sheet k f at room r later
    → drop (written_count r) later ≡ drop (written_count r) room
behind-line r w = rest-kept w

-- A LINE SAYS ITS FRAME: two frames with the same line, under one sheet, are the same frame, of one kind, at one place
pub same-frame : {sheet : Option Lookup} {k j at there : ℕ} {f g t : List ℕ} → LineOf sheet k f at t → LineOf sheet j g there t → (at ≡ there) × (k ≡ j) × (f ≡ g)
same-frame a b = same.same-frame a b

-- WITHOUT A SHEET IT IS DOCUMENT 01'S LINE
pub plain-line : (at len : ℕ) (m : Message) → line_with none at len m ≡ line at len m
plain-line = plain.plain-line

-- and the empty map is no sheet
pub no-sheet : sheet_in [] ≡ none
no-sheet = refl

-- A LINE IS WITHIN 8 TIMES ITS FRAME'S LENGTH AND 96 BYTES (a place is below 10 ^ 20: it is a number of 64 bits)
pub line-room : {k : ℕ} {f : List ℕ} {at : ℕ} {t : List ℕ} → at < 10 ^ 20 → LineOf none k f at t → length t ≤ line_room (length f)
line-room h l = sizes.line-room h l

-- so a room of that size is never refused with 4
pub never-short : {k : ℕ} {f : List ℕ} {at room : ℕ} → at ≤ largest_place → line_room (length f) ≤ room → LineCause none k f at room 4 → ⊥
never-short {f = f} {at = at} h r (short l g) = let few : at < 10 ^ 20 = omega arith in omega (arith, line-room few l)

-- no line of a frame is longer than 8,368 bytes
pub line-most : {k : ℕ} {f : List ℕ} {at : ℕ} {t : List ℕ} → at < 10 ^ 20 → LineOf none k f at t → length t ≤ 8368
line-most h l = sizes.plain-line-most h l

-- BY THE SHEET THAT A MAP IS, IT IS AS SHORT, OR HAS AT MOST 26 BYTES A BYTE OF ITS FRAME; in any case at most 32, if the frame has four bytes or more
pub line-by-map : (map : List ℕ) {k : ℕ} {f : List ℕ} {at : ℕ} {t : List ℕ} → at < 10 ^ 20 → LineOf (sheet_in map) k f at t → sizes.Short (sheet_in map) (length f) (length t)
line-by-map map h l = sizes.line-shorter (types.in-types map) h l

pub line-within : (map : List ℕ) {k : ℕ} {f : List ℕ} {at : ℕ} {t : List ℕ} → at < 10 ^ 20 → 4 ≤ length f → LineOf (sheet_in map) k f at t → length t ≤ 32 * length f
line-within map h four l = sizes.line-within (types.in-types map) h four l

-- ---- THE LINE OF A MESSAGE, AND OF A CONTENT

-- every message of the table that is said has a line, whatever place and length it is to say
pub has-line-said : {sheet : Option Lookup} (IsSaid : Message → Type 0) (at len : ℕ) {m : Message} → Good m → IsSaid m → (t : List ℕ) × LineSaid sheet IsSaid at len t
has-line-said {sheet} IsSaid at len {m} g x = (line_with sheet at len m, record { message = m; good = g; said = x; is = refl })

-- a case with what stands beside it says one line only, and so does a tag with its payload
pub one-line-says : {sheet : Option Lookup} (e : Coded) (s : List ℕ) {at len : ℕ} (t u : List ℕ) → LineSaid sheet (Says e s) at len t → LineSaid sheet (Says e s) at len u → t ≡ u
one-line-says e s = of.one-line-said (of.one-says e s)

pub one-line-has : {sheet : Option Lookup} (tag : Tag) (p : List ℕ) {at len : ℕ} (t u : List ℕ) → LineSaid sheet (HasContent tag p) at len t → LineSaid sheet (HasContent tag p) at len u → t ≡ u
one-line-has tag p = of.one-line-said (of.one_has tag p)

-- THE LINE OF A FRAME'S MESSAGE, with the frame's length, IS THE FRAME'S LINE; and so is that of what the frame says
pub said-of-frame : {sheet : Option Lookup} {k : ℕ} {f : List ℕ} {m : Message} (e : Coded) (s : List ℕ) {at : ℕ} {t : List ℕ} → Stands k f m → Says e s m
    → LineSaid sheet (Says e s) at (length f) t → LineOf sheet k f at t
said-of-frame {sheet} {f = f} {m = m} e s {at} r x l =
    record { message = m; stands = r; is = l.is ∙ ap (line_with sheet at (length f)) (one-said e s l.message m l.said x) }

pub content-of-frame : {sheet : Option Lookup} {k : ℕ} {f : List ℕ} (x : Frame k f) (tag : Tag) (p : List ℕ) {at : ℕ} {t : List ℕ} → ContentWith tag p (content_at x)
    → LineSaid sheet (HasContent tag p) at (length f) t → LineOf sheet k f at t
content-of-frame {sheet} {k} {f} x tag p {at} w l =
    let own = has-message x in
    let same : content_at x ≡ content_of own.0 = one-content x own.1.frame ∙ own.1.content in
    let m : l.message ≡ own.0 = of.one_has tag p l.message own.0 l.good own.1.good l.said (subst (ContentWith tag p) same w) in
    record { message = own.0; stands = own.1; is = l.is ∙ ap (line_with sheet at (length f)) m }

-- A LINE IS WITHIN 8 TIMES WHAT STANDS BESIDE ITS MESSAGE AND 352 BYTES (place and length are numbers of 64 bits): so such a room is never
-- refused with 4
pub never-short-said : (e : Coded) (s : List ℕ) {at len left : ℕ} → at ≤ largest_place → len ≤ largest_place → 8 * length s + 352 ≤ left
    → SaidCause none (Says e s) at len left 4 → ⊥
never-short-said e s h k r (short l g) = omega (arith, (sizes.line-bounded types.no-types e s h k l).most)

-- ---- THE NEXT LINE OF A CAPTURE

-- no line of a frame is longer than 8,368 bytes, so where so many are left of the room it is not refused with 4
pub never-short-next : {k : ℕ} {s : List ℕ} {place left : ℕ} → length s ≤ largest_place → 8368 ≤ left → NextCause none k s place left 4 → ⊥
never-short-next {k} {s} {place} {left} h r c = go 4 c refl
  where
    go : (n : ℕ) → NextCause none k s place left n → n ≡ 4 → ⊥
    go n (searched (no-frame f)) e = omega arith
    go n (searched (no_kind f)) e = omega arith
    go n (searched (no_place f)) e = omega arith
    go n (short {v = v} l o g) e = let few : v.start < 10 ^ 20 = omega (arith, l.stands.inside) in omega (arith, line-most few o)

-- WHAT IS MEASURED IS WHAT IS PUT: the line stands in the room where so many bytes are left of it, and else it is refused with 4
module _ {sheet : Option Lookup} {k : ℕ} {s : List ℕ} {place : ℕ} {room : List ℕ} {to start len size : ℕ} (m : Measures sheet k s place (Ok (record { start = start; len = len; size = size }))) (r : Result Listed Refusal)
    {later : List ℕ} (p : PutsNext sheet k s place room to r later) where
  size-at : NextSize sheet k s place (record { start = start; len = len; size = size })
  size-at = answered m refl

  pub measured-put : size ≤ length room - to → r ≡ Ok (record { start = start; len = len; behind = to + size })
  measured-put h =
      let n = size-at.size_is in
      let q = nexts.next-placed {room = room} {to = to} size-at.found size-at.line (all (omega (arith, n))) in
      (unique.next sheet k s place room to r (Ok (record { start = start; len = len; behind = to + length size-at.text })) p q).0 ∙ ap (λ (i : ℕ). Ok (record { start = start; len = len; behind = to + i })) (sym n)

  pub measured-refused : length room - to < size → r ≡ Err NoRoom
  measured-refused h = (unique.next sheet k s place room to r (Err NoRoom) p (nexts.next-placed size-at.found size-at.line (none (omega (arith, size-at.size_is))))).0
