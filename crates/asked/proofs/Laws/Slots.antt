-- What the code holds of each row's members; and that it holds every message within its limits.
-- Assumes nothing.
use mathlib.Core.Bool.{true}
use mathlib.Core.List.{List, [], ◌∷◌}
use mathlib.Core.Logic.{⊎_elim}
use mathlib.Core.Path.{refl}
use Prim.Native.Nat.{ℕ, ◌+◌, ◌≤◌, ◌<◌}
use native.Mathlib.Nat.{le_trans}
use native.Mathlib.Omega.{arith}
use lib.IntN.{ℤ, pos, negsuc}
use lib.ListN.{length, get_or}
use lib.Dec.{T, le→leb}
use lib.Signed.{le_z_yes}
use Rattle.digits.specs.Paper.Ascii.{ascii}
use Rattle.digits.specs.Paper.Bytes.{Bytes}
use Rattle.digits.specs.Paper.LowFirst.{Width, one, two, four, Held}
use Rattle.layouts.proofs.Laws.ByteRuns.{one-of-bytes}
use Rattle.layouts.specs.Work.Heads.{is_byte}
use Rattle.layouts.specs.Paper.Chars.{all, one_of}
use Rattle.layouts.specs.Paper.Homiq as homiqs
use Rattle.layouts.specs.Paper.Nest as nests
use Rattle.layouts.specs.Paper.Nibe as nibes
use Rattle.layouts.specs.Paper.Made.{Wire, homiq_of}
use Rattle.numbers.proofs.Laws.Values.{size-most}
use Rattle.numbers.specs.Paper.ByteValues.{HeldBy}
use Rattle.numbers.specs.Paper.Raw.{Between}
use Rattle.messages.specs.Paper.Message.{Message, read, set, answer, press, tail, link, command, climate, state, break, end, text, response, ask, reply, put, done, nibe, output, input, shutter, beat, homiq, row}
use Rattle.messages.specs.Paper.Table.{Group, Limits, BytesBetween, Letter, text_ids, u16_at}
use Rattle.shapes.specs.Paper.Fields.{Named, Field}
use Rattle.asked.specs.Paper.Means.{AreOf}
use Rattle.asked.specs.Paper.Means as means
use Rattle.shapes.specs.Paper.Shapes.{Sort, shape_at, fields_of, a-number, some_bytes, some-digits, a-content, a-string, a-bool, a-reading, wired, wired_fields}
use Rattle.asked.specs.Work.Got.{Limit, between, up_to, wire-field, wire-type, any, Holds, Slot}

-- ---- the table

abbrev byte : Limit
byte = between (pos 0) (pos 255)

abbrev word : Limit
word = between (pos 0) (pos 65535)

abbrev pub most : Limit
most = up_to 8192

abbrev wires : List Limit
wires = wire-field 8 ∷ wire-field 16 ∷ wire-field 4 ∷ wire-field 4 ∷ between (pos 0) (pos 511) ∷ wire-type ∷ []

abbrev valued : List Limit
valued = word ∷ byte ∷ between (pos 0) (pos 4294967295) ∷ []

-- the limits beside the members of each row, from row 0 on
abbrev limits : List (List Limit)
limits =
    [] ∷ (byte ∷ any ∷ []) ∷ (byte ∷ any ∷ any ∷ []) ∷ (any ∷ byte ∷ any ∷ []) ∷ (any ∷ []) ∷ [] ∷ (up_to 122 ∷ []) ∷ (word ∷ most ∷ [])
    ∷ (between (negsuc 32767) (pos 32767) ∷ word ∷ []) ∷ (word ∷ word ∷ word ∷ most ∷ []) ∷ [] ∷ [] ∷ (word ∷ most ∷ []) ∷ (word ∷ most ∷ [])
    ∷ (word ∷ []) ∷ valued ∷ valued ∷ (any ∷ []) ∷ (byte ∷ most ∷ []) ∷ wires ∷ wires ∷ wires ∷ wires ∷ wires ∷ []

unfoldable pub slotted : List (Named Sort) → List Limit → List Slot
slotted [] ls = []
slotted (m ∷ ms) [] = []
slotted (m ∷ ms) (l ∷ ls) = record { member = m; limit = l } ∷ slotted ms ls

unfoldable pub slots_at : ℕ → List Slot
slots_at r = slotted (shape_at r).members (get_or limits r [])

-- ---- what it holds

pub data AllHeld : List Slot → List Field → Type 0 where
  none : AllHeld [] []
  and : {i : Slot} {is : List Slot} {f : Field} {fs : List Field} → Holds i.limit f → AllHeld is fs → AllHeld (i ∷ is) (f ∷ fs)

pub natural : {n m : ℕ} → n ≤ m → Between (pos 0) (pos m) (pos n)
natural {n} {m} h = record { low = le_z_yes (le→leb 0 n (omega arith)); high = le_z_yes (le→leb n m h) }

in-byte : {n : ℕ} → n < 256 → Between (pos 0) (pos 255) (pos n)
in-byte {n} h = let l : n ≤ 255 = omega arith in natural l

in-word : {n : ℕ} → n < 65536 → Between (pos 0) (pos 65535) (pos n)
in-word {n} h = let l : n ≤ 65535 = omega arith in natural l

-- a number of two bytes of a payload
pub u16-le : (p : List ℕ) (i : ℕ) → Bytes p → u16_at i p ≤ 65535
u16-le p i b = omega (arith, b.each i, b.each (i + 1))

pub text-id : (i : ℕ) → T (one_of text_ids i) → i ≤ 65535
unfolding all is_byte
text-id i h = omega (arith, one-of-bytes text_ids i tt h)

pub nibe-command : (c : ℕ) → T (one_of nibes.commands c) → c ≤ 255
unfolding all is_byte
nibe-command c h = omega (arith, one-of-bytes nibes.commands c tt h)

pub in_group : {g : ℕ} → Group g → g ≤ 255
in_group = ⊎_elim (λ e. omega arith) (λ e. omega arith)

pub width-byte : {w : ℕ} → Width w → w ≤ 255
width-byte one = omega arith
width-byte two = omega arith
width-byte four = omega arith

pub held_word : {w v : ℕ} → Held w v → v ≤ 4294967295
held_word h = omega (arith, size-most h.known, h.below)

signed : {t : ℤ} → HeldBy 2 true t → Between (negsuc 32767) (pos 32767) t
signed h = record { low = h.low; high = h.high }

short : {least m : ℕ} {p : List ℕ} → m ≤ 8192 → BytesBetween least m p → length p ≤ 8192
short h l = le_trans l.short h

payloads : nests.most_payload ≤ 8192
payloads = omega arith

wire-held : (w : Wire) → homiqs.Limits (homiq_of w) → AllHeld (slots_at 23) (wired_fields w)
unfolding slots_at slotted
wire-held w l =
    let t : Letter (ascii "sa") (w.type ∷ []) = record { letter = w.type; one = l.type; is = refl } in
    and l.cmd (and l.val (and l.src (and l.dst (and (natural l.id) (and t none)))))

-- EVERY MESSAGE WITHIN ITS LIMITS IS HELD
pub held : (m : Message) → Limits m → AllHeld (slots_at (row m)) (fields_of m)
unfolding slots_at slotted fields_of
held (read g a) (h, k) = and (natural (in_group h)) (and tt none)
held (set g a out) (h, k, l) = and (natural (in_group h)) (and tt (and tt none))
held (answer a third out) (h, k, l) = and tt (and (in-byte k) (and tt none))
held (press d) l = and tt none
held tail l = none
held (link p) l = and l.short none
held (command i p) (h, l) = and (in-word h) (and (short payloads l) none)
held (climate t h) (k, l) = and (signed k) (and (in-word l) none)
held (state p) l =
    and (natural (u16-le p 8 l.bytes)) (and (natural (u16-le p 10 l.bytes)) (and (natural (u16-le p 12 l.bytes)) (and (short payloads l) none)))
held break l = none
held end l = none
held (text i p) (h, l) = and (natural (text-id i h)) (and (short payloads l) none)
held (response i p) (h, l) = and (in-word h) (and (short payloads l) none)
held (ask r) l = and (in-word l) none
held (reply r w v) (h, l) = and (in-word h) (and (natural (width-byte l.known)) (and (natural (held_word l)) none))
held (put r w v) (h, l) = and (in-word h) (and (natural (width-byte l.known)) (and (natural (held_word l)) none))
held (done ok) l = and tt none
held (nibe c d) (h, l) = and (natural (nibe-command c h)) (and (short (omega arith) l) none)
held (output w) l = wire-held w l.limits
held (input w) l = wire-held w l.limits
held (shutter w) l = wire-held w l.limits
held (beat w) l = wire-held w l.limits
held (homiq w) l = wire-held w l

-- EVERY MESSAGE WITHIN ITS LIMITS HAS FIELDS OF THE SORTS OF ITS SHAPE
wired-of : (w : Wire) → AreOf wired (wired_fields w)
wired-of w = means.and a-string (means.and a-string (means.and a-string (means.and a-string (means.and a-number (means.and a-string means.none)))))

pub are-of : (m : Message) → Limits m → AreOf (shape_at (row m)).members (fields_of m)
unfolding fields_of
are-of (read g a) l = means.and a-number (means.and (some_bytes refl) means.none)
are-of (set g a out) (h, k, l) = means.and a-number (means.and (some_bytes refl) (means.and (some_bytes l.six) means.none))
are-of (answer a third out) (h, k, l) = means.and (some_bytes refl) (means.and a-number (means.and (some_bytes l.six) means.none))
are-of (press d) (h, k) = means.and (some-digits h k) means.none
are-of tail l = means.none
are-of (link p) l = means.and a-content means.none
are-of (command i p) l = means.and a-number (means.and a-content means.none)
are-of (climate t h) l = means.and a-reading (means.and a-reading means.none)
are-of (state p) l = means.and a-reading (means.and a-reading (means.and a-reading (means.and a-content means.none)))
are-of break l = means.none
are-of end l = means.none
are-of (text i p) l = means.and a-number (means.and a-string means.none)
are-of (response i p) l = means.and a-number (means.and a-content means.none)
are-of (ask r) l = means.and a-number means.none
are-of (reply r w v) l = means.and a-number (means.and a-number (means.and a-reading means.none))
are-of (put r w v) l = means.and a-number (means.and a-number (means.and a-reading means.none))
are-of (done ok) l = means.and a-bool means.none
are-of (nibe c d) l = means.and a-number (means.and a-content means.none)
are-of (output w) l = wired-of w
are-of (input w) l = wired-of w
are-of (shutter w) l = wired-of w
are-of (beat w) l = wired-of w
are-of (homiq w) l = wired-of w
