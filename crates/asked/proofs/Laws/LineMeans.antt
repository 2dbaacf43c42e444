-- A message's line with its kind in the place of `at` and `len` means that message.
-- Assumes nothing.
use mathlib.Core.Bool.{Bool, true, ◌&&◌}
use mathlib.Core.List.{List, [], ◌∷◌}
use mathlib.Core.Path.{sym, subst}
use Prim.Native.Nat.{ℕ, ◌-◌, ◌/◌, ◌%◌, ◌≤◌, ◌<◌}
use native.Mathlib.Omega.{arith}
use lib.Dec.{T, leb, ltb, leb→le, ltb→lt}
use lib.IntN.{pos}
use lib.ListN.{length}
use Rattle.digits.proofs.Laws.Bytes.{bytes-nil, bytes-cons}
use Rattle.digits.proofs.Laws.Tests.{T_and}
use Rattle.digits.specs.Paper.Ascii.{ascii}
use Rattle.digits.specs.Paper.Bytes.{Bytes}
use Rattle.digits.specs.Paper.LowFirst.{SixteenBits, two, Held}
use Rattle.layouts.proofs.Laws.ByteRuns.{bytes-by}
use Rattle.layouts.proofs.Laws.HexDigits.{hex-cases}
use Rattle.layouts.proofs.Laws.Homiq.{type-chars}
use Rattle.layouts.proofs.Laws.HomiqOne.{field-bytes}
use Rattle.layouts.specs.Paper.Chars.{all, is_hex}
use Rattle.layouts.specs.Paper.Homiq as homiqs
use Rattle.layouts.specs.Paper.Made.{Wire, homiq_of}
use Rattle.numbers.proofs.Laws.Signs.{magnitude-lt}
use Rattle.numbers.proofs.Theorems.ByteValues.{value-raw}
use Rattle.numbers.specs.Paper.Raw.{most_decimals}
use Rattle.messages.specs.Paper.Message.{Message, read, set, answer, press, tail, link, command, climate, state, break, end, text, response, ask, reply, put, done, nibe, output, input, shutter, beat, homiq, row, name}
use Rattle.messages.specs.Paper.Table.{SixBytes, BytesBetween, Limits, Good, v_in, v_op, v_bat}
use Rattle.json_values.specs.Paper.Json as json
use Rattle.jsontext.specs.Paper.Names.{most_depth}
use Rattle.lines.specs.Paper.Line as lines
use Rattle.lines.specs.Paper.Line.{high_byte_first, members}
use Rattle.shapes.specs.Paper.Fields.{plain, reading, hex, chars}
use Rattle.asked.specs.Paper.Field.{Spells}
use Rattle.asked.specs.Paper.Line.{command_line}
use Rattle.asked.specs.Paper.Means.{named, Means}
use Rattle.shapes.specs.Paper.Shapes as shapes
use Rattle.shapes.specs.Paper.Shapes.{shape_at, wired, number_field, wired_fields, fields_of}
use Rattle.asked.specs.Work.Rows.{same_text}
use Rattle.asked.proofs.Laws.WrittenFields.{field, number-written, hex-written, chars-written, itself-written, truth-written, reading-written}
use Rattle.asked.proofs.Laws.Objects.{Writes, Written, none, and, called, is_other, are_once, object_of_lem}
use Rattle.asked.proofs.Laws.Rebuilt.{shape-msg}
use Rattle.asked.proofs.Laws.Slots.{u16-le, text-id, nibe-command, in_group, width-byte, held_word}
use Rattle.asked.proofs.Laws.Written.{is_itself}

-- ---- the two members in front

-- what is tested of a row and of how many bytes its members have
unfoldable pub is_fine : Message → ℕ → Bool
is_fine m k =
    ltb (shape_at (row m)).kind 10
    && (all is_itself (name m)
    && (leb (length (name m)) 10
    && (leb k 8000 && are_once (ascii "kind" ∷ ascii "msg" ∷ called (named (shape_at (row m)).members (fields_of m))))))

-- members that are written, of at most k bytes, mean m behind those two if they have its fields
pub by_members : (m : Message) {ms : List json.Member} {k : ℕ} → T (is_fine m k)
    → Written Spells (most_depth - 1) ms (named (shape_at (row m)).members (fields_of m)) k
    → Means (json.object (json.◌∶◌ (ascii "kind") (json.number (shape_at (row m)).kind) ∷ json.◌∶◌ (ascii "msg") (json.quoted (name m)) ∷ ms)) m
unfolding is_fine called all is_itself
by_members m {k = k} t w =
    let a = T_and (ltb (shape_at (row m)).kind 10) _ t in
    let b = T_and (all is_itself (name m)) _ a.1 in
    let c = T_and (leb (length (name m)) 10) _ b.1 in
    let d = T_and (leb k 8000) _ c.1 in
    let short : k ≤ 8000 = leb→le k 8000 d.0 in
    let msg : Writes Spells (most_depth - 1) (json.quoted (name m)) (plain (chars (shape_at (row m)).msg)) 12 =
    subst (λ (l : List ℕ). Writes Spells (most_depth - 1) (json.quoted (name m)) (plain (chars l)) 12) (sym (shape-msg m))
    (field (itself-written 14 10 b.0 (leb→le (length (name m)) 10 c.0) (omega arith))) in
    object_of_lem (and tt (field (number-written 14 0 (ltb→lt (shape_at (row m)).kind 10 a.0))) (and tt msg w)) (omega arith) d.1

-- ---- each field of a message within its limits

-- a number of 32 bits
pub counted : (n : ℕ) → n ≤ 4294967295 → Writes Spells (most_depth - 1) (json.number n) (number_field n) 10
counted n h = field (number-written 14 9 {n = n} (omega arith))

addressed : {a : ℕ} → SixteenBits a → Writes Spells (most_depth - 1) (json.hex (high_byte_first a)) (plain (hex (high_byte_first a))) 6
addressed {a} h = field (hex-written 14 2 (bytes-cons {b = a / 256} (omega arith) (bytes-cons {b = a % 256} (omega arith) bytes-nil)) (omega arith) (omega arith))

six : {out : List ℕ} → SixBytes out → Writes Spells (most_depth - 1) (json.hex out) (plain (hex out)) 14
six {out} l = field (hex-written 14 6 l.bytes (omega (arith, l.six)) (omega arith))

-- a payload or data of at most 1,024 bytes
free : {least most : ℕ} {p : List ℕ} → most ≤ 1024 → BytesBetween least most p → Writes Spells (most_depth - 1) (json.hex p) (plain (hex p)) 2050
free h l = field (hex-written 14 1024 l.bytes (omega (arith, l.short)) (omega arith))

-- a reading of a number of 32 bits
read_off : (n d : ℕ) → n ≤ 4294967295 → d ≤ most_decimals → Writes Spells (most_depth - 1) (json.reading (pos n) d) (reading (pos n) d) 62
read_off n d h k = reading-written (pos n) d (omega arith) k 13

wire-text : {most : ℕ} {s : List ℕ} → most ≤ 16 → homiqs.Field most s → Writes Spells (most_depth - 1) (json.chars s) (plain (chars s)) 98
wire-text {s = s} h l = field (chars-written 14 16 (field-bytes s l.chars) (omega (arith, l.short)) (omega arith))

wires : (w : Wire) → homiqs.Limits (homiq_of w) → Written Spells (most_depth - 1) (lines.wired w) (named wired (wired_fields w)) 452
unfolding named all is_itself
wires w l =
    and tt (wire-text (omega arith) l.cmd) (and tt (wire-text (omega arith) l.val) (and tt (wire-text (omega arith) l.src)
    (and tt (wire-text (omega arith) l.dst) (and tt (counted w.id (omega (arith, l.id)))
    (and tt (field (chars-written 14 1 (field-bytes (w.type ∷ []) (type-chars w.type l.type)) (omega arith) (omega arith))) none)))))

hex-characters : (d : List ℕ) → T (all is_hex d) → Bytes d
hex-characters = bytes-by is_hex (λ x h. hex-cases x (x < 256) h (λ k l. omega arith) (λ k l. omega arith))

valued : (r w v : ℕ) → SixteenBits r → Held w v
    → Written Spells (most_depth - 1)
    (json.◌∶◌ (ascii "reg") (json.number r) ∷ json.◌∶◌ (ascii "width") (json.number w) ∷ json.◌∶◌ (ascii "value") (json.reading (pos v) 0) ∷ [])
    (named shapes.valued (number_field r ∷ number_field w ∷ reading (pos v) 0 ∷ [])) 107
unfolding named all is_itself
valued r w v h l =
    and tt (counted r (omega arith)) (and tt (counted w (omega (arith, width-byte l.known))) (and tt (read_off v 0 (held_word l) (omega arith)) none))

-- ---- the theorem

-- A MESSAGE'S LINE MEANS IT, within the limits
pub line-within : (m : Message) → Limits m → Means (command_line m) m
unfolding is_fine all is_itself called is_other are_once same_text members fields_of named
line-within (read g a) (h, k) = by_members (read g a) tt (and tt (counted g (omega (arith, in_group h))) (and tt (addressed k) none))
line-within (set g a out) (h, k, l) = by_members (set g a out) tt (and tt (counted g (omega (arith, in_group h))) (and tt (addressed k) (and tt (six l) none)))
line-within (answer a third out) (h, k, l) = by_members (answer a third out) tt (and tt (addressed h) (and tt (counted third (omega arith)) (and tt (six l) none)))
line-within (press d) (h, k) = by_members (press d) tt (and tt (field (chars-written 14 6 (hex-characters d k) (omega arith) (omega arith))) none)
line-within tail l = by_members tail tt none
line-within (link p) l = by_members (link p) tt (and tt (free (omega arith) l) none)
line-within (command i p) (h, l) = by_members (command i p) tt (and tt (counted i (omega arith)) (and tt (free (omega arith) l) none))
line-within (climate t h) (k, l) =
    by_members (climate t h) tt
    (and tt (reading-written t 2 (magnitude-lt t (value-raw true t two k)) (omega arith) 13) (and tt (read_off h 1 (omega arith) (omega arith)) none))
line-within (state p) l =
    by_members (state p) tt
    (and tt (read_off (v_in p) 2 (omega (arith, u16-le p 8 l.bytes)) (omega arith))
    (and tt (read_off (v_op p) 3 (omega (arith, u16-le p 10 l.bytes)) (omega arith))
    (and tt (read_off (v_bat p) 3 (omega (arith, u16-le p 12 l.bytes)) (omega arith)) (and tt (free (omega arith) l) none))))
line-within break l = by_members break tt none
line-within end l = by_members end tt none
line-within (text i p) (h, l) =
    by_members (text i p) tt
    (and tt (counted i (omega (arith, text-id i h))) (and tt (field (chars-written 14 1024 l.bytes l.short (omega arith))) none))
line-within (response i p) (h, l) = by_members (response i p) tt (and tt (counted i (omega arith)) (and tt (free (omega arith) l) none))
line-within (ask r) l = by_members (ask r) tt (and tt (counted r (omega arith)) none)
line-within (reply r w v) (h, l) = by_members (reply r w v) tt (valued r w v h l)
line-within (put r w v) (h, l) = by_members (put r w v) tt (valued r w v h l)
line-within (done ok) l = by_members (done ok) tt (and tt (field (truth-written 14 ok)) none)
line-within (nibe c d) (h, l) = by_members (nibe c d) tt (and tt (counted c (omega (arith, nibe-command c h))) (and tt (free (omega arith) l) none))
line-within (output w) l = by_members (output w) tt (wires w l.limits)
line-within (input w) l = by_members (input w) tt (wires w l.limits)
line-within (shutter w) l = by_members (shutter w) tt (wires w l.limits)
line-within (beat w) l = by_members (beat w) tt (wires w l.limits)
line-within (homiq w) l = by_members (homiq w) tt (wires w l)

-- EACH MESSAGE OF THE TABLE IS MEANT BY ITS LINE
pub line-means : (m : Message) → Good m → Means (command_line m) m
line-means m g = line-within m g.limits
