-- How long frames and their lines are.
-- Assumes nothing.
use mathlib.Core.Bool.{Bool, true, false, cond}
use mathlib.Core.List.{List, [], ◌∷◌, ◌++◌, append-nil}
use mathlib.Core.Logic.{⊎_elim}
use mathlib.Core.Option.{Option, none, some, none-ne-some}
use mathlib.Core.Path.{◌≡◌, refl, sym, ap, ◌∙◌, subst}
use Prim.Native.Nat.{ℕ, ◌+◌, ◌*◌, ◌^◌, ◌≤◌, ◌<◌}
use native.Mathlib.Nat.{pow-le-pow_right, zero-lt-suc, lt_of_lt_of_le}
use native.Mathlib.Omega.{arith}
use lib.Dec.{eqb}
use lib.IntN.{pos}
use lib.ListN.{length, length-append}
use borrow.Author.Tests.{eqb-true}
use Rattle.digits.specs.Paper.Ascii.{ascii}
use Rattle.digits.specs.Paper.Bytes.{Bytes}
use Rattle.digits.specs.Paper.Decimal.{decimal}
use Rattle.digits.specs.Paper.Hex.{hex_bytes}
use Rattle.digits.specs.Paper.LowFirst.{Width, one, two, four, Held, low_byte_first, low_value}
use Rattle.digits.proofs.Laws.Decimal.{length_some, length-decimal}
use Rattle.digits.proofs.Laws.Hex as hexes
use Rattle.digits.proofs.Laws.LowFirst.{width-most, length-low, value_low}
use Rattle.numbers.specs.Paper.ByteValues.{value_bytes}
use Rattle.numbers.proofs.Laws.Signs.{magnitude-lt}
use Rattle.numbers.proofs.Laws.Values as numbers
use Rattle.numbers.proofs.Theorems.ByteValues.{value-width, value-raw}
use Rattle.checks.specs.Paper.Buses.{nikobus_crc16, nikobus_crc8, homiq_crc}
use Rattle.checks.specs.Paper.Check.{check}
use Rattle.checks.proofs.Laws.Feed.{check-lt}
use Rattle.layouts.specs.Paper.Chars.{all, CR, LF}
use Rattle.layouts.specs.Paper.Homiq as homiqs
use Rattle.layouts.specs.Paper.Homiq.{joined}
use Rattle.layouts.specs.Paper.Made.{nest_of, nibe_of, Wire, closed, homiq_of}
use Rattle.layouts.specs.Paper.Nest as nests
use Rattle.layouts.specs.Paper.Nibe.{commands}
use Rattle.layouts.specs.Paper.Nikobus.{link_checked}
use Rattle.layouts.specs.Work.Heads.{is_byte}
use Rattle.layouts.proofs.Laws.ByteRuns.{one-of-bytes}
use Rattle.layouts.proofs.Laws.Nest.{nest-size}
use Rattle.layouts.proofs.Laws.Nibe.{nibe-size}
use Rattle.layouts.proofs.Laws.Nikobus.{link-size}
use Rattle.layouts.specs.declared.nest.Direction.TheVariants.{Command, Response}
use Rattle.messages.specs.Paper.Content.{laid}
use Rattle.messages.specs.Paper.Content as content
use Rattle.messages.specs.Paper.Message.{Message, read, set, answer, press, tail, link, command, climate, state, break, end, text, response, ask, reply, put, done, nibe, output, input, shutter, beat, homiq, name}
use Rattle.messages.specs.Paper.Table.{code_of, valued, content_of, bytes, Group, text_ids, Limits, u16_at, v_in, v_op, v_bat}
use Rattle.messages.specs.Paper.Says.{of_nikobus, of_response, of_nibe, of_homiq, SaysNikobus, a-link, another, Says}
use Rattle.messages.specs.declared.Message.{Message as Coded}
use Rattle.messages.specs.declared.Message.TheVariants.{Nikobus as OnNikobus, Command as AsCommand, Response as AsResponse, Nibe as OnNibe, Homiq as OnHomiq}
use Rattle.messages.specs.declared.homiq.Homiq.{Homiq}
use Rattle.messages.specs.declared.homiq.Homiq.TheVariants.{Output, Input, Shutter, Beat}
use Rattle.messages.specs.declared.homiq.Homiq.TheVariants as homiq_cases
use Rattle.messages.specs.declared.nest.Response.{Response as Responded}
use Rattle.messages.specs.declared.nest.Response.TheVariants.{Climate, State, Break, End, Text}
use Rattle.messages.specs.declared.nest.Response.TheVariants as response_cases
use Rattle.messages.specs.declared.nibe.Nibe.{Nibe}
use Rattle.messages.specs.declared.nibe.Nibe.TheVariants.{Ask, Reply, Put, Done}
use Rattle.messages.specs.declared.nibe.Nibe.TheVariants as nibe_cases
use Rattle.messages.specs.declared.nikobus.Nikobus.{Nikobus}
use Rattle.messages.specs.declared.nikobus.Nikobus.TheVariants.{Read, Set, Answer, Press, Tail, Link}
use Rattle.messages.proofs.Theorems.{stands-bytes}
use Rattle.puts.specs.Paper.Put.{largest_place}
use Rattle.json_values.specs.Paper.Json.{Member, ◌∶◌, object, number, quoted, reading}
use Rattle.json_values.proofs.Laws.Sizes.{length-quoted, length-hex, length-chars, length-truth, total, length-object, length-reading}
use Rattle.lines.specs.Paper.Answers.{LineOf, LineSaid}
use Rattle.sheet.specs.Paper.Sheet.{RegisterType, Lookup}
use Rattle.sheet.specs.Paper.Split.{is_unsolicited, typed_value, Pair, split_of}
use Rattle.sheet.proofs.Laws.Computed.{computed-splits}
use Rattle.lines.specs.Paper.Line.{high_byte_first, wired, members, line_room}
use Rattle.lines.specs.Paper.WithSheet.{type_in, Share, a_value, some_data, nothing, share, by_share, behind_share, value_reading, values_of, values, members_with, further_members, line_with}
use Rattle.lines.specs.Paper.WithSheet as with
use Rattle.lines.specs.Work.Put.{Bounded, a_byte}
use Rattle.lines.proofs.Laws.Put.{members-unshared}
use Rattle.lines.proofs.Laws.SheetSizes.{length-array}
use Rattle.lines.proofs.Laws.Types.{InTypes, no-types}

-- ---- frames

length-link : (p : List ℕ) → length (laid (content.link p)) ≡ length p * 2 + 10
length-link p = link-size p (check nikobus_crc16 p) (check nikobus_crc8 (link_checked p (check nikobus_crc16 p)))

length-press : (d : List ℕ) → length (laid (content.press d)) ≡ length d + 3
length-press d = omega (arith, length-append (ascii "#N" ++ d) (CR ∷ []), length-append (ascii "#N") d)

length-response : (i : ℕ) (p : List ℕ) → length (laid (content.response i p)) ≡ length p + 10
length-response i p = omega (arith, nest-size (nests.preamble Response) (nest_of i p))

length-command : (i : ℕ) (p : List ℕ) → length (laid (content.command i p)) ≡ length p + 9
length-command i p = omega (arith, nest-size (nests.preamble Command) (nest_of i p))

length-nibe : (c : ℕ) (d : List ℕ) → length (laid (content.nibe c d)) ≡ length d + 4
length-nibe c d = nibe-size (nibe_of c d)

length-valued : (r w v : ℕ) → length (valued r w v) ≡ w + 2
length-valued r w v = omega (arith, length-append (low_byte_first 2 r) (low_byte_first w v), length-low 2 r, length-low w v)

-- the characters of a Homiq message's four texts
abbrev texts : Wire → ℕ
texts w = length w.cmd + length w.val + length w.src + length w.dst

length-parts : (a b c d i k : List ℕ) (t : ℕ)
    → length (ascii "<;" ++ (a ++ ascii ";" ++ b ++ ascii ";" ++ c ++ ascii ";" ++ d ++ ascii ";" ++ i ++ ascii ";" ++ (t ∷ [])) ++ (ascii ";" ++ k ++ ascii ";>" ++ (CR ∷ LF ∷ [])))
    ≡ length a + length b + length c + length d + length i + length k + 13
length-parts a b c d i k t = simp length-append (omega arith)

-- its two numbers have one to three digits
homiq-least : (w : Wire) → texts w + 15 ≤ length (laid (content.homiq w))
homiq-least w =
    let c = check homiq_crc (joined (closed w 0)) in
    omega (arith, length-parts w.cmd w.val w.src w.dst (decimal w.id) (decimal c) w.type, length_some w.id, length_some c)

homiq-most : (w : Wire) → homiqs.Limits (homiq_of w) → length (laid (content.homiq w)) ≤ 51
homiq-most w l =
    let c = check homiq_crc (joined (closed w 0)) in
    let h : c < 256 = check-lt homiq_crc (joined (closed w 0)) in
    let i : length (decimal w.id) ≤ 3 = length-decimal 2 w.id (omega (arith, l.id)) in
    let d : length (decimal c) ≤ 3 = length-decimal 2 c (omega arith) in
    omega (
      arith,
      length-parts w.cmd w.val w.src w.dst (decimal w.id) (decimal c) w.type,
      l.cmd.short,
      l.val.short,
      l.src.short,
      l.dst.short,
    )

-- all but its payload are short
length-behind : (p k : List ℕ) → length (ascii "<;" ++ p ++ (ascii ";" ++ k ++ ascii ";>" ++ (CR ∷ LF ∷ []))) ≡ length p + length k + 7
length-behind p k = simp length-append (omega arith)

homiq-beside : (w : Wire) → length (laid (content.homiq w)) ≤ length (homiqs.payload (homiq_of w)) + 10
homiq-beside w =
    let c = check homiq_crc (joined (closed w 0)) in
    let h : c < 256 = check-lt homiq_crc (joined (closed w 0)) in
    omega (arith, length-behind (homiqs.payload (homiq_of w)) (decimal c), length-decimal 2 c (omega arith))

-- ---- numbers of a message

group-digit : {g : ℕ} → Group g → length (decimal g) ≤ 1
group-digit {g} h = length-decimal 0 g (⊎_elim (λ e. omega arith) (λ e. omega arith) h)

word-digits : {n : ℕ} → n < 65536 → length (decimal n) ≤ 5
word-digits {n} h = length-decimal 4 n (omega arith)

byte-digits : {n : ℕ} → n < 256 → length (decimal n) ≤ 3
byte-digits {n} h = length-decimal 2 n (omega arith)

width-least : {w : ℕ} → Width w → 1 ≤ w
width-least one = omega arith
width-least two = omega arith
width-least four = omega arith

held_small : {w v : ℕ} → Held w v → v < 2 ^ 32
held_small {w} {v} h = lt_of_lt_of_le h.below (pow-le-pow_right (zero-lt-suc 255) (width-most h.known))

u16-small : (i : ℕ) (p : List ℕ) → Bytes p → u16_at i p < 65536
u16-small i p b = omega (arith, b.each i, b.each (i + 1))

-- ---- each row: its frame, and the members behind `msg`

-- what a message takes from beside it
abbrev taken : Message → List ℕ
taken (read g a) = []
taken (set g a out) = []
taken (answer a third out) = []
taken (press d) = []
taken tail = []
taken (link p) = hex_bytes p
taken (command i p) = p
taken (climate t h) = []
taken (state p) = p
taken break = []
taken end = []
taken (text i p) = p
taken (response i p) = p
taken (ask r) = []
taken (reply r w v) = []
taken (put r w v) = []
taken (done ok) = []
taken (nibe c d) = d
taken (output w) = homiqs.payload (homiq_of w)
taken (input w) = homiqs.payload (homiq_of w)
taken (shutter w) = homiqs.payload (homiq_of w)
taken (beat w) = homiqs.payload (homiq_of w)
taken (homiq w) = homiqs.payload (homiq_of w)

-- a frame has at most 1,034 bytes, and at most 30 more than its message takes from beside it; and the name and the members of its line are
-- short for it
record Fits (m : Message) (n : ℕ) : Type 0 where
  short : n ≤ 1034
  beside : n ≤ length (taken m) + 30
  room : length (name m) + total (members m) ≤ 8 * n + 48

wired-fits : (w : Wire) (n : ℕ) → homiqs.Limits (homiq_of w) → texts w + 15 ≤ n → 7 + total (wired w) ≤ 8 * n + 48
unfolding total
wired-fits w n l h =
    omega (
      arith,
      length-chars w.cmd,
      length-chars w.val,
      length-chars w.src,
      length-chars w.dst,
      length-decimal 2 w.id (omega (arith, l.id)),
      length-chars (w.type ∷ []),
    )

valued_fits : (m : Message) (r w v : ℕ) → r < 65536 → Held w v → length (name m) ≤ 5
    → members m ≡ ascii "reg" ∶ number r ∷ ascii "width" ∶ number w ∷ ascii "value" ∶ reading (pos v) 0 ∷ [] → length (bytes m) ≡ w + 6 → Fits m (length (bytes m))
unfolding total
valued_fits m r w v h k short e n =
    let least = width-least k.known in
    let most = width-most k.known in
    let d : length (decimal w) ≤ 1 = length-decimal 0 w (omega arith) in
    record { short = omega arith; beside = omega arith; room = rw e (omega (arith, word-digits h, length-reading (pos v) 0 (held_small k) (omega arith))) }

homiq-fits : (m : Message) (w : Wire) → homiqs.Limits (homiq_of w) → length (name m) ≤ 7 → members m ≡ wired w → bytes m ≡ laid (content.homiq w)
    → taken m ≡ homiqs.payload (homiq_of w) → Fits m (length (bytes m))
homiq-fits m w l k e f g =
    let n : length (bytes m) ≡ length (laid (content.homiq w)) = ap length f in
    record { short = omega (arith, homiq-most w l); beside = rw g (omega (arith, homiq-beside w)); room = rw e (omega (arith, wired-fits w _ l (homiq-least w))) }

rows : (m : Message) → Limits m → Fits m (length (bytes m))
unfolding content_of members total all is_byte
rows (read g a) l =
    let n : length (bytes (read g a)) ≡ 16 = length-link (code_of 0x12 0x17 g ∷ low_byte_first 2 a) ∙ omega (arith, length-low 2 a) in
    record { short = omega arith; beside = omega arith; room = omega (arith, group-digit l.0, length-hex (high_byte_first a)) }
rows (set g a out) l =
    let p : length (low_byte_first 2 a ++ out ++ (0xFF ∷ [])) ≡ 9 = simp length-append (omega (arith, length-low 2 a, l.2.six)) in
    let n : length (bytes (set g a out)) ≡ 30 = length-link (code_of 0x15 0x16 g ∷ (low_byte_first 2 a ++ out ++ (0xFF ∷ []))) ∙ omega arith in
    record { short = omega arith; beside = omega arith; room = omega (arith, group-digit l.0, length-hex (high_byte_first a), length-hex out, l.2.six) }
rows (answer a third out) l =
    let p : length (low_byte_first 2 a ++ (third ∷ out)) ≡ 9 = simp length-append (omega (arith, length-low 2 a, l.2.six)) in
    let n : length (bytes (answer a third out)) ≡ 28 = length-link (low_byte_first 2 a ++ (third ∷ out)) ∙ omega arith in
    record { short = omega arith; beside = omega arith; room = omega (arith, byte-digits l.1, length-hex (high_byte_first a), length-hex out, l.2.six) }
rows (press d) l =
    let n : length (bytes (press d)) ≡ 9 = length-press d ∙ omega (arith, l.0) in
    record { short = omega arith; beside = omega arith; room = omega (arith, length-chars d, l.0) }
rows tail l = record { short = omega arith; beside = omega arith; room = omega arith }
rows (link p) l =
    let n : length (bytes (link p)) ≡ length p * 2 + 10 = length-link p in
    record { short = omega (arith, l.short); beside = omega (arith, hexes.length-hex p); room = omega (arith, length-hex p) }
rows (command i p) l =
    let n : length (bytes (command i p)) ≡ length p + 9 = length-command i p in
    record { short = omega (arith, l.1.short); beside = omega arith; room = omega (arith, word-digits l.0, length-hex p) }
rows (climate t h) l =
    let p : length (value_bytes 2 t ++ low_byte_first 2 h) ≡ 4 = simp length-append (omega (arith, value-width 2 t, length-low 2 h)) in
    let n : length (bytes (climate t h)) ≡ 14 = length-response 0x0002 (value_bytes 2 t ++ low_byte_first 2 h) ∙ omega arith in
    record {
      short = omega arith;
      beside = omega arith;
      room =
          omega (
            arith,
            length-reading t 2 (magnitude-lt t (value-raw true t two l.0)) (omega arith),
            length-reading (pos h) 1 (omega (arith, l.1)) (omega arith),
          );
    }
rows (state p) l =
    let n : length (bytes (state p)) ≡ length p + 10 = length-response 0x000B p in
    record {
      short = omega (arith, l.short);
      beside = omega arith;
      room =
          omega (
            arith,
            l.enough,
            length-reading (pos (v_in p)) 2 (omega (arith, u16-small 8 p l.bytes)) (omega arith),
            length-reading (pos (v_op p)) 3 (omega (arith, u16-small 10 p l.bytes)) (omega arith),
            length-reading (pos (v_bat p)) 3 (omega (arith, u16-small 12 p l.bytes)) (omega arith),
            length-hex p,
          );
    }
rows break l = let n : length (bytes break) ≡ 13 = length-response 0x0001 (ascii "BRK") in record { short = omega arith; beside = omega arith; room = omega arith }
rows end l = let n : length (bytes end) ≡ 10 = length-response 0x002F [] in record { short = omega arith; beside = omega arith; room = omega arith }
rows (text i p) l =
    let n : length (bytes (text i p)) ≡ length p + 10 = length-response i p in
    record { short = omega (arith, l.1.short); beside = omega arith; room = omega (arith, byte-digits (one-of-bytes text_ids i tt l.0), length-chars p) }
rows (response i p) l =
    let n : length (bytes (response i p)) ≡ length p + 10 = length-response i p in
    record { short = omega (arith, l.1.short); beside = omega arith; room = omega (arith, word-digits l.0, length-hex p) }
rows (ask r) l =
    let n : length (bytes (ask r)) ≡ 6 = length-nibe 0x69 (low_byte_first 2 r) ∙ omega (arith, length-low 2 r) in
    record { short = omega arith; beside = omega arith; room = omega (arith, word-digits l) }
rows (reply r w v) l =
    let n : length (bytes (reply r w v)) ≡ w + 6 = length-nibe 0x6A (valued r w v) ∙ omega (arith, length-valued r w v) in
    valued_fits (reply r w v) r w v l.0 l.1 (omega arith) refl n
rows (put r w v) l =
    let n : length (bytes (put r w v)) ≡ w + 6 = length-nibe 0x6B (valued r w v) ∙ omega (arith, length-valued r w v) in
    valued_fits (put r w v) r w v l.0 l.1 (omega arith) refl n
rows (done ok) l =
    let n : length (bytes (done ok)) ≡ 5 = length-nibe 0x6C (cond ok 0x01 0x00 ∷ []) in
    record { short = omega arith; beside = omega arith; room = omega (arith, length-truth ok) }
rows (nibe c d) l =
    let n : length (bytes (nibe c d)) ≡ length d + 4 = length-nibe c d in
    record { short = omega (arith, l.1.short); beside = omega arith; room = omega (arith, byte-digits (one-of-bytes commands c tt l.0), length-hex d) }
rows (output w) l = homiq-fits (output w) w l.limits (omega arith) refl refl refl
rows (input w) l = homiq-fits (input w) w l.limits (omega arith) refl refl refl
rows (shutter w) l = homiq-fits (shutter w) w l.limits (omega arith) refl refl refl
rows (beat w) l = homiq-fits (beat w) w l.limits (omega arith) refl refl refl
rows (homiq w) l = homiq-fits (homiq w) w l (omega arith) refl refl refl

-- ---- for a reader

-- A FRAME HAS AT MOST 1,034 BYTES
pub bytes_most : (m : Message) → Limits m → length (bytes m) ≤ 1034
bytes_most m l = (rows m l).short

-- ---- by a sheet

abbrev shown : Option Lookup → Message → List Member
shown sheet m = members_with sheet m ++ further_members sheet m

-- as short as without a sheet; or the message is split, and then at most 26 bytes a byte of the frame
data Room (sheet : Option Lookup) (m : Message) : Type 0 where
  as_before : length (name m) + total (shown sheet m) ≤ 8 * length (bytes m) + 48 → Room sheet m
  split : {look : Lookup} → sheet ≡ some look → length (name m) + total (shown sheet m) + 48 ≤ 26 * length (bytes m)
      → length (bytes m) ≤ length (taken m) + 4 → Room sheet m

module _ {sheet : Option Lookup} (types : InTypes sheet) where
  unshared : (m : Message) → share m ≡ nothing → Limits m → Room sheet m
  unshared m e l = as_before (rw (members-unshared sheet m e) (rows m l).room)

  plain_size : {w v : ℕ} → Held w v → length (reading (pos v) 0) ≤ 62
  plain_size {w} {v} h = length-reading (pos v) 0 (held_small h) (omega arith)

  typed-size : (r : ℕ) {w v : ℕ} (t : RegisterType) → type_in sheet r ≡ some t → Held w v → (b : Bool) → eqb t.width w ≡ b
      → length (cond b (reading (typed_value t (low_byte_first w v)) t.decimals) (reading (pos v) 0)) ≤ 62
  typed-size r {w} {v} t e h true q =
      let k : w ≡ t.width = sym (eqb-true t.width w q) in
      let n : low_value (low_byte_first w v) < 256 ^ t.width = rw (value_low w v h.below) (subst (λ (x : ℕ). v < 256 ^ x) k h.below) in
      let z = numbers.size (types.width r e) in
      length-reading (typed_value t (low_byte_first w v)) t.decimals
      (magnitude-lt (typed_value t (low_byte_first w v)) (numbers.in-raw z (numbers.size-most (types.width r e)) (numbers.of-twos z t.signed (low_value (low_byte_first w v)) n).0))
      (types.decimals r e)
  typed-size r {w} {v} t e h false q = plain_size h

  value-size : (r w v : ℕ) → Held w v → length (value_reading (type_in sheet r) w v) ≤ 62
  value-size r w v h = go (type_in sheet r) refl
    where
      go : (o : Option RegisterType) → type_in sheet r ≡ o → length (value_reading o w v) ≤ 62
      go none e = plain_size h
      go (some t) e = typed-size r t e h (eqb t.width w) refl

  valued-room : (m : Message) (r w v : ℕ) → share m ≡ a_value r w v → length (name m) ≤ 5 → r < 65536 → Held w v → length (bytes m) ≡ w + 6 → Room sheet m
  unfolding total members_with further_members
  valued-room m r w v e short h k n =
      let d : length (decimal w) ≤ 1 = length-decimal 0 w (omega (arith, width-most k.known)) in
      let t : total (shown sheet m) ≡ total (with.valued sheet r w v) = ap (λ (x : Share). total (by_share sheet x (members m) ++ behind_share sheet x)) e in
      as_before (omega (arith, word-digits h, width-least k.known, value-size r w v k))

-- data that are split
data-total : (c : ℕ) (d : List ℕ) (ms : List Member) → total (members (nibe c d) ++ ms) ≡ total (members (nibe c d)) + total ms
unfolding members total
data-total c d ms = omega arith

shown-data : (sheet : Option Lookup) (c : ℕ) (d : List ℕ) → shown sheet (nibe c d) ≡ members (nibe c d) ++ values_of sheet c d
unfolding members_with further_members
shown-data sheet c d = refl

data-room : (sheet : Option Lookup) → InTypes sheet → (c : ℕ) (d : List ℕ) → Limits (nibe c d) → Room sheet (nibe c d)
unfolding total members content_of all is_byte
data-room none types c d l =
    as_before (rw (shown-data none c d ∙ append-nil (members (nibe c d))) (rows (nibe c d) l).room)
data-room (some look) types c d l = by (is_unsolicited c) refl
  where
    n : length (bytes (nibe c d)) ≡ length d + 4
    n = length-nibe c d

    unsplit : values_of (some look) c d ≡ [] → Room (some look) (nibe c d)
    unsplit e = as_before (rw (shown-data (some look) c d ∙ ap (λ (ms : List Member). members (nibe c d) ++ ms) e ∙ append-nil (members (nibe c d))) (rows (nibe c d) l).room)

    by-split : is_unsolicited c ≡ true → (o : Option (List Pair)) → split_of look d ≡ o → Room (some look) (nibe c d)
    by-split u none e = unsplit (ap (λ (b : Bool). cond b (values look (split_of look d)) []) u ∙ ap (values look) e)
    by-split u (some pairs) e =
        let v : values_of (some look) c d ≡ values look (some pairs) = ap (λ (b : Bool). cond b (values look (split_of look d)) []) u ∙ ap (values look) e in
        let w = computed-splits (λ i t f. types.width i f) l.1.bytes pairs e in
        let t : total (shown (some look) (nibe c d)) ≡ total (members (nibe c d)) + total (values look (some pairs)) =
        ap total (shown-data (some look) c d ∙ ap (λ (ms : List Member). members (nibe c d) ++ ms) v) ∙ data-total c d (values look (some pairs)) in
        split refl (omega (arith, n, t, length-array types pairs d w, byte-digits (one-of-bytes commands c tt l.0), length-hex d)) (omega (arith, n))

    by : (b : Bool) → is_unsolicited c ≡ b → Room (some look) (nibe c d)
    by true u = by-split u (split_of look d) refl
    by false u = unsplit (ap (λ (b : Bool). cond b (values look (split_of look d)) []) u)

module _ {sheet : Option Lookup} (types : InTypes sheet) where
  rooms : (m : Message) → Limits m → Room sheet m
  unfolding content_of
  rooms (read g a) l = unshared types (read g a) refl l
  rooms (set g a out) l = unshared types (set g a out) refl l
  rooms (answer a third out) l = unshared types (answer a third out) refl l
  rooms (press d) l = unshared types (press d) refl l
  rooms tail l = unshared types tail refl l
  rooms (link p) l = unshared types (link p) refl l
  rooms (command i p) l = unshared types (command i p) refl l
  rooms (climate t h) l = unshared types (climate t h) refl l
  rooms (state p) l = unshared types (state p) refl l
  rooms break l = unshared types break refl l
  rooms end l = unshared types end refl l
  rooms (text i p) l = unshared types (text i p) refl l
  rooms (response i p) l = unshared types (response i p) refl l
  rooms (ask r) l = unshared types (ask r) refl l
  rooms (reply r w v) l = valued-room types (reply r w v) r w v refl (omega arith) l.0 l.1 (length-nibe 0x6A (valued r w v) ∙ omega (arith, length-valued r w v))
  rooms (put r w v) l = valued-room types (put r w v) r w v refl (omega arith) l.0 l.1 (length-nibe 0x6B (valued r w v) ∙ omega (arith, length-valued r w v))
  rooms (done ok) l = unshared types (done ok) refl l
  rooms (nibe c d) l = data-room sheet types c d l
  rooms (output w) l = unshared types (output w) refl l
  rooms (input w) l = unshared types (input w) refl l
  rooms (shutter w) l = unshared types (shutter w) refl l
  rooms (beat w) l = unshared types (beat w) refl l
  rooms (homiq w) l = unshared types (homiq w) refl l

length-line : (sheet : Option Lookup) (at len : ℕ) (m : Message) → length (line_with sheet at len m) ≡ length (decimal at) + length (decimal len) + length (name m) + total (shown sheet m) + 24
unfolding line_with total
length-line sheet at len m =
    let ms : List Member = ascii "len" ∶ number len ∷ ascii "msg" ∶ quoted (name m) ∷ shown sheet m in
    omega (arith, length-append (object (ascii "at" ∶ number at ∷ ms)) (ascii "\n"), length-object (ascii "at" ∶ number at) ms, length-quoted (name m))

-- A LINE BY A SHEET FITS ITS ROOM, or has at most 26 bytes a byte of its frame, wherever a place of 20 digits can say that the frame stands
pub data Short (sheet : Option Lookup) (n t : ℕ) : Type 0 where
  as_before : t ≤ line_room n → Short sheet n t
  split : {look : Lookup} → sheet ≡ some look → t ≤ 26 * n → Short sheet n t

line-short : {sheet : Option Lookup} → InTypes sheet → (at : ℕ) (m : Message) → at < 10 ^ 20 → Limits m
    → Short sheet (length (bytes m)) (length (line_with sheet at (length (bytes m)) m))
line-short {sheet} types at m h l = go (rooms types m l)
  where
    n : ℕ
    n = length (bytes m)

    go : Room sheet m → Short sheet (length (bytes m)) (length (line_with sheet at (length (bytes m)) m))
    go (as_before r) = as_before (omega (arith, length-line sheet at (length (bytes m)) m, length-decimal 19 at h, length-decimal 3 (length (bytes m)) (omega (arith, (rows m l).short))))
    go (split e r b) = split e (omega (arith, length-line sheet at (length (bytes m)) m, length-decimal 19 at h, length-decimal 3 (length (bytes m)) (omega (arith, (rows m l).short))))

-- the same of the line of a frame
pub line-shorter : {sheet : Option Lookup} {k : ℕ} {f : List ℕ} {at : ℕ} {t : List ℕ} → InTypes sheet → at < 10 ^ 20 → LineOf sheet k f at t → Short sheet (length f) (length t)
line-shorter {sheet} {k} {f} {at} types h l =
    let m = l.message in
    rw l.is
    (subst (λ (s : List ℕ). Short sheet (length s) (length (line_with sheet at (length s) m))) (sym (stands-bytes l.stands)) (line-short types at m h l.stands.good.limits))

-- A LINE WITHOUT A SHEET FITS ITS ROOM
pub line-room : {k : ℕ} {f : List ℕ} {at : ℕ} {t : List ℕ} → at < 10 ^ 20 → LineOf none k f at t → length t ≤ line_room (length f)
line-room {f = f} {t = t} h l = go (line-shorter no-types h l)
  where
    go : Short none (length f) (length t) → length t ≤ line_room (length f)
    go (as_before x) = x
    go (split {look} e x) = absurd (none-ne-some look e)

-- BY ANY SHEET, A FRAME OF FOUR BYTES OR MORE HAS AT MOST 32 BYTES OF LINE A BYTE
pub line-within : {sheet : Option Lookup} {k : ℕ} {f : List ℕ} {at : ℕ} {t : List ℕ} → InTypes sheet → at < 10 ^ 20 → 4 ≤ length f → LineOf sheet k f at t → length t ≤ 32 * length f
line-within {sheet} {f = f} {t = t} types h least l = go (line-shorter types h l)
  where
    go : Short sheet (length f) (length t) → length t ≤ 32 * length f
    go (as_before x) = omega arith
    go (split e x) = omega arith

-- NO LINE OF A FRAME IS LONGER THAN 26,884 BYTES, and without a sheet than 8,368
pub line-most : {sheet : Option Lookup} {k : ℕ} {f : List ℕ} {at : ℕ} {t : List ℕ} → InTypes sheet → at < 10 ^ 20 → LineOf sheet k f at t → length t ≤ 26884
line-most {sheet} {f = f} {t = t} types h l = go (line-shorter types h l)
  where
    few : length f ≤ 1034
    few = let n : length f ≡ length (bytes l.message) = ap length (stands-bytes l.stands) in omega (arith, bytes_most l.message l.stands.good.limits)

    go : Short sheet (length f) (length t) → length t ≤ 26884
    go (as_before x) = omega (arith, few)
    go (split e x) = omega (arith, few)

pub plain-line-most : {k : ℕ} {f : List ℕ} {at : ℕ} {t : List ℕ} → at < 10 ^ 20 → LineOf none k f at t → length t ≤ 8368
plain-line-most {f = f} h l =
    let n : length f ≡ length (bytes l.message) = ap length (stands-bytes l.stands) in
    omega (arith, line-room h l, bytes_most l.message l.stands.good.limits)

-- ---- by what stands beside the message

nikobus-taken : (e : Nikobus) (s : List ℕ) (m : Message) → SaysNikobus e s m → length (taken m) ≤ length s
nikobus-taken e s m (a-link f a) = rw (a.is, a.digits) (omega arith)
nikobus-taken e s m (another n g) = rw g (nothing e n)
  where
    nothing : (e : Nikobus) → (e ≡ Link → ⊥) → length (taken (of_nikobus e [])) ≤ length s
    nothing (Read g a) n = omega arith
    nothing (Set g a out) n = omega arith
    nothing (Answer a third out) n = omega arith
    nothing (Press d) n = omega arith
    nothing Tail n = omega arith
    nothing Link n = absurd (n refl)

response-taken : (e : Responded) (s : List ℕ) → length (taken (of_response e s)) ≤ length s
response-taken (Climate t h) s = omega arith
response-taken State s = omega arith
response-taken Break s = omega arith
response-taken End s = omega arith
response-taken (Text i) s = omega arith
response-taken (response_cases.Other i) s = omega arith

nibe-taken : (e : Nibe) (s : List ℕ) → length (taken (of_nibe e s)) ≤ length s
nibe-taken (Ask r) s = omega arith
nibe-taken (Reply v) s = omega arith
nibe-taken (Put v) s = omega arith
nibe-taken (Done ok) s = omega arith
nibe-taken (nibe_cases.Other c) s = omega arith

homiq-taken : (e : Homiq) (w : Wire) → taken (of_homiq e w) ≡ homiqs.payload (homiq_of w)
homiq-taken Output w = refl
homiq-taken Input w = refl
homiq-taken Shutter w = refl
homiq-taken Beat w = refl
homiq-taken homiq_cases.Other w = refl

-- what a message takes stands beside it
beside-taken : (e : Coded) (s : List ℕ) (m : Message) → Says e s m → length (taken m) ≤ length s
beside-taken (OnNikobus e) s m x = nikobus-taken e s m x
beside-taken (AsCommand i) s m x = rw x (omega arith)
beside-taken (AsResponse e) s m x = rw x (response-taken e s)
beside-taken (OnNibe e) s m x = rw x (nibe-taken e s)
beside-taken (OnHomiq e) s m x = let h : length (taken m) ≡ length s = ap (λ (n : Message). length (taken n)) x.is ∙ ap length (homiq-taken e x.wire ∙ sym x.payload.laid) in omega arith

-- A LINE IS SHORT FOR WHAT STANDS BESIDE ITS MESSAGE, whatever place and length of 20 digits it says
pub line-bounded : {sheet : Option Lookup} → InTypes sheet → (e : Coded) (s : List ℕ) {at len : ℕ} {t : List ℕ} → at ≤ largest_place → len ≤ largest_place
    → LineSaid sheet (Says e s) at len t → Bounded sheet t (length s)
line-bounded {sheet} types e s {at} {len} h k l = rw l.is (go (rooms types l.message l.good.limits))
  where
    m : Message
    m = l.message

    size : length (line_with sheet at len l.message) ≤ length (name l.message) + total (shown sheet l.message) + 64
    size = omega (arith, length-line sheet at len l.message, length-decimal 19 at (omega arith), length-decimal 19 len (omega arith))

    frame : Fits l.message (length (bytes l.message))
    frame = rows l.message l.good.limits

    more : (sheet : Option Lookup) (n : ℕ) → 8 * n ≤ a_byte sheet * n
    more none n = omega arith
    more (some look) n = omega arith

    go : Room sheet l.message → Bounded sheet (line_with sheet at len l.message) (length s)
    go (as_before r) =
        record {
          most = omega (arith, size, r, frame.beside, beside-taken e s l.message l.said, more sheet (length s));
          short = omega (arith, size, r, frame.short);
        }
    go (split {look} q r b) =
        let a : a_byte sheet ≡ 26 = ap a_byte q in
        record {
          most = rw a (omega (arith, size, r, b, beside-taken e s l.message l.said));
          short = omega (arith, size, r, frame.short);
        }
