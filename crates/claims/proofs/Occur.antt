-- For each public function and each number that it refuses with: arguments with that cause.
-- Assumes nothing.
use Rattle.std.specs.Prelude.{Err}
use mathlib.Core.Bool.{Bool, true, false, not}
use mathlib.Core.List.{List, [], ◌∷◌, ◌++◌}
use mathlib.Core.Logic.{◌⊎◌, inl, inr}
use mathlib.Core.Option.{Option, none, some as the}
use mathlib.Core.Path.{◌≡◌, refl, sym, ap, ◌∙◌, subst}
use Prim.Native.Nat.{ℕ, zero, suc, ◌+◌, ◌≤◌, ◌<◌, ◌/◌, ◌%◌, ◌^◌}
use native.Mathlib.Omega.{arith}
use denote.Ref.{Bor}
use lib.Dec.{T, eqb, leb, lit<, lit≤}
use lib.IntN.{ℤ, pos, nat_abs}
use lib.ListN.{length, get_or, drop, replicate, length-append, length-drop, length-replicate}
use mathlib.Core.Bool.{◌&&◌, ◌||◌}
use Rattle.digits.specs.Paper.Ascii.{ascii}
use Rattle.digits.specs.Paper.Decimal.{decimal, decimal_in, enough}
use Rattle.digits.specs.Paper.Hex.{hex_digit, hex_byte, hex_word, hex_bytes}
use Rattle.digits.specs.Paper.LowFirst.{Width, Held}
use Rattle.digits.proofs.Laws.Decimal.{length_some}
use Rattle.digits.proofs.Laws.Hex.{digit-upper, byte-parts, word-parts}
use Rattle.digits.proofs.Laws.LowFirst.{no-width}
use Rattle.digits.specs.declared.refusal.Refusal.TheVariants.{NoFrame}
use Rattle.numbers.specs.Paper.Answers.{ValueCause, BytesCause, RangeCause, TextCause}
use Rattle.numbers.specs.Paper.Text.{text, text_of, sign, fraction, below_zero}
use Rattle.puts.specs.Paper.Wrote.{RoomCause}
use Rattle.layouts.specs.Paper.Chars.{one_of, all, is_hex, CR, LF}
use Rattle.layouts.specs.Paper.Made.{Wire, Payload}
use Rattle.layouts.specs.Paper.Nikobus as nikobuses
use Rattle.layouts.specs.declared.nest.Direction.TheVariants.{Command}
use Rattle.builds.specs.Paper.Builds.{BuildCause, HomiqCause}
use Rattle.frames.specs.Paper.Kinds.{known, known_kinds, KindCause, Frame}
use Rattle.frames.specs.Paper.Search.{SearchCause, Searches, Leftmost}
use Rattle.frames.specs.Paper.OneFrame.{OneFrameCause}
use Rattle.frames.specs.Paper.Why.{WhyCause}
use Rattle.frames.specs.Work.Seek.{searched}
use Rattle.frames.proofs.Laws.Runs.{leftmost, none_found}
use Rattle.frames.proofs.Theorems.{an-answer, never-empty}
use Rattle.frames.proofs.Known as frames-known
use Rattle.commands.specs.Paper.Acknowledge.{FrameOf, AcknowledgeCause}
use Rattle.commands.proofs.Known as commands-known
use Rattle.messages.specs.Paper.Allowed.{StandingCause}
use Rattle.messages.specs.Paper.Answers.{DecodeCause}
use Rattle.messages.specs.Paper.Meant.{MeantCause}
use Rattle.messages.specs.Paper.Message.{Message, tail, link, end, response, command, row}
use Rattle.messages.specs.Paper.NextId.{NextIdCause}
use Rattle.messages.specs.Paper.Panel.{PairCause, VoltsCause}
use Rattle.messages.specs.Paper.Says.{of_response}
use Rattle.messages.specs.Paper.Table.{Above, content_of, Good, in-put}
use Rattle.messages.specs.declared.Message.TheVariants as coded
use Rattle.messages.specs.declared.Tag.TheVariants as tags
use Rattle.messages.specs.declared.homiq.Homiq.TheVariants.{Beat}
use Rattle.messages.specs.declared.nest.Response.TheVariants as responses
use Rattle.messages.specs.declared.nibe.Nibe.TheVariants.{Put}
use Rattle.messages.proofs.Known as messages-known
use Rattle.commands.specs.Paper.Answers.{EncodeCause, MessageCause}
use Rattle.json_values.specs.Paper.Json.{object}
use Rattle.lines.specs.Paper.WithSheet.{line_with}
use Rattle.lines.specs.Paper.Answers.{LineOf, LineCause, LineByTextCause, SaidCause, NextCause}
use Rattle.lines.proofs.Theorems.{has-line, has-line-said}
use Rattle.book.specs.Paper.Answers.{NoValidBook, OpenCause, EntryCause, EntryLine, EntryLineCause, EntryLineByTextCause, BookLines, ListCause, ListByTextCause, AddCause}
use Rattle.book.specs.Paper.Book.{Entry, Book, Within, book}
use Rattle.book.proofs.Laws.Layout.{length-book}
use Rattle.book.proofs.Theorems.{has-entry, entry-line, book-lines, line-in, last-added, a-book}
use Rattle.book.proofs.Known as book-known
use Rattle.list.proofs.Known as list-known
use Rattle.sheet.specs.Paper.Answers as sheet
use Rattle.sheet.specs.Paper.Map.{sheet_in}
use Rattle.sheet.specs.Paper.Sheet.{Lookup, find as Listed-in}
use Rattle.sheet.proofs.Known as sheet-known
use Rattle.jsontext.specs.Paper.Members as text-members
use Rattle.jsontext.proofs.Known as text-known
use Rattle.claims.specs.Paper.Causes as causes
use Rattle.host.specs.Paper.Answers.{flag}
use Rattle.host.specs.Paper.Panel.{ClimateCause}
use Rattle.claims.specs.Paper.Claim.{Claim, Occur, unread}
use Rattle.claims.specs.Paper.Table.Digits as digits
use Rattle.claims.specs.Paper.Table.Puts as puts
use Rattle.claims.specs.Paper.Table.Numbers as numbers
use Rattle.claims.specs.Paper.Table.Sheet as sheets
use Rattle.asked.specs.Paper.Answers.{AskedCause, ReadCause, beside}
use Rattle.shapes.specs.Paper.Members.{NameCause, names}
use Rattle.asked.proofs.Known as asked-known
use Rattle.claims.specs.Paper.Table.Shapes as shapes
use Rattle.claims.specs.Paper.Table.Asked as askeds
use Rattle.claims.specs.Paper.Table.Jsontext as texts
use Rattle.claims.specs.Paper.Table.Builds as builds
use Rattle.claims.specs.Paper.Table.Frames as frames
use Rattle.claims.specs.Paper.Table.Messages as messages
use Rattle.claims.specs.Paper.Table.Commands as commands
use Rattle.claims.specs.Paper.Table.Lines as lines
use Rattle.claims.specs.Paper.Table.Book as books
use Rattle.claims.specs.Paper.Table.List as lists
use Rattle.claims.specs.Paper.Table.Host as host

-- ---- digits

-- no hex digit is the character 0
no_digit : (v : ℕ) → v < 16 → hex_digit v ≡ 0 → ⊥
no_digit v h e = subst (λ (c : ℕ). T ((leb 48 c && leb c 57) || (leb 65 c && leb c 70))) e (digit-upper v h)

pub decimal-number-of : Occur (digits.decimal-number-of).Cause (digits.decimal-number-of).refusals
decimal-number-of =
    ((record { s = [] }, unread (λ v h e. let none : length (decimal v) ≡ 0 = ap length e in omega (arith, length_some v, none))), tt)

pub hex-value : Occur (digits.hex-value).Cause (digits.hex-value).refusals
hex-value = ((record { c = 0 }, unread (λ v h e. no_digit v h (ap (λ (l : List ℕ). get_or l 0 0) e))), tt)

pub hex-byte-of : Occur (digits.hex-byte-of).Cause (digits.hex-byte-of).refusals
hex-byte-of = ((record { high = 0; low = 0 }, unread (λ v h e. no_digit (v % 16) (omega arith) (byte-parts v 0 0 h e).1)), tt)

pub hex-word-of : Occur (digits.hex-word-of).Cause (digits.hex-word-of).refusals
hex-word-of = ((record { d = 0 ∷ 0 ∷ 0 ∷ 0 ∷ [] }, unread (λ v h e. no_digit (v % 256 % 16) (omega arith) (byte-parts (v % 256) 0 0 (omega arith) (word-parts v 0 0 0 0 e).1).1)), tt)

pub low-first-number-of : Occur (digits.low-first-number-of).Cause (digits.low-first-number-of).refusals
low-first-number-of =
    ((record { s = [] }, unread (λ v h e. no-width (λ i. omega (arith, i)) (λ i. omega (arith, i)) (λ i. omega (arith, i)) h.known)), tt)

-- ---- puts

pub front : Occur (puts.front).Cause (puts.front).refusals
front = ((record { s = 0 ∷ []; room = [] }, RoomCause.short (lit< tt)), tt)

-- ---- numbers

-- there is no width of 3 bytes
no-three : Width 3 → ⊥
no-three = no-width (λ i. omega (arith, i)) (λ i. omega (arith, i)) (λ i. omega (arith, i))

-- no text is empty
some-text : (z : ℤ) (d : ℕ) → 0 < length (text z d)
unfolding text_of
some-text z d =
    let whole : List ℕ = decimal (nat_abs z / 10 ^ d) in
    omega (arith, length-append (sign (below_zero z)) (whole ++ fraction d (nat_abs z)), length-append whole (fraction d (nat_abs z)), length_some (nat_abs z / 10 ^ d))

pub byte-values-write : Occur (numbers.byte-values-write).Cause (numbers.byte-values-write).refusals
byte-values-write = (
  (record { raw = pos 0; width = 3; signed = false; room = [] }, ValueCause.width no-three),
  (
    (record { raw = pos 256; width = 1; signed = false; room = [] }, ValueCause.held (λ h. h.high.le)),
    ((record { raw = pos 0; width = 1; signed = false; room = [] }, ValueCause.room (lit< tt)), tt),
  ),
)

pub byte-values-read : Occur (numbers.byte-values-read).Cause (numbers.byte-values-read).refusals
byte-values-read = (
  (record { s = []; width = 3; signed = false }, BytesCause.width no-three),
  ((record { s = []; width = 1; signed = false }, BytesCause.count (λ e. omega (arith, e))), tt),
)

pub panel-of : Occur (numbers.panel-of).Cause (numbers.panel-of).refusals
panel-of = ((record { raw = pos 4294967296 }, RangeCause.range (λ h. h.high.le)), tt)

pub single-fits : Occur (numbers.single-fits).Cause (numbers.single-fits).refusals
single-fits = ((record { raw = pos 4294967296 }, RangeCause.range (λ h. h.high.le)), tt)

pub text-write : Occur (numbers.text-write).Cause (numbers.text-write).refusals
text-write = (
  (record { raw = pos 0; decimals = 4; room = [] }, TextCause.decimals (lit< tt)),
  (
    (record { raw = pos 4294967296; decimals = 0; room = [] }, TextCause.range (λ h. h.high.le)),
    ((record { raw = pos 0; decimals = 0; room = [] }, TextCause.room (some-text (pos 0) 0)), tt),
  ),
)

pub text-read : Occur (numbers.text-read).Cause (numbers.text-read).refusals
text-read = ((record { t = [] }, unread (λ n h e. let none : length (text n.raw n.decimals) ≡ 0 = ap length e in omega (arith, some-text n.raw n.decimals, none))), tt)

-- ---- builds

-- no payload of Homiq is empty: it ends with the type
no_end : (x : List ℕ) (c : ℕ) → [] ≡ x ++ (c ∷ []) → ⊥
no_end x c e = let none : 0 ≡ length (x ++ (c ∷ [])) = ap length e in omega (arith, none, length-append x (c ∷ []))

no_payload : {w : Wire} → Payload [] w → ⊥
no_payload {w} p =
    no_end (w.cmd ++ ascii ";" ++ w.val ++ ascii ";" ++ w.src ++ ascii ";" ++ w.dst ++ ascii ";" ++ decimal w.id ++ ascii ";") w.type p.laid

-- one that there is
third-payload : Payload (ascii "I.3;1;0H;0;42;s") commands-known.third
unfolding decimal decimal_in enough
third-payload = record { limits = (commands-known.g).limits; laid = refl }

pub homiq-frame : Occur (builds.homiq-frame).Cause (builds.homiq-frame).refusals
homiq-frame = (
  (record { payload = []; room = [] }, HomiqCause.outside (λ w. no_payload)),
  ((record { payload = ascii "I.3;1;0H;0;42;s"; room = [] }, HomiqCause.short third-payload (omega arith)), tt),
)

pub nest-frame : Occur (builds.nest-frame).Cause (builds.nest-frame).refusals
nest-frame = (
  (record { direction = Command; id = 0; payload = replicate 1025 0; room = [] }, BuildCause.outside (λ h. omega (arith, h.short, length-replicate {A = ℕ} 1025 0))),
  ((record { direction = Command; id = 0; payload = []; room = [] }, BuildCause.short (omega arith)), tt),
)

pub nibe-frame : Occur (builds.nibe-frame).Cause (builds.nibe-frame).refusals
unfolding one_of
nibe-frame = (
  (record { command = 0; content = []; room = [] }, BuildCause.outside (λ h. h.command)),
  ((record { command = 0x60; content = []; room = [] }, BuildCause.short (lit< tt)), tt),
)

pub nikobus-link : Occur (builds.nikobus-link).Cause (builds.nikobus-link).refusals
nikobus-link = (
  (record { payload = []; room = [] }, BuildCause.outside no-link),
  ((record { payload = 0 ∷ []; room = [] }, BuildCause.short (omega arith)), tt),
)
  where
    no-link : {crc16 crc8 : ℕ} → nikobuses.Limits (nikobuses.link [] crc16 crc8) → ⊥
    no-link (nikobuses.link-limits some few bytes c16 c8) = omega (arith, some)

pub nikobus-press : Occur (builds.nikobus-press).Cause (builds.nikobus-press).refusals
nikobus-press = (
  (record { digits = []; room = [] }, BuildCause.outside no-press),
  ((record { digits = ascii "000000"; room = [] }, BuildCause.short (lit< tt)), tt),
)
  where
    no-press : nikobuses.Limits (nikobuses.press []) → ⊥
    no-press (nikobuses.press-limits six hex) = omega (arith, six)

pub nikobus-tail : Occur (builds.nikobus-tail).Cause (builds.nikobus-tail).refusals
nikobus-tail = ((record { room = [] }, BuildCause.short (lit< tt)), tt)

-- ---- frames

-- 0 is no kind; and behind the end of a buffer stands no frame
unknown : known 0 ≡ false
unfolding known one_of
unknown = refl

no_more : Searches 4 (0xC0 ∷ []) 1 (Err NoFrame)
no_more = subst (Searches 4 (0xC0 ∷ []) 1) frames-known.at-the-end (an-answer 4 (0xC0 ∷ []) 1)

no-frame : {k : ℕ} → Frame k [] → ⊥
no-frame f = omega (arith, never-empty f)

-- three inputs of the search that it refuses
pub unsearched : SearchCause 0 [] 0 2 × SearchCause 1 [] 1 3 × SearchCause 4 (0xC0 ∷ []) 1 1
unsearched = (SearchCause.no_kind unknown, SearchCause.no_place (lit< tt), SearchCause.no-frame (none_found no_more))

pub search : Occur (frames.search).Cause (frames.search).refusals
search = (
  (record { kind = 0; buffer = []; place = 0 }, unsearched.0),
  ((record { kind = 1; buffer = []; place = 1 }, unsearched.1), ((record { kind = 4; buffer = 0xC0 ∷ []; place = 1 }, unsearched.2), tt)),
)

-- lent bytes, somewhere
abbrev lent : List ℕ → Bor (List ℕ)
lent s = record { ref_ptr = (0, 0); now = s }

pub frame : Occur (frames.frame).Cause (frames.frame).refusals
frame = (
  (record { kind = 0; buffer = lent []; place = 0 }, unsearched.0),
  ((record { kind = 1; buffer = lent []; place = 1 }, unsearched.1), ((record { kind = 4; buffer = lent (0xC0 ∷ []); place = 1 }, unsearched.2), tt)),
)

pub payload : Occur (frames.payload).Cause (frames.payload).refusals
payload = (
  (record { kind = 0; buffer = lent []; place = 0 }, unsearched.0),
  ((record { kind = 1; buffer = lent []; place = 1 }, unsearched.1), ((record { kind = 4; buffer = lent (0xC0 ∷ []); place = 1 }, unsearched.2), tt)),
)

pub one-frame : Occur (frames.one-frame).Cause (frames.one-frame).refusals
one-frame = ((record { kind = 0; s = [] }, OneFrameCause.no_kind unknown), ((record { kind = 1; s = [] }, OneFrameCause.no-frame no-frame), tt))

pub why : Occur (frames.why).Cause (frames.why).refusals
why = (
  (record { kind = 0; buffer = []; place = 0 }, WhyCause.no_kind unknown),
  ((record { kind = 1; buffer = []; place = 1 }, WhyCause.no_place (lit< tt)), tt),
)

pub kinds-of : Occur (frames.kinds-of).Cause (frames.kinds-of).refusals
kinds-of = ((record { number = 0 }, KindCause.no_kind unknown), tt)

-- ---- messages

pub decode : Occur (messages.decode).Cause (messages.decode).refusals
decode = (
  (record { kind = 0; frame = [] }, DecodeCause.no_kind unknown),
  ((record { kind = 1; frame = [] }, DecodeCause.no-message (λ m s. no-frame s.frame)), tt),
)

pub find : Occur (messages.find).Cause (messages.find).refusals
find = (
  (record { kind = 0; buffer = []; place = 0 }, unsearched.0),
  ((record { kind = 1; buffer = []; place = 1 }, unsearched.1), ((record { kind = 4; buffer = 0xC0 ∷ []; place = 1 }, unsearched.2), tt)),
)

pub content : Occur (messages.content).Cause (messages.content).refusals
content = (
  (record { kind = 0; frame = lent [] }, DecodeCause.no_kind unknown),
  ((record { kind = 1; frame = lent [] }, DecodeCause.no-message (λ m s. no-frame s.frame)), tt),
)

pub of : Occur (messages.of).Cause (messages.of).refusals
of = ((record { tag = tags.Homiq; payload = [] }, MeantCause.no-message (λ m g w. no_payload w.payload)), tt)

-- a response that has the content of `end`
taken : Above (response 0x002F [])
unfolding content_of
taken = record { other = end; above = lit< tt; limits = tt; same = refl }

pub allowed : Occur (messages.allowed).Cause (messages.allowed).refusals
allowed = (
  (record { message = coded.Homiq Beat; content = [] }, StandingCause.outside (λ m s l. no_payload s.payload)),
  ((record { message = coded.Response (responses.Other 0x002F); content = [] }, StandingCause.taken refl taken), tt),
)

pub homiq-next-id : Occur (messages.homiq-next-id).Cause (messages.homiq-next-id).refusals
homiq-next-id = ((record { id = 512 }, NextIdCause.no-id (lit< tt)), tt)

pub nest-for-panel : Occur (messages.nest-for-panel).Cause (messages.nest-for-panel).refusals
nest-for-panel = (
  (record { message = responses.Break }, PairCause.other (λ t h e. let rows = ap (λ r. row (of_response r [])) e in omega (arith, rows))),
  tt,
)

pub nest-voltages : Occur (messages.nest-voltages).Cause (messages.nest-voltages).refusals
nest-voltages = ((record { payload = [] }, VoltsCause.short (lit< tt)), tt)

-- ---- commands

pub encode : Occur (commands.encode).Cause (commands.encode).refusals
unfolding content_of
encode = (
  (record { kind = 0; message = coded.Command 0; content = []; room = [] }, EncodeCause.no_kind unknown),
  (
    (
      record { kind = 4; message = coded.Nibe (Put (record { register = 0; width = 3; value = 0 })); content = []; room = [] },
      EncodeCause.no-width refl (in-put refl) no-three,
    ),
    (
      (record { kind = 1; message = coded.Command 0; content = []; room = [] }, EncodeCause.other-kind (λ e. omega (arith, e))),
      (
        (
          record { kind = 3; message = coded.Response (responses.Other 0x002F); content = []; room = [] },
          EncodeCause.by-message (MessageCause.taken refl taken),
        ),
        (
          (
            record { kind = 2; message = coded.Command 0; content = []; room = [] },
            EncodeCause.by-message
                (MessageCause.short refl (omega arith)),
          ),
          tt,
        ),
      ),
    ),
  ),
)

pub acknowledge : Occur (commands.acknowledge).Cause (commands.acknowledge).refusals
acknowledge = (
  (record { frame = []; room = [] }, AcknowledgeCause.no-frame (λ w f. let none = ap length f.frame in omega (arith, none))),
  (
    (
      record { frame = ascii "<;I.3;1;0H;0;42;s;134;>" ++ (CR ∷ LF ∷ []); room = [] },
      AcknowledgeCause.short commands-known.g (omega arith),
    ),
    tt,
  ),
)

-- ---- lines

-- the reset frame and its message
abbrev reset : List ℕ
reset = 0xD5 ∷ 0xAA ∷ 0x96 ∷ 0xFF ∷ 0x00 ∷ 0x00 ∷ 0x00 ∷ 0xA3 ∷ 0x4B ∷ []

reset-line : {sheet : Option Lookup} → (t : List ℕ) × LineOf sheet 2 reset 0 t
reset-line = has-line 0 (messages-known.c).frame

-- no line is empty
some-line : {sheet : Option Lookup} {k at : ℕ} {f t : List ℕ} → LineOf sheet k f at t → 0 < length t
unfolding line_with object
some-line l = subst (λ (t : List ℕ). 0 < length t) (sym l.is) (omega arith)

pub write : Occur (lines.write).Cause (lines.write).refusals
write = (
  (record { kind = 0; frame = []; at = 0; room = [] }, LineCause.no_kind unknown),
  (
    (record { kind = 1; frame = []; at = 0; room = [] }, LineCause.no-frame no-frame),
    ((record { kind = 2; frame = reset; at = 0; room = [] }, LineCause.short reset-line.1 (some-line reset-line.1)), tt),
  ),
)

pub write-mapped : Occur (lines.write-mapped).Cause (lines.write-mapped).refusals
write-mapped = (
  (record { kind = 0; frame = []; at = 0; map = []; room = [] }, LineCause.no_kind unknown),
  (
    (record { kind = 1; frame = []; at = 0; map = []; room = [] }, LineCause.no-frame no-frame),
    ((record { kind = 2; frame = reset; at = 0; map = []; room = [] }, LineCause.short reset-line.1 (some-line reset-line.1)), tt),
  ),
)

pub write-with : Occur (lines.write-with).Cause (lines.write-with).refusals
write-with = (
  (record { kind = 0; frame = []; at = 0; text = []; room = [] }, LineByTextCause.no_kind unknown),
  (
    (record { kind = 1; frame = []; at = 0; text = []; room = [] }, LineByTextCause.no-frame no-frame),
    (
      (record { kind = 1; frame = []; at = 0; text = ascii "x"; room = [] }, LineByTextCause.bad-sheet sheet-known.no-sheet),
      (
        (
          record { kind = 2; frame = reset; at = 0; text = []; room = [] },
          LineByTextCause.short (record { rows = []; is = sheet-known.empty; line = reset-line.1 }) (some-line reset-line.1),
        ),
        tt,
      ),
    ),
  ),
)

-- the reset frame in a capture, and its line
reset-found : Leftmost 2 reset 0 (record { start = 0; len = 9; from = 7; to = 7 })
reset-found = leftmost (subst (Searches 2 reset 0) frames-known.c (an-answer 2 reset 0))

pub next : Occur (lines.next).Cause (lines.next).refusals
next = (
  (record { kind = 0; capture = []; place = 0; map = []; room = []; to = 0 }, NextCause.searched unsearched.0),
  (
    (record { kind = 1; capture = []; place = 1; map = []; room = []; to = 0 }, NextCause.searched unsearched.1),
    (
      (
        record { kind = 2; capture = reset; place = 0; map = []; room = []; to = 0 },
        NextCause.short reset-found reset-line.1
            (some-line reset-line.1),
      ),
      ((record { kind = 4; capture = 0xC0 ∷ []; place = 1; map = []; room = []; to = 0 }, NextCause.searched unsearched.2), tt),
    ),
  ),
)

pub measure : Occur (lines.measure).Cause (lines.measure).refusals
measure = (
  (record { kind = 0; capture = []; place = 0; map = [] }, unsearched.0),
  ((record { kind = 1; capture = []; place = 1; map = [] }, unsearched.1), ((record { kind = 4; capture = 0xC0 ∷ []; place = 1; map = [] }, unsearched.2), tt)),
)

pub of-message : Occur (lines.of).Cause (lines.of).refusals
unfolding line_with object
of-message = (
  (record { message = coded.Homiq Beat; content = []; at = 0; len = 0; room = []; to = 0 }, SaidCause.no-message (λ m g s. no_payload s.payload)),
  (
    (
      record { message = coded.Command 0x00FF; content = []; at = 0; len = 9; room = []; to = 0 },
      SaidCause.short (record { message = command 0x00FF []; good = (messages-known.c).good; said = refl; is = refl }) (omega arith),
    ),
    tt,
  ),
)

pub put-content : Occur (lines.put-content).Cause (lines.put-content).refusals
put-content = (
  (record { tag = tags.Homiq; payload = []; at = 0; len = 0; map = []; room = []; to = 0 }, MeantCause.no-message (λ m g w. no_payload w.payload)),
  tt,
)

-- ---- book

no-book : NoValidBook []
no-book es b = let none : 0 ≡ length (book es) = ap length b.is in omega (arith, none, length-book es)

-- the empty book, and that of the reset frame with its line
abbrev empty : List ℕ
empty = 0x00 ∷ 0x00 ∷ 0x06 ∷ 0x00 ∷ 0x00 ∷ 0x00 ∷ []

first-line : {sheet : Option Lookup} {s : List ℕ} {es : List Entry} → Book s es → 0 < length es → (t : List ℕ) × EntryLine sheet s 0 t
first-line {es = es} b h = let n = has-entry es 0 h in entry-line b n.1.1

reset-entry : (sheet : Option Lookup) → (t : List ℕ) × EntryLine sheet book-known.reset_book 0 t
reset-entry sheet = first-line book-known.reset-alone (lit< tt)

some-lines : {sheet : Option Lookup} {t : List ℕ} → BookLines sheet book-known.reset_book t → 0 < length t
some-lines {sheet} {t} l =
    let e = reset-entry sheet in
    let at = line-in l e.1 in
    let size : length t ≡ length (at.0 ++ (e.0 ++ at.1)) = ap length at.2 in
    omega (arith, size, length-append at.0 (e.0 ++ at.1), length-append e.0 at.1, some-line e.1.line)

pub opening : Occur (books.opening).Cause (books.opening).refusals
opening = ((record { book = [] }, OpenCause.no-book no-book), tt)

pub entry : Occur (books.entry).Cause (books.entry).refusals
entry = (
  (record { book = []; number = 0 }, EntryCause.no-book no-book),
  ((record { book = empty; number = 0 }, EntryCause.no-entry book-known.k (lit≤ tt)), tt),
)

pub book-frame : Occur (books.frame).Cause (books.frame).refusals
book-frame = (
  (record { book = lent []; number = 0 }, EntryCause.no-book no-book),
  ((record { book = lent empty; number = 0 }, EntryCause.no-entry book-known.k (lit≤ tt)), tt),
)

pub entry-line-of : Occur (books.line).Cause (books.line).refusals
entry-line-of =
    let e = reset-entry none in (
      (record { book = []; number = 0; room = [] }, EntryLineCause.no-book no-book),
      (
        (record { book = empty; number = 0; room = [] }, EntryLineCause.no-entry book-known.k (lit≤ tt)),
        ((record { book = book-known.reset_book; number = 0; room = [] }, EntryLineCause.short e.1 (some-line e.1.line)), tt),
      ),
    )

pub entry-line-mapped : Occur (books.line-mapped).Cause (books.line-mapped).refusals
entry-line-mapped =
    let e = reset-entry (sheet_in []) in (
      (record { book = []; number = 0; map = []; room = [] }, EntryLineCause.no-book no-book),
      (
        (record { book = empty; number = 0; map = []; room = [] }, EntryLineCause.no-entry book-known.k (lit≤ tt)),
        ((record { book = book-known.reset_book; number = 0; map = []; room = [] }, EntryLineCause.short e.1 (some-line e.1.line)), tt),
      ),
    )

pub entry-line-with : Occur (books.line-with).Cause (books.line-with).refusals
entry-line-with =
    let e = reset-entry (the (Listed-in [])) in (
      (record { book = []; number = 0; text = []; room = [] }, EntryLineByTextCause.no-book no-book),
      (
        (record { book = empty; number = 0; text = []; room = [] }, EntryLineByTextCause.no-entry book-known.k (lit≤ tt)),
        (
          (record { book = []; number = 0; text = ascii "x"; room = [] }, EntryLineByTextCause.bad-sheet sheet-known.no-sheet),
          (
            (
              record { book = book-known.reset_book; number = 0; text = []; room = [] },
              EntryLineByTextCause.short (record { rows = []; is = sheet-known.empty; line = e.1 }) (some-line e.1.line),
            ),
            tt,
          ),
        ),
      ),
    )

pub list : Occur (books.list).Cause (books.list).refusals
list =
    let all = book-lines book-known.reset-alone in (
      (record { book = []; room = [] }, ListCause.no-book no-book),
      ((record { book = book-known.reset_book; room = [] }, ListCause.short all.1 (some-lines all.1)), tt),
    )

pub list-mapped : Occur (books.list-mapped).Cause (books.list-mapped).refusals
list-mapped =
    let all = book-lines book-known.reset-alone in (
      (record { book = []; map = []; room = [] }, ListCause.no-book no-book),
      ((record { book = book-known.reset_book; map = []; room = [] }, ListCause.short all.1 (some-lines all.1)), tt),
    )

pub list-with : Occur (books.list-with).Cause (books.list-with).refusals
list-with =
    let all = book-lines book-known.reset-alone in (
      (record { book = []; text = []; room = [] }, ListByTextCause.no-book no-book),
      (
        (record { book = []; text = ascii "x"; room = [] }, ListByTextCause.bad-sheet sheet-known.no-sheet),
        (
          (
            record { book = book-known.reset_book; text = []; room = [] },
            ListByTextCause.short (record { rows = []; is = sheet-known.empty; lines = all.1 }) (some-lines all.1),
          ),
          tt,
        ),
      ),
    )

pub add : Occur (books.add).Cause (books.add).refusals
add = (
  (record { book = []; kind = 0; frame = []; room = [] }, AddCause.no-book no-book),
  (
    (record { book = empty; kind = 0; frame = []; room = [] }, AddCause.no_kind unknown),
    (
      (record { book = empty; kind = 1; frame = []; room = [] }, AddCause.no-frame no-frame),
      (
        (
          record { book = empty; kind = 2; frame = reset; room = [] },
          AddCause.short (record { all = []; valid = book-known.k; new = book-known.reset-alone }) (lit< tt),
        ),
        tt,
      ),
    ),
  ),
)

-- ---- list

pub listing : Occur (lists.write).Cause (lists.write).refusals
listing = ((record { input = []; room = [] }, causes.short list-known.no_bytes (lit< tt)), tt)

pub listing-mapped : Occur (lists.write-mapped).Cause (lists.write-mapped).refusals
listing-mapped = ((record { input = []; map = []; room = [] }, causes.short list-known.no_bytes (lit< tt)), tt)

pub listing-with : Occur (lists.write-with).Cause (lists.write-with).refusals
listing-with = ((record { input = []; text = []; room = [] }, causes.short list-known.no_bytes (lit< tt)), tt)

-- ---- sheet

-- no sheet, an empty one, and one of one row; data and pairs of one byte of that row's register
pub sheet-opening : Occur (sheets.opening).Cause (sheets.opening).refusals
sheet-opening = ((record { text = ascii "x" }, sheet.OpenCause.bad-sheet sheet-known.no-sheet), tt)

pub sheet-type-of : Occur (sheets.type-of).Cause (sheets.type-of).refusals
sheet-type-of = (
  (record { text = ascii "x"; register = 0 }, sheet.TypeCause.bad-sheet sheet-known.no-sheet),
  ((record { text = []; register = 0 }, sheet.TypeCause.unlisted sheet-known.empty sheet-known.not_found), tt),
)

pub sheet-split : Occur (sheets.split).Cause (sheets.split).refusals
sheet-split = (
  (record { command = 0; content = []; text = []; room = [] }, sheet.SplitCause.other-command sheet-known.no-command),
  (
    (record { command = 0; content = []; text = ascii "x"; room = [] }, sheet.SplitCause.bad-sheet sheet-known.no-sheet),
    (
      (record { command = 0; content = 0 ∷ []; text = []; room = [] }, sheet.SplitCause.no-split sheet-known.empty sheet-known.no-split),
      (
        (
          record { command = 0; content = sheet-known.zero_data; text = sheet-known.zero_text; room = [] },
          sheet.SplitCause.short sheet-known.zero-sheet sheet-known.zero-splits sheet-known.zero-bytes,
        ),
        tt,
      ),
    ),
  ),
)

pub sheet-join : Occur (sheets.join).Cause (sheets.join).refusals
sheet-join = (
  (record { command = 0; pairs = []; text = []; room = [] }, sheet.JoinCause.other-command sheet-known.no-command),
  (
    (record { command = 0; pairs = []; text = ascii "x"; room = [] }, sheet.JoinCause.bad-sheet sheet-known.no-sheet),
    (
      (
        record { command = 0; pairs = sheet-known.zero_ten; text = []; room = [] },
        sheet.JoinCause.unlisted sheet-known.empty sheet-known.zero-pairs sheet-known.not_listed,
      ),
      (
        (
          record { command = 0; pairs = sheet-known.zero_ten; text = sheet-known.zero_text; room = [] },
          sheet.JoinCause.short sheet-known.zero-sheet sheet-known.zero-pairs sheet-known.zero-splits (lit< tt),
        ),
        tt,
      ),
    ),
  ),
)

pub sheet-map : Occur (sheets.map).Cause (sheets.map).refusals
sheet-map = (
  (record { text = ascii "x"; map = [] }, sheet.MapCause.bad-sheet sheet-known.no-sheet),
  ((record { text = []; map = [] }, sheet.MapCause.short (lit< tt)), tt),
)

pub sheet-type-in : Occur (sheets.type-in).Cause (sheets.type-in).refusals
sheet-type-in = ((record { map = []; register = 0 }, sheet.TypeInCause.unlisted sheet-known.not-in-map), tt)

-- ---- jsontext

-- the empty text, and a string of one character
pub text-count : Occur (texts.count).Cause (texts.count).refusals
text-count = ((record { text = [] }, text-members.CountCause.no-object text-known.no-object), tt)

pub text-value-of : Occur (texts.value_of).Cause (texts.value_of).refusals
text-value-of = ((record { text = []; name = [] }, text-members.ValueCause.no_value (λ ms m x f. text-known.no-object ms x)), tt)

pub text-characters : Occur (texts.characters).Cause (texts.characters).refusals
text-characters = (
  (record { text = []; room = [] }, text-members.CharactersCause.no-string text-known.no-string),
  ((record { text = ascii "\"\\n\""; room = [] }, text-members.CharactersCause.short text-known.a-string (lit< tt)), tt),
)

-- ---- shapes

pub name_of : Occur (shapes.name_of).Cause (shapes.name_of).refusals
unfolding names
name_of = (
  (record { row = 0; member = 0; room = [] }, NameCause.no_name (lit≤ tt)),
  ((record { row = 1; member = 0; room = [] }, NameCause.short (lit< tt) (lit< tt)), tt),
)

-- ---- asked

-- a name twice; the empty text; a link with the content of a read; no room
pub asked-read : Occur (askeds.read).Cause (askeds.read).refusals
unfolding beside hex_bytes hex_byte
asked-read = (
  (record { text = text-known.twice; room = [] }, AskedCause.not-json text-known.not-in-the-grammar),
  (
    (record { text = []; room = [] }, AskedCause.no-message asked-known.no-command),
    (
      (record { text = []; room = [] }, AskedCause.by-message (ReadCause.standing (StandingCause.outside (λ m x l. asked-known.means-nothing m x)))),
      (
        (record { text = asked-known.link_text; room = [] }, AskedCause.by-message (ReadCause.standing (StandingCause.taken asked-known.a-link asked-known.its-above))),
        ((record { text = asked-known.link_text; room = [] }, AskedCause.by-message (ReadCause.short (link (0x12 ∷ 0x07 ∷ 0x47 ∷ [])) asked-known.a-link (lit< tt))), tt),
      ),
    ),
  ),
)

pub asked-encode : Occur (askeds.encode).Cause (askeds.encode).refusals
unfolding content_of
asked-encode = (
  (record { text = text-known.twice; room = [] }, AskedCause.not-json text-known.not-in-the-grammar),
  (
    (record { text = []; room = [] }, AskedCause.no-message asked-known.no-command),
    (
      (record { text = []; room = [] }, AskedCause.by-message (MessageCause.outside (λ m x l. asked-known.means-nothing m x))),
      (
        (record { text = asked-known.link_text; room = [] }, AskedCause.by-message (MessageCause.taken asked-known.a-link asked-known.its-above)),
        ((record { text = asked-known.tail_text; room = [] }, AskedCause.by-message (MessageCause.short {m = tail} asked-known.a-tail (omega arith))), tt),
      ),
    ),
  ),
)

-- ---- host

-- a call for C has the causes of what it calls
as_called : {R S : Type 0} (c : Claim R) (d : Claim S) (f : c.Args → d.Args) → ((a : c.Args) (n : ℕ) → c.Cause a n → d.Cause (f a) n)
    → Occur c.Cause c.refusals → Occur d.Cause c.refusals
as_called c d f still = go c.refusals
  where
    go : (l : List ℕ) → Occur c.Cause l → Occur d.Cause l
    go [] o = tt
    go (n ∷ l) o = ((f o.0.0, still o.0.0 n o.0.1), go l o.1)

pub host-search : Occur (host.search).Cause (host.search).refusals
host-search = as_called frames.search host.search (λ a. record { kind = a.kind; buffer = a.buffer; place = a.place }) (λ a n c. c) search

pub host-why : Occur (host.why).Cause (host.why).refusals
host-why = as_called frames.why host.why (λ a. record { kind = a.kind; buffer = a.buffer; place = a.place }) (λ a n c. c) why

pub host-one-frame : Occur (host.one-frame).Cause (host.one-frame).refusals
host-one-frame = as_called frames.one-frame host.one-frame (λ a. record { kind = a.kind; frame = a.s }) (λ a n c. c) one-frame

pub host-text-of : Occur (host.text-of).Cause (host.text-of).refusals
host-text-of =
    as_called numbers.text-write host.text-of (λ a. record { raw = a.raw; decimals = a.decimals; room = a.room }) (λ a n c. c) text-write

pub host-number-of : Occur (host.number_of).Cause (host.number_of).refusals
host-number-of = as_called numbers.text-read host.number_of (λ a. record { text = a.t }) (λ a n c. c) text-read

pub host-value : Occur (host.value).Cause (host.value).refusals
host-value =
    as_called numbers.byte-values-write host.value
    (λ a. record { raw = a.raw; width = a.width; is_signed = flag a.signed; room = a.room }) (λ a n c. flagged a.signed c) byte-values-write
  where
    flagged : {w n no : ℕ} {z : ℤ} (b : Bool) → ValueCause w b z n no → ValueCause w (not (eqb (flag b) 0)) z n no
    flagged true c = c
    flagged false c = c

pub host-value-read : Occur (host.value_read).Cause (host.value_read).refusals
host-value-read =
    as_called numbers.byte-values-read host.value_read (λ a. record { bytes = a.s; width = a.width; is_signed = flag a.signed })
    (λ a n c. c) byte-values-read

pub host-fits : Occur (host.fits).Cause (host.fits).refusals
host-fits = as_called numbers.single-fits host.fits (λ a. record { raw = a.raw }) (λ a n c. c) single-fits

pub host-panel : Occur (host.panel).Cause (host.panel).refusals
host-panel = as_called numbers.panel-of host.panel (λ a. record { raw = a.raw }) (λ a n c. c) panel-of

pub host-climate : Occur (host.climate).Cause (host.climate).refusals
host-climate = ((record { temperature = pos 32768; humidity = 0 }, ClimateCause.not-signed (λ h. h.high.le)), tt)

pub host-line : Occur (host.line).Cause (host.line).refusals
host-line = as_called lines.write host.line (λ a. record { kind = a.kind; frame = a.frame; at = a.at; room = a.room }) (λ a n c. c) write

pub host-line-with : Occur (host.line-with).Cause (host.line-with).refusals
host-line-with =
    as_called lines.write-mapped host.line-with (λ a. record { kind = a.kind; frame = a.frame; at = a.at; map = a.map; room = a.room }) (λ a n c. c)
    write-mapped

-- what is left of a room is a room
pub host-line-next-with : Occur (host.line-next-with).Cause (host.line-next-with).refusals
host-line-next-with =
    as_called lines.next host.line-next-with
    (λ a. record { kind = a.kind; capture = a.capture; place = a.place; map = a.map; room = drop a.to a.room })
    (λ a n c. subst (λ (left : ℕ). NextCause (sheet_in a.map) a.kind a.capture a.place left n) (sym (length-drop a.to a.room)) c) next

pub host-next-mapped : Occur (host.next-mapped).Cause (host.next-mapped).refusals
host-next-mapped =
    as_called lines.next host.next-mapped
    (λ a. record { kind = a.kind; capture = a.capture; place = a.place; map = a.map; room = drop a.to a.room })
    (λ a n c. subst (λ (left : ℕ). NextCause (sheet_in a.map) a.kind a.capture a.place left n) (sym (length-drop a.to a.room)) c) next

pub host-line-next : Occur (host.line-next).Cause (host.line-next).refusals
host-line-next = (
  (record { kind = 0; capture = []; place = 0; room = [] }, NextCause.searched unsearched.0),
  (
    (record { kind = 1; capture = []; place = 1; room = [] }, NextCause.searched unsearched.1),
    (
      (record { kind = 2; capture = reset; place = 0; room = [] }, NextCause.short reset-found reset-line.1 (some-line reset-line.1)),
      ((record { kind = 4; capture = 0xC0 ∷ []; place = 1; room = [] }, NextCause.searched unsearched.2), tt),
    ),
  ),
)

pub host-listing : Occur (host.listing).Cause (host.listing).refusals
host-listing = as_called lists.write host.listing (λ a. record { input = a.input; room = a.room }) (λ a n c. c) listing

pub host-listing-with : Occur (host.listing-with).Cause (host.listing-with).refusals
host-listing-with =
    as_called lists.write-mapped host.listing-with (λ a. record { input = a.input; map = a.map; room = a.room }) (λ a n c. c) listing-mapped

pub host-acknowledge : Occur (host.acknowledge).Cause (host.acknowledge).refusals
host-acknowledge = as_called commands.acknowledge host.acknowledge (λ a. record { frame = a.frame; room = a.room }) (λ a n c. c) acknowledge

pub host-encode : Occur (host.encode).Cause (host.encode).refusals
host-encode = as_called askeds.encode host.encode (λ a. record { text = a.text; room = a.room }) (λ a n c. c) asked-encode

pub host-sheet-map : Occur (host.sheet-map).Cause (host.sheet-map).refusals
host-sheet-map = as_called sheets.map host.sheet-map (λ a. record { text = a.text; map = a.map }) (λ a n c. c) sheet-map

pub host-book-open : Occur (host.book-open).Cause (host.book-open).refusals
host-book-open = as_called books.opening host.book-open (λ a. record { book = a.book }) (λ a n c. c) opening

pub host-book-entry : Occur (host.book-entry).Cause (host.book-entry).refusals
host-book-entry = as_called books.entry host.book-entry (λ a. record { book = a.book; number = a.number }) (λ a n c. c) entry

pub host-book-line : Occur (host.book-line).Cause (host.book-line).refusals
host-book-line = as_called books.line host.book-line (λ a. record { book = a.book; number = a.number; room = a.room }) (λ a n c. c) entry-line-of

pub host-book-line-with : Occur (host.book-line-with).Cause (host.book-line-with).refusals
host-book-line-with =
    as_called books.line-mapped host.book-line-with (λ a. record { book = a.book; number = a.number; map = a.map; room = a.room }) (λ a n c. c)
    entry-line-mapped

pub host-book-list : Occur (host.book-list).Cause (host.book-list).refusals
host-book-list = as_called books.list host.book-list (λ a. record { book = a.book; room = a.room }) (λ a n c. c) list

pub host-book-list-with : Occur (host.book-list-with).Cause (host.book-list-with).refusals
host-book-list-with =
    as_called books.list-mapped host.book-list-with (λ a. record { book = a.book; map = a.map; room = a.room }) (λ a n c. c) list-mapped

pub host-book-add : Occur (host.book-add).Cause (host.book-add).refusals
host-book-add =
    as_called books.add host.book-add (λ a. record { book = a.book; kind = a.kind; frame = a.frame; room = a.room }) (λ a n c. c) add
