-- THE EDGES OF THE LIMITS, all in one statement. Of most facts a test tells whether they are right, as their definitions have it, and the
-- test is computed: a definition with another number is refused here.
-- Assumes nothing.
use Rattle.std.specs.Prelude.{Err, Result}
use mathlib.Core.Bool.{Bool, true, false, not, ◌&&◌, ◌||◌}
use mathlib.Core.List.{List, [], ◌∷◌, ◌++◌}
use mathlib.Core.Logic.{◌⊎◌, inl, inr, ⊎_elim}
use mathlib.Core.Option.{Option, none, some}
use mathlib.Core.Path.{◌≡◌, refl, sym, ap, ◌∙◌, subst}
use Prim.Native.Nat.{ℕ, zero, suc, ◌+◌, ◌-◌, ◌*◌, ◌^◌, ◌≤◌, ◌<◌}
use native.Mathlib.Nat.{zero-mul, suc-mul}
use native.Mathlib.Omega.{arith}
use lib.Dec.{T, eqb, leb, ltb, leb→le, le→leb, ltb→lt, lt→ltb, eqb→eq, eqb_refl, lit<, lit≤}
use lib.IntN.{ℤ}
use lib.ListN.{length, replicate, length-append, length-replicate}
use lib.Signed.{le_z, ◌≤ℤ◌}
use Rattle.digits.specs.declared.refusal.Refusal.{Refusal}
use Rattle.digits.specs.Paper.Ascii.{ascii}
use Rattle.digits.specs.Paper.Bits.{lows}
use Rattle.digits.specs.Paper.Bytes.{Bytes}
use Rattle.digits.specs.Paper.Decimal.{decimal, decimal_in, enough}
use Rattle.digits.specs.Paper.Hex.{hex_digit, hex_byte, hex_word}
use Rattle.digits.specs.Paper.LowFirst.{Width, one, two, four, Held, SixteenBits, low_byte_first}
use Rattle.digits.proofs.Laws.Bytes.{bytes-nil, bytes-cons}
use Rattle.digits.proofs.Laws.Tests.{T_and, T_true, told, untold}
use Rattle.digits.specs.Paper.Read.{Decides, holds, fails}
use Rattle.digits.specs.Work.Decimal.{guess}
use Rattle.digits.specs.Work.Hex.{place_of}
use Rattle.digits.specs.declared.refusal.Refusal.TheVariants.{NoFrame, NoPlace}
use Rattle.checks.specs.Paper.Bits.{bits, of_lows, of_bits, bits_of_bytes}
use Rattle.checks.specs.Paper.Check.{poly_bits, feed}
use Rattle.numbers.specs.Paper.Raw.{Between, most_decimals}
use Rattle.numbers.specs.Paper.Text.{InLimits}
use Rattle.numbers.specs.Paper.Single.{from_first_one, significant_bits, fits_single}
use Rattle.json_values.specs.Paper.Json.{escaped}
use Rattle.layouts.specs.Paper.Chars.{one_of, all, is_hex}
use Rattle.layouts.specs.Paper.Homiq as homiqs
use Rattle.layouts.specs.Paper.Made.{Wire, nest_of, homiq_of}
use Rattle.layouts.specs.Paper.Nest as nests
use Rattle.layouts.specs.Paper.Nibe as nibes
use Rattle.layouts.specs.Paper.Nikobus as nikobuses
use Rattle.layouts.specs.Work.Heads.{only_if, starts, word_len, run_len, is_byte, leading, on}
use Rattle.layouts.specs.Work.Homiq.{field_len, is_figure, number_in, number_len, type_len, head_len, homiq_form_len, homiq_pair}
use Rattle.layouts.specs.Work.Nest.{body_len, nest_form_len, crc_pair}
use Rattle.layouts.specs.Work.Nibe.{nibe_form_len, nibe_pair}
use Rattle.layouts.specs.Work.Nikobus.{bytes_of, ll_of, link_head_len, link_form_len, press_len, tail_len, nikobus_form_len, pair16, pair8, nikobus_pairs}
use Rattle.layouts.specs.Work.Recogniser.{agreeing}
use Rattle.layouts.specs.declared.nest.Direction.TheVariants.{Command}
use Rattle.layouts.proofs.Laws.ByteRuns.{all-bytes, bytes-all}
use Rattle.layouts.proofs.Laws.Made.{press-said}
use Rattle.layouts.proofs.Laws.Nest.{nest-size}
use Rattle.frames.specs.Paper.Kinds.{layout_of, number_of, known, Frame}
use Rattle.frames.specs.Paper.Search.{FrameAt, found_refusal, Searches}
use Rattle.frames.specs.Work.Frames.{len_at}
use Rattle.frames.specs.Work.Seek.{searched, resolved, among, seek, seek_among}
use Rattle.frames.specs.declared.Found.{Found}
use Rattle.frames.specs.declared.kinds.Kind.{Kind}
use Rattle.frames.specs.declared.kinds.Kind.TheVariants.{Nikobus, NestCommand, NestResponse, Nibe, Homiq}
use Rattle.frames.proofs.Laws.Places.{at_place, stands, frame-alone, alone-frame, positive}
use Rattle.frames.proofs.Theorems.{an-answer, one_answer}
use Rattle.messages.specs.Paper.Message.{Message, read, set, answer, press, tail, link, command, climate, state, break, end, text, response, ask, reply, put, done, nibe, output, input, shutter, beat, homiq}
use Rattle.messages.specs.Paper.Table.{Group, SixBytes, BytesBetween, least_state, text_ids, MarkedNumber, Letter, Sends, Limits, content_of, bytes}
use Rattle.messages.specs.Work.Homiq.{same, is_marked_number, is_letter}
use Rattle.messages.proofs.Laws.HomiqTests.{same-tells, numbered-tells, letter-tells}
use Rattle.messages.proofs.Laws.Telling.{both-tell}
use Rattle.messages.proofs.Theorems.{bytes-frame}
use Rattle.list.specs.Paper.Listing.{Input, most_input, refused_with, last_line, too_long, listed, inside}
use Rattle.list.proofs.Laws.Sizes.{refused-size}
use Rattle.list.proofs.Laws.Some.{some-lists}
use Rattle.list.proofs.Laws.Written.{last_line_lem}
use Rattle.list.proofs.Laws.One.{one_none}
use Rattle.list.proofs.Theorems.{one-listing}
use Rattle.book.specs.Paper.Book.{Entry, entries, book, Framed, none as no-entries, also, most_entries, most_bytes, Within, EntryAt}
use Rattle.book.proofs.Laws.Entries.{has-entry}
use Rattle.book.proofs.Laws.Layout.{length-entry, length-entries, entries-append, framed-append, length-book}
use Rattle.claims.specs.Paper.Edges as E
use Rattle.claims.specs.Paper.Edges.{Fact, Listed, Right, Edge, AllHold, zeros, tail_entry, command_entry, command_entries, whole_input, frame_edges, message_edges, number_edges, place_edges}

-- ---- tests that tell

by : {A B : Type 0} {b : Bool} → (A → B) → (B → A) → Decides A b → Decides B b
by f g (holds a) = holds (f a)
by f g (fails n) = fails (λ b. n (g b))

either-tells : {A B : Type 0} {a b : Bool} → Decides A a → Decides B b → Decides (A ⊎ B) (a || b)
either-tells (holds x) q = holds (inl x)
either-tells (fails f) (holds y) = holds (inr y)
either-tells (fails f) (fails g) = fails (⊎_elim f g)

T-tells : (b : Bool) → Decides (T b) b
T-tells true = holds tt
T-tells false = fails (λ t. t)

-- whether A holds, computed
record Decided (A : Type 0) : Type 0 where
  answer : Bool
  tells : Decides A answer

-- and so of what says the same as A
abbrev turn : {A B : Type 0} → (A → B) → (B → A) → Decided A → Decided B
turn f g a = record { answer = a.answer; tells = by f g a.tells }

abbrev both : {A B : Type 0} → Decided A → Decided B → Decided (A × B)
both a b = record { answer = a.answer && b.answer; tells = both-tell a.tells b.tells }

abbrev three : {A B C : Type 0} → Decided A → Decided B → Decided C → Decided (A × B × C)
three a b c = turn (λ p. (p.0, p.1.0, p.1.1)) (λ q. (q.0, (q.1, q.2))) (both a (both b c))

abbrev either : {A B : Type 0} → Decided A → Decided B → Decided (A ⊎ B)
either a b = record { answer = a.answer || b.answer; tells = either-tells a.tells b.tells }

abbrev test : (b : Bool) → Decided (T b)
test b = record { answer = b; tells = T-tells b }

abbrev always : Decided Unit
always = record { answer = true; tells = holds tt }

abbrev is_true : (b : Bool) → Decided (b ≡ true)
is_true b = turn (T_true b) (λ e. subst T (sym e) tt) (test b)

-- ---- numbers

abbrev le : (m n : ℕ) → Decided (m ≤ n)
le m n = turn (leb→le m n) (le→leb m n) (test (leb m n))

abbrev lt : (m n : ℕ) → Decided (m < n)
lt m n = turn (ltb→lt m n) (lt→ltb m n) (test (ltb m n))

abbrev eq : (m n : ℕ) → Decided (m ≡ n)
eq m n = turn (eqb→eq m n) (λ e. subst (λ (x : ℕ). T (eqb m x)) e (eqb_refl m)) (test (eqb m n))

abbrev leℤ : (a b : ℤ) → Decided (a ≤ℤ b)
leℤ a b = turn (λ t. record { le = t }) (λ r. r.le) (test (le_z a b))

abbrev between : (least most z : ℤ) → Decided (Between least most z)
between least most z = turn (λ p. record { low = p.0; high = p.1 }) (λ r. (r.low, r.high)) (both (leℤ least z) (leℤ z most))

abbrev sixteen : (n : ℕ) → Decided (SixteenBits n)
sixteen n = lt n 65536

a-width : {w : ℕ} → (w ≡ 1) ⊎ ((w ≡ 2) ⊎ (w ≡ 4)) → Width w
a-width (inl e) = subst Width (sym e) one
a-width (inr (inl e)) = subst Width (sym e) two
a-width (inr (inr e)) = subst Width (sym e) four

width_is : {w : ℕ} → Width w → (w ≡ 1) ⊎ ((w ≡ 2) ⊎ (w ≡ 4))
width_is one = inl refl
width_is two = inr (inl refl)
width_is four = inr (inr refl)

abbrev widths : (w : ℕ) → Decided (Width w)
widths w = turn a-width width_is (either (eq w 1) (either (eq w 2) (eq w 4)))

abbrev held : (w n : ℕ) → Decided (Held w n)
held w n = turn (λ p. record { known = p.0; below = p.1 }) (λ r. (r.known, r.below)) (both (widths w) (lt n (256 ^ w)))

abbrev raw : (z : ℤ) (d : ℕ) → Decided (InLimits (record { raw = z; decimals = d }))
raw z d = turn (λ p. record { in-range = p.0; few = p.1 }) (λ r. (r.in-range, r.few)) (both (between _ _ z) (le d most_decimals))

-- ---- the fields of frames

abbrev are-bytes : (p : List ℕ) → Decided (Bytes p)
are-bytes p = turn (bytes-all p) (λ b. subst T (sym (all-bytes p b)) tt) (test (all is_byte p))

abbrev LinkLimits : (p : List ℕ) (crc16 crc8 : ℕ) → Type 0
LinkLimits p crc16 crc8 =
    (nikobuses.least_payload ≤ length p) × ((length p ≤ nikobuses.most_payload) × (Bytes p × (SixteenBits crc16 × (crc8 < 256))))

link-in : {p : List ℕ} {crc16 crc8 : ℕ} → LinkLimits p crc16 crc8 → nikobuses.Limits (nikobuses.link p crc16 crc8)
link-in (a, (b, (c, (d, e)))) = nikobuses.link-limits a b c d e

link-out : {p : List ℕ} {crc16 crc8 : ℕ} → nikobuses.Limits (nikobuses.link p crc16 crc8) → LinkLimits p crc16 crc8
link-out (nikobuses.link-limits a b c d e) = (a, (b, (c, (d, e))))

abbrev digits : (d : List ℕ) → Decided ((length d ≡ nikobuses.press_digits) × T (all is_hex d))
digits d = both (eq (length d) nikobuses.press_digits) (test (all is_hex d))

press-in : {d : List ℕ} → (length d ≡ nikobuses.press_digits) × T (all is_hex d) → nikobuses.Limits (nikobuses.press d)
press-in (a, b) = nikobuses.press-limits a b

abbrev of-nikobus : (m : nikobuses.Nikobus) → Decided (nikobuses.Limits m)
of-nikobus (nikobuses.link p crc16 crc8) =
    turn link-in link-out
    (both (le nikobuses.least_payload (length p))
    (both (le (length p) nikobuses.most_payload)
    (both (are-bytes p)
    (both (sixteen crc16)
    (lt crc8 256)))))
of-nikobus (nikobuses.press d) = turn press-in press-said (digits d)
of-nikobus nikobuses.tail = record { answer = true; tells = holds nikobuses.tail-limits }

abbrev of-nest : (m : nests.Nest) → Decided (nests.Limits m)
of-nest m =
    turn (λ p. record { id = p.0; short = p.1.0; bytes = p.1.1.0; crc = p.1.1.1 }) (λ r. (r.id, (r.short, (r.bytes, r.crc))))
    (both (sixteen m.id)
    (both (le (length m.payload) nests.most_payload)
    (both (are-bytes m.payload)
    (sixteen m.crc))))

abbrev of-nibe : (m : nibes.Nibe) → Decided (nibes.Limits m)
of-nibe m =
    turn (λ p. record { command = p.0; short = p.1.0; bytes = p.1.1.0; xor = p.1.1.1 }) (λ r. (r.command, (r.short, (r.bytes, r.xor))))
    (both (test (one_of nibes.commands m.command))
    (both (le (length m.content) nibes.most_data)
    (both (are-bytes m.content)
    (lt m.xor 256))))

abbrev field : (most : ℕ) (w : List ℕ) → Decided (homiqs.Field most w)
field most w =
    turn (λ p. record { some = p.0; short = p.1.0; chars = p.1.1 }) (λ r. (r.some, (r.short, r.chars)))
    (both (le 1 (length w)) (both (le (length w) most) (test (all homiqs.field_char w))))

abbrev of-homiq : (m : homiqs.Homiq) → Decided (homiqs.Limits m)
of-homiq m =
    turn
    (λ p. record {
      cmd = p.0;
      val = p.1.0;
      src = p.1.1.0;
      dst = p.1.1.1.0;
      id = p.1.1.1.1.0;
      type = p.1.1.1.1.1.0;
      crc = p.1.1.1.1.1.1;
    })
    (λ r. (r.cmd, (r.val, (r.src, (r.dst, (r.id, (r.type, r.crc)))))))
    (both (field 8 m.cmd)
    (both (field 16 m.val)
    (both (field 4 m.src)
    (both (field 4 m.dst)
    (both (le m.id homiqs.last_id)
    (both (test (one_of (ascii "sa") m.type))
    (le m.crc 255)))))))

abbrev of_fields : (bus : Kind) (m : (layout_of bus).Fields) → Decided ((layout_of bus).Limits m)
of_fields Nikobus m = of-nikobus m
of_fields NestCommand m = of-nest m
of_fields NestResponse m = of-nest m
of_fields Nibe m = of-nibe m
of_fields Homiq m = of-homiq m

-- ---- frames, as the search finds them

found-whole : (bus : Kind) (f : List ℕ) → T (ltb 0 (length f) && eqb (len_at bus f 0) (length f)) → Frame (number_of bus) f
found-whole bus f t = go (length f) refl (T_and (ltb 0 (length f)) (eqb (len_at bus f 0) (length f)) t)
  where
    go : (n : ℕ) → length f ≡ n → T (ltb 0 (length f)) × T (eqb (len_at bus f 0) (length f)) → Frame (number_of bus) f
    go zero e h = absurd (subst (λ (n : ℕ). T (ltb 0 n)) e h.0)
    go (suc n) e h =
        alone-frame (subst (λ (m : ℕ). FrameAt (number_of bus) f 0 m) (sym e) (stands bus f 0 n (omega arith) (eqb→eq _ _ h.1 ∙ e)))

whole-found : (bus : Kind) (f : List ℕ) → Frame (number_of bus) f → T (ltb 0 (length f) && eqb (len_at bus f 0) (length f))
whole-found bus f r =
    let at = frame-alone r in
    let some : ltb 0 (length f) ≡ true = T_true _ (lt→ltb 0 (length f) (positive at)) in
    rw (at_place at bus refl, some) (eqb_refl (length f))

abbrev a-frame : (bus : Kind) (f : List ℕ) → Decided (Frame (number_of bus) f)
a-frame bus f = turn (found-whole bus f) (whole-found bus f) (test (ltb 0 (length f) && eqb (len_at bus f 0) (length f)))

-- ---- messages

abbrev sized : (least most : ℕ) (p : List ℕ) → Decided (BytesBetween least most p)
sized least most p =
    turn (λ q. record { enough = q.0; short = q.1.0; bytes = q.1.1 }) (λ r. (r.enough, (r.short, r.bytes)))
    (both (le least (length p)) (both (le (length p) most) (are-bytes p)))

abbrev six-bytes : (out : List ℕ) → Decided (SixBytes out)
six-bytes out = turn (λ q. record { six = q.0; bytes = q.1 }) (λ r. (r.six, r.bytes)) (both (eq (length out) 6) (are-bytes out))

abbrev group : (g : ℕ) → Decided (Group g)
group g = either (eq g 1) (eq g 2)

abbrev sends : {Cmd Val : List ℕ → Type 0} (w : Wire) → Decided (Cmd w.cmd) → Decided (Val w.val) → Decided (Sends Cmd Val w)
sends w c v =
    turn (λ q. record { limits = q.0; cmd = q.1.0; val = q.1.1 }) (λ r. (r.limits, (r.cmd, r.val)))
    (both (of-homiq (homiq_of w)) (both c v))

abbrev numbered : (mark : List ℕ) (most : ℕ) (cmd : List ℕ) → Decided (MarkedNumber mark most cmd)
numbered mark most cmd = record { answer = is_marked_number mark most cmd; tells = numbered-tells mark most cmd }

abbrev letter : (letters val : List ℕ) → Decided (Letter letters val)
letter letters val = record { answer = is_letter letters val; tells = letter-tells letters val }

abbrev same_text_lem : (a b : List ℕ) → Decided (b ≡ a)
same_text_lem a b = record { answer = same a b; tells = same-tells a b }

abbrev of-message : (m : Message) → Decided (Limits m)
of-message (read g a) = both (group g) (sixteen a)
of-message (set g a out) = three (group g) (sixteen a) (six-bytes out)
of-message (answer a third out) = three (sixteen a) (lt third 256) (six-bytes out)
of-message (press d) = digits d
of-message tail = always
of-message (link p) = sized nikobuses.least_payload nikobuses.most_payload p
of-message (command i p) = both (sixteen i) (sized nests.least_payload nests.most_payload p)
of-message (climate t h) = both (between _ _ t) (sixteen h)
of-message (state p) = sized least_state nests.most_payload p
of-message break = always
of-message end = always
of-message (text i p) = both (test (one_of text_ids i)) (sized nests.least_payload nests.most_payload p)
of-message (response i p) = both (sixteen i) (sized nests.least_payload nests.most_payload p)
of-message (ask r) = sixteen r
of-message (reply r w v) = both (sixteen r) (held w v)
of-message (put r w v) = both (sixteen r) (held w v)
of-message (done ok) = always
of-message (nibe c d) = both (test (one_of nibes.commands c)) (sized 0 nibes.most_data d)
of-message (output w) = sends w (numbered (ascii "O.") 9 w.cmd) (letter (ascii "01") w.val)
of-message (input w) = sends w (numbered (ascii "I.") 15 w.cmd) (letter (ascii "01") w.val)
of-message (shutter w) = sends w (same_text_lem (ascii "UD") w.cmd) (letter (ascii "uds") w.val)
of-message (beat w) = sends w (same_text_lem (ascii "HB") w.cmd) (letter (ascii "1") w.val)
of-message (homiq w) = of-homiq (homiq_of w)

-- ---- every fact that a test tells of, and the edges between such facts

abbrev decided : (f : Fact) → Option (Decided (Right f))
decided (E.frame bus f) = some (a-frame bus f)
decided (E.fields bus m) = some (of_fields bus m)
decided (E.message m) = some (of-message m)
decided (E.kind k) = some (is_true (known k))
decided (E.number z d) = some (raw z d)
decided (E.single z) = some (is_true (fits_single z))
decided (E.value w signed z) = some (between _ _ z)
decided (E.width w) = some (widths w)
decided (E.plain b) = some (same_text_lem (b ∷ []) (escaped b))
decided (E.listed s) = none
decided (E.none_from k s place) = none
decided (E.makes-book es) = none
decided (E.has-entry es n) = none

abbrev yes_of : {A : Type 0} → Option (Decided A) → Bool
yes_of none = false
yes_of (some d) = d.answer

abbrev no_of : {A : Type 0} → Option (Decided A) → Bool
no_of none = false
no_of (some d) = not d.answer

is_right : {A : Type 0} (d : Option (Decided A)) → T (yes_of d) → A
is_right none t = absurd t
is_right (some d) t = told d.tells (T_true d.answer t)

is-wrong : {A : Type 0} (d : Option (Decided A)) → T (no_of d) → A → ⊥
is-wrong none t = absurd t
is-wrong (some d) t = untold d.tells (not_is d.answer t)
  where
    not_is : (b : Bool) → T (not b) → b ≡ false
    not_is true t = absurd t
    not_is false t = refl

-- every edge of the list is told
abbrev told-all : List Edge → Bool
told-all [] = true
told-all (e ∷ later) = (yes_of (decided e.right) && no_of (decided e.wrong)) && told-all later

holds-all : (es : List Edge) → T (told-all es) → AllHold es
holds-all [] t = tt
holds-all (e ∷ later) t =
    let p = T_and (yes_of (decided e.right) && no_of (decided e.wrong)) (told-all later) t in
    let q = T_and (yes_of (decided e.right)) (no_of (decided e.wrong)) p.0 in
    (record { right = is_right (decided e.right) q.0; wrong = is-wrong (decided e.wrong) q.1 }, holds-all later p.1)

join : (es later : List Edge) → AllHold es → AllHold later → AllHold (es ++ later)
join [] later a b = b
join (e ∷ es) later a b = (a.0, join es later a.1 b)

of-frames : AllHold frame_edges
unfolding known one_of len_at nikobus_form_len nikobus_pairs agreeing link_form_len link_head_len ll_of press_len tail_len pair16 pair8 bytes_of place_of is_hex all only_if starts word_len run_len on hex_digit hex_byte hex_word nest_form_len crc_pair body_len is_byte low_byte_first nibe_form_len nibe_pair homiq_form_len homiq_pair head_len type_len number_len number_in guess is_figure field_len homiqs.field_char homiqs.without_separators leading decimal decimal_in enough feed poly_bits bits lows of_bits of_lows bits_of_bytes
of-frames = holds-all frame_edges tt

of-messages : AllHold message_edges
unfolding one_of all is_hex is_byte homiqs.field_char is_marked_number is_letter starts guess decimal decimal_in enough feed poly_bits bits lows of_bits of_lows bits_of_bytes
of-messages = holds-all message_edges tt

of-numbers : AllHold number_edges
unfolding fits_single significant_bits from_first_one lows escaped hex_byte hex_digit starts
of-numbers = holds-all number_edges tt

-- ---- places, inputs and books: by the laws, since a long list is not computed

at-end : (place : ℕ) {r : Result Found Refusal} → searched 4 (0xC0 ∷ []) place ≡ r → Searches 4 (0xC0 ∷ []) place r
at-end place e = subst (Searches 4 (0xC0 ∷ []) place) e (an-answer 4 (0xC0 ∷ []) place)

-- another answer than the right one
not-this : Searches 4 (0xC0 ∷ []) 2 (Err NoPlace) → Searches 4 (0xC0 ∷ []) 2 (Err NoFrame) → ⊥
not-this a b = let e : ◌≡◌ {A = ℕ} 3 1 = ap found_refusal (one_answer (Err NoPlace) (Err NoFrame) a b) in omega (arith, e)

-- an input of so many bytes behind its first two
of-kind-1 : (n : ℕ) → Input (whole_input n)
unfolding known one_of
of-kind-1 n = record { kind = 1; is-kind = refl; capture = zeros n; is = refl }

whole-size : (n : ℕ) → length (whole_input n) ≡ n + 2
whole-size n = omega (arith, length-replicate {A = ℕ} n 0)

short-enough : (n : ℕ) → n + 2 ≤ most_input → Listed (whole_input n)
short-enough n h =
    let i = of-kind-1 n in
    let l = some-lists none i.kind i.capture i.is-kind in
    record { text = l.0; listing = listed refl i (omega (arith, h, whole-size n)) l.1; input = i; lists = l.1 }

-- the last line is longer than a refusal
last-long : (n m : ℕ) → 23 ≤ length (last_line n m)
last-long n m =
    subst (λ (t : List ℕ). 23 ≤ length t) (last_line_lem n m)
    (omega (
      arith,
      length-append (decimal n) (ascii ",\"skipped\":" ++ (decimal m ++ ascii "}\n")),
      length-append (decimal m) (ascii "}\n"),
    ))

too_many : (n : ℕ) → most_input < n + 2 → Listed (whole_input n) → ⊥
too_many n h r =
    let l = r.lists in
    let count = length l.frames in
    let skipped = length r.input.capture - inside l.frames in
    let e : r.text ≡ refused_with 5 = one-listing one_none r.listing (too_long (of-kind-1 n) (omega (arith, h, whole-size n))) in
    omega (
      arith,
      ap length (sym e ∙ l.is),
      length-append l.lines (last_line count skipped),
      last-long count skipped,
      refused-size 5 (lit< tt),
    )

no_third : {es : List Entry} {number offset : ℕ} {e : Entry} → EntryAt es number e offset → length es ≤ number → ⊥
no_third {e = e} n h = omega (arith, h, ap length n.is, length-append n.before (e ∷ n.behind), n.number_is)

-- so many entries alike
copies-framed : (n : ℕ) (e : Entry) → Frame e.kind e.frame → Framed (replicate n e)
copies-framed zero e f = no-entries
copies-framed (suc n) e f = also f (copies-framed n e f)

copies-size : (n : ℕ) (e : Entry) → length (entries (replicate n e)) ≡ n * (3 + length e.frame)
unfolding entries
copies-size zero e = sym (zero-mul (3 + length e.frame))
copies-size (suc n) e = omega (arith, length-entries e (replicate n e), length-entry e, copies-size n e, suc-mul n (3 + length e.frame))

copies-within : (n : ℕ) (e : Entry) → Frame e.kind e.frame → n ≤ most_entries → n * (3 + length e.frame) + (4 * n + 6) ≤ most_bytes
    → Within (replicate n e)
copies-within n e f few small =
    record {
      framed = copies-framed n e f;
      few = omega (arith, few, length-replicate n e);
      small = omega (arith, small, length-book (replicate n e), copies-size n e, length-replicate n e);
    }

tail-framed : Frame 1 tail_entry.frame
unfolding content_of
tail-framed = bytes-frame tail tt

-- a Nest command of so many bytes
zeros-bytes : (n : ℕ) → Bytes (zeros n)
zeros-bytes zero = bytes-nil
zeros-bytes (suc n) = bytes-cons {b = 0} (omega arith) (zeros-bytes n)

command-framed : (n : ℕ) → n ≤ 1024 → Frame 2 (command_entry n).frame
unfolding content_of
command-framed n h =
    bytes-frame (command 0 (zeros n)) (omega arith, record { enough = omega arith; short = omega (arith, h, length-replicate {A = ℕ} n 0); bytes = zeros-bytes n })

command-size : (n : ℕ) → length (command_entry n).frame ≡ n + 9
unfolding content_of
command-size n = omega (arith, nest-size (nests.preamble Command) (nest_of 0 (zeros n)), length-replicate {A = ℕ} n 0)

-- a book of many entries alike, and a few more
copies-book : (n : ℕ) (e : Entry) (es : List Entry)
    → length (book (replicate n e ++ es)) ≡ n * (3 + length e.frame) + length (entries es) + (4 * (n + length es) + 6)
copies-book n e es =
    omega (
      arith,
      length-book (replicate n e ++ es),
      ap length (entries-append (replicate n e) es),
      length-append (entries (replicate n e)) (entries es),
      copies-size n e,
      length-append (replicate n e) es,
      length-replicate n e,
    )

two_size : (a b : Entry) → length (entries (a ∷ b ∷ [])) ≡ 6 + length a.frame + length b.frame
unfolding entries
two_size a b = omega (arith, length-entries a (b ∷ []), length-entries b [], length-entry a, length-entry b)

-- a book's bytes by those of its last command
most-size : (n : ℕ) → length (book (command_entries n)) ≡ 65027 + n
most-size n =
    let a = command_entry 1024 in
    let b = command_entry 509 in
    let c = command_entry n in
    let x : length a.frame ≡ 1033 = command-size 1024 in
    let y : length b.frame ≡ 518 = command-size 509 in
    omega (arith, copies-book 62 a (b ∷ c ∷ []), two_size b c, command-size n, x, y)

of_places : AllHold place_edges
unfolding searched resolved among seek seek_among
of_places = (
  record { right = at-end 1 refl; wrong = not-this (at-end 2 refl) },
  (
    record { right = short-enough 65534 (lit≤ tt); wrong = too_many 65535 (lit< tt) },
    (
      record {
        right = let h = has-entry (tail_entry ∷ tail_entry ∷ []) 1 (lit< tt) in (h.0, h.1.0, h.1.1);
        wrong = λ h. no_third h.2 (lit≤ tt);
      },
      (
        record {
          right = copies-within 1000 tail_entry tail-framed (lit≤ tt) (lit≤ tt);
          wrong = λ w. omega (arith, w.few, length-replicate 1001 tail_entry);
        },
        (
          record {
            right = record {
              framed = framed-append (copies-framed 62 (command_entry 1024) (command-framed 1024 (lit≤ tt))) (also (command-framed 509 (lit≤ tt)) (also (command-framed 509 (lit≤ tt)) no-entries));
              few = lit≤ tt;
              small = omega (arith, most-size 509);
            };
            wrong = λ w. omega (arith, w.small, most-size 510);
          },
          tt,
        ),
      ),
    ),
  ),
)

-- EVERY EDGE HOLDS
pub edges : AllHold E.edges
edges =
    join frame_edges (message_edges ++ (number_edges ++ place_edges)) of-frames
    (join message_edges (number_edges ++ place_edges) of-messages
    (join number_edges place_edges of-numbers of_places))
