-- 01, "JSON and the listing program": the example, whole, computed from the definitions; and first two bytes that are refused. By
-- `one-listing` of Theorems each is the one listing of its input.
-- Assumes nothing.
use mathlib.Core.Bool.{false≢true}
use mathlib.Core.List.{List, [], ◌∷◌}
use mathlib.Core.Option.{Option}
use mathlib.Core.Option as options
use mathlib.Core.Path.{◌≡◌, refl, subst}
use Prim.Native.Nat.{ℕ}
use native.Mathlib.Omega.{arith}
use lib.Dec.{lit≤}
use Rattle.digits.specs.Paper.Ascii.{ascii}
use Rattle.digits.specs.Paper.Bits.{lows}
use Rattle.digits.specs.Paper.Decimal.{decimal, decimal_in, enough}
use Rattle.digits.specs.Paper.Hex.{hex_bytes}
use Rattle.digits.specs.Paper.LowFirst.{low_byte_first}
use Rattle.digits.specs.declared.refusal.Refusal.TheVariants.{NoFrame}
use Rattle.checks.specs.Paper.Bits.{bits, of_lows, of_bits, bits_of_bytes}
use Rattle.checks.specs.Paper.Check.{poly_bits, feed}
use Rattle.layouts.specs.Paper.Chars.{all, one_of, LF}
use Rattle.layouts.specs.Work.Heads.{only_if, starts, word_len, run_len, is_byte, on}
use Rattle.layouts.specs.Work.Nest.{body_len, nest_form_len, crc_pair}
use Rattle.layouts.specs.Work.Recogniser.{agreeing}
use Rattle.frames.specs.Paper.Kinds.{known}
use Rattle.frames.specs.Paper.Runs.{ends, finds}
use Rattle.frames.specs.Paper.Search.{Searches}
use Rattle.frames.specs.Work.Frames.{len_at, frame_at}
use Rattle.frames.specs.Work.Seek.{seek_among, seek, among, resolved, searched}
use Rattle.std.specs.Prelude.{Ok, Err}
use Rattle.frames.proofs.Theorems.{an-answer}
use Rattle.messages.specs.Paper.Message.{command}
use Rattle.messages.proofs.Known as messages
use Rattle.json_values.specs.Paper.Json.{further, object}
use Rattle.lines.specs.Paper.Answers.{LineOf}
use Rattle.lines.specs.Paper.Line as lines
use Rattle.lines.specs.Paper.WithSheet as with
use Rattle.sheet.specs.Paper.Sheet.{Lookup}
use Rattle.list.specs.Paper.Listing.{none, line, inside, Input, NoSheet, Listing, bad-start, listed}
use Rattle.list.proofs.Laws.Inputs.{two_bytes, line-feed, kind-known}

-- ---- the example

-- "`D5 AA 96 FF 00 00 00 A3 4B FF`"
abbrev capture : List ℕ
capture = 0xD5 ∷ 0xAA ∷ 0x96 ∷ 0xFF ∷ 0x00 ∷ 0x00 ∷ 0x00 ∷ 0xA3 ∷ 0x4B ∷ 0xFF ∷ []

first : searched 2 capture 0 ≡ Ok (record { start = 0; len = 9; from = 7; to = 7 })
unfolding searched resolved among seek seek_among len_at frame_at nest_form_len agreeing crc_pair body_len is_byte all only_if starts word_len run_len on low_byte_first feed poly_bits bits lows of_bits of_lows bits_of_bytes
first = refl

second : searched 2 capture 9 ≡ Err NoFrame
unfolding searched resolved among seek seek_among len_at frame_at nest_form_len agreeing crc_pair body_len is_byte all only_if starts word_len run_len on low_byte_first feed poly_bits bits lows of_bits of_lows bits_of_bytes
second = refl

its-line : LineOf options.none 2 (0xD5 ∷ 0xAA ∷ 0x96 ∷ 0xFF ∷ 0x00 ∷ 0x00 ∷ 0x00 ∷ 0xA3 ∷ 0x4B ∷ []) 0 (ascii "{\"at\":0,\"len\":9,\"msg\":\"command\",\"id\":255,\"data\":\"\"}\n")
unfolding with.line_with with.members_with with.further_members lines.members object further decimal decimal_in enough hex_bytes
its-line = record { message = command 0x00FF []; stands = messages.c; is = refl }

-- "Input `2`, LF, .. prints, whole"
pub example : Listing NoSheet (0x32 ∷ LF ∷ capture) (ascii "{\"at\":0,\"len\":9,\"msg\":\"command\",\"id\":255,\"data\":\"\"}\n{\"frames\":1,\"skipped\":1}\n")
unfolding known one_of inside object further decimal decimal_in enough
example =
    listed refl (record { kind = 2; is-kind = refl; capture = capture; is = refl }) (lit≤ tt)
    (record {
      frames = record { start = 0; len = 9; from = 7; to = 7 } ∷ [];
      run = finds (subst (Searches 2 capture 0) first (an-answer 2 capture 0)) (ends (subst (Searches 2 capture 9) second (an-answer 2 capture 9)));
      lines = ascii "{\"at\":0,\"len\":9,\"msg\":\"command\",\"id\":255,\"data\":\"\"}\n";
      each = line {v = record { start = 0; len = 9; from = 7; to = 7 }} its-line none;
      is = refl;
    })

-- ---- no frame

-- a capture of no bytes
nothing : searched 5 [] 0 ≡ Err NoFrame
unfolding searched resolved among seek seek_among
nothing = refl

pub empty-capture : Listing NoSheet (0x35 ∷ LF ∷ []) (ascii "{\"frames\":0,\"skipped\":0}\n")
unfolding known one_of inside object further decimal decimal_in enough
empty-capture =
    listed refl (record { kind = 5; is-kind = refl; capture = []; is = refl }) (lit≤ tt)
    (record { frames = []; run = ends (subst (Searches 5 [] 0) nothing (an-answer 5 [] 0)); lines = []; each = none; is = refl })

-- ---- "Bad or missing first two bytes print only `{"refused":2}`"

refused-2 : {Given : Option Lookup → Type 0} {s : List ℕ} → (Input s → ⊥) → Listing Given s (ascii "{\"refused\":2}\n")
unfolding object further decimal decimal_in enough
refused-2 f = bad-start f

no-kind-6 : Input (ascii "6\n") → ⊥
unfolding known one_of
no-kind-6 i = false≢true (kind-known i)

no-kind-0 : Input (ascii "0\n") → ⊥
unfolding known one_of
no-kind-0 i = false≢true (kind-known i)

pub digit-6 : Listing NoSheet (ascii "6\n") (ascii "{\"refused\":2}\n")
digit-6 = refused-2 no-kind-6

pub digit-0 : Listing NoSheet (ascii "0\n") (ascii "{\"refused\":2}\n")
digit-0 = refused-2 no-kind-0

pub digit-alone : Listing NoSheet (ascii "1") (ascii "{\"refused\":2}\n")
digit-alone = refused-2 (λ i. omega (arith, two_bytes i))

pub no_bytes : {Given : Option Lookup → Type 0} → Listing Given [] (ascii "{\"refused\":2}\n")
no_bytes = refused-2 (λ i. omega (arith, two_bytes i))

-- CR LF is no LF
pub carriage-return : Listing NoSheet (ascii "1\r\n") (ascii "{\"refused\":2}\n")
carriage-return = refused-2 (λ i. omega (arith, line-feed i))
