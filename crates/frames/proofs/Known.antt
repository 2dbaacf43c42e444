-- 01, "Known points" (a) to (g): the search, computed from the definitions. By `an-answer` of Theorems each is the one right answer.
-- Assumes nothing.
use mathlib.Core.List.{[], ◌∷◌, ◌++◌}
use mathlib.Core.Path.{◌≡◌, refl}
use Prim.Native.Nat.{ℕ}
use Rattle.std.specs.Prelude.{Result, Ok, Err}
use Rattle.digits.specs.Paper.Ascii.{ascii}
use Rattle.digits.specs.Paper.Bits.{lows}
use Rattle.digits.specs.Paper.Decimal.{decimal, decimal_in, enough}
use Rattle.digits.specs.Paper.Hex.{hex_digit, hex_byte, hex_word}
use Rattle.digits.specs.Paper.LowFirst.{low_byte_first}
use Rattle.digits.specs.Work.Decimal.{guess}
use Rattle.digits.specs.Work.Hex.{place_of}
use Rattle.digits.specs.declared.refusal.Refusal.{Refusal}
use Rattle.digits.specs.declared.refusal.Refusal.TheVariants.{NoFrame}
use Rattle.checks.specs.Paper.Bits.{bits, of_lows, of_bits, bits_of_bytes}
use Rattle.checks.specs.Paper.Check.{poly_bits, feed}
use Rattle.frames.specs.Work.Frames.{len_at, frame_at}
use Rattle.frames.specs.Work.Seek.{seek_among, seek, among, resolved, searched}
use Rattle.frames.specs.declared.Found.{Found}
use Rattle.layouts.specs.Paper.Chars.{one_of, all, is_hex, CR, LF}
use Rattle.layouts.specs.Paper.Homiq.{field_char, without_separators}
use Rattle.layouts.specs.Work.Heads.{only_if, starts, word_len, run_len, is_byte, leading, on}
use Rattle.layouts.specs.Work.Homiq.{field_len, is_figure, number_in, number_len, type_len, head_len, homiq_form_len, homiq_pair, homiq_to}
use Rattle.layouts.specs.Work.Nest.{body_len, nest_form_len, crc_pair}
use Rattle.layouts.specs.Work.Nibe.{nibe_form_len, nibe_pair}
use Rattle.layouts.specs.Work.Nikobus.{bytes_of, ll_of, link_head_len, link_form_len, press_len, tail_len, nikobus_form_len, pair16, pair8, nikobus_pairs, nikobus_from, nikobus_to}
use Rattle.layouts.specs.Work.Recogniser.{agreeing}

abbrev at : (start len from to : ℕ) → Result Found Refusal
at i n x y = Ok (record { start = i; len = n; from = x; to = y })

-- (a) "`$10110000B8CF9D` CR is link": a frame of 16 bytes, its payload the six digits from 3 on
pub a : searched 1 (ascii "$10110000B8CF9D" ++ (CR ∷ [])) 0 ≡ at 0 16 3 9
unfolding searched resolved among seek seek_among len_at frame_at nikobus_form_len nikobus_pairs agreeing nikobus_from nikobus_to link_form_len link_head_len ll_of press_len tail_len pair16 pair8 bytes_of place_of is_hex one_of all only_if starts word_len run_len on hex_digit hex_byte hex_word feed poly_bits bits lows of_bits of_lows bits_of_bytes
a = refl

-- (b) "`$10120747402BFC` CR is read, group 1, 4707"
pub b : searched 1 (ascii "$10120747402BFC" ++ (CR ∷ [])) 0 ≡ at 0 16 3 9
unfolding searched resolved among seek seek_among len_at frame_at nikobus_form_len nikobus_pairs agreeing nikobus_from nikobus_to link_form_len link_head_len ll_of press_len tail_len pair16 pair8 bytes_of place_of is_hex one_of all only_if starts word_len run_len on hex_digit hex_byte hex_word feed poly_bits bits lows of_bits of_lows bits_of_bytes
b = refl

-- (c) the reset frame
pub c : searched 2 (0xD5 ∷ 0xAA ∷ 0x96 ∷ 0xFF ∷ 0x00 ∷ 0x00 ∷ 0x00 ∷ 0xA3 ∷ 0x4B ∷ []) 0 ≡ at 0 9 7 7
unfolding searched resolved among seek seek_among len_at frame_at nest_form_len agreeing crc_pair body_len is_byte all only_if starts word_len run_len on low_byte_first feed poly_bits bits lows of_bits of_lows bits_of_bytes
c = refl

-- (d) "check 0xB208 above", low byte first in a frame
pub d : searched 2 (0xD5 ∷ 0xAA ∷ 0x96 ∷ 0x82 ∷ 0x00 ∷ 0x02 ∷ 0x00 ∷ 0x00 ∷ 0x00 ∷ 0x08 ∷ 0xB2 ∷ []) 0 ≡ at 0 11 7 9
unfolding searched resolved among seek seek_among len_at frame_at nest_form_len agreeing crc_pair body_len is_byte all only_if starts word_len run_len on low_byte_first feed poly_bits bits lows of_bits of_lows bits_of_bytes
d = refl

-- .. and high byte first in none
pub d-high-first : searched 2 (0xD5 ∷ 0xAA ∷ 0x96 ∷ 0x82 ∷ 0x00 ∷ 0x02 ∷ 0x00 ∷ 0x00 ∷ 0x00 ∷ 0xB2 ∷ 0x08 ∷ []) 0 ≡ Err NoFrame
unfolding searched resolved among seek seek_among len_at frame_at nest_form_len agreeing crc_pair body_len is_byte all only_if starts word_len run_len on low_byte_first feed poly_bits bits lows of_bits of_lows bits_of_bytes
d-high-first = refl

-- (e) "`C0 69 02 44 9C DA` asks 40004"
pub e : searched 4 (0xC0 ∷ 0x69 ∷ 0x02 ∷ 0x44 ∷ 0x9C ∷ 0xDA ∷ []) 0 ≡ at 0 6 3 5
unfolding searched resolved among seek seek_among len_at frame_at nibe_form_len nibe_pair agreeing one_of is_byte all only_if run_len feed poly_bits bits lows of_bits of_lows bits_of_bytes
e = refl

-- (f) "`C0 69 C0 69 02 64 00 66` has its frame at 2"
pub f : searched 4 (0xC0 ∷ 0x69 ∷ 0xC0 ∷ 0x69 ∷ 0x02 ∷ 0x64 ∷ 0x00 ∷ 0x66 ∷ []) 0 ≡ at 2 6 5 7
unfolding searched resolved among seek seek_among len_at frame_at nibe_form_len nibe_pair agreeing one_of is_byte all only_if run_len feed poly_bits bits lows of_bits of_lows bits_of_bytes
f = refl

-- (g) "`<;I.3;1;0H;0;42;s;134;>` passes, 143 doesn't"
pub g : searched 5 (ascii "<;I.3;1;0H;0;42;s;134;>" ++ (CR ∷ LF ∷ [])) 0 ≡ at 0 25 2 17
unfolding searched resolved among seek seek_among len_at frame_at homiq_form_len homiq_pair agreeing homiq_to head_len type_len number_len number_in guess is_figure field_len field_char without_separators leading one_of only_if starts word_len on decimal decimal_in enough feed poly_bits bits lows of_bits of_lows bits_of_bytes
g = refl

pub g-143 : searched 5 (ascii "<;I.3;1;0H;0;42;s;143;>" ++ (CR ∷ LF ∷ [])) 0 ≡ Err NoFrame
unfolding searched resolved among seek seek_among len_at frame_at homiq_form_len homiq_pair agreeing homiq_to head_len type_len number_len number_in guess is_figure field_len field_char without_separators leading one_of only_if starts word_len on decimal decimal_in enough feed poly_bits bits lows of_bits of_lows bits_of_bytes
g-143 = refl

-- a buffer that ends at the place, or before it; a kind that there is not
pub at-the-end : searched 4 (0xC0 ∷ []) 1 ≡ Err NoFrame
unfolding searched resolved among seek seek_among
at-the-end = refl
