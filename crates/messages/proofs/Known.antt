-- 01, "Known points" (a), (b), (c) and (e), and 02, K3: the bytes are computed from the definitions, and so is that no message above has
-- them.
-- By `one-message-of` of Theorems each is the one message of its frame.
-- Assumes nothing.
use mathlib.Core.List.{[], ◌∷◌, ◌++◌}
use mathlib.Core.Logic.{inl}
use mathlib.Core.Path.{refl}
use lib.Dec.{lit<, lit≤}
use Rattle.digits.specs.Paper.Ascii.{ascii}
use Rattle.digits.specs.Paper.Bits.{lows}
use Rattle.digits.specs.Paper.Decimal.{decimal, decimal_in, enough}
use Rattle.digits.specs.Paper.Hex.{hex_digit, hex_byte, hex_bytes, hex_word}
use Rattle.digits.specs.Paper.LowFirst.{low_byte_first}
use Rattle.digits.proofs.Laws.Bytes.{bytes-nil, bytes-cons}
use Rattle.checks.specs.Paper.Bits.{bits, of_lows, of_bits, bits_of_bytes}
use Rattle.checks.specs.Paper.Check.{poly_bits, feed}
use Rattle.checks.specs.Paper.Xor.{xor_from}
use Rattle.layouts.specs.Paper.Chars.{one_of, all, CR, LF}
use Rattle.layouts.specs.Paper.Homiq.{field_char}
use Rattle.layouts.specs.Paper.Made.{Wire}
use Rattle.messages.specs.Paper.Answers.{Stands}
use Rattle.messages.specs.Paper.Message.{read, link, command, ask, beat}
use Rattle.messages.specs.Paper.Table.{content_of, Limits}
use Rattle.messages.specs.Work.Look.{look, look_link, look_nibe, is_read, is_set, is_ask}
use Rattle.messages.proofs.Laws.HomiqRows.{beat-found}
use Rattle.messages.proofs.Laws.Table.{free}
use Rattle.messages.proofs.Theorems.{bytes-stand}

-- (a) "`$10110000B8CF9D` CR is link"
pub a : Stands 1 (ascii "$10110000B8CF9D" ++ (CR ∷ [])) (link (0x11 ∷ 0x00 ∷ 0x00 ∷ []))
unfolding content_of look look_link is_read is_set hex_digit hex_byte hex_bytes hex_word feed poly_bits bits lows of_bits of_lows bits_of_bytes
a =
    bytes-stand
    (record {
      limits = record { enough = lit≤ tt; short = lit≤ tt; bytes = bytes-cons (lit< tt) (bytes-cons (lit< tt) (bytes-cons (lit< tt) bytes-nil)) };
      free = free (link (0x11 ∷ 0x00 ∷ 0x00 ∷ [])) refl;
    }) refl refl

-- (b) "`$10120747402BFC` CR is read, group 1, 4707"
pub b : Stands 1 (ascii "$10120747402BFC" ++ (CR ∷ [])) (read 1 0x4707)
unfolding content_of look look_link is_read low_byte_first hex_digit hex_byte hex_bytes hex_word feed poly_bits bits lows of_bits of_lows bits_of_bytes
b = bytes-stand (record { limits = (inl refl, lit< tt); free = free (read 1 0x4707) refl }) refl refl

-- (c) the reset frame
pub c : Stands 2 (0xD5 ∷ 0xAA ∷ 0x96 ∷ 0xFF ∷ 0x00 ∷ 0x00 ∷ 0x00 ∷ 0xA3 ∷ 0x4B ∷ []) (command 0x00FF [])
unfolding content_of look low_byte_first feed poly_bits bits lows of_bits of_lows bits_of_bytes
c =
    bytes-stand
    (record {
      limits = (lit< tt, record { enough = lit≤ tt; short = lit≤ tt; bytes = bytes-nil });
      free = free (command 0x00FF []) refl;
    }) refl refl

-- (e) "`C0 69 02 44 9C DA` asks 40004"
pub e : Stands 4 (0xC0 ∷ 0x69 ∷ 0x02 ∷ 0x44 ∷ 0x9C ∷ 0xDA ∷ []) (ask 40004)
unfolding content_of look look_nibe is_ask low_byte_first xor_from
e = bytes-stand (record { limits = lit< tt; free = free (ask 40004) refl }) refl refl

-- 02, K3: "ID 0 is to be accepted and written as `0`": `<;HB;1;0H;0;0;s;149;>` CR LF is the beat of these fields
abbrev pub numbered-0 : Wire
numbered-0 = record { cmd = ascii "HB"; val = ascii "1"; src = ascii "0H"; dst = ascii "0"; id = 0; type = 115 }

pub id-0 : Stands 5 (ascii "<;HB;1;0H;0;0;s;149;>" ++ (CR ∷ LF ∷ [])) (beat numbered-0)
unfolding content_of look one_of all field_char decimal decimal_in enough feed poly_bits bits lows of_bits of_lows bits_of_bytes
id-0 = bytes-stand (record { limits = right; free = free (beat numbered-0) (beat-found numbered-0 right) }) refl refl
  where
    right : Limits (beat numbered-0)
    right =
        record {
          limits =
              record {
                cmd = record { some = lit≤ tt; short = lit≤ tt; chars = tt };
                val = record { some = lit≤ tt; short = lit≤ tt; chars = tt };
                src = record { some = lit≤ tt; short = lit≤ tt; chars = tt };
                dst = record { some = lit≤ tt; short = lit≤ tt; chars = tt };
                id = lit≤ tt;
                type = tt;
                crc = lit≤ tt;
              };
          cmd = refl;
          val = record { letter = 49; one = tt; is = refl };
        }
