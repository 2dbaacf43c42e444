-- 01, "Known points" (h): the acknowledgement of (g)'s frame has 64, by computation; and 02, K3, that of ID 0.
-- Assumes nothing.
use mathlib.Core.List.{[], ◌∷◌, ◌++◌}
use mathlib.Core.Path.{◌≡◌, refl}
use lib.Dec.{lit≤}
use Rattle.digits.specs.Paper.Ascii.{ascii}
use Rattle.digits.specs.Paper.Bits.{lows}
use Rattle.digits.specs.Paper.Decimal.{decimal, decimal_in, enough}
use Rattle.checks.specs.Paper.Bits.{bits, of_lows, of_bits, bits_of_bytes}
use Rattle.checks.specs.Paper.Check.{poly_bits, feed}
use Rattle.layouts.specs.Paper.Chars.{one_of, all, CR, LF}
use Rattle.layouts.specs.Paper.Homiq.{field_char}
use Rattle.layouts.specs.Paper.Made.{Wire}
use Rattle.messages.proofs.Known as messages
use Rattle.messages.proofs.Known.{numbered-0}
use Rattle.commands.specs.Paper.Acknowledge.{FrameOf, acknowledgement}

-- the fields of `<;I.3;1;0H;0;42;s;134;>`
abbrev pub third : Wire
third = record { cmd = ascii "I.3"; val = ascii "1"; src = ascii "0H"; dst = ascii "0"; id = 42; type = 115 }

-- (g) it is their frame
pub g : FrameOf (ascii "<;I.3;1;0H;0;42;s;134;>" ++ (CR ∷ LF ∷ [])) third
unfolding one_of all field_char decimal decimal_in enough feed poly_bits bits lows of_bits of_lows bits_of_bytes
g =
    record {
      limits =
          record {
            cmd = record { some = lit≤ tt; short = lit≤ tt; chars = tt };
            val = record { some = lit≤ tt; short = lit≤ tt; chars = tt };
            src = record { some = lit≤ tt; short = lit≤ tt; chars = tt };
            dst = record { some = lit≤ tt; short = lit≤ tt; chars = tt };
            id = lit≤ tt;
            type = tt;
            crc = lit≤ tt;
          };
      frame = refl;
    }

-- (h) "its acknowledgement has 64"
pub h : acknowledgement third ≡ ascii "<;I.3;1;0;0H;42;a;64;>" ++ (CR ∷ LF ∷ [])
unfolding decimal decimal_in enough feed poly_bits bits lows of_bits of_lows bits_of_bytes
h = refl

-- 02, K3: the beat with ID 0, and its acknowledgement, which keeps that ID
pub id-0 : FrameOf (ascii "<;HB;1;0H;0;0;s;149;>" ++ (CR ∷ LF ∷ [])) numbered-0
unfolding decimal decimal_in enough feed poly_bits bits lows of_bits of_lows bits_of_bytes
id-0 = record { limits = (messages.id-0).good.limits.limits; frame = refl }

pub id-0-acknowledged : acknowledgement numbered-0 ≡ ascii "<;HB;1;0;0H;0;a;202;>" ++ (CR ∷ LF ∷ [])
unfolding decimal decimal_in enough feed poly_bits bits lows of_bits of_lows bits_of_bytes
id-0-acknowledged = refl
