-- What the definition of a number's text comes to, for a reader.
-- Assumes nothing.
use Rattle.digits.specs.declared.refusal.Refusal.{Refusal}
use Rattle.std.specs.Prelude.{Ok, Result}
use mathlib.Core.Path.{◌≡◌, refl, ap}
use mathlib.Core.List.{List, ◌++◌}
use Prim.Native.Nat.{ℕ, ◌/◌, ◌^◌, ◌≤◌, ◌<◌}
use native.Mathlib.Nat.{le_trans}
use native.Mathlib.Omega.{arith}
use lib.IntN.{ℤ, nat_abs}
use lib.ListN.{length, drop}
use Rattle.digits.specs.Paper.Ascii.{ascii}
use Rattle.digits.specs.Paper.Decimal.{decimal_in, enough, decimal}
use Rattle.digits.proofs.Laws.Reads.{answered, no-reading}
use Rattle.puts.specs.Paper.Wrote.{wrote, Writes, Written}
use Rattle.puts.proofs.Unique.{one_written}
use Rattle.numbers.specs.Paper.Raw.{Raw, most_decimals}
use Rattle.numbers.specs.Paper.Text.{below_zero, sign, last_digits, text_of, text}
use Rattle.numbers.specs.Paper.Exact.{Exact}
use Rattle.numbers.specs.Paper.Answers.{TextCause, reading_refusal, ReadsText}
use Rattle.numbers.specs.declared.text.Reading.{Reading}
use Rattle.numbers.proofs.Laws.Causes.{text-only, no-cause, decimals-right, range-right, room-enough}
use Rattle.numbers.proofs.Laws.Signs.{magnitude-lt}
use Rattle.numbers.proofs.Laws.Text.{length_last, text-short}
use Rattle.numbers.proofs.Laws.Worth.{all_digits, worth-both, point-before}
use Rattle.numbers.proofs.Laws.Reader as reader
use Rattle.numbers.proofs.Laws.Reading.{is_number}
use Rattle.numbers.proofs.Laws.Tried.{refused-unless}
use Rattle.numbers.proofs.Unique.{text-read}

-- A TEXT IS EXACT: its digits, without the point, are worth the raw number
pub exact : (z : ℤ) (d : ℕ) → Exact z d (text z d)
unfolding text_of
exact z d =
    record {
      whole = decimal (nat_abs z / 10 ^ d);
      behind = last_digits d (nat_abs z);
      stands = ap (λ (f : List ℕ). sign (below_zero z) ++ (decimal (nat_abs z / 10 ^ d) ++ f)) (point-before d (nat_abs z));
      digits = all_digits (nat_abs z / 10 ^ d) d (nat_abs z);
      decimals = length_last d (nat_abs z);
      magnitude = worth-both (nat_abs z) d;
    }

-- A TEXT HAS AT MOST 12 CHARACTERS
pub at-most-12 : (z : ℤ) (d : ℕ) → Raw z → d ≤ most_decimals → length (text z d) ≤ 12
at-most-12 z d r h = text-short (below_zero z) (nat_abs z) d (magnitude-lt z r) h

-- SO A ROOM OF 12 IS ALWAYS ENOUGH: a raw number at 0 to 3 decimals is never refused there, and its text stands at the room's front
pub room-of-12 : (z : ℤ) (d : ℕ) (r : Written) (room later : List ℕ) → Raw z → d ≤ most_decimals → 12 ≤ length room
    → Writes (TextCause z d (length room)) (text z d) room r later
    → (r ≡ Ok (length (text z d))) × (later ≡ text z d ++ drop (length (text z d)) room)
room-of-12 z d r room later raw few h a =
    let enough : length (text z d) ≤ length room = le_trans (at-most-12 z d raw few) h in
    one_written a (wrote (no-cause text-only (decimals-right few) (range-right raw) (room-enough enough)))

-- NO TWO NUMBERS HAVE THE SAME TEXT, at whatever decimals
pub one_number : (y z : ℤ) (d e : ℕ) → text y d ≡ text z e → (y ≡ z) × (d ≡ e)
one_number = reader.text-inj

-- WRITTEN AND READ BACK, A NUMBER AND ITS DECIMALS ARE THE SAME; READ AND WRITTEN, A TEXT IS THE SAME
pub written-then-read : (z : ℤ) (d : ℕ) (r : Result Reading Refusal) → Raw z → d ≤ most_decimals → ReadsText (text z d) r → r ≡ Ok (record { raw = z; decimals = d })
written-then-read z d r raw few a = text-read (text z d) r (Ok (record { raw = z; decimals = d })) a (is_number (text z d) z d raw few refl)

pub read-then-written : (t : List ℕ) (z : ℤ) (d : ℕ) → ReadsText t (Ok (record { raw = z; decimals = d })) → text z d ≡ t
read-then-written t z d a = (answered (omega arith) a refl).1

-- ---- texts that are no number's

-- reading t is refused with 7, whatever reads it right
abbrev pub Refused7 : List ℕ → Type 0
Refused7 t = (r : Result Reading Refusal) → ReadsText t r → reading_refusal r ≡ 7

-- A TEXT OF MORE THAN 12 CHARACTERS IS REFUSED
pub longer-refused : (t : List ℕ) → 12 < length t → Refused7 t
longer-refused t h r a =
    no-reading (omega arith) (λ n l e. omega (arith, at-most-12 n.raw n.decimals l.in-range l.few, ap length e)) a

-- THESE ARE REFUSED WITH 7: a minus on zero, leading zeros, no digit behind or before the point, a plus, four decimals, nothing
pub refused-texts : Refused7 (ascii "-0") × Refused7 (ascii "-0.00") × Refused7 (ascii "00") × Refused7 (ascii "01") × Refused7 (ascii "1.") × Refused7 (ascii ".5")
    × Refused7 (ascii "+1") × Refused7 (ascii "1.2345") × Refused7 (ascii "") × Refused7 (ascii "-") × Refused7 (ascii "1,5") × Refused7 (ascii "1e3") × Refused7 (ascii " 1")
unfolding text_of last_digits decimal enough decimal_in
refused-texts = (
  refused-unless (ascii "-0") refl,
  refused-unless (ascii "-0.00") refl,
  refused-unless (ascii "00") refl,
  refused-unless (ascii "01") refl,
  refused-unless (ascii "1.") refl,
  refused-unless (ascii ".5") refl,
  refused-unless (ascii "+1") refl,
  refused-unless (ascii "1.2345") refl,
  refused-unless (ascii "") refl,
  refused-unless (ascii "-") refl,
  refused-unless (ascii "1,5") refl,
  refused-unless (ascii "1e3") refl,
  refused-unless (ascii " 1") refl,
)
