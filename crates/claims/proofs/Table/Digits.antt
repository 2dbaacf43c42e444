-- The public functions of `digits`: each keeps its claim.
-- Assumes nothing.
use mathlib.Core.List.{List, [], ◌∷◌}
use mathlib.Core.Path.{refl}
use native.Mathlib.Omega.{arith}
use Rattle.digits.specs.Paper.Decimal.{decimal}
use Rattle.digits.proofs.Unique.{equation, test, digit_value, two_digits, four-digits, decimal-number, low-first-number, written}
use Rattle.digits.proofs as digits
use Rattle.claims.specs.Paper.Row.{Row, Proper, Every, none, and, promise}
use Rattle.claims.specs.Paper.Function.{function_of}
use Rattle.claims.specs.Paper.Table.Digits as claims
use Rattle.claims.proofs.Laws.Forms.{answers-read, reads-answered, read-stated}
use Rattle.claims.proofs.Laws.Keeps.{keeps-as}
use Rattle.claims.proofs.Occur as inputs

abbrev pub decimal-digits : Row
decimal-digits =
    record {
      function = function_of digits.decimal.digits.Symbol.symbol digits.decimal.digits.Kinds.ps digits.decimal.digits.Kinds.r
          digits.decimal.digits.Symbol.code;
      claim = λ κs. claims.decimal-digits;
      args = λ κs a. record { n = a.0 };
      later = λ κs s. [];
    }

pub decimal-digits-proper : Proper decimal-digits
decimal-digits-proper =
    record {
      named = λ κs. refl;
      keeps = λ w. digits.decimal.digits.Met.met w.𝓤 w.𝓛 w.𝓜 w.𝓡;
      stated = λ κs a no c. absurd c;
      occurs = λ κs. tt;
      one = λ κs a r q ws vs x y. (written _ r q x y, refl);
    }

abbrev pub decimal-number-of : Row
decimal-number-of =
    record {
      function = function_of digits.decimal.number_of.Symbol.symbol digits.decimal.number_of.Kinds.ps
          digits.decimal.number_of.Kinds.r digits.decimal.number_of.Symbol.code;
      claim = λ κs. claims.decimal-number-of;
      args = λ κs a. record { s = a.0.now };
      later = λ κs s. [];
    }

pub decimal-number-of-proper : Proper decimal-number-of
decimal-number-of-proper =
    record {
      named = λ κs. refl;
      keeps = keeps-as decimal-number-of.function digits.decimal.number_of.Reads.Post (promise decimal-number-of)
          (λ κs a r ws p. answers-read refl (omega arith) p)
          (λ w. digits.decimal.number_of.Met.met w.𝓤 w.𝓛 w.𝓜 w.𝓡);
      stated = λ κs a no c. read-stated c;
      occurs = λ κs. inputs.decimal-number-of;
      one = λ κs a r q ws vs x y. (decimal-number _ r q (reads-answered x) (reads-answered y), refl);
    }

abbrev pub hex-digit : Row
hex-digit =
    record {
      function = function_of digits.hex.digit.Symbol.symbol digits.hex.digit.Kinds.ps digits.hex.digit.Kinds.r
          digits.hex.digit.Symbol.code;
      claim = λ κs. claims.hex-digit;
      args = λ κs a. record { v = a.0 };
      later = λ κs s. [];
    }

pub hex-digit-proper : Proper hex-digit
hex-digit-proper =
    record {
      named = λ κs. refl;
      keeps = λ w. digits.hex.digit.Met.met w.𝓤 w.𝓛 w.𝓜 w.𝓡;
      stated = λ κs a no c. absurd c;
      occurs = λ κs. tt;
      one = λ κs a r q ws vs x y. (equation x y, refl);
    }

abbrev pub hex-value : Row
hex-value =
    record {
      function = function_of digits.hex.value.Symbol.symbol digits.hex.value.Kinds.ps digits.hex.value.Kinds.r
          digits.hex.value.Symbol.code;
      claim = λ κs. claims.hex-value;
      args = λ κs a. record { c = a.0 };
      later = λ κs s. [];
    }

pub hex-value-proper : Proper hex-value
hex-value-proper =
    record {
      named = λ κs. refl;
      keeps = keeps-as hex-value.function digits.hex.value.Reads.Post (promise hex-value)
          (λ κs a r ws p. answers-read refl (omega arith) p)
          (λ w. digits.hex.value.Met.met w.𝓤 w.𝓛 w.𝓜 w.𝓡);
      stated = λ κs a no c. read-stated c;
      occurs = λ κs. inputs.hex-value;
      one = λ κs a r q ws vs x y. (digit_value _ r q (reads-answered x) (reads-answered y), refl);
    }

abbrev pub hex-two-digits : Row
hex-two-digits =
    record {
      function = function_of digits.hex.two_digits.Symbol.symbol digits.hex.two_digits.Kinds.ps digits.hex.two_digits.Kinds.r
          digits.hex.two_digits.Symbol.code;
      claim = λ κs. claims.hex-two-digits;
      args = λ κs a. record { b = a.0 };
      later = λ κs s. [];
    }

pub hex-two-digits-proper : Proper hex-two-digits
hex-two-digits-proper =
    record {
      named = λ κs. refl;
      keeps = λ w. digits.hex.two_digits.Met.met w.𝓤 w.𝓛 w.𝓜 w.𝓡;
      stated = λ κs a no c. absurd c;
      occurs = λ κs. tt;
      one = λ κs a r q ws vs x y. (equation x y, refl);
    }

abbrev pub hex-byte-of : Row
hex-byte-of =
    record {
      function = function_of digits.hex.byte_of.Symbol.symbol digits.hex.byte_of.Kinds.ps digits.hex.byte_of.Kinds.r
          digits.hex.byte_of.Symbol.code;
      claim = λ κs. claims.hex-byte-of;
      args = λ κs a. record { high = a.0; low = a.1.0 };
      later = λ κs s. [];
    }

pub hex-byte-of-proper : Proper hex-byte-of
hex-byte-of-proper =
    record {
      named = λ κs. refl;
      keeps = keeps-as hex-byte-of.function digits.hex.byte_of.Reads.Post (promise hex-byte-of)
          (λ κs a r ws p. answers-read refl (omega arith) p)
          (λ w. digits.hex.byte_of.Met.met w.𝓤 w.𝓛 w.𝓜 w.𝓡);
      stated = λ κs a no c. read-stated c;
      occurs = λ κs. inputs.hex-byte-of;
      one = λ κs a r q ws vs x y. (two_digits _ _ r q (reads-answered x) (reads-answered y), refl);
    }

abbrev pub hex-four-digits : Row
hex-four-digits =
    record {
      function = function_of digits.hex.four_digits.Symbol.symbol digits.hex.four_digits.Kinds.ps digits.hex.four_digits.Kinds.r
          digits.hex.four_digits.Symbol.code;
      claim = λ κs. claims.hex-four-digits;
      args = λ κs a. record { n = a.0 };
      later = λ κs s. [];
    }

pub hex-four-digits-proper : Proper hex-four-digits
hex-four-digits-proper =
    record {
      named = λ κs. refl;
      keeps = λ w. digits.hex.four_digits.Met.met w.𝓤 w.𝓛 w.𝓜 w.𝓡;
      stated = λ κs a no c. absurd c;
      occurs = λ κs. tt;
      one = λ κs a r q ws vs x y. (equation x y, refl);
    }

abbrev pub hex-word-of : Row
hex-word-of =
    record {
      function = function_of digits.hex.word_of.Symbol.symbol digits.hex.word_of.Kinds.ps digits.hex.word_of.Kinds.r
          digits.hex.word_of.Symbol.code;
      claim = λ κs. claims.hex-word-of;
      args = λ κs a. record { d = a.0 };
      later = λ κs s. [];
    }

pub hex-word-of-proper : Proper hex-word-of
hex-word-of-proper =
    record {
      named = λ κs. refl;
      keeps = keeps-as hex-word-of.function digits.hex.word_of.Reads.Post (promise hex-word-of)
          (λ κs a r ws p. answers-read refl (omega arith) p)
          (λ w. digits.hex.word_of.Met.met w.𝓤 w.𝓛 w.𝓜 w.𝓡);
      stated = λ κs a no c. read-stated c;
      occurs = λ κs. inputs.hex-word-of;
      one = λ κs a r q ws vs x y. (four-digits _ r q (reads-answered x) (reads-answered y), refl);
    }

abbrev pub low-first-one : Row
low-first-one =
    record {
      function = function_of digits.low_first.one.Symbol.symbol digits.low_first.one.Kinds.ps digits.low_first.one.Kinds.r
          digits.low_first.one.Symbol.code;
      claim = λ κs. claims.low-first-one;
      args = λ κs a. record { n = a.0 };
      later = λ κs s. [];
    }

pub low-first-one-proper : Proper low-first-one
low-first-one-proper =
    record {
      named = λ κs. refl;
      keeps = λ w. digits.low_first.one.Met.met w.𝓤 w.𝓛 w.𝓜 w.𝓡;
      stated = λ κs a no c. absurd c;
      occurs = λ κs. tt;
      one = λ κs a r q ws vs x y. (equation x y, refl);
    }

abbrev pub low-first-two : Row
low-first-two =
    record {
      function = function_of digits.low_first.two.Symbol.symbol digits.low_first.two.Kinds.ps digits.low_first.two.Kinds.r
          digits.low_first.two.Symbol.code;
      claim = λ κs. claims.low-first-two;
      args = λ κs a. record { n = a.0 };
      later = λ κs s. [];
    }

pub low-first-two-proper : Proper low-first-two
low-first-two-proper =
    record {
      named = λ κs. refl;
      keeps = λ w. digits.low_first.two.Met.met w.𝓤 w.𝓛 w.𝓜 w.𝓡;
      stated = λ κs a no c. absurd c;
      occurs = λ κs. tt;
      one = λ κs a r q ws vs x y. (equation x y, refl);
    }

abbrev pub low-first-four : Row
low-first-four =
    record {
      function = function_of digits.low_first.four.Symbol.symbol digits.low_first.four.Kinds.ps digits.low_first.four.Kinds.r
          digits.low_first.four.Symbol.code;
      claim = λ κs. claims.low-first-four;
      args = λ κs a. record { n = a.0 };
      later = λ κs s. [];
    }

pub low-first-four-proper : Proper low-first-four
low-first-four-proper =
    record {
      named = λ κs. refl;
      keeps = λ w. digits.low_first.four.Met.met w.𝓤 w.𝓛 w.𝓜 w.𝓡;
      stated = λ κs a no c. absurd c;
      occurs = λ κs. tt;
      one = λ κs a r q ws vs x y. (equation x y, refl);
    }

abbrev pub low-first-eight : Row
low-first-eight =
    record {
      function = function_of digits.low_first.eight.Symbol.symbol digits.low_first.eight.Kinds.ps digits.low_first.eight.Kinds.r
          digits.low_first.eight.Symbol.code;
      claim = λ κs. claims.low-first-eight;
      args = λ κs a. record { v = a.0 };
      later = λ κs s. [];
    }

pub low-first-eight-proper : Proper low-first-eight
low-first-eight-proper =
    record {
      named = λ κs. refl;
      keeps = λ w. digits.low_first.eight.Met.met w.𝓤 w.𝓛 w.𝓜 w.𝓡;
      stated = λ κs a no c. absurd c;
      occurs = λ κs. tt;
      one = λ κs a r q ws vs x y. (equation x y, refl);
    }

abbrev pub low-first-number-of : Row
low-first-number-of =
    record {
      function = function_of digits.low_first.number_of.Symbol.symbol digits.low_first.number_of.Kinds.ps
          digits.low_first.number_of.Kinds.r digits.low_first.number_of.Symbol.code;
      claim = λ κs. claims.low-first-number-of;
      args = λ κs a. record { s = a.0.now };
      later = λ κs s. [];
    }

pub low-first-number-of-proper : Proper low-first-number-of
low-first-number-of-proper =
    record {
      named = λ κs. refl;
      keeps = keeps-as low-first-number-of.function digits.low_first.number_of.Reads.Post (promise low-first-number-of)
          (λ κs a r ws p. answers-read refl (omega arith) p)
          (λ w. digits.low_first.number_of.Met.met w.𝓤 w.𝓛 w.𝓜 w.𝓡);
      stated = λ κs a no c. read-stated c;
      occurs = λ κs. inputs.low-first-number-of;
      one = λ κs a r q ws vs x y. (low-first-number _ r q (reads-answered x) (reads-answered y), refl);
    }

abbrev pub refusal-number : Row
refusal-number =
    record {
      function = function_of digits.refusal.number.Symbol.symbol digits.refusal.number.Kinds.ps digits.refusal.number.Kinds.r
          digits.refusal.number.Symbol.code;
      claim = λ κs. claims.refusal-number;
      args = λ κs a. record { why = a.0 };
      later = λ κs s. [];
    }

pub refusal-number-proper : Proper refusal-number
refusal-number-proper =
    record {
      named = λ κs. refl;
      keeps = λ w. digits.refusal.number.Met.met w.𝓤 w.𝓛 w.𝓜 w.𝓡;
      stated = λ κs a no c. absurd c;
      occurs = λ κs. tt;
      one = λ κs a r q ws vs x y. (equation x y, refl);
    }

abbrev pub slices-same : Row
slices-same =
    record {
      function = function_of digits.slices.same.Symbol.symbol digits.slices.same.Kinds.ps digits.slices.same.Kinds.r
          digits.slices.same.Symbol.code;
      claim = λ κs. claims.slices-same;
      args = λ κs a. record { a = a.0.now; b = a.1.0.now };
      later = λ κs s. [];
    }

pub slices-same-proper : Proper slices-same
slices-same-proper =
    record {
      named = λ κs. refl;
      keeps = λ w. digits.slices.same.Met.met w.𝓤 w.𝓛 w.𝓜 w.𝓡;
      stated = λ κs a no c. absurd c;
      occurs = λ κs. tt;
      one = λ κs a r q ws vs x y. (test x y, refl);
    }

-- ---- all of them

abbrev pub rows : List Row
rows = decimal-digits ∷ decimal-number-of ∷ hex-digit ∷ hex-value ∷ hex-two-digits ∷ hex-byte-of ∷ hex-four-digits ∷ hex-word-of ∷ low-first-one ∷ low-first-two ∷ low-first-four ∷ low-first-eight ∷ low-first-number-of ∷ refusal-number ∷ slices-same ∷ []

pub rows-proper : Every Proper rows
rows-proper =
    and decimal-digits-proper
    (and decimal-number-of-proper
    (and hex-digit-proper
    (and hex-value-proper
    (and hex-two-digits-proper
    (and hex-byte-of-proper
    (and hex-four-digits-proper
    (and hex-word-of-proper
    (and low-first-one-proper
    (and low-first-two-proper
    (and low-first-four-proper
    (and low-first-eight-proper
    (and low-first-number-of-proper
    (and refusal-number-proper
    (and slices-same-proper none))))))))))))))
