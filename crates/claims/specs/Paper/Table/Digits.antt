-- The public functions of `digits`.
-- Assumes nothing.
use Rattle.std.specs.Prelude.{List, [], ◌∷◌, Bool, ◌≡◌, ℕ, ◌<◌, ◌^◌, ◌%◌, length, Option}
use Rattle.digits.specs.Paper.Answers.{AtEnd, byte_refusal, number_refusal, natural_refusal}
use Rattle.digits.specs.Paper.Answers.{value_or_zero, word_refusal}
use Rattle.digits.specs.Paper.Decimal.{decimal}
use Rattle.digits.specs.Paper.Hex.{hex_byte, hex_digit, hex_word}
use Rattle.digits.specs.Paper.LowFirst.{Held, low_byte_first}
use Rattle.digits.specs.Paper.Read.{Decides}
use Rattle.digits.specs.Paper.Refusals.{refusal_number}
use Rattle.digits.specs.declared.decimal.Decimal.{Decimal}
use Rattle.digits.specs.declared.refusal.Refusal.{Refusal}
use Rattle.claims.specs.Paper.Claim.{Claim, answering, reading}

-- The digits of n.
pub record DecimalDigitsArgs : Type 0 where
  pub n : ℕ

abbrev pub decimal-digits : Claim Decimal
decimal-digits =
    answering {Args = DecimalDigitsArgs} "digits::decimal::digits"
    (λ a r. AtEnd 20 (decimal a.n) r.chars r.from)

-- The number whose digits are the characters of s.
pub record DecimalNumberOfArgs : Type 0 where
  pub s : List ℕ

abbrev pub decimal-number-of : Claim (Option ℕ)
decimal-number-of =
    reading {Args = DecimalNumberOfArgs} "digits::decimal::number_of"
    (record {
      refuses-with = 7;
      refusal = natural_refusal;
      value = value_or_zero;
      zeros = 0;
      Limits = λ a n. n < 2 ^ 32;
      write = λ a. decimal;
      text = λ a. a.s;
    })

-- The digit of the low four bits of v.
pub record HexDigitArgs : Type 0 where
  pub v : ℕ

abbrev pub hex-digit : Claim ℕ
hex-digit =
    answering {Args = HexDigitArgs} "digits::hex::digit" (λ a r. r ≡ hex_digit (a.v % 16))

-- The value of a digit.
pub record HexValueArgs : Type 0 where
  pub c : ℕ

abbrev pub hex-value : Claim (Option ℕ)
hex-value =
    reading {Args = HexValueArgs} "digits::hex::value"
    (record {
      refuses-with = 5;
      refusal = byte_refusal;
      value = value_or_zero;
      zeros = 0;
      Limits = λ a v. v < 16;
      write = λ a v. hex_digit v ∷ [];
      text = λ a. a.c ∷ [];
    })

-- A byte as two digits, the high one first.
pub record HexTwoDigitsArgs : Type 0 where
  pub b : ℕ

abbrev pub hex-two-digits : Claim (List ℕ)
hex-two-digits =
    answering {Args = HexTwoDigitsArgs} "digits::hex::two_digits" (λ a r. r ≡ hex_byte a.b)

-- The byte that two digits are.
pub record HexByteOfArgs : Type 0 where
  pub high : ℕ
  pub low : ℕ

abbrev pub hex-byte-of : Claim (Option ℕ)
hex-byte-of =
    reading {Args = HexByteOfArgs} "digits::hex::byte_of"
    (record {
      refuses-with = 5;
      refusal = byte_refusal;
      value = value_or_zero;
      zeros = 0;
      Limits = λ a v. v < 256;
      write = λ a. hex_byte;
      text = λ a. a.high ∷ a.low ∷ [];
    })

-- A number of 16 bits as four digits.
pub record HexFourDigitsArgs : Type 0 where
  pub n : ℕ

abbrev pub hex-four-digits : Claim (List ℕ)
hex-four-digits =
    answering {Args = HexFourDigitsArgs} "digits::hex::four_digits" (λ a r. r ≡ hex_word a.n)

-- The number that four digits are.
pub record HexWordOfArgs : Type 0 where
  pub d : List ℕ

abbrev pub hex-word-of : Claim (Option ℕ)
hex-word-of =
    reading {Args = HexWordOfArgs} "digits::hex::word_of"
    (record {
      refuses-with = 5;
      refusal = word_refusal;
      value = value_or_zero;
      zeros = 0;
      Limits = λ a v. v < 65536;
      write = λ a. hex_word;
      text = λ a. a.d;
    })

--
pub record LowFirstOneArgs : Type 0 where
  pub n : ℕ

abbrev pub low-first-one : Claim (List ℕ)
low-first-one =
    answering {Args = LowFirstOneArgs} "digits::low_first::one" (λ a r. r ≡ low_byte_first 1 a.n)

--
pub record LowFirstTwoArgs : Type 0 where
  pub n : ℕ

abbrev pub low-first-two : Claim (List ℕ)
low-first-two =
    answering {Args = LowFirstTwoArgs} "digits::low_first::two" (λ a r. r ≡ low_byte_first 2 a.n)

--
pub record LowFirstFourArgs : Type 0 where
  pub n : ℕ

abbrev pub low-first-four : Claim (List ℕ)
low-first-four =
    answering {Args = LowFirstFourArgs} "digits::low_first::four" (λ a r. r ≡ low_byte_first 4 a.n)

-- A number as eight bytes, low byte first.
pub record LowFirstEightArgs : Type 0 where
  pub v : ℕ

abbrev pub low-first-eight : Claim (List ℕ)
low-first-eight =
    answering {Args = LowFirstEightArgs} "digits::low_first::eight" (λ a r. r ≡ low_byte_first 8 a.v)

-- The number that the bytes of s are.
pub record LowFirstNumberOfArgs : Type 0 where
  pub s : List ℕ

abbrev pub low-first-number-of : Claim (Option ℕ)
low-first-number-of =
    reading {Args = LowFirstNumberOfArgs} "digits::low_first::number_of"
    (record {
      refuses-with = 7;
      refusal = number_refusal;
      value = value_or_zero;
      zeros = 0;
      Limits = λ a. Held (length a.s);
      write = λ a. low_byte_first (length a.s);
      text = λ a. a.s;
    })

-- The number that document 01 gives a refusal.
pub record RefusalNumberArgs : Type 0 where
  pub why : Refusal

abbrev pub refusal-number : Claim ℕ
refusal-number =
    answering {Args = RefusalNumberArgs} "digits::refusal::number" (λ a r. r ≡ refusal_number a.why)

-- Whether two slices have the same bytes.
pub record SlicesSameArgs : Type 0 where
  pub a : List ℕ
  pub b : List ℕ

abbrev pub slices-same : Claim Bool
slices-same =
    answering {Args = SlicesSameArgs} "digits::slices::same" (λ a r. Decides (a.a ≡ a.b) r)
