-- What the code's answers say in the numbers of document 01, and the promises.
-- Assumes nothing.
use Rattle.std.specs.Prelude.{◌≡◌, ℕ, ◌+◌, ◌^◌, ◌<◌, List, [], ◌∷◌, ◌++◌, length, replicate, Option, None, Some}
use Rattle.digits.specs.Paper.Hex.{hex_digit, hex_byte, hex_word}
use Rattle.digits.specs.Paper.Decimal.{decimal}
use Rattle.digits.specs.Paper.LowFirst.{Held, SixteenBits, low_byte_first}
use Rattle.digits.specs.Paper.Read.{Reads}

-- what is read, as a refusal number and a value: no value is the refusal k and 0
abbrev pub refusal_if_none : ℕ → Option ℕ → ℕ
refusal_if_none k (Some v) = 0
refusal_if_none k None = k

abbrev pub value_or_zero : Option ℕ → ℕ
value_or_zero (Some v) = v
value_or_zero None = 0

-- 01, "Refusal numbers": 5 "a field .. outside its limits"
abbrev pub byte_refusal : Option ℕ → ℕ
byte_refusal r = refusal_if_none 5 r

abbrev pub word_refusal : Option ℕ → ℕ
word_refusal r = refusal_if_none 5 r

-- 01, "Refusal numbers": 7 "width .. not as above"
abbrev pub number_refusal : Option ℕ → ℕ
number_refusal r = refusal_if_none 7 r

-- 01, "Refusal numbers": 7 "number text not as above, or a text whose number is out of range"
abbrev pub natural_refusal : Option ℕ → ℕ
natural_refusal r = refusal_if_none 7 r

-- reading one hex digit, two, and four
abbrev pub ReadsDigit : ℕ → Option ℕ → Type 0
ReadsDigit c r = Reads 0 (λ v. v < 16) (λ v. hex_digit v ∷ []) 5 (c ∷ []) (byte_refusal r) (value_or_zero r)

abbrev pub ReadsByte : ℕ → ℕ → Option ℕ → Type 0
ReadsByte high low r = Reads 0 (λ v. v < 256) hex_byte 5 (high ∷ low ∷ []) (byte_refusal r) (value_or_zero r)

abbrev pub ReadsWord : List ℕ → Option ℕ → Type 0
ReadsWord d r = Reads 0 SixteenBits hex_word 5 d (word_refusal r) (value_or_zero r)

-- reading bytes as a number, low byte first
abbrev pub ReadsNumber : List ℕ → Option ℕ → Type 0
ReadsNumber s r = Reads 0 (Held (length s)) (low_byte_first (length s)) 7 s (number_refusal r) (value_or_zero r)

-- reading decimal digits as a number of 32 bits
abbrev pub ReadsDecimal : List ℕ → Option ℕ → Type 0
ReadsDecimal s r = Reads 0 (λ n. n < 2 ^ 32) decimal 7 s (natural_refusal r) (value_or_zero r)

-- a text at the end of `room` characters, from the place `from` on, with zeros before it
pub record AtEnd (room : ℕ) (text chars : List ℕ) (from : ℕ) : Type 0 where
  pub place : from + length text ≡ room
  pub text-last : chars ≡ replicate from 0 ++ text
