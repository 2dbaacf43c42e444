-- The public functions of `numbers`.
-- Assumes nothing.
use Rattle.std.specs.Prelude.{List, [], ◌∷◌, Bool, false, ◌≡◌, ℕ, ℤ, pos, length, Result}
use Rattle.digits.specs.declared.refusal.Refusal.{Refusal}
use Rattle.puts.specs.Paper.Wrote.{Written}
use Rattle.numbers.specs.Paper.Answers.{BytesCause, RangeCause, TextCause, ValueCause, ValueIn, fits_refusal}
use Rattle.numbers.specs.Paper.Answers.{fits_value, reading_refusal, reading_value, shown_refusal, shown_value}
use Rattle.numbers.specs.Paper.Answers.{value_of}
use Rattle.numbers.specs.Paper.Answers.{value_refusal, zero_float, zero_number}
use Rattle.numbers.specs.Paper.ByteValues.{value_bytes}
use Rattle.numbers.specs.Paper.Panel.{ClimatePair, Panel}
use Rattle.numbers.specs.Paper.Single.{fits_single}
use Rattle.numbers.specs.Paper.Text.{InLimits, text}
use Rattle.numbers.specs.declared.panel.Climate.{Climate}
use Rattle.numbers.specs.declared.panel.Value.{Value as PanelValue}
use Rattle.numbers.specs.declared.text.Reading.{Reading}
use Rattle.claims.specs.Paper.Claim.{fronts, Claim, answering, reading, refuses}

-- Writes a number as `width` bytes from the front of the room.
pub record ByteValuesWriteArgs : Type 0 where
  pub raw : ℤ
  pub width : ℕ
  pub signed : Bool
  pub room : List ℕ

abbrev pub byte-values-write : Claim Written
byte-values-write =
    record {
      name = "numbers::byte_values::write";
      Args = ByteValuesWriteArgs;
      refusals = 7 ∷ 5 ∷ 4 ∷ [];
      Cause = λ a. ValueCause a.width a.signed a.raw (length a.room);
      form = fronts (λ a. a.room) (λ a bs. bs ≡ value_bytes a.width a.raw);
    }

-- The number that `width` bytes are.
pub record ByteValuesReadArgs : Type 0 where
  pub s : List ℕ
  pub width : ℕ
  pub signed : Bool

abbrev pub byte-values-read : Claim (Result ℤ Refusal)
byte-values-read =
    record {
      name = "numbers::byte_values::read";
      Args = ByteValuesReadArgs;
      refusals = 7 ∷ 5 ∷ [];
      Cause = λ a. BytesCause a.width a.s;
      form = refuses
          (record {
            refusal = value_refusal;
            value = value_of;
            zeros = pos 0;
            Right = λ a. ValueIn a.width a.signed a.s;
          });
    }

-- The raw number for the panel.
pub record PanelOfArgs : Type 0 where
  pub raw : ℤ

abbrev pub panel-of : Claim (Result PanelValue Refusal)
panel-of =
    record {
      name = "numbers::panel::of";
      Args = PanelOfArgs;
      refusals = 5 ∷ [];
      Cause = λ a. RangeCause a.raw;
      form = refuses
          (record {
            refusal = shown_refusal;
            value = shown_value;
            zeros = zero_float;
            Right = λ a. Panel a.raw;
          });
    }

-- A climate message's counts for the panel.
pub record PanelPairArgs : Type 0 where
  pub temperature : ℤ
  pub humidity : ℕ

abbrev pub panel-pair : Claim Climate
panel-pair =
    answering {Args = PanelPairArgs} "numbers::panel::pair"
    (λ a r. ClimatePair a.temperature (pos a.humidity) r.temperature r.humidity)

-- Whether a single float holds the raw number.
pub record SingleFitsArgs : Type 0 where
  pub raw : ℤ

abbrev pub single-fits : Claim (Result Bool Refusal)
single-fits =
    record {
      name = "numbers::single::fits";
      Args = SingleFitsArgs;
      refusals = 5 ∷ [];
      Cause = λ a. RangeCause a.raw;
      form = refuses
          (record {
            refusal = fits_refusal;
            value = fits_value;
            zeros = false;
            Right = λ a b. b ≡ fits_single a.raw;
          });
    }

-- Writes the text of a raw number from the front of the room.
pub record TextWriteArgs : Type 0 where
  pub raw : ℤ
  pub decimals : ℕ
  pub room : List ℕ

abbrev pub text-write : Claim Written
text-write =
    record {
      name = "numbers::text::write";
      Args = TextWriteArgs;
      refusals = 7 ∷ 5 ∷ 4 ∷ [];
      Cause = λ a. TextCause a.raw a.decimals (length a.room);
      form = fronts (λ a. a.room) (λ a bs. bs ≡ text a.raw a.decimals);
    }

-- The number whose text t is, with its decimals.
pub record TextReadArgs : Type 0 where
  pub t : List ℕ

abbrev pub text-read : Claim (Result Reading Refusal)
text-read =
    reading {Args = TextReadArgs} "numbers::text::read"
    (record {
      refuses-with = 7;
      refusal = reading_refusal;
      value = reading_value;
      zeros = zero_number;
      Limits = λ a. InLimits;
      write = λ a n. text n.raw n.decimals;
      text = λ a. a.t;
    })
