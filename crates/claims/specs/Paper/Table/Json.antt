-- The public functions of `json`.
-- Assumes nothing.
use Rattle.std.specs.Prelude.{List, Bool, ℕ, ℤ, pos}
use Rattle.json_values.specs.Paper.Decimals.{decimals_of}
use Rattle.json_values.specs.Paper.Json as paper
use Rattle.json_values.specs.declared.Decimals.{Decimals}
use Rattle.claims.specs.Paper.Claim.{Claim, putting}

-- Puts a string of upper-case hex, two digits a byte.
pub record HexArgs : Type 0 where
  pub s : List ℕ
  pub room : List ℕ
  pub at : ℕ

abbrev pub hex : Claim ℕ
hex =
    putting {Args = HexArgs} "json_values::hex"
    (record {
      room = λ a. a.room;
      place = λ a. a.at;
      bytes = λ a. paper.hex a.s;
    })

-- Puts a string, one character a byte.
pub record CharsArgs : Type 0 where
  pub s : List ℕ
  pub room : List ℕ
  pub at : ℕ

abbrev pub chars : Claim ℕ
chars =
    putting {Args = CharsArgs} "json_values::chars"
    (record {
      room = λ a. a.room;
      place = λ a. a.at;
      bytes = λ a. paper.chars a.s;
    })

-- Puts `true` or `false`.
pub record TruthArgs : Type 0 where
  pub b : Bool
  pub room : List ℕ
  pub at : ℕ

abbrev pub truth : Claim ℕ
truth =
    putting {Args = TruthArgs} "json_values::truth"
    (record {
      room = λ a. a.room;
      place = λ a. a.at;
      bytes = λ a. paper.truth a.b;
    })

-- Puts the reading of a raw number, with a sign or without.
pub record SignedArgs : Type 0 where
  pub raw : ℤ
  pub decimals : Decimals
  pub room : List ℕ
  pub at : ℕ

abbrev pub signed : Claim ℕ
signed =
    putting {Args = SignedArgs} "json_values::signed"
    (record {
      room = λ a. a.room;
      place = λ a. a.at;
      bytes = λ a. paper.reading a.raw (decimals_of a.decimals);
    })

--
pub record UnsignedArgs : Type 0 where
  pub raw : ℕ
  pub decimals : Decimals
  pub room : List ℕ
  pub at : ℕ

abbrev pub unsigned : Claim ℕ
unsigned =
    putting {Args = UnsignedArgs} "json_values::unsigned"
    (record {
      room = λ a. a.room;
      place = λ a. a.at;
      bytes = λ a. paper.reading (pos a.raw) (decimals_of a.decimals);
    })
