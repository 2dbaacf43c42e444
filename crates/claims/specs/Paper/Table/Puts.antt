-- The public functions of `puts`.
-- Assumes nothing.
use Rattle.std.specs.Prelude.{List, [], ◌∷◌, ◌≡◌, ℕ, length}
use Rattle.digits.specs.Paper.Decimal.{decimal}
use Rattle.digits.specs.Paper.Hex.{hex_bytes}
use Rattle.puts.specs.Paper.Wrote.{RoomCause, Written}
use Rattle.claims.specs.Paper.Claim.{fronts, Claim, putting}

-- Writes the bytes of s from the front of the room: all of them, or none if the room is too short.
pub record FrontArgs : Type 0 where
  pub s : List ℕ
  pub room : List ℕ

abbrev pub front : Claim Written
front =
    record {
      name = "puts::front";
      Args = FrontArgs;
      refusals = 4 ∷ [];
      Cause = λ a. RoomCause (length a.room) (length a.s);
      form = fronts (λ a. a.room) (λ a bs. bs ≡ a.s);
    }

-- Puts one byte.
pub record ByteArgs : Type 0 where
  pub b : ℕ
  pub room : List ℕ
  pub at : ℕ

abbrev pub byte : Claim ℕ
byte =
    putting {Args = ByteArgs} "puts::byte"
    (record {
      room = λ a. a.room;
      place = λ a. a.at;
      bytes = λ a. a.b ∷ [];
    })

-- Puts the bytes of s.
pub record BytesArgs : Type 0 where
  pub s : List ℕ
  pub room : List ℕ
  pub at : ℕ

abbrev pub bytes : Claim ℕ
bytes =
    putting {Args = BytesArgs} "puts::bytes"
    (record {
      room = λ a. a.room;
      place = λ a. a.at;
      bytes = λ a. a.s;
    })

-- Puts the decimal digits of n.
pub record WholeArgs : Type 0 where
  pub n : ℕ
  pub room : List ℕ
  pub at : ℕ

abbrev pub whole : Claim ℕ
whole =
    putting {Args = WholeArgs} "puts::whole"
    (record {
      room = λ a. a.room;
      place = λ a. a.at;
      bytes = λ a. decimal a.n;
    })

-- Puts two hex digits for each byte of s.
pub record HexArgs : Type 0 where
  pub s : List ℕ
  pub room : List ℕ
  pub at : ℕ

abbrev pub hex : Claim ℕ
hex =
    putting {Args = HexArgs} "puts::hex"
    (record {
      room = λ a. a.room;
      place = λ a. a.at;
      bytes = λ a. hex_bytes a.s;
    })
