-- The public functions of `sheet`.
-- Assumes nothing.
use Rattle.std.specs.Prelude.{Bool, List, [], ◌∷◌, ◌≡◌, ℕ, length, Result, Option}
use Rattle.std.proofs.Math.Option.{some}
use Rattle.digits.specs.declared.refusal.Refusal.{Refusal}
use Rattle.digits.specs.Paper.Read.{Decides}
use Rattle.puts.specs.Paper.Wrote.{Written}
use Rattle.sheet.specs.Paper.Map.{lookup_in}
use Rattle.sheet.specs.Paper.Answers.{OpenCause, HasRows, rows_refusal, rows_count, TypeInCause, TypeCause, HasType}
use Rattle.sheet.specs.Paper.Answers.{typed_refusal, typed_value, zero_type, MapCause, IsMap, SplitCause, IsSplit}
use Rattle.sheet.specs.Paper.Answers.{JoinCause, IsJoin, SomeSplit, Faults}
use Rattle.sheet.specs.Paper.Split.{Unsolicited}
use Rattle.sheet.specs.declared.Typed.{Typed}
use Rattle.sheet.specs.declared.faults.Fault.{Fault}
use Rattle.claims.specs.Paper.Claim.{fronts, Claim, answering, refuses}

-- How many rows a sheet has.
pub record OpeningArgs : Type 0 where
  pub text : List ℕ

abbrev pub opening : Claim (Result ℕ Refusal)
opening =
    record {
      name = "sheet::open";
      Args = OpeningArgs;
      refusals = 10 ∷ [];
      Cause = λ a. OpenCause a.text;
      form = refuses
          (record {
            refusal = rows_refusal;
            value = rows_count;
            zeros = 0;
            Right = λ a. HasRows a.text;
          });
    }

-- The type of a register of the sheet.
pub record TypeOfArgs : Type 0 where
  pub text : List ℕ
  pub register : ℕ

abbrev pub type-of : Claim (Result Typed Refusal)
type-of =
    record {
      name = "sheet::type_of";
      Args = TypeOfArgs;
      refusals = 10 ∷ 9 ∷ [];
      Cause = λ a. TypeCause a.text a.register;
      form = refuses
          (record {
            refusal = typed_refusal;
            value = typed_value;
            zeros = zero_type;
            Right = λ a. HasType a.text a.register;
          });
    }

-- Splits data into pairs, ten bytes each, from the front of the room.
pub record SplitArgs : Type 0 where
  pub command : ℕ
  pub content : List ℕ
  pub text : List ℕ
  pub room : List ℕ

abbrev pub split : Claim Written
split =
    record {
      name = "sheet::split";
      Args = SplitArgs;
      refusals = 5 ∷ 10 ∷ 9 ∷ 4 ∷ [];
      Cause = λ a. SplitCause a.command a.content a.text (length a.room);
      form = fronts (λ a. a.room) (λ a. IsSplit a.content a.text);
    }

-- Joins such pairs to data, from the front of the room.
pub record JoinArgs : Type 0 where
  pub command : ℕ
  pub pairs : List ℕ
  pub text : List ℕ
  pub room : List ℕ

abbrev pub join : Claim Written
join =
    record {
      name = "sheet::join";
      Args = JoinArgs;
      refusals = 5 ∷ 10 ∷ 9 ∷ 4 ∷ [];
      Cause = λ a. JoinCause a.command a.pairs a.text (length a.room);
      form = fronts (λ a. a.room) (λ a. IsJoin a.pairs a.text);
    }

-- Reads a sheet into a map, one byte a register, from the front of the room.
pub record MapArgs : Type 0 where
  pub text : List ℕ
  pub map : List ℕ

abbrev pub map : Claim Written
map =
    record {
      name = "sheet::map";
      Args = MapArgs;
      refusals = 10 ∷ 4 ∷ [];
      Cause = λ a. MapCause a.text (length a.map);
      form = fronts (λ a. a.map) (λ a. IsMap a.text);
    }

-- The type of a register in a map.
pub record TypeInArgs : Type 0 where
  pub map : List ℕ
  pub register : ℕ

abbrev pub type-in : Claim (Result Typed Refusal)
type-in =
    record {
      name = "sheet::type_in";
      Args = TypeInArgs;
      refusals = 9 ∷ [];
      Cause = λ a. TypeInCause (lookup_in a.map) a.register;
      form = refuses
          (record {
            refusal = typed_refusal;
            value = typed_value;
            zeros = zero_type;
            Right = λ a t. lookup_in a.map a.register ≡ some t;
          });
    }

-- Whether data split into pairs by a map.
pub record SplitsArgs : Type 0 where
  pub map : List ℕ
  pub content : List ℕ

abbrev pub splits : Claim Bool
splits =
    answering {Args = SplitsArgs} "sheet::splits" (λ a r. Decides (SomeSplit (lookup_in a.map) a.content) r)

-- Whether the pump sends such a message by itself.
pub record UnsolicitedArgs : Type 0 where
  pub command : ℕ

abbrev pub unsolicited : Claim Bool
unsolicited = answering {Args = UnsolicitedArgs} "sheet::unsolicited" (λ a r. Decides (Unsolicited a.command) r)

-- The first line of a sheet that is wrong, and the first test that it fails.
pub record FaultArgs : Type 0 where
  pub text : List ℕ

abbrev pub fault : Claim (Option Fault)
fault = answering {Args = FaultArgs} "sheet::fault" (λ a r. Faults a.text r)
