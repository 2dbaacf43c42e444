-- The public functions of `builds`.
-- Assumes nothing.
use Rattle.std.specs.Prelude.{List, [], ◌∷◌, ◌≡◌, ℕ, length}
use Rattle.puts.specs.Paper.Wrote.{Written}
use Rattle.layouts.specs.Paper.Layout.{bytes_of}
use Rattle.layouts.specs.Paper.Made.{link_of, nest_of, nibe_of}
use Rattle.layouts.specs.Paper.Nest.{nest}
use Rattle.layouts.specs.Paper.Nibe.{nibe}
use Rattle.layouts.specs.Paper.Nikobus.{nikobus, press, tail}
use Rattle.layouts.specs.declared.nest.Direction.{Direction}
use Rattle.builds.specs.Paper.Builds.{BuildCause, HomiqBytes, HomiqCause}
use Rattle.claims.specs.Paper.Claim.{fronts, Claim}

-- A frame with this payload, CMD to TYPE.
pub record HomiqFrameArgs : Type 0 where
  pub payload : List ℕ
  pub room : List ℕ

abbrev pub homiq-frame : Claim Written
homiq-frame =
    record {
      name = "builds::homiq::frame";
      Args = HomiqFrameArgs;
      refusals = 5 ∷ 4 ∷ [];
      Cause = λ a. HomiqCause a.payload (length a.room);
      form = fronts (λ a. a.room) (λ a. HomiqBytes a.payload);
    }

-- A frame of this direction, with this id and payload.
pub record NestFrameArgs : Type 0 where
  pub direction : Direction
  pub id : ℕ
  pub payload : List ℕ
  pub room : List ℕ

abbrev pub nest-frame : Claim Written
nest-frame =
    record {
      name = "builds::nest::frame";
      Args = NestFrameArgs;
      refusals = 5 ∷ 4 ∷ [];
      Cause = λ a. BuildCause ((nest a.direction).Limits (nest_of a.id a.payload)) (length a.room)
          (length (bytes_of (nest a.direction) (nest_of a.id a.payload)));
      form = fronts (λ a. a.room) (λ a bs. bs ≡ bytes_of (nest a.direction) (nest_of a.id a.payload));
    }

-- A frame with this command and these data.
pub record NibeFrameArgs : Type 0 where
  pub command : ℕ
  pub content : List ℕ
  pub room : List ℕ

abbrev pub nibe-frame : Claim Written
nibe-frame =
    record {
      name = "builds::nibe::frame";
      Args = NibeFrameArgs;
      refusals = 5 ∷ 4 ∷ [];
      Cause = λ a. BuildCause (nibe.Limits (nibe_of a.command a.content)) (length a.room)
          (length (bytes_of nibe (nibe_of a.command a.content)));
      form = fronts (λ a. a.room) (λ a bs. bs ≡ bytes_of nibe (nibe_of a.command a.content));
    }

-- A link with these bytes as payload.
pub record NikobusLinkArgs : Type 0 where
  pub payload : List ℕ
  pub room : List ℕ

abbrev pub nikobus-link : Claim Written
nikobus-link =
    record {
      name = "builds::nikobus::link";
      Args = NikobusLinkArgs;
      refusals = 5 ∷ 4 ∷ [];
      Cause = λ a. BuildCause (nikobus.Limits (link_of a.payload)) (length a.room)
          (length (bytes_of nikobus (link_of a.payload)));
      form = fronts (λ a. a.room) (λ a bs. bs ≡ bytes_of nikobus (link_of a.payload));
    }

-- A press with these six digits.
pub record NikobusPressArgs : Type 0 where
  pub digits : List ℕ
  pub room : List ℕ

abbrev pub nikobus-press : Claim Written
nikobus-press =
    record {
      name = "builds::nikobus::press";
      Args = NikobusPressArgs;
      refusals = 5 ∷ 4 ∷ [];
      Cause = λ a. BuildCause (nikobus.Limits (press a.digits)) (length a.room)
          (length (bytes_of nikobus (press a.digits)));
      form = fronts (λ a. a.room) (λ a bs. bs ≡ bytes_of nikobus (press a.digits));
    }

-- A tail.
pub record NikobusTailArgs : Type 0 where
  pub room : List ℕ

abbrev pub nikobus-tail : Claim Written
nikobus-tail =
    record {
      name = "builds::nikobus::tail";
      Args = NikobusTailArgs;
      refusals = 4 ∷ [];
      Cause = λ a. BuildCause (nikobus.Limits (tail)) (length a.room) (length (bytes_of nikobus (tail)));
      form = fronts (λ a. a.room) (λ a bs. bs ≡ bytes_of nikobus (tail));
    }
