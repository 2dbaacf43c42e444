-- The search, computed.
-- Assumes nothing.
use Rattle.std.specs.Prelude.{cond, List, [], ◌∷◌, ◌≡◌, ℕ, zero, suc, ◌+◌, ◌-◌, ◌≤◌, eqb, leb, length}
use Rattle.std.specs.Prelude.{Option, Some, None, Result, Ok, Err}
use Rattle.digits.specs.declared.refusal.Refusal.{Refusal}
use Rattle.digits.specs.declared.refusal.Refusal.TheVariants.{NoFrame, NoKind, NoPlace}
use Rattle.frames.specs.Paper.Kinds.{number_of}
use Rattle.layouts.specs.declared.Frame.{Frame}
use Rattle.frames.specs.Work.Frames.{frame_at}
use Rattle.frames.specs.declared.Found.{Found}
use Rattle.frames.specs.declared.kinds.Kind.{Kind}
use Rattle.frames.specs.declared.kinds.Kind.TheVariants.{Nikobus, NestCommand, NestResponse, Nibe, Homiq}

-- a frame at the place i, as it is found
abbrev pub found_at : ℕ → Frame → Found
found_at i f = record { start = i; len = f.len; from = i + f.from; to = i + f.to }

-- the frame at the place i, or what is found behind it if there is none
abbrev pub or_else : Option Frame → ℕ → Result Found Refusal → Result Found Refusal
or_else None i r = r
or_else (Some f) i r = Ok (found_at i f)

-- the first frame of s among n places from i on
unfoldable pub seek_among : Kind → List ℕ → ℕ → ℕ → Result Found Refusal
seek_among kind s zero i = Err NoFrame
seek_among kind s (suc n) i = or_else (frame_at kind s i) i (seek_among kind s n (suc i))

-- the first frame of s from the place i on
unfoldable pub seek : Kind → List ℕ → ℕ → Result Found Refusal
seek kind s i = seek_among kind s (length s - i) i

-- the places from i to j are passed: what is found from j on is what is found from i on
pub record Passed (kind : Kind) (s : List ℕ) (i j : ℕ) : Type 0 where
  pub onward : i ≤ j
  pub within : j ≤ length s
  pub same : seek kind s j ≡ seek kind s i

-- the kind of the list that a number is
unfoldable pub among : List Kind → ℕ → Option Kind
among [] k = None
among (kind ∷ kinds) k = cond (eqb k (number_of kind)) (Some kind) (among kinds k)

-- the kinds, in the order of their numbers
abbrev pub kinds : List Kind
kinds = Nikobus ∷ NestCommand ∷ NestResponse ∷ Nibe ∷ Homiq ∷ []

unfoldable pub resolved : ℕ → Option Kind
resolved k = among kinds k

abbrev pub searched_as : Option Kind → List ℕ → ℕ → Result Found Refusal
searched_as (Some kind) s place = cond (leb place (length s)) (seek kind s place) (Err NoPlace)
searched_as None s place = Err NoKind

unfoldable pub searched : ℕ → List ℕ → ℕ → Result Found Refusal
searched k s place = searched_as (resolved k) s place
