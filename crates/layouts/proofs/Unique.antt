-- For each public function: two answers that meet its promise are the same answer.
-- Assumes nothing.
use mathlib.Core.Bool.{Bool}
use mathlib.Core.List.{List}
use mathlib.Core.Path.{◌≡◌}
use Prim.Native.Nat.{ℕ, suc, ◌<◌}
use native.Mathlib.Omega.{arith}
use Rattle.std.specs.Prelude.{Result, Ok, Err}
use Rattle.digits.proofs.Unique.{equation, test}
use Rattle.digits.specs.Paper.Read.{Decides}
use Rattle.checks.specs.Paper.Buses.{homiq_crc}
use Rattle.checks.specs.Paper.Check.{check}
use Rattle.layouts.specs.Paper.Chars.{one_of, all, is_hex}
use Rattle.layouts.specs.Paper.Homiq.{homiq, without_separators}
use Rattle.layouts.specs.Paper.Judged.{frame_in, failed_in, Recognises}
use Rattle.layouts.specs.Paper.Layout.{Layout}
use Rattle.layouts.specs.Paper.Made.{Wire, Payload}
use Rattle.layouts.specs.Paper.Nest.{preamble, nest}
use Rattle.layouts.specs.Paper.Nibe.{nibe, commands}
use Rattle.layouts.specs.Paper.Nikobus.{nikobus}
use Rattle.layouts.specs.Work.Recogniser.{Recogniser}
use Rattle.layouts.specs.declared.Failure.{Failure}
use Rattle.layouts.specs.declared.Frame.{Frame}
use Rattle.layouts.specs.declared.nest.Direction.{Direction}
use Rattle.layouts.specs.declared.nest.Direction.TheVariants.{Command, Response}
use Rattle.layouts.proofs.Laws.Buses.{Bus, one-lead, one-verdict}
use Rattle.layouts.proofs.Laws.Homiq.{homiq-bus}
use Rattle.layouts.proofs.Laws.Nest.{nest-bus}
use Rattle.layouts.proofs.Laws.Nibe.{nibe-bus}
use Rattle.layouts.proofs.Laws.Nikobus.{nikobus-bus}

-- an answer is its frame or its failed test
one-answer : {l : Layout} {b : Recogniser} → Bus l b → {s : List ℕ} (r q : Result Frame Failure) → Recognises l s r → Recognises l s q → r ≡ q
one-answer b r q x y = same r q (one-lead b x.0 y.0) (one-verdict b x.1 y.1)
  where
    same : (r q : Result Frame Failure) → frame_in r ≡ frame_in q → failed_in r ≡ failed_in q → r ≡ q
    same (Ok f) (Ok g) e _ = cc
    same (Ok f) (Err g) e _ = absurd cc
    same (Err f) (Ok g) e _ = absurd cc
    same (Err f) (Err g) _ e = cc

-- nikobus::frame
pub nikobus-frame : {s : List ℕ} (r q : Result Frame Failure) → Recognises nikobus s r → Recognises nikobus s q → r ≡ q
nikobus-frame = one-answer nikobus-bus

-- nest::frame
some : {n : ℕ} → 0 < suc n
some = omega arith

pub nest-frame : (d : Direction) {s : List ℕ} (r q : Result Frame Failure) → Recognises (nest d) s r → Recognises (nest d) s q → r ≡ q
nest-frame Command = one-answer (nest-bus (preamble Command) some)
nest-frame Response = one-answer (nest-bus (preamble Response) some)

-- nibe::frame
pub nibe-frame : {s : List ℕ} (r q : Result Frame Failure) → Recognises nibe s r → Recognises nibe s q → r ≡ q
nibe-frame = one-answer nibe-bus

-- homiq::frame
pub homiq-frame : {s : List ℕ} (r q : Result Frame Failure) → Recognises homiq s r → Recognises homiq s q → r ≡ q
homiq-frame = one-answer homiq-bus

-- homiq::crc: the promise is an equation
pub homiq-crc : (s : List ℕ) {r q : ℕ} → r ≡ check homiq_crc (without_separators s) → q ≡ check homiq_crc (without_separators s) → r ≡ q
homiq-crc s = equation

-- nibe::is_command and nikobus::all_digits: so too
pub nibe-is-command : (c : ℕ) {r q : Bool} → r ≡ one_of commands c → q ≡ one_of commands c → r ≡ q
nibe-is-command c = equation

pub nikobus-all-digits : (s : List ℕ) {r q : Bool} → r ≡ all is_hex s → q ≡ all is_hex s → r ≡ q
nikobus-all-digits s = equation

-- homiq::is_payload
pub homiq-is-payload : (p : List ℕ) {r q : Bool} → Decides ((w : Wire) × Payload p w) r → Decides ((w : Wire) × Payload p w) q → r ≡ q
homiq-is-payload p = test
