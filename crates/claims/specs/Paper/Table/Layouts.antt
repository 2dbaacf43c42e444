-- The public functions of `layouts`.
-- Assumes nothing.
use Rattle.std.specs.Prelude.{List, Bool, ◌≡◌, ℕ, Result}
use Rattle.digits.specs.Paper.Read.{Decides}
use Rattle.checks.specs.Paper.Buses.{homiq_crc}
use Rattle.checks.specs.Paper.Check.{check}
use Rattle.layouts.specs.Paper.Chars.{all, is_hex, one_of}
use Rattle.layouts.specs.Paper.Homiq.{homiq, without_separators}
use Rattle.layouts.specs.Paper.Judged.{Recognises}
use Rattle.layouts.specs.Paper.Made.{Payload, Wire}
use Rattle.layouts.specs.Paper.Nest.{nest}
use Rattle.layouts.specs.Paper.Nibe.{commands, nibe}
use Rattle.layouts.specs.Paper.Nikobus.{nikobus}
use Rattle.layouts.specs.Paper.Starts.{homiq_starts, nest_starts, nibe_starts, nikobus_starts}
use Rattle.layouts.specs.declared.Failure.{Failure}
use Rattle.layouts.specs.declared.Frame.{Frame}
use Rattle.layouts.specs.declared.nest.Direction.{Direction}
use Rattle.claims.specs.Paper.Claim.{Claim, answering}

-- What stands at the head of s; a frame's payload is CMD to TYPE.
pub record HomiqFrameArgs : Type 0 where
  pub s : List ℕ

abbrev pub homiq-frame : Claim (Result Frame Failure)
homiq-frame =
    answering {Args = HomiqFrameArgs} "layouts::homiq::frame" (λ a r. Recognises homiq a.s r)

-- The CRC that closes a payload, CMD to TYPE: over its characters without the separators.
pub record HomiqCrcArgs : Type 0 where
  pub s : List ℕ

abbrev pub homiq-crc : Claim ℕ
homiq-crc =
    answering {Args = HomiqCrcArgs} "layouts::homiq::crc" (λ a r. r ≡ check homiq_crc (without_separators a.s))

-- Whether a frame can begin with the first three bytes of s: `<;`.
pub record HomiqMayStartArgs : Type 0 where
  pub s : List ℕ

abbrev pub homiq-may-start : Claim Bool
homiq-may-start =
    answering {Args = HomiqMayStartArgs} "layouts::homiq::may_start" (λ a r. r ≡ homiq_starts a.s)

-- Whether p is CMD;VAL;SRC;DST;ID;TYPE of fields within their limits: five fields with their `;`, and then TYPE, with
-- which it ends.
pub record HomiqIsPayloadArgs : Type 0 where
  pub p : List ℕ

abbrev pub homiq-is-payload : Claim Bool
homiq-is-payload =
    answering {Args = HomiqIsPayloadArgs} "layouts::homiq::is_payload"
    (λ a r. Decides ((w : Wire) × Payload a.p w) r)

-- What stands at the head of s.
pub record NestFrameArgs : Type 0 where
  pub direction : Direction
  pub s : List ℕ

abbrev pub nest-frame : Claim (Result Frame Failure)
nest-frame =
    answering {Args = NestFrameArgs} "layouts::nest::frame"
    (λ a r. Recognises (nest a.direction) a.s r)

-- Whether a frame can begin with the first three bytes of s.
pub record NestMayStartArgs : Type 0 where
  pub direction : Direction
  pub s : List ℕ

abbrev pub nest-may-start : Claim Bool
nest-may-start =
    answering {Args = NestMayStartArgs} "layouts::nest::may_start" (λ a r. r ≡ nest_starts a.direction a.s)

-- What stands at the head of s; a frame's payload is the data.
pub record NibeFrameArgs : Type 0 where
  pub s : List ℕ

abbrev pub nibe-frame : Claim (Result Frame Failure)
nibe-frame =
    answering {Args = NibeFrameArgs} "layouts::nibe::frame" (λ a r. Recognises nibe a.s r)

-- Whether a frame can begin with the first three bytes of s: C0, and then a command, all of which begin with 6.
pub record NibeMayStartArgs : Type 0 where
  pub s : List ℕ

abbrev pub nibe-may-start : Claim Bool
nibe-may-start =
    answering {Args = NibeMayStartArgs} "layouts::nibe::may_start" (λ a r. r ≡ nibe_starts a.s)

-- Whether a command is one of the seven.
pub record NibeIsCommandArgs : Type 0 where
  pub c : ℕ

abbrev pub nibe-is-command : Claim Bool
nibe-is-command =
    answering {Args = NibeIsCommandArgs} "layouts::nibe::is_command" (λ a r. r ≡ one_of commands a.c)

-- What stands at the head of s, by its start mark; a frame's payload is a link's digits or a press's, and a tail has
-- none.
pub record NikobusFrameArgs : Type 0 where
  pub s : List ℕ

abbrev pub nikobus-frame : Claim (Result Frame Failure)
nikobus-frame =
    answering {Args = NikobusFrameArgs} "layouts::nikobus::frame" (λ a r. Recognises nikobus a.s r)

-- Whether a frame can begin with the first three bytes of s: `$` or `#`, and then a digit or a letter.
pub record NikobusMayStartArgs : Type 0 where
  pub s : List ℕ

abbrev pub nikobus-may-start : Claim Bool
nikobus-may-start =
    answering {Args = NikobusMayStartArgs} "layouts::nikobus::may_start" (λ a r. r ≡ nikobus_starts a.s)

-- Whether all characters of s are digits.
pub record NikobusAllDigitsArgs : Type 0 where
  pub s : List ℕ

abbrev pub nikobus-all-digits : Claim Bool
nikobus-all-digits =
    answering {Args = NikobusAllDigitsArgs} "layouts::nikobus::all_digits" (λ a r. r ≡ all is_hex a.s)
