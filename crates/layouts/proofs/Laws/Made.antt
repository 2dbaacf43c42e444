-- Fields whose check values are worked out are within the limits where the other fields are.
-- Assumes nothing.
use mathlib.Core.List.{List}
use mathlib.Core.Path.{◌≡◌, subst}
use Prim.Native.Nat.{ℕ, ◌≤◌, ◌<◌}
use native.Mathlib.Omega.{arith}
use lib.Dec.{T}
use lib.ListN.{length}
use Rattle.digits.specs.Paper.Bytes.{Bytes}
use Rattle.checks.proofs.Laws.Feed.{check-lt}
use Rattle.checks.specs.Paper.Buses.{nikobus_crc16, nikobus_crc8, nest_crc, nibe_xor, homiq_crc}
use Rattle.checks.specs.Paper.Check.{check}
use Rattle.layouts.specs.Paper.Chars.{one_of, all, is_hex}
use Rattle.layouts.specs.Paper.Homiq as homiqs
use Rattle.layouts.specs.Paper.Made.{link_of, nest_of, nibe_of, Wire, closed, homiq_of}
use Rattle.layouts.specs.Paper.Nest as nests
use Rattle.layouts.specs.Paper.Nibe as nibes
use Rattle.layouts.specs.Paper.Nibe.{commands}
use Rattle.layouts.specs.Paper.Nikobus as nikobuses
use Rattle.layouts.specs.Paper.Nikobus.{link, press, link-limits, press-limits, link_checked}
use Rattle.layouts.proofs.Laws.Nibe.{covered-xor}

pub link-fit : (p : List ℕ) → 1 ≤ length p → length p ≤ 122 → Bytes p → nikobuses.Limits (link_of p)
link-fit p some short bytes =
    link-limits some short bytes (check-lt nikobus_crc16 p) (check-lt nikobus_crc8 (link_checked p (check nikobus_crc16 p)))

pub nest-fit : (i : ℕ) (p : List ℕ) → i < 65536 → length p ≤ 1024 → Bytes p → nests.Limits (nest_of i p)
nest-fit i p id short bytes = record { id = id; short = short; bytes = bytes; crc = check-lt nest_crc (nests.covered i p) }

pub nibe-fit : (c : ℕ) (d : List ℕ) → T (one_of commands c) → length d ≤ 255 → Bytes d → nibes.Limits (nibe_of c d)
nibe-fit c d command short bytes =
    record { command = command; short = short; bytes = bytes; xor = subst (λ (x : ℕ). x < 256) (covered-xor d short bytes) (check-lt nibe_xor (nibes.covered d)) }

-- the six fields with any CRC, and with the right one
pub homiq-fit : (w : Wire) (crc : ℕ) → homiqs.Limits (closed w crc) → homiqs.Limits (homiq_of w)
homiq-fit w crc l =
    let h = check-lt homiq_crc (homiqs.joined (closed w 0)) in
    record { cmd = l.cmd; val = l.val; src = l.src; dst = l.dst; id = l.id; type = l.type; crc = omega (arith, h) }

-- ---- what the limits of Nikobus say, form by form

pub link-said : {p : List ℕ} {crc16 crc8 : ℕ} → nikobuses.Limits (link p crc16 crc8) → (1 ≤ length p) × (length p ≤ 122)
link-said (link-limits some short bytes c16 c8) = (some, short)

pub press-said : {d : List ℕ} → nikobuses.Limits (press d) → (length d ≡ 6) × T (all is_hex d)
press-said (press-limits six digits) = (six, digits)
