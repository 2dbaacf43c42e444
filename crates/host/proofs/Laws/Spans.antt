-- A part by its start and its length, in place of its two ends.
-- Assumes nothing.
use mathlib.Core.List.{List}
use mathlib.Core.Path.{◌≡◌, refl}
use Prim.Native.Nat.{ℕ, ◌+◌, ◌-◌, ◌≤◌}
use native.Mathlib.Omega.{arith}
use Rattle.std.specs.Prelude.{Ok}
use Rattle.digits.proofs.Laws.Refusals.{answered}
use Rattle.frames.specs.Paper.OneFrame.{OneFrame, TestsOneFrame}
use Rattle.frames.specs.declared.FramePayload.{FramePayload}
use Rattle.frames.proofs.Laws.Kinds.{payload-inside}

pub spans : {from to : ℕ} → from ≤ to → from + (to - from) ≡ to
spans h = omega arith

-- the payload of one frame ends where it begins, or behind
pub payload-in : {k : ℕ} {s : List ℕ} {v : FramePayload} → TestsOneFrame k s (Ok v) → v.from ≤ v.to
payload-in {k} {s} {v} a =
    let o : OneFrame k s (record { from = v.from; to = v.to }) = answered a refl in
    omega (arith, o.from_is, o.to_is, (payload-inside o.frame).0)
