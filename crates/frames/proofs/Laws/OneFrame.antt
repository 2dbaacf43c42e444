-- One frame and no byte more.
-- Assumes nothing.
use mathlib.Core.Bool.{false}
use mathlib.Core.List.{List}
use mathlib.Core.Path.{◌≡◌, refl, sym, ◌∙◌, subst}
use Prim.Native.Nat.{ℕ, zero, suc, ◌+◌}
use native.Mathlib.Omega.{arith}
use lib.ListN.{length}
use Rattle.std.specs.Prelude.{Some, None, Ok, Err}
use Rattle.digits.specs.Paper.Bytes.{part}
use Rattle.digits.specs.Paper.Refusals.{answers, refuses}
use Rattle.digits.specs.declared.refusal.Refusal.TheVariants.{NoKind, OutOfLimits}
use Rattle.frames.specs.Paper.Kinds.{number_of, known, Frame}
use Rattle.frames.specs.Paper.Search.{FrameAt}
use Rattle.frames.specs.Paper.OneFrame.{TestsOneFrame}
use Rattle.layouts.specs.declared.Frame.{Frame as Placed}
use Rattle.frames.specs.Work.Frames.{frame_at}
use Rattle.frames.specs.declared.kinds.Kind.{Kind}
use Rattle.frames.proofs.Laws.Causes.{whole-0, whole-2, whole-5}
use Rattle.frames.proofs.Laws.Kinds.{kind-known, one-payload}
use Rattle.frames.proofs.Laws.Places.{all_of, one-length, frame-alone, alone-frame, Standing, standing, none-stands}

pub whole-no-kind : {k : ℕ} {s : List ℕ} → known k ≡ false → TestsOneFrame k s (Err NoKind)
whole-no-kind e = refuses {no = 2} (omega arith) (whole-2 e)

module _ (kind : Kind) (s : List ℕ) where
  abbrev k : ℕ
  k = number_of kind

  no-frame : (Frame k s → ⊥) → TestsOneFrame k s (Err OutOfLimits)
  no-frame f = refuses {no = 5} (omega arith) (whole-5 (kind-known kind) f)

  pub whole-none : None ≡ frame_at kind s 0 → TestsOneFrame k s (Err OutOfLimits)
  whole-none z = no-frame (λ r. none-stands kind s 0 z (frame-alone r))

  module _ {f : Placed} (e : Some f ≡ frame_at kind s 0) where
    there : Standing kind s 0 f
    there = standing kind s 0 (omega arith) e

    pub whole-other : (f.len ≡ length s → ⊥) → TestsOneFrame k s (Err OutOfLimits)
    whole-other g = no-frame (λ r. g (one-length there.stands (frame-alone r)))

    pub whole_is : f.len ≡ length s → TestsOneFrame k s (Ok (record { from = f.from; to = f.to }))
    whole_is all =
        let q = there in
        let r : Frame k s = alone-frame (subst (λ (j : ℕ). FrameAt k s 0 j) all q.stands) in
        let same = one-payload (subst (λ (j : ℕ). part 0 (0 + j) s ≡ s) (sym all) (all_of s)) q.stands.frame r in
        answers {v = record { from = f.from; to = f.to }} (whole-0 (kind-known kind) r)
        (record { frame = r; from_is = q.from_is ∙ same.0; to_is = q.to_is ∙ same.1 })
