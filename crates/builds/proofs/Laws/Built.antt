-- What a call answers that builds the frame of some fields, way by way.
-- Assumes nothing.
use Rattle.std.specs.Prelude.{Ok, Err}
use mathlib.Core.Path.{◌≡◌, sym, ◌∙◌, subst}
use mathlib.Core.Bool.{Bool, true, false, not, true≢false}
use mathlib.Core.List.{List}
use Prim.Native.Nat.{ℕ, ◌≤◌, ◌<◌}
use native.Mathlib.Omega.{arith}
use lib.Dec.{T, lit<}
use lib.ListN.{length}
use borrow.Author.Tests.{not-true, not-false}
use Rattle.digits.specs.Paper.Refusals.{refusal_order, First}
use Rattle.digits.specs.declared.refusal.Refusal.TheVariants.{NoRoom, OutOfLimits}
use Rattle.puts.specs.Paper.Put.{Put}
use Rattle.puts.specs.Paper.Wrote.{refused, RoomCause, Writes, Written}
use Rattle.puts.proofs.Laws.Puts.{front-count}
use Rattle.puts.proofs.Laws.Wrote.{wrote_by, after-tests}
use Rattle.layouts.specs.Paper.Layout.{Layout, bytes_of}
use Rattle.builds.specs.Paper.Builds.{BuildCause, outside, short, Builds}
use Rattle.puts.proofs.Laws.Right.{ours, first-5, first-4, no-cause}

-- ---- the first cause

module _ {L : Type 0} {r b : ℕ} where
  only : (k : ℕ) → ours k ≡ false → BuildCause L r b k → ⊥
  only k e (outside f) = true≢false e
  only k e (short h) = true≢false e

  within : L → BuildCause L r b 5 → ⊥
  within l (outside f) = f l

  enough : b ≤ r → BuildCause L r b 4 → ⊥
  enough h (short k) = omega arith

  pub is-outside : (L → ⊥) → First (BuildCause L r b) refusal_order 5
  is-outside f = first-5 only (outside f)

  pub is-short : L → r < b → First (BuildCause L r b) refusal_order 4
  is-short l h = first-4 only (within l) (short h)

  pub is-clear : L → b ≤ r → First (BuildCause L r b) refusal_order 0
  is-clear l h = no-cause only (within l) (enough h)

-- ---- the answer

module _ (l : Layout) (m : l.Fields) (room : List ℕ) where
  pub not_within : (l.Limits m → ⊥) → Builds l m room (Err OutOfLimits) room
  not_within f = refused (lit< tt) (is-outside f)

  module _ (limits : l.Limits m) where
    -- a writer's bytes, where the test of the room has counted them
    pub no_room : {k : ℕ} → k ≡ length (bytes_of l m) → length room < k → Builds l m room (Err NoRoom) room
    no_room e h = refused (lit< tt) (is-short limits (omega arith))

    pub built : {k n : ℕ} {later : List ℕ} → k ≡ length (bytes_of l m) → k ≤ length room → Put room later 0 n (bytes_of l m) → Builds l m room (Ok k) later
    built {k} {n} {later} e h p =
        let g : length (bytes_of l m) ≤ length room = omega arith in
        subst (λ (i : ℕ). Builds l m room (Ok i) later) (front-count p g ∙ sym e) (wrote_by (is-clear limits g) p g)

    -- bytes that are written all or not at all
    pub fronted : {s later : List ℕ} (r : Written) → s ≡ bytes_of l m → Writes (RoomCause (length room) (length s)) s room r later → Builds l m room r later
    fronted {s} {later} r e w =
        after-tests (is-clear limits) (is-short limits) (subst (λ (t : List ℕ). Writes (RoomCause (length room) (length t)) t room r later) e w)

-- ---- what a test of the fields told

pub told : {r b : Bool} → r ≡ b → not r ≡ false → T b
told {r} e f = rw (sym e ∙ not-false r f) tt

pub not-told : {r b : Bool} → r ≡ b → not r ≡ true → T b → ⊥
not-told {r} e f t = rw (sym e ∙ not-true r f) at t
