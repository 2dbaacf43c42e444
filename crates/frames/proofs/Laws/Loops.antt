-- The loops of the search: places are passed, and what is found from behind them is what was found before them.
-- Assumes nothing.
use mathlib.Core.Bool.{Bool, true, false, ◌||◌, true≢false}
use mathlib.Core.List.{List}
use mathlib.Core.Logic.{⊎_elim}
use mathlib.Core.Path.{◌≡◌, refl, sym, ◌∙◌, ap, subst}
use Prim.Native.Nat.{ℕ, zero, suc, ◌+◌, ◌^◌, ◌≤◌, ◌<◌}
use native.Mathlib.Nat.{eq-or-lt_of_le}
use native.Mathlib.Omega.{arith}
use lib.ListN.{length, take, drop, length-drop}
use Rattle.std.specs.Prelude.{Some, None, Ok, Err}
use Rattle.digits.specs.declared.refusal.Refusal.TheVariants.{NoFrame}
use Rattle.layouts.specs.declared.Frame.{Frame}
use Rattle.frames.specs.Work.Frames.{frame_at, may_start}
use Rattle.frames.specs.Work.Seek.{seek, found_at, Passed}
use Rattle.frames.specs.declared.kinds.Kind.{Kind}
use Rattle.frames.proofs.Laws.Kinds.{payload-inside}
use Rattle.frames.proofs.Laws.Places.{standing, size-at}
use Rattle.frames.proofs.Laws.Seek.{seek_hit, seek-miss}
use Rattle.frames.proofs.Laws.Starts.{seek-pass, seek-left, too_short}

-- what was found at a place of s lies in s
module _ (kind : Kind) (s : List ℕ) (i : ℕ) {f : Frame} (h : i ≤ length s) (e : Some f ≡ frame_at kind s i) where
  places-inside : (i + f.from ≤ length s) × (i + f.to ≤ length s)
  places-inside =
      let q = standing kind s i h e in
      let p = payload-inside q.stands.frame in
      let l = size-at q.stands in
      let inside = q.stands.inside in
      (omega (arith, p, l, q.from_is, inside), omega (arith, p, l, q.to_is, inside))

-- ---- places that are passed

module _ {kind : Kind} {s : List ℕ} where
  pub none_passed : {i : ℕ} → i ≤ length s → Passed kind s i i
  none_passed h = record { onward = omega arith; within = h; same = refl }

  pub then-passed : {i j k : ℕ} → Passed kind s i j → Passed kind s j k → Passed kind s i k
  then-passed p q = record { onward = omega (arith, p.onward, q.onward); within = q.within; same = q.same ∙ p.same }

  pub one-passed : {i : ℕ} → i < length s → may_start kind s i ≡ false → Passed kind s i (i + 1)
  one-passed {i} h e = record { onward = omega arith; within = omega arith; same = seek-pass kind s i h e }

  -- of a block, none, and one place more
  pub block-begun : {p : ℕ} → p ≤ length s → Passed kind s p (p + 0)
  block-begun {p} h = let a : p ≡ p + 0 = omega arith in subst (Passed kind s p) a (none_passed h)

  pub more-passed : {p : ℕ} (i : ℕ) → Passed kind s p (p + i) → p + i < length s → may_start kind s (p + i) ≡ false → Passed kind s p (p + (i + 1))
  more-passed {p} i q h e =
      let a : p + i + 1 ≡ p + (i + 1) = omega arith in
      subst (Passed kind s p) a (then-passed q (one-passed h e))

  -- fewer than four bytes hold no frame
  pub rest-passed : {i : ℕ} → i ≤ length s → length s < i + 4 → Passed kind s i (length s)
  rest-passed {i} l h = record { onward = l; within = omega arith; same = sym (seek-left kind s (length s) (omega arith)) ∙ seek-left kind s i h }

-- ---- the block's test: of two tests none holds

pub neither : (a b : Bool) → (a || b) ≡ false → (a ≡ false) × (b ≡ false)
neither true b e = absurd (true≢false e)
neither false b e = (refl, e)

-- ---- the first place of a block of 64 that looks like a start: what is known of it when i places have been tested

pub data Sought (kind : Kind) (s : List ℕ) (p i first : ℕ) : Type 0 where
  none_yet : first ≡ 64 → Passed kind s p (p + i) → Sought kind s p i first
  seen : first < i → Passed kind s p (p + first) → Sought kind s p i first

module _ {kind : Kind} {s : List ℕ} {p : ℕ} where
  passed-at : {m n : ℕ} → n ≡ m → Passed kind s p (p + m) → Passed kind s p (p + n)
  passed-at e q = subst (λ (k : ℕ). Passed kind s p (p + k)) (sym e) q

  pub sought-next : {i first x r : ℕ} {may : Bool} → i < 64 → p + i < length s → (may ≡ false → may_start kind s (p + i) ≡ false)
      → (may ≡ true → x ≡ i) × (may ≡ false → x ≡ 64) → (first ≤ x → r ≡ first) × (x ≤ first → r ≡ x)
      → Sought kind s p i first → Sought kind s p (i + 1) r
  sought-next {i} {first} {x} {r} {may} h l m place least (none_yet e q) = go may refl
    where
      go : (b : Bool) → may ≡ b → Sought kind s p (i + 1) r
      go true t =
          let a = place.0 t in
          let b : r ≡ i = least.1 (omega (arith, a, e)) ∙ a in
          seen (omega (arith, b)) (passed-at b q)
      go false t =
          let a = place.1 t in
          let b : r ≡ 64 = least.0 (omega (arith, a, e)) ∙ e in
          none_yet b (more-passed i q l (m t))
  sought-next {i} {first} {x} {r} {may} h l m place least (seen k q) = go may refl
    where
      kept : first ≤ x → Sought kind s p (i + 1) r
      kept f = let b = least.0 f in seen (omega (arith, b, k)) (passed-at b q)

      go : (b : Bool) → may ≡ b → Sought kind s p (i + 1) r
      go true t = kept (omega (arith, place.0 t, k))
      go false t = kept (omega (arith, place.1 t, k, h))

  pub sought-end : {i first : ℕ} → i ≡ 64 → Sought kind s p i first → Passed kind s p (p + first)
  sought-end e (none_yet f q) = passed-at (f ∙ sym e) q
  sought-end e (seen k q) = q

-- ---- a frame is found

-- no frame stands at the end
pub before-end : (kind : Kind) (s : List ℕ) {i : ℕ} {f : Frame} → i ≤ length s → Some f ≡ frame_at kind s i → i < length s
before-end kind s {i} {f} l q = ⊎_elim (λ e. let never : Some f ≡ None = q ∙ sym (too_short kind s i (omega (arith, e))) in absurd (cc)) (λ h. h) (eq-or-lt_of_le l)

module _ {kind : Kind} {s : List ℕ} {place at : ℕ} (g : Passed kind s place at) where
  module _ (h : at < length s) where
    module _ {f : Frame} (q : Some f ≡ frame_at kind s at) where
      pub hit-fits : length s < 2 ^ 64 → (at + f.from < 2 ^ 64) × (at + f.to < 2 ^ 64)
      hit-fits l = let i = places-inside kind s at (omega arith) q in (omega (arith, i.0), omega (arith, i.1))

      pub hit-found : Ok (found_at at f) ≡ seek kind s place
      hit-found = seek_hit kind s at h q ∙ g.same

    pub miss-next : None ≡ frame_at kind s at → {r : ℕ} → Passed kind s (at + 1) r → Passed kind s place r
    miss-next z e = then-passed g (then-passed (record { onward = omega arith; within = omega arith; same = seek-miss kind s at h z }) e)

  pub none_left : length s ≤ at → Err NoFrame ≡ seek kind s place
  none_left h = seek-left kind s at (omega arith) ∙ g.same
