-- Where a frame can begin: no frame has fewer than four bytes, and its first three are those of its kind.
-- Assumes nothing.
use mathlib.Core.Bool.{Bool, true, false, ◌&&◌, true≢false}
use mathlib.Core.List.{List}
use mathlib.Core.Path.{◌≡◌, refl, sym, ◌∙◌, ap}
use Prim.Native.Nat.{ℕ, zero, suc, ◌+◌, ◌-◌, ◌≤◌, ◌<◌}
use native.Mathlib.Omega.{arith}
use lib.Dec.{eqb, leb}
use lib.ListN.{length, get_or, drop, length-append, length-drop}
use lib.Seq.{get_or-drop}
use Rattle.std.specs.Prelude.{None, Err}
use Rattle.digits.specs.declared.refusal.Refusal.TheVariants.{NoFrame}
use Rattle.frames.specs.Paper.Kinds.{Frame}
use Rattle.frames.specs.Work.Frames.{starts, frame_len, len_at, frame_at, may_start}
use Rattle.frames.specs.Work.Seek.{seek_among, seek}
use Rattle.layouts.specs.Paper.Starts.{nest_starts}
use Rattle.layouts.specs.declared.nest.Direction.TheVariants.{Command, Response}
use Rattle.frames.specs.declared.kinds.Kind.{Kind}
use Rattle.frames.specs.declared.kinds.Kind.TheVariants.{NestCommand, NestResponse}
use Rattle.frames.proofs.Laws.Kinds.{kind-right, begun, behind}
use Rattle.frames.proofs.Laws.Places.{none-at}
use Rattle.frames.proofs.Laws.Seek.{seek-miss}

-- NO FRAME HAS FEWER THAN FOUR BYTES
pub four_bytes : {k : ℕ} {f : List ℕ} → Frame k f → 4 ≤ length f
four_bytes {f = f} r = (begun r.kind f r.frame.form).four

-- ---- no frame

module _ (kind : Kind) where
  -- what begins at the head of u
  head-begun : (u : List ℕ) → 0 < frame_len kind u → (4 ≤ length u) × (starts kind u ≡ true)
  head-begun u h =
      let a = (kind-right kind).sound u h in
      let q = begun kind a.word a.is.form in
      let four = q.four in (
        omega (arith, ap length a.splits, length-append a.word a.rest),
        ap (starts kind) a.splits ∙ behind kind a.word a.rest (omega arith) ∙ q.mark,
      )

  none_or : (n : ℕ) → (0 < n → ⊥) → n ≡ 0
  none_or zero f = refl
  none_or (suc n) f = absurd (f (omega arith))

  module _ (s : List ℕ) (i : ℕ) where
    pub no_start : may_start kind s i ≡ false → None ≡ frame_at kind s i
    unfolding may_start len_at
    no_start e = sym (none-at kind s i (none_or (len_at kind s i) (λ h. true≢false (sym (head-begun (drop i s) h).1 ∙ e))))

    pub too_short : length s < i + 4 → None ≡ frame_at kind s i
    unfolding len_at
    too_short l = sym (none-at kind s i (none_or (len_at kind s i) (λ h. let q = (head-begun (drop i s) h).0 in omega (arith, length-drop i s))))

-- ---- Nest, by two bytes of its preamble

first_two : (l a b c : Bool) → (a && b) ≡ false → (l && (a && (b && c))) ≡ false
first_two false a b c e = refl
first_two true false b c e = refl
first_two true true false c e = refl
first_two true true true c e = absurd (true≢false e)

last-two : (l a b c : Bool) → (b && c) ≡ false → (l && (a && (b && c))) ≡ false
last-two false a b c e = refl
last-two true false b c e = refl
last-two true true b c e = e

module _ (u : List ℕ) where
  command-two : (eqb (get_or u 0 0) 0xD5 && eqb (get_or u 1 0) 0xAA) ≡ false → nest_starts Command u ≡ false
  unfolding nest_starts
  command-two e = first_two (leb 3 (length u)) (eqb (get_or u 0 0) 0xD5) (eqb (get_or u 1 0) 0xAA) (eqb (get_or u 2 0) 0x96) e

  response-two : (eqb (get_or u 1 0) 0xD5 && eqb (get_or u 2 0) 0xAA) ≡ false → nest_starts Response u ≡ false
  unfolding nest_starts
  response-two e = last-two (leb 3 (length u)) (eqb (get_or u 0 0) 0xD5) (eqb (get_or u 1 0) 0xD5) (eqb (get_or u 2 0) 0xAA) e

module _ (s : List ℕ) (i : ℕ) where
  at_place : get_or (drop i s) 0 0 ≡ get_or s i 0
  at_place = let e : i + 0 ≡ i = omega arith in get_or-drop i s 0 0 ∙ ap (λ (k : ℕ). get_or s k 0) e

  pub no-command : {kind : Kind} → kind ≡ NestCommand → (eqb (get_or s i 0) 0xD5 && eqb (get_or s (i + 1) 0) 0xAA) ≡ false → may_start kind s i ≡ false
  unfolding may_start
  no-command is e = ap (λ (k : Kind). may_start k s i) is ∙ command-two (drop i s) (rw (at_place, get_or-drop i s 1 0) e)

  pub no-response : {kind : Kind} → kind ≡ NestResponse → (eqb (get_or s (i + 1) 0) 0xD5 && eqb (get_or s (i + 2) 0) 0xAA) ≡ false → may_start kind s i ≡ false
  unfolding may_start
  no-response is e = ap (λ (k : Kind). may_start k s i) is ∙ response-two (drop i s) (rw (get_or-drop i s 1 0, get_or-drop i s 2 0) e)

-- ---- the search

few-left : (kind : Kind) (s : List ℕ) (n i : ℕ) → length s - i ≡ n → length s < i + 4 → Err NoFrame ≡ seek_among kind s n i
unfolding seek_among
few-left kind s zero i e h = refl
few-left kind s (suc n) i e h = rw (← too_short kind s i h) (few-left kind s n (suc i) (omega arith) (omega arith))

module _ (kind : Kind) (s : List ℕ) (i : ℕ) where
  -- a place where no frame can begin is passed
  pub seek-pass : i < length s → may_start kind s i ≡ false → seek kind s (i + 1) ≡ seek kind s i
  seek-pass h e = seek-miss kind s i h (no_start kind s i e)

  -- fewer than four bytes are left
  pub seek-left : length s < i + 4 → Err NoFrame ≡ seek kind s i
  unfolding seek
  seek-left h = few-left kind s (length s - i) i refl h
