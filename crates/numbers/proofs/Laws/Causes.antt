-- The first cause that applies, of the causes that a function has: the numbers that it has none for are passed over.
-- Assumes nothing.
use mathlib.Core.Path.{◌≡◌}
use Prim.Native.Nat.{ℕ, ◌≤◌}
use native.Mathlib.Nat.{lt_irrefl, lt_of_lt_of_le}
use mathlib.Core.Bool.{Bool, false, ◌||◌, true≢false}
use mathlib.Core.List.{List}
use lib.Dec.{eqb}
use lib.IntN.{ℤ}
use lib.ListN.{length}
use Rattle.digits.specs.Paper.LowFirst.{Width}
use Rattle.digits.specs.Paper.Refusals.{refusal_order, First, clear, here, after}
use Rattle.digits.proofs.Laws.Refusals.{pass-over}
use Rattle.numbers.specs.Paper.Raw.{Raw, most_decimals}
use Rattle.numbers.specs.Paper.Text.{text}
use Rattle.numbers.specs.Paper.ByteValues.{HeldBy}
use Rattle.numbers.specs.Paper.Answers as A
use Rattle.numbers.specs.Paper.Answers.{TextCause, ValueCause, BytesCause, RangeCause}

-- the numbers that the calls of this crate refuse with
abbrev ours : ℕ → Bool
ours k = eqb k 7 || eqb k 5 || eqb k 4

module _ {C : ℕ → Type 0} (only : (k : ℕ) → ours k ≡ false → C k → ⊥) where
  pub first-7 : C 7 → First C refusal_order 7
  first-7 c = pass-over ours only refusal_order (here c)

  pub first-5 : (C 7 → ⊥) → C 5 → First C refusal_order 5
  first-5 n7 c = pass-over ours only refusal_order (after n7 (here c))

  pub first-4 : (C 7 → ⊥) → (C 5 → ⊥) → C 4 → First C refusal_order 4
  first-4 n7 n5 c = pass-over ours only refusal_order (after n7 (after n5 (here c)))

  pub no-cause : (C 7 → ⊥) → (C 5 → ⊥) → (C 4 → ⊥) → First C refusal_order 0
  no-cause n7 n5 n4 = pass-over ours only refusal_order (after n7 (after n5 (after n4 clear)))

-- ---- text::write

module _ {z : ℤ} {d n : ℕ} where
  pub text-only : (k : ℕ) → ours k ≡ false → TextCause z d n k → ⊥
  text-only k e (A.decimals h) = true≢false e
  text-only k e (A.range f) = true≢false e
  text-only k e (A.room h) = true≢false e

  pub decimals-right : d ≤ most_decimals → TextCause z d n 7 → ⊥
  decimals-right h (A.decimals k) = lt_irrefl most_decimals (lt_of_lt_of_le k h)

  pub range-right : Raw z → TextCause z d n 5 → ⊥
  range-right r (A.range f) = f r

  pub room-enough : length (text z d) ≤ n → TextCause z d n 4 → ⊥
  room-enough h (A.room k) = lt_irrefl n (lt_of_lt_of_le k h)

-- ---- byte_values::write

module _ {w : ℕ} {signed : Bool} {z : ℤ} {n : ℕ} where
  pub value-only : (k : ℕ) → ours k ≡ false → ValueCause w signed z n k → ⊥
  value-only k e (A.width f) = true≢false e
  value-only k e (A.held f) = true≢false e
  value-only k e (A.room h) = true≢false e

  pub width-right : Width w → ValueCause w signed z n 7 → ⊥
  width-right h (A.width f) = f h

  pub held-right : HeldBy w signed z → ValueCause w signed z n 5 → ⊥
  held-right h (A.held f) = f h

  pub bytes-enough : w ≤ n → ValueCause w signed z n 4 → ⊥
  bytes-enough h (A.room k) = lt_irrefl n (lt_of_lt_of_le k h)

-- ---- byte_values::read

module _ {w : ℕ} {s : List ℕ} where
  pub bytes-only : (k : ℕ) → ours k ≡ false → BytesCause w s k → ⊥
  bytes-only k e (A.width f) = true≢false e
  bytes-only k e (A.count f) = true≢false e

  pub width-known : Width w → BytesCause w s 7 → ⊥
  width-known h (A.width f) = f h

  pub count-right : length s ≡ w → BytesCause w s 5 → ⊥
  count-right h (A.count f) = f h

  pub no-room-asked : BytesCause w s 4 → ⊥
  no-room-asked u = elim u [ ]

-- ---- single::fits and panel::of

range-only : {z : ℤ} (k : ℕ) → ours k ≡ false → RangeCause z k → ⊥
range-only k e (A.range f) = true≢false e

module _ (z : ℤ) where
  pub out_of_range : (Raw z → ⊥) → First (RangeCause z) refusal_order 5
  out_of_range f = first-5 range-only (λ u. elim u [ ]) (A.range f)

  pub in-range : Raw z → First (RangeCause z) refusal_order 0
  in-range r = no-cause range-only (λ u. elim u [ ]) raw (λ u. elim u [ ])
    where
      raw : RangeCause z 5 → ⊥
      raw (A.range f) = f r
