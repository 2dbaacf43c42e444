-- The outcome of a call that writes, into a lent room, the bytes that are right: there is one, and how it comes about.
-- Assumes nothing.
use Rattle.std.specs.Prelude.{Err}
use mathlib.Core.Path.{◌≡◌, refl, sym, ap, subst}
use mathlib.Core.Bool.{Bool, false, ◌||◌}
use mathlib.Core.List.{List, ◌++◌}
use Prim.Native.Nat.{ℕ, ◌≤◌, ◌<◌}
use native.Mathlib.Omega.{arith}
use lib.Dec.{eqb, lit<}
use lib.ListN.{length, take, drop}
use lib.Seq.{take-append_seam, drop-append_seam}
use Rattle.digits.specs.Paper.Refusals.{refusal_order, First, clear, here, after}
use Rattle.digits.specs.declared.refusal.Refusal.TheVariants.{OutOfLimits}
use Rattle.digits.proofs.Laws.Refusals.{one-first, pass-over}
use Rattle.puts.specs.Paper.Wrote as puts
use Rattle.puts.specs.Paper.Wrote.{Wrote, RoomCause, Writes, Written}
use Rattle.puts.proofs.Laws.Wrote.{after-tests}
use Rattle.puts.proofs.Unique.{written-answer}
use Rattle.puts.specs.Paper.Right.{WroteRight, wrote, refused, WritesRight}

-- ---- the first of the causes 5 and 4

abbrev pub ours : ℕ → Bool
ours k = eqb k 5 || eqb k 4

module _ {Cause : ℕ → Type 0} (only : (k : ℕ) → ours k ≡ false → Cause k → ⊥) where
  pub first-5 : Cause 5 → First Cause refusal_order 5
  first-5 c = pass-over ours only refusal_order (here c)

  pub first-4 : (Cause 5 → ⊥) → Cause 4 → First Cause refusal_order 4
  first-4 n5 c = pass-over ours only refusal_order (after n5 (here c))

  pub no-cause : (Cause 5 → ⊥) → (Cause 4 → ⊥) → First Cause refusal_order 0
  no-cause n5 n4 = pass-over ours only refusal_order (after n5 (after n4 clear))

-- ---- one outcome

module _ {Cause : ℕ → Type 0} {Right : List ℕ → Type 0} {room : List ℕ} (one : (a b : List ℕ) → Right a → Right b → a ≡ b) where
  pub one-outcome : {j k m n : ℕ} {s t : List ℕ} → WroteRight Cause Right room j m s → WroteRight Cause Right room k n t → (j ≡ k) × (m ≡ n) × (s ≡ t)
  one-outcome (wrote {bs = a} f x) (wrote {bs = b} g y) =
      let e : a ≡ b = one a b x y in (refl, ap length e, ap (λ (c : List ℕ). c ++ drop (length c) room) e)
  one-outcome (wrote f x) (refused p g) = let e = one-first f g in absurd (omega arith)
  one-outcome (refused p f) (wrote g y) = let e = one-first f g in absurd (omega arith)
  one-outcome (refused p f) (refused q g) = (one-first f g, refl, refl)

  -- where only one list is right, two answers and the rooms afterwards are the same
  pub one-wrote : {r q : Written} {s t : List ℕ} → WritesRight Cause Right room r s → WritesRight Cause Right room q t → (r ≡ q) × (s ≡ t)
  one-wrote {r} {q} a b = let e = one-outcome a b in (written-answer r q e.0 e.1, e.2)

-- ---- what it comes to

module _ {Cause : ℕ → Type 0} {Right : List ℕ → Type 0} {room : List ℕ} where
  -- the first cause that applies is the answer's
  pub first_of : {number n : ℕ} {later : List ℕ} → WroteRight Cause Right room number n later → First Cause refusal_order number
  first_of (wrote f x) = f
  first_of (refused p f) = f

  -- where nothing is refused, what stands in the room's front is right
  pub written-right : {number n : ℕ} {later : List ℕ} → WroteRight Cause Right room number n later → number ≡ 0 → Right (take n later)
  written-right (wrote {bs = bs} f x) z = subst Right (sym (take-append_seam bs (drop (length bs) room))) x
  written-right (refused p f) z = absurd (omega arith)

  -- and behind what is written the room is as it was
  pub rest-kept : {number n : ℕ} {later : List ℕ} → WroteRight Cause Right room number n later → drop n later ≡ drop n room
  rest-kept (wrote {bs = bs} f x) = drop-append_seam bs (drop (length bs) room)
  rest-kept (refused p f) = refl

-- ---- how it comes about

module _ {Cause : ℕ → Type 0} {Right : List ℕ → Type 0} {room : List ℕ} where
  -- bytes that are right, where they are written as they should be
  pub as-right : {bs later : List ℕ} {k n : ℕ} → Right bs → Wrote Cause bs room k n later → WroteRight Cause Right room k n later
  as-right x (puts.wrote f) = wrote f x
  as-right x (puts.refused p f) = refused p f

  -- the same for other causes, of which the first is the same, and where what was right still is
  pub recast : {Other : ℕ → Type 0} {Still : List ℕ → Type 0} {later : List ℕ} {k n : ℕ} → ((no : ℕ) → First Cause refusal_order no → First Other refusal_order no)
      → ((bs : List ℕ) → Right bs → Still bs) → WroteRight Cause Right room k n later → WroteRight Other Still room k n later
  recast first still (wrote {bs = bs} f x) = wrote (first 0 f) (still bs x)
  recast first still (refused {no = k} p f) = refused p (first k f)

  -- a call that has passed its own tests, and then writes all of what is right or nothing
  pub fronted-right : {bs later : List ℕ} (r : Written) → Right bs → (length bs ≤ length room → First Cause refusal_order 0)
      → (length room < length bs → First Cause refusal_order 4) → Writes (RoomCause (length room) (length bs)) bs room r later → WritesRight Cause Right room r later
  fronted-right r x enough less w = as-right x (after-tests enough less w)

  -- and one that has not
  pub refused-5 : First Cause refusal_order 5 → WritesRight Cause Right room (Err OutOfLimits) room
  refused-5 f = refused (lit< tt) f
