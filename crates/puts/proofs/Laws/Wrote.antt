-- The outcome of a call that writes into a lent room: there is one, and a writer's is right.
-- Assumes nothing.
use Rattle.std.specs.Prelude.{Ok, Err}
use mathlib.Core.Path.{◌≡◌, refl, sym, ap, ◌∙◌, subst}
use mathlib.Core.Bool.{Bool, true, false, cond, true≢false}
use mathlib.Core.List.{List, []}
use Prim.Native.Nat.{ℕ, ◌≤◌, ◌<◌}
use native.Mathlib.Omega.{arith}
use lib.Dec.{leb, eqb, lit<}
use lib.ListN.{length}
use borrow.Author.Tests.{leb-true, leb-false}
use Rattle.digits.specs.Paper.Bytes.{part}
use Rattle.digits.specs.Paper.Refusals.{refusal_order, First, clear, here, after}
use Rattle.digits.specs.declared.refusal.Refusal.TheVariants.{NoRoom}
use Rattle.digits.proofs.Laws.Parts.{part-all}
use Rattle.digits.proofs.Laws.Refusals.{one-first, pass-over}
use Rattle.puts.specs.Paper.Put.{Put}
use Rattle.puts.specs.Paper.Wrote.{Wrote, wrote, refused, RoomCause, short, Writes}
use Rattle.puts.proofs.Laws.Puts.{puts-as, front-count, front-room}

module _ {Cause : ℕ → Type 0} {bs room : List ℕ} where
  pub one-outcome : {j k m n : ℕ} {s t : List ℕ} → Wrote Cause bs room j m s → Wrote Cause bs room k n t → (j ≡ k) × (m ≡ n) × (s ≡ t)
  one-outcome (wrote f) (wrote g) = (refl, refl, refl)
  one-outcome (wrote f) (refused p g) = let e = one-first f g in absurd (omega arith)
  one-outcome (refused p f) (wrote g) = let e = one-first f g in absurd (omega arith)
  one-outcome (refused p f) (refused q g) = (one-first f g, refl, refl)

  -- a writer's bytes from the front of a room that has room for them
  pub wrote_by : {later : List ℕ} {n : ℕ} → First Cause refusal_order 0 → Put room later 0 n bs → length bs ≤ length room → Wrote Cause bs room 0 n later
  wrote_by {later} {n} f p l = rw (front-count p l, front-room p l) (wrote f)

-- ---- all or none

only-4 : {r b : ℕ} (k : ℕ) → eqb k 4 ≡ false → RoomCause r b k → ⊥
only-4 k e (short h) = true≢false e

pub too_short : {r b : ℕ} → r < b → First (RoomCause r b) refusal_order 4
too_short h = pass-over (λ k. eqb k 4) only-4 refusal_order (here (short h))

pub room_for : {r b : ℕ} → b ≤ r → First (RoomCause r b) refusal_order 0
room_for {r} {b} h = pass-over (λ k. eqb k 4) only-4 refusal_order (after none clear)
  where
    none : RoomCause r b 4 → ⊥
    none (short k) = omega arith

module _ (s room : List ℕ) {n : ℕ} (e : n ≡ cond (leb (length s) (length room)) (length s) 0) where
  -- what is written is all, or it is nothing
  all-or-none : {C : Type 0} → (length s ≤ length room → n ≡ length s → C) → (length room < length s → n ≡ 0 → C) → C
  all-or-none {C} f g = go (leb (length s) (length room)) refl
    where
      go : (b : Bool) → leb (length s) (length room) ≡ b → C
      go true h = f (leb-true (length s) (length room) h) (e ∙ ap (λ (b : Bool). cond b (length s) 0) h)
      go false h = g (leb-false (length s) (length room) h) (e ∙ ap (λ (b : Bool). cond b (length s) 0) h)

  pub within-bytes : n ≤ length s
  within-bytes = all-or-none (λ h f. omega arith) (λ h f. omega arith)

  module _ {later : List ℕ} {k : ℕ} (p : Put room later 0 k (part 0 n s)) where
    pub all-written : length s ≤ n → Writes (RoomCause (length room) (length s)) s room (Ok n) later
    all-written h =
        all-or-none
        (λ g f.
        let whole : part 0 n s ≡ s = ap (λ (m : ℕ). part 0 m s) f ∙ part-all s in
        let q : Put room later 0 k s = puts-as whole p in
        subst (λ (m : ℕ). Wrote (RoomCause (length room) (length s)) s room 0 m later) (front-count q g ∙ sym f) (wrote_by (room_for g) q g))
        (λ g f. absurd (omega arith))

    pub none_written : n < length s → Writes (RoomCause (length room) (length s)) s room (Err NoRoom) later
    none_written h =
        all-or-none (λ g f. absurd (omega arith))
        (λ g f.
        let same : room ≡ later = sym (puts-as {vs = []} (ap (λ (m : ℕ). part 0 m s) f) p).room-is in
        subst (Wrote (RoomCause (length room) (length s)) s room 4 0) same (refused (lit< tt) (too_short g)))

-- what the first cause says of the room
module _ {r b : ℕ} where
  pub by_size : {C : Type 0} → (b ≤ r → C) → (r < b → C) → C
  by_size {C} f g = go (leb b r) refl
    where
      go : (t : Bool) → leb b r ≡ t → C
      go true e = f (leb-true b r e)
      go false e = g (leb-false b r e)

  pub has_room : First (RoomCause r b) refusal_order 0 → b ≤ r
  has_room a = by_size (λ h. h) (λ h. let e = one-first a (too_short h) in absurd (omega arith))

  has-none : {no : ℕ} → 0 < no → First (RoomCause r b) refusal_order no → (4 ≡ no) × (r < b)
  has-none p a = by_size (λ h. let e = one-first a (room_for h) in absurd (omega arith)) (λ h. (one-first (too_short h) a, h))

-- a call that has passed its own tests, and then writes all or nothing
pub after-tests : {Cause : ℕ → Type 0} {bs room later : List ℕ} {k n : ℕ} → (length bs ≤ length room → First Cause refusal_order 0) → (length room < length bs → First Cause refusal_order 4)
    → Wrote (RoomCause (length room) (length bs)) bs room k n later → Wrote Cause bs room k n later
after-tests f g (wrote a) = wrote (f (has_room a))
after-tests {Cause} {bs} {room} f g (refused p a) =
    let e = has-none p a in subst (λ (m : ℕ). Wrote Cause bs room m 0 room) e.0 (refused (lit< tt) (g e.1))
