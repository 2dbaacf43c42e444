-- The promises of writers and readers in the claims' forms, and back.
-- Assumes nothing.
use mathlib.Core.Bool.{false}
use mathlib.Core.List.{List, [], ◌∷◌, ◌++◌}
use mathlib.Core.Path.{◌≡◌, refl, sym, ap, subst}
use Prim.Native.Nat.{ℕ, ◌<◌}
use borrow.Author.Tests.{eqb-false}
use denote.Ref.{Bor}
use lib.Dec.{eqb}
use lib.ListN.{length, drop}
use Rattle.digits.specs.Paper.Part.{Ends, IsPart, HandsPart}
use Rattle.digits.specs.Paper.Read.{Reads, is, none}
use Rattle.digits.specs.Paper.Refusals.{refusal_order, First, clear, here, after, Answers, answers, refuses}
use Rattle.digits.proofs.Laws.Refusals.{keep, pass-over, cause-at}
use Rattle.puts.specs.Paper.Right as R
use Rattle.puts.specs.Paper.Wrote as W
use Rattle.claims.specs.Paper.Claim.{OneOf, NeverRefused, Fronted, Unread, unread}
use Rattle.claims.specs.Paper.Claim as claim

-- ---- writers from the front of a room

abbrev AtFront : (ℕ → Type 0) → (List ℕ → Type 0) → List ℕ → ℕ → ℕ × List ℕ → Type 0
AtFront Cause Right room n v = Answers {A = ℕ × List ℕ} (0, room) Cause (λ u. Fronted Right room u.0 u.1) n v

pub fronted : {Cause : ℕ → Type 0} {Right : List ℕ → Type 0} {room later : List ℕ} {no count : ℕ}
    → R.WroteRight Cause Right room no count later → AtFront Cause Right room no (count, later)
fronted (R.wrote {bs = bs} f x) = answers f (record { bytes = bs; right = x; count-is = refl; room-is = refl })
fronted (R.refused h f) = refuses h f

pub unfronted : {Cause : ℕ → Type 0} {Right : List ℕ → Type 0} {room later : List ℕ} {no count : ℕ}
    → AtFront Cause Right room no (count, later) → R.WroteRight Cause Right room no count later
unfronted {Cause} {Right} {room} = go
  where
    go : {no : ℕ} {v : ℕ × List ℕ} → AtFront Cause Right room no v → R.WroteRight Cause Right room no v.0 v.1
    go (answers {v = v} f x) =
        subst (λ (n : ℕ). R.WroteRight Cause Right room 0 n v.1) (sym x.count-is)
        (subst (λ (later : List ℕ). R.WroteRight Cause Right room 0 (length x.bytes) later) (sym x.room-is)
        (R.wrote f x.right))
    go (refuses h f) = R.refused h f

-- the same where the bytes are these
pub fronted-these : {Cause : ℕ → Type 0} {bs room later : List ℕ} {no count : ℕ}
    → W.Wrote Cause bs room no count later → AtFront Cause (λ x. x ≡ bs) room no (count, later)
fronted-these {bs = bs} (W.wrote f) = answers f (record { bytes = bs; right = refl; count-is = refl; room-is = refl })
fronted-these (W.refused h f) = refuses h f

pub these-fronted : {Cause : ℕ → Type 0} {bs room later : List ℕ} {no count : ℕ}
    → AtFront Cause (λ x. x ≡ bs) room no (count, later) → W.Wrote Cause bs room no count later
these-fronted {Cause} {bs} {room} a = go (unfronted a)
  where
    go : {no count : ℕ} {later : List ℕ} → R.WroteRight Cause (λ x. x ≡ bs) room no count later → W.Wrote Cause bs room no count later
    go (R.wrote f e) = subst (λ (x : List ℕ). W.Wrote Cause bs room 0 (length x) (x ++ drop (length x) room)) (sym e) (W.wrote f)
    go (R.refused h f) = W.refused h f

-- ---- readers, whose one number is one of the order

abbrev Read : {A : Type 0} (zeros : A) (Limits : A → Type 0) (write : A → List ℕ) (refusal : ℕ) (s : List ℕ) → ℕ → A → Type 0
Read zeros Limits write refusal s n v = Answers zeros (Unread Limits write refusal s) (λ u. Limits u × (write u ≡ s)) n v

module _ {A : Type 0} {zeros : A} {Limits : A → Type 0} {write : A → List ℕ} {refusal : ℕ} {s : List ℕ} where
  pub answers-read : {n : ℕ} {v : A} → keep (eqb refusal) refusal_order ≡ refusal ∷ [] → 0 < refusal → Reads zeros Limits write refusal s n v
      → Read zeros Limits write refusal s n v
  answers-read one some = go
    where
      Cause : ℕ → Type 0
      Cause = Unread Limits write refusal s

      other : (k : ℕ) → eqb refusal k ≡ false → Cause k → ⊥
      other k e (unread f) = eqb-false refusal refusal e refl

      first : {n : ℕ} → First Cause (refusal ∷ []) n → First Cause refusal_order n
      first {n} f = pass-over (eqb refusal) other refusal_order (subst (λ (l : List ℕ). First Cause l n) (sym one) f)

      none-reads : {k : ℕ} → Cause k → (v : A) → Limits v → write v ≡ s → ⊥
      none-reads (unread f) = f

      is_read : {v : A} → Limits v → write v ≡ s → Cause refusal → ⊥
      is_read {v} l e u = none-reads u v l e

      go : {n : ℕ} {v : A} → Reads zeros Limits write refusal s n v → Read zeros Limits write refusal s n v
      go (is l e) = answers (first (after (is_read l e) clear)) (l, e)
      go (none f) = refuses some (first (here (unread f)))

  pub reads-answered : {n : ℕ} {v : A} → Read zeros Limits write refusal s n v → Reads zeros Limits write refusal s n v
  reads-answered (answers f x) = is x.0 x.1
  reads-answered (refuses h f) = of (cause-at f h)
    where
      of : {n : ℕ} → Unread Limits write refusal s n → Reads zeros Limits write refusal s n zeros
      of (unread g) = none g

-- a reader's cause is the one that it lists
pub read-stated : {A : Type 0} {Limits : A → Type 0} {write : A → List ℕ} {no m : ℕ} {s : List ℕ} → Unread Limits write no s m
    → OneOf m (no ∷ [])
read-stated (unread f) = claim.here

-- ---- a part that is always handed back

-- where no cause is, no number is first
unrefused : First NeverRefused refusal_order 0
unrefused = pass-over (λ k. false) (λ k e c. c) refusal_order clear

pub handed : {s r : Bor (List ℕ)} {e : Ends} → IsPart s e r → HandsPart NeverRefused (λ d. d ≡ e) s r
handed {e = e} p = record { refusal = 0; ends = e; answer = answers unrefused refl; is = p }

-- ---- two outcomes of a call with a lent room: the same results, and the same rooms at its place among the arguments

pub placed : {Result Lent : Type 0} {r q : Result} {s t : List ℕ} (among : List ℕ → Lent) → (r ≡ q) × (s ≡ t)
    → (r ≡ q) × (among s ≡ among t)
placed among e = (e.0, ap among e.1)
