-- The part of the buffer that a search finds.
-- Assumes nothing.
use mathlib.Core.List.{List}
use mathlib.Core.Path.{◌≡◌, refl, subst}
use Prim.Native.Nat.{ℕ, ◌+◌, ◌≤◌}
use native.Mathlib.Omega.{arith}
use denote.Ref.{Bor}
use lib.ListN.{length}
use Rattle.std.specs.Prelude.{Result, Ok, Err}
use Rattle.digits.proofs.Laws.Handed.{hands-right, hands_none}
use Rattle.digits.proofs.Laws.Refusals.{cause-of}
use Rattle.digits.specs.Paper.Part.{Ends, zero_ends, IsPart}
use Rattle.digits.specs.declared.refusal.Refusal.{Refusal}
use Rattle.frames.specs.Paper.Search.{Hit, Leftmost, Searches, Hands}
use Rattle.frames.specs.declared.Found.{Found}
use Rattle.frames.proofs.Laws.Kinds.{payload-inside}
use Rattle.frames.proofs.Laws.Places.{size-at}
use Rattle.frames.proofs.Laws.Runs.{leftmost}

module _ {k : ℕ} {s : List ℕ} {place : ℕ} {r : Result Found Refusal} (a : Searches k s place r) where
  module _ {v : Hit} (e : r ≡ Ok v) where
    there : Leftmost k s place v
    there = leftmost (subst (Searches k s place) e a)

    pub found_inside : v.start + v.len ≤ length s
    found_inside = there.stands.inside

    pub payload-there : (v.from ≤ v.to) × (v.to ≤ length s)
    payload-there =
        let q = there in
        let i = payload-inside q.stands.frame in
        (omega (arith, q.from_is, q.to_is, i.0), omega (arith, q.to_is, i.1, size-at q.stands, q.stands.inside))

module _ {k : ℕ} {s p : Bor (List ℕ)} {place : ℕ} {r : Result Found Refusal} (a : Searches k s.now place r) (ends : Hit → Ends) where
  pub hands-found : {v : Hit} → r ≡ Ok v → IsPart s (ends v) p → Hands k s place ends p
  hands-found {v} e i =
      let there : Searches k s.now place (Ok v) = subst (Searches k s.now place) e a in
      hands-right (cause-of there) (v, leftmost there, refl) i

  pub hands-nothing : {why : Refusal} → r ≡ Err why → IsPart s zero_ends p → Hands k s place ends p
  hands-nothing {why} e = hands_none why (cause-of (subst (Searches k s.now place) e a))
