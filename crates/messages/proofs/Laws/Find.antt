-- What a search finds is one frame, whose payload goes from the one place to the other.
-- Assumes nothing.
use mathlib.Core.Path.{◌≡◌, refl, subst}
use mathlib.Core.List.{List}
use Prim.Native.Nat.{ℕ, ◌+◌, ◌-◌, ◌≤◌}
use native.Mathlib.Omega.{arith}
use lib.ListN.{length}
use Rattle.std.specs.Prelude.{Result, Ok, Err}
use Rattle.digits.specs.Paper.Bytes.{part}
use Rattle.digits.specs.declared.refusal.Refusal.{Refusal}
use Rattle.digits.proofs.Laws.Refusals.{answered}
use Rattle.frames.specs.Paper.Search.{Leftmost, Searches}
use Rattle.frames.specs.declared.Found.{Found}
use Rattle.messages.specs.Paper.Answers.{Said, Finds}
use Rattle.messages.specs.Work.Answers.{Payloaded}
use Rattle.messages.specs.declared.Message.{Message as Coded}
use Rattle.messages.proofs.Laws.Cases as cases

module _ {k : ℕ} {s : List ℕ} {place : ℕ} {r : Result Found Refusal} (a : Searches k s place r) where
  module _ {v : Found} (e : r ≡ Ok v) where
    finding : Searches k s place (Ok v)
    finding = subst (Searches k s place) e a

    leftmost : Leftmost k s place v
    leftmost = answered finding refl

    pub in_buffer : v.start + v.len ≤ length s
    in_buffer = leftmost.stands.inside

    pub behind-start : (v.start ≤ v.from) × (v.start ≤ v.to)
    behind-start = (omega (arith, leftmost.from_is), omega (arith, leftmost.to_is))

    pub payloaded : Payloaded k (part v.start (v.start + v.len) s) (v.from - v.start) (v.to - v.start)
    payloaded = record { frame = leftmost.stands.frame; from_is = omega (arith, leftmost.from_is); to_is = omega (arith, leftmost.to_is) }

    pub found : {c : Coded} → Said k (part v.start (v.start + v.len) s) c (v.from - v.start) (v.to - v.start)
        → Finds k s place (Ok (record { start = v.start; len = v.len; from = v.from; to = v.to; message = c }))
    found x = cases.found finding x

  pub not_found : {why : Refusal} → r ≡ Err why → Finds k s place (Err why)
  not_found {why} e = cases.unfound why (subst (Searches k s place) e a)
