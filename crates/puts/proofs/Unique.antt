-- For each public function: two answers that meet its promise, and the rooms afterwards, are the same.
-- Assumes nothing.
use Rattle.std.specs.Prelude.{Ok, Err}
use mathlib.Core.Path.{◌≡◌, refl, sym, ◌∙◌}
use Prim.Native.Nat.{ℕ}
use mathlib.Core.List.{List}
use Rattle.digits.specs.declared.refusal.Refusal.{Refusal}
use Rattle.digits.proofs.Laws.Refusals.{same_answer}
use Rattle.puts.specs.Paper.Put.{Put}
use Rattle.puts.specs.Paper.Wrote.{written_refusal, written_count, Writes, Written}
use Rattle.puts.proofs.Laws.Wrote.{one-outcome}

-- byte, bytes, whole, hex
pub one-put : {room s t bs : List ℕ} {at m n : ℕ} → Put room s at m bs → Put room t at n bs → (m ≡ n) × (s ≡ t)
one-put p q = (p.behind ∙ sym q.behind, p.room-is ∙ sym q.room-is)

-- front, and every call that answers `Written`: an answer is its number and its count
written-cases : (P : Written → Type 0) → ((n : ℕ) → P (Ok n)) → ((why : Refusal) → P (Err why)) → (r : Written) → P r
written-cases P f g (Ok n) = f n
written-cases P f g (Err why) = g why

pub written-answer : (r q : Written) → written_refusal r ≡ written_refusal q → written_count r ≡ written_count q → r ≡ q
written-answer = same_answer Ok Err written_refusal written_count (λ n. refl) (λ why. refl) (λ n. refl) written-cases

-- every call that writes into a lent room
pub one_written : {Cause : ℕ → Type 0} {bs room s t : List ℕ} {r q : Written} → Writes Cause bs room r s → Writes Cause bs room q t → (r ≡ q) × (s ≡ t)
one_written {r = r} {q = q} a b = let e = one-outcome a b in (written-answer r q e.0 e.1, e.2)
