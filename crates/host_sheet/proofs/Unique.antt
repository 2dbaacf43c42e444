-- For each call: two answers that meet its promise are the same, and so are the maps afterwards.
-- Assumes nothing.
use mathlib.Core.List.{List}
use mathlib.Core.Path.{◌≡◌, sym, ◌∙◌}
use Prim.Native.Nat.{ℕ}
use lib.ListN.{length}
use Rattle.puts.specs.Paper.Right.{WroteRight}
use Rattle.sheet.specs.Paper.Answers.{MapCause, IsMap}
use Rattle.sheet.proofs.Laws.Faults.{one-fault}
use Rattle.sheet.proofs.Unique.{one_map}
use Rattle.host.specs.declared.answers.Count.{Count}
use Rattle.host.proofs.Unique.{right-written}
use Rattle.host_sheet.specs.Paper.Answers.{ToldFault}
use Rattle.host_sheet.specs.declared.Fault.{Fault}

pub mapped : {text room x y : List ℕ} (r q : Count) → WroteRight (MapCause text (length room)) (IsMap text) room r.refusal r.length x
    → WroteRight (MapCause text (length room)) (IsMap text) room q.refusal q.length y → (r ≡ q) × (x ≡ y)
mapped r q a b = right-written (λ s t. one_map) r q a b

pub fault : {text : List ℕ} (r q : Fault) → ToldFault text r → ToldFault text q → r ≡ q
fault r q a b =
    let e = one-fault a.faulty b.faulty in
    go r.refusal q.refusal r.test q.test r.line q.line (a.answered ∙ sym b.answered) e.1 e.0
  where
    go : (i j t u l m : ℕ) → i ≡ j → t ≡ u → l ≡ m
        → ◌≡◌ {A = Fault} (record { refusal = i; test = t; line = l }) (record { refusal = j; test = u; line = m })
    go i j t u l m x y z = rw (x, y, z)
