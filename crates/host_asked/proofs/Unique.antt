-- Two answers that meet the promise of `bolsterweft_encode`, and the rooms afterwards, are the same.
-- Assumes nothing.
use mathlib.Core.List.{List}
use mathlib.Core.Path.{◌≡◌}
use Prim.Native.Nat.{ℕ}
use lib.ListN.{length}
use Rattle.puts.specs.Paper.Right.{WroteRight}
use Rattle.commands.specs.Paper.Answers.{MessageCause, MeantBytes}
use Rattle.asked.specs.Paper.Answers.{AskedCause}
use Rattle.asked.specs.Paper.Means.{Means}
use Rattle.asked.proofs.Unique.{meant-one}
use Rattle.host.specs.declared.answers.Count.{Count}
use Rattle.host.proofs.Unique.{right-written}

pub encoded : {s room x y : List ℕ} (r q : Count) → WroteRight (AskedCause s (MessageCause (Means s) (length room))) (MeantBytes (Means s)) room r.refusal r.length x
    → WroteRight (AskedCause s (MessageCause (Means s) (length room))) (MeantBytes (Means s)) room q.refusal q.length y → (r ≡ q) × (x ≡ y)
encoded r q a b = right-written meant-one r q a b
