-- Two answers that meet the promise of `bolsterweft_list` or `bolsterweft_list_with`, and the rooms afterwards, are the same.
-- Assumes nothing.
use mathlib.Core.List.{List}
use mathlib.Core.Option.{Option}
use mathlib.Core.Path.{◌≡◌, subst}
use Prim.Native.Nat.{ℕ}
use lib.ListN.{length}
use Rattle.puts.specs.Paper.Wrote.{Wrote, RoomCause}
use Rattle.list.specs.Paper.Answers.{WroteListing}
use Rattle.list.proofs.Laws.One.{OneGiven}
use Rattle.list.proofs.Theorems.{one-listing}
use Rattle.sheet.specs.Paper.Sheet.{Lookup}
use Rattle.host.specs.declared.answers.Count.{Count}
use Rattle.host.proofs.Unique.{these-written}

pub listing : {Given : Option Lookup → Type 0} → OneGiven Given → {s room x y : List ℕ} (r q : Count) → WroteListing Given s room r.refusal r.length x → WroteListing Given s room q.refusal q.length y
    → (r ≡ q) × (x ≡ y)
listing given {room = room} {x = x} r q a b =
    let same : a.listing ≡ b.listing = one-listing given a.lists b.lists in
    these-written r q (subst (λ (t : List ℕ). Wrote (RoomCause (length room) (length t)) t room r.refusal r.length x) same a.written) b.written
