-- `digits::slices::same` meets its contract: what `==` tells of the bytes, also where it is written of the parts from 0 on.
-- Assumes nothing.
use mathlib.Core.Path.{◌≡◌}
use Prim.Native.Nat.{ℕ}
use borrow.Author.Rules.{rules}
use Rattle.std.specs.Prelude.{Bool, true, false, List, nat_eq}
use Rattle.std.specs.Cmp.Lexicographic.{pointwise, same_text, other_text}
use Rattle.digits.specs.Paper.Read.{Decides, holds, fails}
use Rattle.digits.proofs.Laws.Parts.{from_0}
use Rattle.digits.proofs.slices.same.Goals as goal

decided : (s t : List ℕ) (r : Bool) → r ≡ pointwise nat_eq s t → Decides (s ≡ t) r
decided s t true e = holds (same_text s t e)
decided s t false e = fails (other_text s t e)

pub returns : goal.returns
returns c = decided _ _ _ (search (rules, from_0))
