-- `frames::nothing` meets its contract: no bytes, and the buffer's own place.
-- Assumes nothing.
use mathlib.Core.Path.{refl}
use native.Mathlib.Nat.{sub_self}
use borrow.Author.Rules.{rules}
use Rattle.frames.proofs.nothing.Goals as goal

-- `sub_self`: a part from any place to itself is empty, so that only its place tells a wrong one
pub returns : goal.returns
returns c = record { bytes = search (rules, sub_self); place = refl }
