-- `book::layout::four` meets its contract: four bytes, the low one first.
-- Assumes nothing.
use mathlib.Core.List.{List, [], ◌∷◌}
use mathlib.Core.Path.{◌≡◌, refl, ◌∙◌}
use Prim.Native.Nat.{ℕ, suc, ◌+◌}
use native.Mathlib.Omega.{arith}
use lib.ListN.{get_or}
use borrow.Author.Rules.{rules}
use Rattle.std.proofs.lemmas.Nat.{le_bytes_4}
use Rattle.digits.proofs.Laws.Parts.{ats}
use Rattle.book.proofs.Laws.Reading.{number-of-bytes}
use Rattle.book.proofs.layout.four.Goals as goal

pub returns : goal.returns
returns c =
    let s = c.args.s.now in
    let at = c.args.at in
    let one : at + 1 ≡ suc at = omega arith in
    let two : at + 2 ≡ suc (suc at) = omega arith in
    let three : at + 3 ≡ suc (suc (suc at)) = omega arith in
    let read : List ℕ = get_or s at 0 ∷ get_or s (at + 1) 0 ∷ get_or s (at + 2) 0 ∷ get_or s (at + 3) 0 ∷ [] in
    let bytes = le_bytes_4 (get_or s at 0 ∷ get_or s (at + 1) 0 ∷ get_or s (at + 2) 0 ∷ get_or s (at + 3) 0 ∷ []) _ refl (search rules) c.from_le_bytes.ensures in
    let same : read ≡ ats s at 4 = rw (one, two, three) refl in
    (c.from_le_bytes.type_inv, number-of-bytes 4 c.requires (bytes ∙ same))
