-- `book::layout::two` meets its contract: two bytes, the low one first.
-- Assumes nothing.
use mathlib.Core.List.{[], ◌∷◌}
use mathlib.Core.Path.{◌≡◌, refl, ap, ◌∙◌}
use Prim.Native.Nat.{ℕ, suc, ◌+◌}
use native.Mathlib.Omega.{arith}
use lib.ListN.{get_or}
use borrow.Author.Rules.{rules}
use Rattle.std.proofs.lemmas.Nat.{le_bytes_2}
use Rattle.book.proofs.Laws.Reading.{number-of-bytes}
use Rattle.book.proofs.layout.two.Goals as goal

pub returns : goal.returns
returns c =
    let s = c.args.s.now in
    let at = c.args.at in
    let next : at + 1 ≡ suc at = omega arith in
    let bytes = le_bytes_2 (get_or s at 0 ∷ get_or s (at + 1) 0 ∷ []) _ refl (search rules) c.from_le_bytes.ensures in
    (c.from_le_bytes.type_inv, number-of-bytes 2 c.requires (bytes ∙ ap (λ (i : ℕ). get_or s at 0 ∷ get_or s i 0 ∷ []) next))
