-- Which row of the table a kind and a msg are.
-- Assumes nothing.
use Rattle.std.specs.Prelude.{Bool, true, false, ◌&&◌, cond, List, [], ◌∷◌, ℕ, ◌+◌, eqb, Option, Some, None}
use Rattle.asked.specs.Paper.Means.{HeadOf}
use Rattle.shapes.specs.Paper.Shapes.{Shape, shapes}

-- the same characters
unfoldable pub same_text : List ℕ → List ℕ → Bool
same_text [] [] = true
same_text [] (y ∷ t) = false
same_text (x ∷ s) [] = false
same_text (x ∷ s) (y ∷ t) = eqb x y && same_text s t

-- the first shape with this kind and msg, counted on from i
unfoldable pub row_in : ℕ → List Shape → ℕ → List ℕ → Option ℕ
row_in i [] k n = None
row_in i (sh ∷ shs) k n = cond (eqb sh.kind k && same_text sh.msg n) (Some i) (row_in (i + 1) shs k n)

unfoldable pub row_named : ℕ → List ℕ → Option ℕ
row_named k n = row_in 1 shapes k n

-- the row whose kind and msg it has
pub data RowOf (s : List ℕ) : Option ℕ → Type 0 where
  is : {r : ℕ} → HeadOf s r → RowOf s (Some r)
  none : ((r : ℕ) → HeadOf s r → ⊥) → RowOf s None
