-- One of so many sorts, by its number.
-- Assumes nothing.
use Rattle.std.specs.Prelude.{List, ◌≡◌, ℕ, get_or}
use Rattle.shapes.specs.declared.Sort.{Sort as Coded}
use Rattle.shapes.specs.declared.Sort.TheVariants as coded

-- the sort with a number, counted from 0; `Nothing` if there is none
pub record SortIn (ts : List Coded) (i : ℕ) (t : Coded) : Type 0 where
  pub is : t ≡ get_or ts i coded.Nothing
