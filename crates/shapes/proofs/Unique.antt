-- For each public function: two answers that meet its promise are the same.
-- Assumes nothing.
use mathlib.Core.List.{List}
use mathlib.Core.Path.{◌≡◌, sym, ◌∙◌}
use Prim.Native.Nat.{ℕ}
use Rattle.puts.proofs.Unique.{one_written}
use Rattle.puts.specs.Paper.Wrote.{Written}
use Rattle.shapes.specs.Paper.Members.{names, sort_at, WritesName}
use Rattle.shapes.specs.Paper.Shapes.{shape_at}
use Rattle.shapes.specs.declared.Sort.{Sort as Coded}

-- name_of, sort_of: the table has one name and one sort
pub name_of : (r i : ℕ) (room : List ℕ) (w q : Written) {x y : List ℕ} → WritesName (names (shape_at r).members) i room w x
    → WritesName (names (shape_at r).members) i room q y → (w ≡ q) × (x ≡ y)
name_of r i room w q a b = one_written {r = w} {q = q} a b

pub sort-of : (r i : ℕ) (t u : Coded) → t ≡ sort_at r i → u ≡ sort_at r i → t ≡ u
sort-of r i t u x y = x ∙ sym y
