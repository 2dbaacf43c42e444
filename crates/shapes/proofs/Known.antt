-- Known members of rows, by the definitions.
-- Assumes nothing.
use mathlib.Core.Path.{◌≡◌, refl}
use Rattle.digits.specs.Paper.Ascii.{ascii}
use Rattle.shapes.specs.Paper.Members.{names, name_in, sorts, sort_at}
use Rattle.shapes.specs.Paper.Shapes.{shape_at}
use Rattle.shapes.specs.declared.Sort.TheVariants as sort

-- `out` is the third member of a set, six bytes; a tail has none
pub third-of-set : name_in (names (shape_at 2).members) 2 ≡ ascii "out"
unfolding names
third-of-set = refl

pub its-sort : sort_at 2 2 ≡ sort.Bytes 6
unfolding sorts
its-sort = refl

pub none-of-tail : sort_at 5 0 ≡ sort.Nothing
unfolding sorts
none-of-tail = refl
