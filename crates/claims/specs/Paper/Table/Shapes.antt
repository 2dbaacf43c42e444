-- The public functions of `shapes`.
-- Assumes nothing.
use Rattle.std.specs.Prelude.{List, [], ◌∷◌, ◌≡◌, ℕ, length}
use Rattle.puts.specs.Paper.Wrote.{Written}
use Rattle.shapes.specs.Paper.Members.{NameCause, names, name_in, sort_at}
use Rattle.shapes.specs.Paper.Shapes.{shape_at}
use Rattle.shapes.specs.declared.Sort.{Sort}
use Rattle.claims.specs.Paper.Claim.{fronts, answering, Claim}

-- Writes the name of a row's member from the front of the room.
pub record NameOfArgs : Type 0 where
  pub row : ℕ
  pub member : ℕ
  pub room : List ℕ

abbrev pub name_of : Claim Written
name_of =
    record {
      name = "shapes::name_of";
      Args = NameOfArgs;
      refusals = 5 ∷ 4 ∷ [];
      Cause = λ a. NameCause (names (shape_at a.row).members) a.member (length a.room);
      form = fronts (λ a. a.room) (λ a bs. bs ≡ name_in (names (shape_at a.row).members) a.member);
    }

-- What the value of a row's member must be.
pub record SortOfArgs : Type 0 where
  pub row : ℕ
  pub member : ℕ

abbrev pub sort-of : Claim Sort
sort-of = answering {Args = SortOfArgs} "shapes::sort_of" (λ a r. r ≡ sort_at a.row a.member)
