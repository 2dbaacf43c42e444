-- 02, K4: 12 is for "members missing, extra, of another sort or spelling". The names and sorts of a shape's members,
-- for a caller that says in words which of these it is.
-- Assumes nothing.
use Rattle.std.specs.Prelude.{List, [], ◌∷◌, ℕ, ◌≤◌, ◌<◌, length, get_or}
use Rattle.puts.specs.Paper.Wrote.{Writes, Written}
use Rattle.shapes.specs.Paper.Fields.{Named}
use Rattle.shapes.specs.Paper.Shapes.{Sort, number, bytes, digits, content, string, bool, measured, shape_at}
use Rattle.shapes.specs.declared.Sort.{Sort as Coded}
use Rattle.shapes.specs.declared.Sort.TheVariants as coded

unfoldable pub names : List (Named Sort) → List (List ℕ)
names [] = []
names (m ∷ ms) = m.name ∷ names ms

-- a sort as the code says it
abbrev pub sort_of : Sort → Coded
sort_of number = coded.Number
sort_of (bytes n) = coded.Bytes n
sort_of (digits n) = coded.Digits n
sort_of content = coded.Content
sort_of string = coded.Text
sort_of bool = coded.Truth
sort_of (measured d) = coded.Reading d

unfoldable pub sorts : List (Named Sort) → List Coded
sorts [] = []
sorts (m ∷ ms) = sort_of m.value ∷ sorts ms

-- the sort of a member of row r, counted from 0; `Nothing` if it has no such member
abbrev pub sort_at : ℕ → ℕ → Coded
sort_at r i = get_or (sorts (shape_at r).members) i coded.Nothing

-- its name, written into a lent room of n bytes. 5: there is no such member; 4: "lent room too short for the answer"
abbrev pub name_in : List (List ℕ) → ℕ → List ℕ
name_in ns i = get_or ns i []

pub data NameCause (ns : List (List ℕ)) (i n : ℕ) : ℕ → Type 0 where
  no_name : length ns ≤ i → NameCause ns i n 5
  short : i < length ns → n < length (name_in ns i) → NameCause ns i n 4

abbrev pub WritesName : List (List ℕ) → ℕ → List ℕ → Written → List ℕ → Type 0
WritesName ns i room r later = Writes (NameCause ns i (length room)) (name_in ns i) room r later
