-- What finds out what a text lacks.
-- Assumes nothing.
use Rattle.std.specs.Prelude.{List, [], ℕ, Option, Some, None, get_or}
use Rattle.shapes.specs.Paper.Fields.{Named, ◌∶◌, Field}
use Rattle.asked.specs.Paper.Field.{Spells}
use Rattle.asked.specs.Paper.Lacks.{HasAll, FirstLacking}
use Rattle.shapes.specs.Paper.Shapes.{Sort, number, bytes, digits, content, string, bool, measured, IsOf, shape_at}
use Rattle.shapes.specs.declared.Sort.{Sort as Coded}
use Rattle.shapes.specs.declared.Sort.TheVariants as coded

-- a member of row r, counted from 0
abbrev pub no_member : Named Sort
no_member = [] ∶ content

abbrev pub member_at : ℕ → ℕ → Named Sort
member_at r i = get_or (shape_at r).members i no_member

-- the first member that a text lacks
pub data Looked (s : List ℕ) (ms : List (Named Sort)) : Option ℕ → Type 0 where
  lacks : {i : ℕ} {m : Named Sort} → FirstLacking s ms i m → Looked s ms (Some i)
  all : HasAll s ms → Looked s ms None

-- the text v spells a field of the sort
pub record Spelt (v : List ℕ) (sort : Sort) : Type 0 where
  pub field : Field
  pub of : IsOf sort field
  pub spelt : Spells v field

abbrev pub SpeltAs : List ℕ → Coded → Type 0
SpeltAs v coded.Nothing = ⊥
SpeltAs v coded.Number = Spelt v number
SpeltAs v (coded.Bytes n) = Spelt v (bytes n)
SpeltAs v (coded.Digits n) = Spelt v (digits n)
SpeltAs v coded.Content = Spelt v content
SpeltAs v coded.Text = Spelt v string
SpeltAs v coded.Truth = Spelt v bool
SpeltAs v (coded.Reading d) = Spelt v (measured d)

abbrev pub decimals_of : Coded → ℕ
decimals_of coded.Nothing = 0
decimals_of coded.Number = 0
decimals_of (coded.Bytes n) = 0
decimals_of (coded.Digits n) = 0
decimals_of coded.Content = 0
decimals_of coded.Text = 0
decimals_of coded.Truth = 0
decimals_of (coded.Reading d) = d
