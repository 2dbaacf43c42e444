-- What the functions on maps say of their parts.
-- Assumes nothing.
use Rattle.std.specs.Prelude.{◌≡◌, Bool, false, List, [], ◌∷◌, ℕ, ◌≤◌, length, set, replicate}
use Rattle.std.specs.Prelude.{Option as Answer, Some, None}
use Rattle.std.proofs.Math.Option.{Option, none, some}
use Rattle.sheet.specs.Paper.Sheet.{RegisterType, Row}
use Rattle.sheet.specs.Paper.Map.{most_byte, type_byte}
use Rattle.sheet.specs.Work.Lines.{RowsFrom}

-- the width and the sign of a type, if there is one
abbrev pub width_in : Option RegisterType → ℕ
width_in none = 0
width_in (some t) = t.width

abbrev pub width_said : Option RegisterType → Answer ℕ
width_said none = None
width_said (some t) = Some t.width

abbrev pub signed_in : Option RegisterType → Bool
signed_in none = false
signed_in (some t) = t.signed

abbrev pub decimals_in : Option RegisterType → ℕ
decimals_in none = 0
decimals_in (some t) = t.decimals

-- a byte that says a type
pub record Known (b : ℕ) : Type 0 where
  pub some-type : 1 ≤ b
  pub most : b ≤ most_byte

-- n zeros
unfoldable pub zeros : ℕ → List ℕ
zeros n = replicate n 0

-- a byte stored for each row
unfoldable pub stores : List ℕ → List Row → List ℕ
stores map [] = map
stores map (r ∷ rows) = stores (set map r.register (type_byte r.is)) rows

pub record Filled (text map later : List ℕ) : Type 0 where
  pub rows : List Row
  pub are : RowsFrom 0 1 text rows
  pub stored : later ≡ stores map rows

-- the rows before those left are stored
pub record Filling (text left map₀ map : List ℕ) (least number : ℕ) : Type 0 where
  pub whole : List Row
  pub rest : List Row
  pub are : RowsFrom 0 1 text whole
  pub left_are : RowsFrom least number left rest
  pub same : length map ≡ length map₀
  pub stored : stores map rest ≡ stores map₀ whole
