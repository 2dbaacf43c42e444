-- 01, Numbers: "For the wall panel a value is a single float where it fits and a double otherwise, raw and not
-- divided. A climate message goes to the panel as a pair of singles, raw." Here by the members of an answer.
-- Assumes nothing.
use Rattle.std.specs.Prelude.{true, false, ◌≡◌, ℕ, Float, ℤ, pos}
use Rattle.std.specs.Float.{fin}
use Rattle.numbers.specs.Paper.ByteValues.{HeldBy}
use Rattle.numbers.specs.Paper.Panel.{Panel, ClimatePair}
use Rattle.numbers.specs.declared.panel.Value.{Value}
use Rattle.numbers.specs.declared.panel.Value.TheVariants.{Single, Double}
use Rattle.host.specs.declared.answers.Climate.{Climate}
use Rattle.host.specs.declared.answers.PanelValue.{PanelValue}

-- 0.0
abbrev pub no_float : Float
no_float = fin false 0 (pos 0)

-- ---- a value

-- how many bytes the float has, and the float of either size
pub record Shown : Type 0 where
  pub size : ℕ
  pub single : Float
  pub wide : Float

abbrev pub zero_shown : Shown
zero_shown = record { size = 0; single = no_float; wide = no_float }

abbrev pub shown_in : PanelValue → Shown
shown_in r = record { size = r.size; single = r.single; wide = r.wide }

-- a single has 4 bytes and a double 8; the float of the other size is 0
abbrev pub shown : Value → Shown
shown (Single x) = record { size = 4; single = x; wide = no_float }
shown (Double x) = record { size = 8; single = no_float; wide = x }

-- v is what the panel is shown of z
pub record ShownOf (z : ℤ) (v : Shown) : Type 0 where
  pub value : Value
  pub right : Panel z value
  pub is : v ≡ shown value

-- ---- a climate message

-- a temperature and a humidity
pub record Pair : Type 0 where
  pub temperature : Float
  pub humidity : Float

abbrev pub zero_climate : Pair
zero_climate = record { temperature = no_float; humidity = no_float }

abbrev pub climate_in : Climate → Pair
climate_in r = record { temperature = r.temperature; humidity = r.humidity }

-- 01, Messages: "temperature s16 in hundredths, humidity u16 in tenths"; "Refusal numbers": 5 "a field .. outside its
-- limits"
pub data ClimateCause (temperature humidity : ℤ) : ℕ → Type 0 where
  not-signed : (HeldBy 2 true temperature → ⊥) → ClimateCause temperature humidity 5
  not-unsigned : (HeldBy 2 false humidity → ⊥) → ClimateCause temperature humidity 5

-- v is the pair of singles of these counts
abbrev pub ClimateOf : ℤ → ℤ → Pair → Type 0
ClimateOf temperature humidity v = ClimatePair temperature humidity v.temperature v.humidity
