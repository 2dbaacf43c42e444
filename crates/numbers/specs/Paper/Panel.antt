-- 01, Numbers: "For the wall panel a value is a single float where it fits and a double otherwise, raw and not
-- divided. A climate message goes to the panel as a pair of singles, raw."
-- Assumes nothing.
use Rattle.std.specs.Prelude.{◌≡◌, cond, ℤ, Float}
use Rattle.std.specs.Float.{binary32, binary64}
use Rattle.std.specs.Float.Ieee.{of_int}
use Rattle.numbers.specs.Paper.Single.{fits_single, Exactly}
use Rattle.numbers.specs.declared.panel.Value.{Value}
use Rattle.numbers.specs.declared.panel.Value.TheVariants.{Single, Double}

-- the raw number, cast to a single float if it fits, and to a double otherwise
abbrev pub panel_of : ℤ → Value
panel_of z = cond (fits_single z) (Single (of_int binary32 z)) (Double (of_int binary64 z))

abbrev pub float_in : Value → Float
float_in (Single x) = x
float_in (Double x) = x

-- v is the value for the panel: that cast, and exact
pub record Panel (z : ℤ) (v : Value) : Type 0 where
  pub cast : v ≡ panel_of z
  pub exact : Exactly (float_in v) z

-- x is the number z as a single, exactly
pub record SingleOf (z : ℤ) (x : Float) : Type 0 where
  pub cast : x ≡ of_int binary32 z
  pub exact : Exactly x z

pub record ClimatePair (temperature humidity : ℤ) (t h : Float) : Type 0 where
  pub first : SingleOf temperature t
  pub second : SingleOf humidity h
