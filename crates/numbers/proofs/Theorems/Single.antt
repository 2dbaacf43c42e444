-- What the definitions of a single and of the panel's values come to, for a reader.
-- Assumes nothing.
use mathlib.Core.Path.{◌≡◌}
use mathlib.Core.Bool.{true}
use Prim.Native.Nat.{◌^◌}
use lib.Dec.{T, lit≤}
use lib.IntN.{ℤ, pos, neg_ℤ}
use lib.Ieee.{Float, Format, binary32, binary64, of_int, fits}
use lib.Ieee.Fits.{of_int-fits}
use Rattle.numbers.specs.Paper.Raw.{Between, Raw}
use Rattle.numbers.specs.Paper.Single.{fits_single, Exactly}
use Rattle.numbers.specs.Paper.Panel.{panel_of, float_in, ClimatePair}
use Rattle.numbers.specs.declared.panel.Value.{Value}
use Rattle.numbers.specs.declared.panel.Value.TheVariants.{Single, Double}
use Rattle.numbers.proofs.Laws.Range.{near-zero}
use Rattle.numbers.proofs.Laws.Exact as exact
use Rattle.numbers.proofs.Laws.Held as held

-- a value of binary32 that is exactly the number z
pub record SingleFor (z : ℤ) : Type 0 where
  pub float : Float
  pub held : T (fits binary32 float)
  pub exact : Exactly float z

-- A SINGLE IS EXACTLY THE NUMBER IF AND ONLY IF THE NUMBER FITS: the paper's rule on bits is what IEEE 754's format holds
pub single-holds : (z : ℤ) → Raw z → (fits_single z ≡ true → SingleFor z) × (SingleFor z → fits_single z ≡ true)
single-holds z r = (
  λ e. record { float = of_int binary32 z; held = of_int-fits binary32 z; exact = exact.single-exact z r e },
  λ x. held.held_fits z x.float r x.held x.exact,
)

abbrev pub format_of : Value → Format
format_of (Single x) = binary32
format_of (Double x) = binary64

-- THE PANEL'S FLOAT IS EXACTLY THE RAW NUMBER, and a value of its format
pub panel-exact : (z : ℤ) → Raw z → Exactly (float_in (panel_of z)) z × T (fits (format_of (panel_of z)) (float_in (panel_of z)))
panel-exact z r =
    exact.either-shown z (λ (v : Value). Exactly (float_in v) z × T (fits (format_of v) (float_in v)))
    (λ e. (exact.single-exact z r e, of_int-fits binary32 z))
    (λ e. (exact.double-exact z r, of_int-fits binary64 z))

-- EVERY COUNT OF A CLIMATE MESSAGE IS EXACTLY ITS SINGLE: of 16 bits, the temperature signed and the humidity not
pub climate-exact : (temperature humidity : ℤ) → Between (neg_ℤ (pos 32768)) (pos 32767) temperature → Between (pos 0) (pos 65535) humidity
    → ClimatePair temperature humidity (of_int binary32 temperature) (of_int binary32 humidity)
climate-exact t h a b =
    record {
      first = exact.single_of t (near-zero (2 ^ 24) (neg_ℤ (pos 32768)) (pos 32767) t a (lit≤ tt) (lit≤ tt));
      second = exact.single_of h (near-zero (2 ^ 24) (pos 0) (pos 65535) h b (lit≤ tt) (lit≤ tt));
    }

-- NO OTHER FLOAT WOULD DO: two floats that a format holds and that are exactly the same number are the same
pub one_float : (f : Format) (x y : Float) (z : ℤ) → T (fits f x) → T (fits f y) → Exactly x z → Exactly y z → x ≡ y
one_float = exact.one_float
