-- `numbers::panel::in_range_of` meets its contract: the cast to a double is exact, and where the number fits a single, the double is one.
-- Assumes nothing.
use mathlib.Core.Path.{◌≡◌, sym, ap, ◌∙◌, subst}
use mathlib.Core.Bool.{Bool, not, ◌&&◌}
use lib.Dec.{T}
use lib.IntN.{ℤ}
use lib.Ieee.{binary32, binary64, of_int, fits, is_nan}
use mir.Syntax.{w64}
use mir.Val.{SFits}
use Rattle.numbers.specs.Paper.Single.{fits_single}
use Rattle.numbers.specs.Paper.Panel.{Panel}
use Rattle.numbers.specs.declared.panel.Value.TheVariants.{Single, Double}
use Rattle.numbers.proofs.Laws.Signs.{back, read_back}
use Rattle.numbers.proofs.Laws.Exact.{single-cast, shown-single, shown-double}
use Rattle.numbers.proofs.panel.in_range_of.Goals as goal

-- what is shown of the number is shown of what the machine reads back
as_read : (P : ℤ → Type 0) (z : ℤ) → SFits w64 z → P z → P (back z)
as_read P z f p = subst P (sym (read_back z f)) p

-- and what `in_range_fits` says of that, it says of the number
fit : (z : ℤ) → SFits w64 z → {r b : Bool} → r ≡ fits_single (back z) → r ≡ b → fits_single z ≡ b
fit z f h e = ap fits_single (sym (read_back z f)) ∙ sym h ∙ e

pub float_to_float-result : goal.float_to_float-result
float_to_float-result c =
    as_read (λ (y : ℤ). T (fits binary32 (of_int binary64 y) && not (is_nan (of_int binary64 y)))) c.args.raw c.ranges.raw
    (single-cast c.args.raw c.requires (fit c.args.raw c.ranges.raw c.in_range_fits.ensures c.if-in_range_fits.true))

pub returns-then-in_range_fits : goal.returns-then-in_range_fits
returns-then-in_range_fits c =
    as_read (λ (y : ℤ). Panel c.args.raw (Single (of_int binary64 y))) c.args.raw c.ranges.raw
    (shown-single c.args.raw c.requires (fit c.args.raw c.ranges.raw c.in_range_fits.ensures c.if-in_range_fits.true))

pub returns : goal.returns
returns c =
    as_read (λ (y : ℤ). Panel c.args.raw (Double (of_int binary64 y))) c.args.raw c.ranges.raw
    (shown-double c.args.raw c.requires (fit c.args.raw c.ranges.raw c.in_range_fits.ensures c.if-in_range_fits.false))
