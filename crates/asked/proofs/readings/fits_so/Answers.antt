-- `readings::fits_so` meets its contract.
-- Assumes nothing.
use mathlib.Core.Bool.{Bool, true, false, beq, true≢false, false≢true}
use mathlib.Core.Path.{◌≡◌, sym, ◌∙◌}
use Rattle.digits.specs.Paper.Read.{Decides, holds, fails}
use Rattle.json_values.proofs.Laws.Raws.{fit}
use Rattle.asked.proofs.readings.fits_so.Goals as goal

-- a truth tested against what is told
same_truth : (b is : Bool) {f : Bool} → b ≡ f → Decides (is ≡ f) (beq b is)
same_truth true true e = holds e
same_truth true false e = fails (λ d. true≢false (e ∙ sym d))
same_truth false true e = fails (λ d. false≢true (e ∙ sym d))
same_truth false false e = holds e

pub returns : goal.returns
returns c =
    same_truth c.unwrap_or.result c.args.is (c.unwrap_or.ensures ∙ fit c.args.raw c.fits.result c.ranges.raw c.requires c.fits.ensures)
