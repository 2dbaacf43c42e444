-- `json_values::fits` meets its contract: a raw number is never refused.
-- Assumes nothing.
use mathlib.Core.Path.{◌∙◌}
use Rattle.json_values.proofs.Laws.Raws.{fit}
use Rattle.json_values.proofs.fits.Goals as goal

pub returns : goal.returns
returns c = c.unwrap_or.ensures ∙ fit c.args.raw c.fits.result c.ranges.raw c.requires c.fits.ensures
