-- `json_values::reading` meets its contract: the nine writers' promises, one after the other.
-- Assumes nothing.
use mathlib.Core.Path.{sym, ap, ◌∙◌, subst}
use lib.IntN.{ℤ}
use Rattle.numbers.specs.Paper.Raw.{Raw}
use Rattle.numbers.proofs.Laws.Signs.{back, read_back}
use Rattle.puts.proofs.Laws.Puts.{◌then◌, puts-as}
use Rattle.json_values.specs.Paper.Json.{truth, reading}
use Rattle.json_values.proofs.Laws.Raws.{reading-spelt}
use Rattle.json_values.proofs.reading.Goals as goal

pub fits-requires : goal.fits-requires
fits-requires c =
    subst Raw (sym (read_back c.args.raw c.ranges.raw)) c.requires.0

pub returns : goal.returns
returns c =
    puts-as (reading-spelt (back c.args.raw) c.args.decimals ∙ ap (λ (z : ℤ). reading z c.args.decimals) (read_back c.args.raw c.ranges.raw))
    (c.bytes-a.ensures
    then c.whole-b.ensures
    then c.bytes-c.ensures
    then c.whole-d.ensures
    then c.bytes-e.ensures
    then c.number-f.ensures
    then c.bytes-g.ensures
    then puts-as (ap truth c.fits.ensures) c.truth-h.ensures
    then c.byte.ensures)
