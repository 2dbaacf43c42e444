-- `list::begins` meets its contract: each test by itself.
-- Assumes nothing.
use mathlib.Core.Path.{sym, ◌∙◌}
use Rattle.list.proofs.Laws.Inputs.{too_few, no_digit, not_known, then-line-feed}
use Rattle.list.proofs.begins.Goals as goal

pub returns-then-input-lt2 : goal.returns-then-input-lt2
returns-then-input-lt2 c = too_few c.args.input.now c.if-input-lt2.true

pub returns-then-input-lt48 : goal.returns-then-input-lt48
returns-then-input-lt48 c = no_digit c.args.input.now c.if-input-lt48.true

pub returns-then-known : goal.returns-then-known
returns-then-known c =
    then-line-feed c.args.input.now c.if-input-lt2.false c.if-input-lt48.false (sym c.known.ensures ∙ c.if-known.true)

pub returns-else-known : goal.returns-else-known
returns-else-known c = not_known c.args.input.now _ c.known.ensures c.if-known.false
