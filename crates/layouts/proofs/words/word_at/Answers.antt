-- `layouts::words::word_at` meets its contract: the word at the head of what is left ends so far behind the place.
-- Assumes nothing.
use mathlib.Core.Path.{sym, ◌∙◌}
use native.Mathlib.Omega.{arith}
use Rattle.layouts.specs.Work.Heads.{word_len}
use Rattle.layouts.proofs.Laws.Heads.{onward-none, onward-some, word-there, word-missing}
use Rattle.layouts.proofs.words.word_at.Goals as goal

pub returns-then-starts_with : goal.returns-then-starts_with
returns-then-starts_with c = (onward-some (word_len c.args.p.now) c.args.s.now c.args.at c.requires.at_some (sym (word-there _ _ (sym c.starts_with.ensures ∙ c.if-starts_with.true))) c.requires.some, omega (arith, c.requires.some))

pub returns : goal.returns
returns c = onward-none (word_len c.args.p.now) c.args.s.now c.args.at (word-missing _ _ (sym c.starts_with.ensures ∙ c.if-starts_with.false))
