-- `digits::hex::word_of` meets its contract: two bytes that are read make the number, and where one is none there is no number.
-- Assumes nothing.
use mathlib.Core.Path.{sym, subst}
use borrow.Author.Rules.{rules}
use Rattle.digits.specs.Paper.Answers.{ReadsWord}
use Rattle.digits.proofs.Laws.HexReads.{no_front, no-back, both_bytes}
use Rattle.digits.proofs.hex.word_of.Goals as goal

pub returns-in_err-high : goal.returns-in_err-high
returns-in_err-high c =
    subst (ReadsWord _) (sym c.from_residual.ensures) (no_front _ (search rules) c.byte_of.ensures c.in_err-high.was)

pub returns-in_err-low : goal.returns-in_err-low
returns-in_err-low c =
    subst (ReadsWord _) (sym c.from_residual-in_err-low.ensures) (no-back _ (search rules) c.byte_of-2.ensures c.in_err-low.was)

pub returns : goal.returns
returns c =
    both_bytes _ (search rules) c.byte_of.ensures c.in_ok-high.was
    c.byte_of-2.ensures c.in_ok-low.was
