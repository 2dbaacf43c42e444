-- `layouts::words::first` meets its contract: where there are no more, all are the first.
-- Assumes nothing.
use mathlib.Core.Path.{sym}
use lib.Seq.{take_all}
use Rattle.digits.proofs.Laws.Parts.{part-front}
use Rattle.layouts.proofs.words.first.Goals as goal

pub returns-then-k-s : goal.returns-then-k-s
returns-then-k-s c = part-front c.args.k c.args.s.now

pub returns : goal.returns
returns c = sym (take_all _ c.args.s.now c.if-k-s.false)
