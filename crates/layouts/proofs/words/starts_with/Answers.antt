-- `layouts::words::starts_with` meets its contract: the library's test is that of the definition.
-- Assumes nothing.
use Rattle.layouts.proofs.Laws.Heads.{starts-told}
use Rattle.layouts.proofs.words.starts_with.Goals as goal

pub returns : goal.returns
returns c = starts-told c.args.p.now c.args.s.now _ c.starts_with.ensures.value
