-- `lines::put_content` meets its contract: the content has a message, whose line is put, or it is refused.
-- Assumes nothing.
use Rattle.lines.proofs.Laws.Of.{meant-put, meant-outside}
use Rattle.lines.proofs.put_content.Goals as goal

pub returns : goal.returns
returns c = meant-put c.args.tag c.args.payload.now c.in-Ok.ensures c.line.ensures

pub returns-in_default : goal.returns-in_default
returns-in_default c = meant-outside c.args.tag c.args.payload.now _ c.in_default.ensures
