-- `commands::nikobus::write` meets its contract: case by case.
-- Assumes nothing.
use mathlib.Core.Path.{refl}
use Rattle.messages.specs.Paper.Content as content
use Rattle.messages.specs.Paper.Message.{press, tail}
use Rattle.messages.specs.Paper.Table.{content_of}
use Rattle.messages.specs.declared.nikobus.Nikobus.TheVariants.{Press, Tail}
use Rattle.commands.proofs.Laws.NikobusWrites.{fixed-said}
use Rattle.commands.proofs.Laws.Written.{built}
use Rattle.commands.proofs.nikobus.write.Goals as goal

pub returns-in-Press : goal.returns-in-Press
unfolding content_of
returns-in-Press c = fixed-said (Press _) c.press.result c.in-Press.is refl (built (press _) (content.press _) c.press.result refl c.press.ensures)

pub returns-in-Tail : goal.returns-in-Tail
unfolding content_of
returns-in-Tail c = fixed-said Tail c.tail.result c.in-Tail.is refl (built tail content.tail c.tail.result refl c.tail.ensures)
