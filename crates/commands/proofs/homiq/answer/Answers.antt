-- `commands::homiq::answer` meets its contract: what is exchanged is the payload of the acknowledgement, whose frame is built.
-- Assumes nothing.
use mathlib.Core.Path.{refl}
use Rattle.commands.proofs.Laws.Acknowledged.{reply-inside, reply-bytes, of-type-a, of-type-s, framed}
use Rattle.commands.proofs.homiq.answer.Goals as goal

pub returns-then-payload-eq97 : goal.returns-then-payload-eq97
returns-then-payload-eq97 c = λ w x. of-type-a x (framed x) c.if-payload-eq97.true

pub slice_bounds-frame-end : goal.slice_bounds-frame-end
slice_bounds-frame-end c = reply-inside c.requires c.exchange.ensures refl

pub returns : goal.returns
returns c = λ w x. of-type-s x (framed x) c.if-payload-eq97.false c.frame.result (reply-bytes c.requires c.exchange.ensures refl) c.frame.ensures
