-- `messages::nikobus::six_at` meets its contract: the six bytes, one by one.
-- Assumes nothing.
use Rattle.messages.proofs.Laws.Links.{six-there}
use Rattle.messages.proofs.nikobus.six_at.Goals as goal

pub returns : goal.returns
returns c =
    six-there c.args.digits.now _ c.requires c.byte_at.ensures c.byte_at-2.ensures c.byte_at-3.ensures c.byte_at-4.ensures c.byte_at-5.ensures c.byte_at-6.ensures
