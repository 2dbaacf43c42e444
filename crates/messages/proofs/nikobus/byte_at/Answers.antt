-- `messages::nikobus::byte_at` meets its contract: two characters are read as the byte whose digits they are.
-- Assumes nothing.
use Rattle.messages.proofs.Laws.Links.{byte-read}
use Rattle.messages.proofs.nikobus.byte_at.Goals as goal

pub returns : goal.returns
returns c = rw c.unwrap_or.ensures (byte-read c.args.digits.now c.args.i c.byte_of.result c.requires c.byte_of.ensures)
