-- `builds::nibe::put_frame` meets its contract: the three parts are put one behind the other, and the XOR is taken in two pieces.
-- Assumes nothing.
use Rattle.puts.proofs.Laws.Puts.{◌then◌, puts-as}
use Rattle.builds.proofs.Laws.Bytes.{nibe-whole}
use Rattle.builds.proofs.nibe.put_frame.Goals as goal

pub returns : goal.returns
returns c = puts-as (nibe-whole c.args.command c.args.content.now _ _ _ c.new.ensures c.byte.ensures c.bytes-xor.ensures c.requires (record { each = λ i. (c.type_inv.content i).fits }))
    ((c.bytes-at.ensures then c.bytes-at-2.ensures) then c.byte-2.ensures)
