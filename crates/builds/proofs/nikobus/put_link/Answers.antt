-- `builds::nikobus::put_link` meets its contract: the parts are put one behind the other, and CRC8 is taken of those before it.
-- Assumes nothing.
use mathlib.Core.Path.{ap, ◌∙◌}
use Rattle.checks.specs.Paper.Buses.{nikobus_crc16, nikobus_crc8}
use Rattle.checks.specs.Paper.Check.{check}
use Rattle.layouts.specs.Paper.Nikobus.{link_checked}
use Rattle.puts.proofs.Laws.Puts.{◌then◌, puts-as}
use Rattle.puts.specs.Paper.Put.{Put}
use Rattle.builds.proofs.Laws.Bytes.{link-checked, checked-front, link-whole}
use Rattle.builds.proofs.nikobus.put_link.Goals as goal

pub slice_bounds-of-end : goal.slice_bounds-of-end
slice_bounds-of-end c =
    let checked : Put c.args.room.now c.bytes-at-2.new.room 0 c.bytes-at-2.result (link_checked c.args.payload.now (check nikobus_crc16 c.args.payload.now)) = puts-as (link-checked c.args.payload.now _ c.two_digits-ll.ensures c.of.ensures c.four_digits-crc16.ensures)
    (((c.byte-at.ensures then c.bytes-at.ensures) then c.hex-at.ensures) then c.bytes-at-2.ensures) in
    (checked-front c.args.payload.now (check nikobus_crc16 c.args.payload.now) c.requires.1 checked).0

pub returns : goal.returns
returns c =
    let checked : Put c.args.room.now c.bytes-at-2.new.room 0 c.bytes-at-2.result (link_checked c.args.payload.now (check nikobus_crc16 c.args.payload.now)) = puts-as (link-checked c.args.payload.now _ c.two_digits-ll.ensures c.of.ensures c.four_digits-crc16.ensures)
    (((c.byte-at.ensures then c.bytes-at.ensures) then c.hex-at.ensures) then c.bytes-at-2.ensures) in
    let front = (checked-front c.args.payload.now (check nikobus_crc16 c.args.payload.now) c.requires.1 checked).1 in
    puts-as (link-whole c.args.payload.now (c.of-2.ensures ∙ ap (check nikobus_crc8) front) c.two_digits-crc8.ensures)
    ((checked then c.bytes-at-3.ensures) then c.byte.ensures)
