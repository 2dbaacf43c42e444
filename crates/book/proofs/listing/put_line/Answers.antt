-- `book::listing::put_line` meets its contract: the frame was tested, so its line is not refused.
-- Assumes nothing.
use Rattle.messages.proofs.Laws.Decode.{inside}
use Rattle.book.proofs.Laws.Contents.{of_number, tagged-number, some_kind}
use Rattle.book.proofs.Laws.OneLine.{line-ok, line-one}
use Rattle.book.proofs.listing.put_line.Goals as goal

pub unwrap-known-requires : goal.unwrap-known-requires
unwrap-known-requires c = some_kind c.requires.frame c.of.result c.of.ensures

pub tag-tag-requires : goal.tag-tag-requires
tag-tag-requires c = of_number c.requires c.of.ensures c.unwrap-known.ensures

pub slice_bounds-put_content-end : goal.slice_bounds-put_content-end
slice_bounds-put_content-end c = (inside c.requires).1

pub unwrap-requires : goal.unwrap-requires
unwrap-requires c =
    line-ok c.requires c.tag-tag.result (tagged-number c.requires c.of.ensures c.unwrap-known.ensures c.tag-tag.ensures) c.put_content.result c.put_content.ensures

pub returns : goal.returns
returns c =
    line-one c.requires c.tag-tag.result (tagged-number c.requires c.of.ensures c.unwrap-known.ensures c.tag-tag.ensures) c.put_content.result c.unwrap.ensures c.put_content.ensures
