-- `book::adding::write` meets its contract: the frame, the place, the room, and then the new book.
-- Assumes nothing.
use native.Mathlib.Omega.{arith}
use Rattle.std.proofs.lemmas.Result.{err_from_is_err_and}
use Rattle.digits.proofs.Laws.Tests.{told, untold}
use Rattle.book.specs.Paper.Book.{Entry}
use Rattle.book.proofs.Laws.Added.{whole-frame, refused-frame, refused-place, refused-room, all-added}
use Rattle.book.proofs.Laws.Entries.{counts-trailed}
use Rattle.book.proofs.adding.write.Goals as goal

pub has_place-requires : goal.has_place-requires
has_place-requires c = (counts-trailed c.requires).small

pub returns-then-not-has_place : goal.returns-then-not-has_place
returns-then-not-has_place c =
    let entry : Entry = record { kind = c.args.kind; frame = c.args.frame.now } in
    refused-place c.requires entry (whole-frame c.in_ok-one_frame.ensures) (untold c.has_place.ensures c.if-not-has_place.true)

pub overflow_add-book : goal.overflow_add-book
overflow_add-book c = let p = told c.has_place.ensures c.if-not-has_place.false in omega (arith, p.small)

pub returns-then-room-book : goal.returns-then-room-book
returns-then-room-book c =
    let entry : Entry = record { kind = c.args.kind; frame = c.args.frame.now } in
    refused-room c.requires entry (whole-frame c.in_ok-one_frame.ensures) (told c.has_place.ensures c.if-not-has_place.false) c.if-room-book.true

pub put-requires : goal.put-requires
put-requires c =
    record { counts = c.requires; has_place = told c.has_place.ensures c.if-not-has_place.false }

pub returns : goal.returns
returns c =
    let entry : Entry = record { kind = c.args.kind; frame = c.args.frame.now } in
    all-added c.requires entry (whole-frame c.in_ok-one_frame.ensures) (told c.has_place.ensures c.if-not-has_place.false) c.if-room-book.false c.put.ensures

pub returns-in_err-one_frame : goal.returns-in_err-one_frame
returns-in_err-one_frame c =
    let entry : Entry = record { kind = c.args.kind; frame = c.args.frame.now } in
    let p = err_from_is_err_and c.from_residual.result c.from_residual.ensures.1 in
    rw (p.1, p.2) (refused-frame c.requires entry _ c.in_err-one_frame.ensures)
