-- `sheet::reader::type_number` meets its contract: name by name.
-- Assumes nothing.
use Rattle.digits.proofs.Laws.Tests.{told, untold}
use Rattle.sheet.proofs.Laws.Lines.{is-u8, is-s8, is-u16, is-s16, is-u32, is-s32, is_none}
use Rattle.sheet.proofs.reader.type_number.Goals as goal

pub returns-then-same : goal.returns-then-same
returns-then-same c = is-u8 (told c.same.ensures c.if-same.true)

pub returns-then-same-2 : goal.returns-then-same-2
returns-then-same-2 c = is-s8 (told c.same-2.ensures c.if-same-2.true)

pub returns-then-same-3 : goal.returns-then-same-3
returns-then-same-3 c = is-u16 (told c.same-3.ensures c.if-same-3.true)

pub returns-then-same-4 : goal.returns-then-same-4
returns-then-same-4 c = is-s16 (told c.same-4.ensures c.if-same-4.true)

pub returns-then-same-5 : goal.returns-then-same-5
returns-then-same-5 c = is-u32 (told c.same-5.ensures c.if-same-5.true)

pub returns-then-same-6 : goal.returns-then-same-6
returns-then-same-6 c = is-s32 (told c.same-6.ensures c.if-same-6.true)

pub returns : goal.returns
returns c = is_none (untold c.same.ensures c.if-same.false) (untold c.same-2.ensures c.if-same-2.false) (untold c.same-3.ensures c.if-same-3.false) (untold c.same-4.ensures c.if-same-4.false) (untold c.same-5.ensures c.if-same-5.false) (untold c.same-6.ensures c.if-same-6.false)
