-- `list::write_refused` meets its contract: the first two bytes, then the length, then the sheet.
-- Assumes nothing.
use native.Mathlib.Omega.{arith}
use Rattle.digits.proofs.Laws.Tests.{told, untold}
use Rattle.list.proofs.Laws.Written.{wrote-2, wrote-5, wrote-10, no_text}
use Rattle.list.proofs.write_refused.Goals as goal

pub returns-then-input-le65536 : goal.returns-then-input-le65536
returns-then-input-le65536 c = wrote-10 c.front.result (told c.begins.ensures c.if-begins.true) (omega (arith, c.if-input-le65536.true)) (no_text c.requires.each) c.front.ensures

pub returns-then-begins : goal.returns-then-begins
returns-then-begins c = wrote-5 c.front-then-begins.result (told c.begins.ensures c.if-begins.true) (omega (arith, c.if-input-le65536.false)) c.front-then-begins.ensures

pub returns : goal.returns
returns c = wrote-2 c.front-2.result (untold c.begins.ensures c.if-begins.false) c.front-2.ensures
