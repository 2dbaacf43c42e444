-- `puts::all_or_none` meets its contract, by the test.
-- Assumes nothing.
use mathlib.Core.Path.{ap, sym}
use mathlib.Core.Bool.{Bool, cond}
use borrow.Author.Tests.{le-leb, lt-leb}
use Rattle.puts.proofs.all_or_none.Goals as goal

pub returns-then-room-n : goal.returns-then-room-n
returns-then-room-n c = sym (ap (λ (t : Bool). cond t c.args.n 0) (lt-leb c.args.n c.args.room c.if-room-n.true))

pub returns : goal.returns
returns c = sym (ap (λ (t : Bool). cond t c.args.n 0) (le-leb c.args.n c.args.room c.if-room-n.false))
