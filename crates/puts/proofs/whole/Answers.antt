-- `puts::whole` meets its contract: by how many digits there are.
-- Assumes nothing.
use native.Mathlib.Omega.{arith}
use Rattle.puts.proofs.Laws.Figures.{one, two, three, four, five}
use Rattle.puts.proofs.Laws.Puts.{puts-as}
use Rattle.puts.proofs.whole.Goals as goal

pub returns-then-n-lt10 : goal.returns-then-n-lt10
returns-then-n-lt10 c =
    puts-as (one c.args.n (omega (arith, c.if-n-lt10.true)) c.figure.ensures) c.byte.ensures

pub returns-then-n-lt100 : goal.returns-then-n-lt100
returns-then-n-lt100 c =
    puts-as (two c.args.n (omega (arith, c.if-n-lt10.false)) (omega (arith, c.if-n-lt100.true)) c.figure-then-n-lt100.ensures c.figure-then-n-lt100-2.ensures) c.bytes.ensures

pub returns-then-n-lt1000 : goal.returns-then-n-lt1000
returns-then-n-lt1000 c =
    puts-as (three c.args.n (omega (arith, c.if-n-lt100.false)) (omega (arith, c.if-n-lt1000.true)) c.figure-then-n-lt1000.ensures c.figure-then-n-lt1000-2.ensures c.figure-then-n-lt1000-3.ensures) c.bytes-then-n-lt1000.ensures

pub returns-then-n-lt10000 : goal.returns-then-n-lt10000
returns-then-n-lt10000 c =
    puts-as (four c.args.n (omega (arith, c.if-n-lt1000.false)) (omega (arith, c.if-n-lt10000.true)) c.figure-then-n-lt10000.ensures c.figure-then-n-lt10000-2.ensures c.figure-then-n-lt10000-3.ensures c.figure-then-n-lt10000-4.ensures) c.bytes-then-n-lt10000.ensures

pub returns-then-n-lt100000 : goal.returns-then-n-lt100000
returns-then-n-lt100000 c =
    puts-as (five c.args.n (omega (arith, c.if-n-lt10000.false)) (omega (arith, c.if-n-lt100000.true)) c.figure-then-n-lt100000.ensures c.figure-then-n-lt100000-2.ensures c.figure-then-n-lt100000-3.ensures c.figure-then-n-lt100000-4.ensures c.figure-then-n-lt100000-5.ensures) c.bytes-then-n-lt100000.ensures
