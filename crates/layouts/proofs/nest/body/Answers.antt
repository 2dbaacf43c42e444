-- `layouts::nest::body` meets its contract: the tests are the definition's, in its order; what is read are bytes.
-- Assumes nothing.
use mathlib.Core.Path.{sym}
use native.Mathlib.Omega.{arith}
use Rattle.layouts.proofs.Laws.Nest.{body-long, body-short, body-there}
use Rattle.layouts.proofs.nest.body.Goals as goal

pub returns-then-s-lt6 : goal.returns-then-s-lt6
returns-then-s-lt6 c = sym (body-short c.args.s.now (omega (arith, c.if-s-lt6.true)))

pub overflow_cast-n : goal.overflow_cast-n
overflow_cast-n c = omega (arith, c.type_inv.s 2)

pub overflow_cast-n-2 : goal.overflow_cast-n-2
overflow_cast-n-2 c = omega (arith, c.type_inv.s 3)

pub overflow_mul-n : goal.overflow_mul-n
overflow_mul-n c = omega (arith, c.type_inv.s 3)

pub overflow_add-n : goal.overflow_add-n
overflow_add-n c = omega (arith, c.shared_slice_known-1.given 2, c.type_inv.s 3)

pub returns-then-n-gt1024 : goal.returns-then-n-gt1024
returns-then-n-gt1024 c = sym (body-long _ c.if-n-gt1024.true)

pub returns-then-s-n : goal.returns-then-s-n
returns-then-s-n c = sym (body-short _ c.if-s-n.true)

pub returns : goal.returns
returns c = (body-there _ (record { each = λ i. (c.shared_slice_known-1.given i).fits }) c.if-n-gt1024.false c.if-s-n.false, omega arith)
