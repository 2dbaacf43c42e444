-- `layouts::nibe::claimed` meets its contract: it is the length that stands there, if as many bytes do.
-- Assumes nothing.
use mathlib.Core.Path.{sym}
use native.Mathlib.Omega.{arith}
use Rattle.layouts.proofs.Laws.Nibe.{claim-short, claim-there}
use Rattle.layouts.proofs.nibe.claimed.Goals as goal

pub returns-then-s-lt4 : goal.returns-then-s-lt4
returns-then-s-lt4 c = sym (claim-short _ (omega (arith, c.if-s-lt4.true)))

pub overflow_cast-n : goal.overflow_cast-n
overflow_cast-n c = omega (arith, c.type_inv.s 2)

pub overflow_add-n : goal.overflow_add-n
overflow_add-n c = omega (arith, c.type_inv.s 2)

pub returns-then-s-n : goal.returns-then-s-n
returns-then-s-n c = sym (claim-short _ c.if-s-n.true)

pub returns : goal.returns
returns c = (claim-there _ c.if-s-n.false, omega arith)
