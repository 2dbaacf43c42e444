-- `layouts::homiq::is_payload` meets its contract: where one of the tests fails there is no payload, and the last one tells.
-- Assumes nothing.
use native.Mathlib.Omega.{arith}
use Rattle.layouts.proofs.Laws.HomiqPayload.{without-fields, longer, by-type}
use Rattle.layouts.proofs.homiq.is_payload.Goals as goal

pub returns-in_default : goal.returns-in_default
returns-in_default c = without-fields _ c.in_default.ensures

pub returns-then-p-last : goal.returns-then-p-last
returns-then-p-last c = longer _ _ c.in-Some.ensures.0 (λ e. omega (arith, c.if-p-last.true))

pub returns : goal.returns
returns c = by-type _ _ c.in-Some.ensures.0 c.in-Some.ensures.1 c.if-p-last.false _ c.is_type.ensures
