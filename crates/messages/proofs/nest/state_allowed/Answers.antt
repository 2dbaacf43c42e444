-- `messages::nest::state_allowed` meets its contract: by the payload's length.
-- Assumes nothing.
use native.Mathlib.Omega.{arith}
use Rattle.digits.proofs.Laws.Tests.{told, untold}
use Rattle.messages.specs.Paper.Message.{state}
use Rattle.messages.proofs.Laws.Allowed.{only-outside, only-good}
use Rattle.messages.specs.Paper.Table.{BytesBetween}
use Rattle.messages.proofs.Laws.NestRows.{state-found}
use Rattle.messages.proofs.nest.state_allowed.Goals as goal

pub returns-then-payload-lt16 : goal.returns-then-payload-lt16
returns-then-payload-lt16 c = only-outside (state c.args.payload.now) (λ l. let e = l.enough in omega (arith, c.if-payload-lt16.true))

pub returns-then-not-is_short : goal.returns-then-not-is_short
returns-then-not-is_short c = only-outside (state c.args.payload.now) (λ l. untold c.is_short.ensures c.if-not-is_short.true l.short)

pub returns : goal.returns
returns c = let l : BytesBetween 16 1024 c.args.payload.now = record { enough = omega (arith, c.if-payload-lt16.false); short = told c.is_short.ensures c.if-not-is_short.false; bytes = (record { each = λ i. (c.type_inv.payload i).fits }) } in only-good (state c.args.payload.now) l (state-found c.args.payload.now l)
