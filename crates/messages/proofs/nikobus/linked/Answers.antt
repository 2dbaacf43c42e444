-- `messages::nikobus::linked` meets its contract: in each branch the payload has the length and the bytes that were tested.
-- Assumes nothing.
use native.Mathlib.Omega.{arith}
use Rattle.messages.proofs.Laws.Links.{some-digits, either-of, neither-of, said_read, said-no-read, said-answer, said-set, said-no-end, said-no-set, said-other}
use Rattle.messages.proofs.nikobus.linked.Goals as goal

pub byte_at-code-requires : goal.byte_at-code-requires
byte_at-code-requires c = some-digits c.requires

pub returns-in-3 : goal.returns-in-3
returns-in-3 c = said_read c.requires c.in-3.is c.byte_at-code.ensures (either-of c.if-code-eq23.either) c.group_of.ensures c.word_at.ensures

pub returns-in-9 : goal.returns-in-9
returns-in-9 c = said-answer c.requires c.six_at.result c.in-9.is c.word_at-in-9.ensures c.byte_at.ensures c.six_at.ensures

pub returns-in-10 : goal.returns-in-10
returns-in-10 c =
    said-set c.requires c.six_at-in-10.result c.in-10.is c.byte_at-code.ensures (either-of c.if-code-eq22.either)
    c.byte_at-then-code-eq22.ensures c.if-byte_at-eq255.true c.group_of-in-10.ensures c.word_at-in-10.ensures c.six_at-in-10.ensures

pub returns-in_default : goal.returns-in_default
returns-in_default c = said-no-read c.requires c.in-3.is c.byte_at-code.ensures (neither-of c.if-code-eq23.false)

pub returns-in_default-2 : goal.returns-in_default-2
returns-in_default-2 c = said-no-end c.requires c.in-10.is c.byte_at-then-code-eq22.ensures c.if-byte_at-eq255.false

pub returns-in_default-3 : goal.returns-in_default-3
returns-in_default-3 c = said-no-set c.requires c.in-10.is c.byte_at-code.ensures (neither-of c.if-code-eq22.false)

pub returns-in_default-4 : goal.returns-in_default-4
returns-in_default-4 c = said-other c.requires (λ e. omega (arith, e)) (λ e. omega (arith, e)) (λ e. omega (arith, e))
