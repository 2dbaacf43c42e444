-- `digits::hex::value` meets its contract: a character in one of the two ranges is the digit of its value, and any other is none.
-- Assumes nothing.
use native.Mathlib.Omega.{arith}
use Rattle.digits.proofs.Laws.Hex.{figure-read, letter-read, unread}
use Rattle.digits.proofs.hex.value.Goals as goal

pub returns-then-c-gt70 : goal.returns-then-c-gt70
returns-then-c-gt70 c = unread _ (λ h k. omega arith) (λ h k. omega arith)

pub returns-then-c-ge65 : goal.returns-then-c-ge65
returns-then-c-ge65 c = letter-read _ (omega arith) (omega arith)

pub returns-then-c-gt57 : goal.returns-then-c-gt57
returns-then-c-gt57 c = unread _ (λ h k. omega arith) (λ h k. omega arith)

pub returns-then-c-ge48 : goal.returns-then-c-ge48
returns-then-c-ge48 c = figure-read _ (omega arith) (omega arith)

pub returns : goal.returns
returns c = unread _ (λ h k. omega arith) (λ h k. omega arith)
