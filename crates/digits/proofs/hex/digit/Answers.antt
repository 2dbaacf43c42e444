-- `digits::hex::digit` meets its contract: the formula gives the digit of each value below 10, and of each from there to 15.
-- Assumes nothing.
use mathlib.Core.Path.{◌≡◌, ◌∙◌}
use Prim.Native.Nat.{◌+◌, ◌-◌, ◌%◌}
use native.Mathlib.Omega.{arith}
use Rattle.digits.proofs.Laws.Hex.{digit-figure, digit-letter}
use Rattle.digits.proofs.hex.digit.Goals as goal

pub returns-then-n-lt10 : goal.returns-then-n-lt10
returns-then-n-lt10 c = let h = c.if-n-lt10.true in digit-figure (c.args.v % 16) (omega arith)

pub returns : goal.returns
returns c =
    let h = c.if-n-lt10.false in
    let n = c.args.v % 16 in
    let e : 65 + (n - 10) ≡ 55 + n = omega arith in
    e ∙ digit-letter n (omega arith) (omega arith)
