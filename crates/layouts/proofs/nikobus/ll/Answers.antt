-- `layouts::nikobus::ll` meets its contract: each test that fails rules LL out, and where all hold it is the byte of the two digits.
-- Assumes nothing.
use native.Mathlib.Omega.{arith}
use Rattle.layouts.proofs.Laws.HexDigits.{pair_is, pair-hex, pair_read}
use Rattle.layouts.proofs.Laws.Nikobus.{no-ll, ll-whole}
use Rattle.layouts.proofs.nikobus.ll.Goals as goal

pub returns-then-s-lt3 : goal.returns-then-s-lt3
returns-then-s-lt3 c = no-ll _ (λ r. omega (arith, r.size))

pub returns-then-s-ne36 : goal.returns-then-s-ne36
returns-then-s-ne36 c = no-ll _ (λ r. c.if-s-ne36.true r.mark)

pub returns-in_err-n : goal.returns-in_err-n
returns-in_err-n c = rw c.from_residual.ensures (no-ll _ (λ r. pair_read r.high r.low c.in_err-n.ensures))

pub returns-then-n-lt12 : goal.returns-then-n-lt12
returns-then-n-lt12 c = no-ll _ (λ r. omega (arith, r.least, c.if-n-lt12.true, pair_is c.in_ok-n.ensures))

pub returns-then-n-ne0 : goal.returns-then-n-ne0
returns-then-n-ne0 c = no-ll _ (λ r. c.if-n-ne0.true (rw (pair_is c.in_ok-n.ensures) r.even))

pub returns : goal.returns
returns c =
    let digits = pair-hex c.in_ok-n.ensures in (
      ll-whole _ _ c.if-s-lt3.false c.if-s-ne36.false digits.0 digits.1 (pair_is c.in_ok-n.ensures) c.if-n-lt12.false c.if-n-ne0.false,
      omega (arith, c.if-n-lt12.false),
    )
