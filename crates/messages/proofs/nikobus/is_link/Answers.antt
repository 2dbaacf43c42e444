-- `messages::nikobus::is_link` meets its contract: by the length, and then digit by digit.
-- Assumes nothing.
use native.Mathlib.Omega.{arith}
use Rattle.digits.specs.Paper.Read.{fails}
use Rattle.messages.proofs.Laws.Given.{link-size, tells-link}
use Rattle.messages.proofs.nikobus.is_link.Goals.{then-n-lt2-via-then-n-lt2, then-n-lt2-via-else-n-lt2+then-n-gt244, then-n-lt2-via-else-n-lt2+else-n-gt244+then-n-ne0}
use Rattle.messages.proofs.nikobus.is_link.Goals as goal

pub returns-then-n-lt2 : goal.returns-then-n-lt2
returns-then-n-lt2 c =
    elim c.then-n-lt2.branch [
      | then-n-lt2-via-then-n-lt2 w ↦ fails (λ x. let n = link-size x in omega (arith, n, w.if-n-lt2.true))
      | then-n-lt2-via-else-n-lt2+then-n-gt244 w ↦ fails (λ x. let n = link-size x in omega (arith, n, w.if-n-gt244.true))
      | then-n-lt2-via-else-n-lt2+else-n-gt244+then-n-ne0 w ↦ fails (λ x. let n = link-size x in omega (arith, n, w.if-n-ne0.true))
    ]

pub returns : goal.returns
returns c = tells-link c.if-n-lt2.false c.if-n-gt244.false c.if-n-ne0.false c.all_digits.ensures
