-- `sheet::reader::scan` meets its contract. The loop's invariant: the lines passed are good, and what the rest is says what the text is.
-- Assumes nothing.
use mathlib.Core.Path.{sym, ◌∙◌, subst}
use mathlib.Core.List.{List}
use Prim.Native.Nat.{ℕ, ◌+◌}
use native.Mathlib.Omega.{arith}
use lib.ListN.{length-drop}
use borrow.Author.Tests.{eqb-true, eqb-false}
use Rattle.digits.proofs.Laws.Parts.{part-rest}
use Rattle.sheet.specs.Work.Lines.{Scanning}
use Rattle.sheet.proofs.Laws.Scans.{scan-start, scan-fails, scan-next, scan-end, line-inside, some-test}
use Rattle.sheet.proofs.reader.scan.Goals as goal

pub loop-left-init : goal.loop-left-init
loop-left-init c = scan-start c.args.text.now

pub returns-in-Err : goal.returns-in-Err
returns-in-Err c =
    let f = eqb-false _ _ (sym c.is_empty.ensures ∙ c.loop-left-test.true) in
    scan-fails c.loop-left.invariant (omega arith) c.in-Err.ensures (some-test c.in-Err.test)

pub slice_bounds-left-count : goal.slice_bounds-left-count
slice_bounds-left-count c = omega (arith, line-inside c.in-Ok.ensures.1)

pub slice_bounds-left-start : goal.slice_bounds-left-start
slice_bounds-left-start c = omega (arith, line-inside c.in-Ok.ensures.1)

pub overflow_add-least : goal.overflow_add-least
overflow_add-least c = let p = c.in-Ok.ensures.1 in omega (arith, p.register-is, p.limits.register)

pub overflow_add-number : goal.overflow_add-number
overflow_add-number c = omega (arith, c.loop-left.invariant.few)

pub loop-left-smaller : goal.loop-left-smaller
loop-left-smaller c =
    let e = part-rest c.in-Ok.line.length c.loop-left.left.now in
    rw e (omega (arith, line-inside c.in-Ok.ensures.1, length-drop c.in-Ok.line.length c.loop-left.left.now))

pub loop-left-preserved : goal.loop-left-preserved
loop-left-preserved c =
    let f = eqb-false _ _ (sym c.is_empty.ensures ∙ c.loop-left-test.true) in
    let p = c.in-Ok.ensures in
    subst (λ (s : List ℕ). Scanning c.args.text.now s (c.in-Ok.line.register + 1) (c.loop-left.number + 1)) (sym (part-rest c.in-Ok.line.length c.loop-left.left.now))
    (scan-next c.loop-left.invariant (omega arith) p.0 p.1)

pub overflow_sub-result : goal.overflow_sub-result
overflow_sub-result c = omega (arith, c.loop-left.invariant.some)

pub returns : goal.returns
returns c =
    scan-end c.loop-left.left.now c.loop-left.invariant (eqb-true _ _ (sym c.is_empty.ensures ∙ c.loop-left-test.false)) (omega (arith, c.loop-left.invariant.some))
