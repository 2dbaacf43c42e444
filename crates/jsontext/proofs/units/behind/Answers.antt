-- `units::behind` meets its contract.
-- Assumes nothing.
use mathlib.Core.Path.{sym, ap, ◌∙◌}
use Prim.Native.Nat.{◌+◌, ◌-◌}
use lib.ListN.{length, drop, length-drop}
use lib.Seq.{drop-drop, take_all}
use Rattle.jsontext.proofs.Laws.Places.{at-end}
use native.Mathlib.Omega.{arith}
use Rattle.jsontext.proofs.units.behind.Goals as goal

pub returns-then-p-s : goal.returns-then-p-s
returns-then-p-s c =
    let s = c.args.s.now in
    let p = c.args.p in
    take_all (length s - (p + 1)) (drop (p + 1) s) (omega (arith, length-drop (p + 1) s)) ∙ sym (drop-drop 1 p s)

pub returns : goal.returns
returns c = sym (ap (drop 1) (at-end c.args.s.now c.args.p c.if-p-s.false))
