-- `numbers::panel::pair` meets its contract: a single holds every number of 16 bits.
-- Assumes nothing.
use mathlib.Core.Path.{sym, subst}
use Prim.Native.Nat.{◌≤◌, ◌^◌}
use native.Mathlib.Nat.{le_trans, le_of_lt}
use lib.Dec.{lit≤}
use lib.IntN.{ℤ, pos, negsuc, nat_abs}
use lib.Ieee.{binary32, of_int}
use mir.Syntax.{w16}
use mir.Val.{SFits}
use mir.ValLaws.{to_z-of_z}
use Rattle.numbers.specs.Paper.Panel.{SingleOf}
use Rattle.numbers.proofs.Laws.Exact.{single_of}
use Rattle.numbers.proofs.panel.pair.Goals as goal

small : (z : ℤ) → SFits w16 z → nat_abs z ≤ 2 ^ 24
small (pos n) f = le_trans (le_of_lt f.sfits) (lit≤ tt)
small (negsuc n) f = le_trans f.sfits (lit≤ tt)

pub returns : goal.returns
returns c =
    record {
      first = subst (λ (y : ℤ). SingleOf c.args.temperature (of_int binary32 y)) (sym (to_z-of_z w16 c.args.temperature c.ranges.temperature)) (single_of c.args.temperature (small c.args.temperature c.ranges.temperature));
      second = single_of (pos c.args.humidity) (le_trans (le_of_lt c.ranges.humidity.fits) (lit≤ tt));
    }
