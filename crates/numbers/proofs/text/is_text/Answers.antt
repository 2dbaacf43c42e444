-- `numbers::text::is_text` meets its contract: the text is written and compared.
-- Assumes nothing.
use mathlib.Core.Path.{◌≡◌, subst}
use mathlib.Core.List.{List}
use Prim.Native.Nat.{ℕ}
use native.Mathlib.Omega.{arith}
use lib.IntN.{ℤ}
use Rattle.digits.specs.Paper.Read.{Decides}
use Rattle.numbers.specs.Paper.Text.{text}
use Rattle.numbers.proofs.Laws.Signs.{said}
use Rattle.numbers.proofs.text.is_text.Goals as goal

pub slice_bounds-same-end : goal.slice_bounds-same-end
slice_bounds-same-end c = omega (arith, c.text_of-own.ensures.room, c.text_of-own.ensures.within)

pub returns : goal.returns
returns c =
    said (λ (z : ℤ). Decides (text z c.args.decimals ≡ c.args.t.now) c.same.result) c.args.raw c.ranges.raw
    (subst (λ (l : List ℕ). Decides (l ≡ c.args.t.now) c.same.result) c.text_of-own.ensures.front c.same.ensures)
