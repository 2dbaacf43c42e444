-- `json_values::signed` meets its contract: 32 bits with a sign hold raw numbers only.
-- Assumes nothing.
use mathlib.Core.Path.{ap₂, sym, subst}
use Prim.Native.Nat.{ℕ, ◌≤◌}
use Rattle.puts.proofs.Laws.Puts.{puts-as}
use Rattle.json_values.specs.Paper.Json.{reading}
use Rattle.json_values.proofs.Laws.Raws.{signed-fits, signed_back, signed-raw, at-most-3}
use Rattle.json_values.proofs.signed.Goals as goal

pub overflow_cast-raw : goal.overflow_cast-raw
overflow_cast-raw c = signed-fits c.args.raw c.ranges.raw

pub reading-requires : goal.reading-requires
reading-requires c = (signed-raw c.args.raw c.ranges.raw, subst (λ (n : ℕ). n ≤ 3) (sym c.places.ensures) (at-most-3 c.args.decimals))

pub returns : goal.returns
returns c = puts-as (ap₂ reading (signed_back c.args.raw c.ranges.raw) c.places.ensures) c.reading.ensures
