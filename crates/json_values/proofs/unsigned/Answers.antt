-- `json_values::unsigned` meets its contract: 32 bits without a sign hold raw numbers only.
-- Assumes nothing.
use mathlib.Core.Path.{ap₂, sym, subst}
use Prim.Native.Nat.{ℕ, ◌≤◌}
use Rattle.puts.proofs.Laws.Puts.{puts-as}
use Rattle.json_values.specs.Paper.Json.{reading}
use Rattle.json_values.proofs.Laws.Raws.{unsigned_back, unsigned-raw, at-most-3}
use Rattle.json_values.proofs.unsigned.Goals as goal

pub reading-requires : goal.reading-requires
reading-requires c = (unsigned-raw c.args.raw c.ranges.raw.fits, subst (λ (n : ℕ). n ≤ 3) (sym c.places.ensures) (at-most-3 c.args.decimals))

pub returns : goal.returns
returns c = puts-as (ap₂ reading (unsigned_back c.args.raw c.ranges.raw.fits) c.places.ensures) c.reading.ensures
