-- `messages::nibe::valued_in` meets its contract: two bytes, and what stands behind them.
-- Assumes nothing.
use mathlib.Core.Path.{refl, ap, ◌∙◌}
use native.Mathlib.Omega.{arith}
use Rattle.digits.proofs.Laws.LowFirst.{width-most}
use Rattle.digits.proofs.Laws.Parts.{part-rest}
use Rattle.digits.specs.Paper.LowFirst.{low_value}
use Rattle.messages.proofs.Laws.NibeLook.{behind-two}
use Rattle.messages.proofs.nibe.valued_in.Goals as goal

pub overflow_cast-result : goal.overflow_cast-result
overflow_cast-result c = omega (arith, width-most c.requires.1)

pub value_of-requires : goal.value_of-requires
value_of-requires c = behind-two c.args.content.now c.requires

pub returns : goal.returns
returns c =
    record { register = c.word.ensures; width = refl; value = c.value_of.ensures ∙ ap low_value (part-rest 2 c.args.content.now) }
