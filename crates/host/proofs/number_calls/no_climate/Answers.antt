-- `host::number_calls::no_climate` meets its contract.
-- Assumes nothing.
use mathlib.Core.Path.{refl}
use lib.Ieee.{of_bits}
use Rattle.host.proofs.number_calls.no_climate.Goals as goal

pub returns : goal.returns
unfolding of_bits
returns c = record { refusal_value = c.refusal_number.ensures; result_value = refl }
