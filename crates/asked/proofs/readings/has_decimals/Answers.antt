-- `readings::has_decimals` meets its contract.
-- Assumes nothing.
use lib.Signed.{le_z_yes}
use Rattle.asked.proofs.Laws.Agree.{no-decimals, decimals-so}
use Rattle.asked.proofs.Laws.Lift.{lifted}
use Rattle.asked.proofs.readings.has_decimals.Goals as goal

pub whole-requires : goal.whole-requires
whole-requires c =
    (record { low = le_z_yes tt; high = le_z_yes tt }, record { low = le_z_yes tt; high = le_z_yes tt })

pub returns-in_default : goal.returns-in_default
returns-in_default c =
    no-decimals (lifted c.value.ensures c.in_default.ensures) c.requires

pub returns : goal.returns
returns c =
    decimals-so (lifted c.value.ensures c.in-Ok.ensures)
