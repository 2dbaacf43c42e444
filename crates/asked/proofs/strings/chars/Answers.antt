-- `strings::chars` meets its contract.
-- Assumes nothing.
use Rattle.asked.proofs.Laws.Strings.{chars-put, chars-unput}
use Rattle.asked.proofs.strings.chars.Goals as goal

pub returns-in-Ok : goal.returns-in-Ok
returns-in-Ok c =
    let x = chars-put c.in-Ok.ensures in record { reads = x.0; len_in_bounds = x.1 }

pub returns-in-Err : goal.returns-in-Err
returns-in-Err c =
    let x = chars-unput _ c.in-Err.ensures c.unwritten.ensures in record { reads = x.0; len_in_bounds = x.1 }
