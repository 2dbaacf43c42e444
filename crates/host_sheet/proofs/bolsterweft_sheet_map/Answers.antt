-- `host_sheet::bolsterweft_sheet_map` meets its contract: it is `sheet::map`.
-- Assumes nothing.
use Rattle.host_sheet.proofs.bolsterweft_sheet_map.Goals as goal

pub returns : goal.returns
returns c = rw (c.counted.ensures.0, c.counted.ensures.1) c.map-written.ensures
