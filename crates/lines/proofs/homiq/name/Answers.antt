-- `lines::homiq::name` meets its contract: the name of each.
-- Assumes nothing.
use mathlib.Core.Path.{sym, ap}
use Rattle.puts.proofs.Laws.Puts.{puts-as}
use Rattle.lines.specs.Work.Put.{homiq_name}
use Rattle.lines.proofs.homiq.name.Goals as goal

pub returns-in-Output : goal.returns-in-Output
returns-in-Output c = puts-as (sym (ap homiq_name c.in-Output.is)) c.bytes.ensures

pub returns-in-Input : goal.returns-in-Input
returns-in-Input c = puts-as (sym (ap homiq_name c.in-Input.is)) c.bytes-in-Input.ensures

pub returns-in-Shutter : goal.returns-in-Shutter
returns-in-Shutter c = puts-as (sym (ap homiq_name c.in-Shutter.is)) c.bytes-in-Shutter.ensures

pub returns-in-Beat : goal.returns-in-Beat
returns-in-Beat c = puts-as (sym (ap homiq_name c.in-Beat.is)) c.bytes-in-Beat.ensures

pub returns-in-Other : goal.returns-in-Other
returns-in-Other c = puts-as (sym (ap homiq_name c.in-Other.is)) c.bytes-in-Other.ensures
