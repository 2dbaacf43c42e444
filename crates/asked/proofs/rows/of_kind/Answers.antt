-- `rows::of_kind` meets its contract.
-- Assumes nothing.
use Rattle.asked.proofs.Laws.Named.{by_kind}
use Rattle.asked.proofs.rows.of_kind.Goals as goal

pub returns-in-Nikobus : goal.returns-in-Nikobus
returns-in-Nikobus c = by_kind _ c.in-Nikobus.is c.nikobus.ensures

pub returns-in-NestCommand : goal.returns-in-NestCommand
returns-in-NestCommand c = by_kind _ c.in-NestCommand.is c.command.ensures

pub returns-in-NestResponse : goal.returns-in-NestResponse
returns-in-NestResponse c = by_kind _ c.in-NestResponse.is c.response.ensures

pub returns-in-Nibe : goal.returns-in-Nibe
returns-in-Nibe c = by_kind _ c.in-Nibe.is c.nibe.ensures

pub returns-in-Homiq : goal.returns-in-Homiq
returns-in-Homiq c = by_kind _ c.in-Homiq.is c.homiq.ensures
