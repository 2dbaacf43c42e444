-- `messages::message_in` meets its contract, kind by kind.
-- Assumes nothing.
use mathlib.Core.Path.{refl}
use native.Mathlib.Omega.{arith}
use Rattle.messages.proofs.Laws.Buses.{nikobus-frame, said-nikobus, long-command, said-command, long-response, said-response, long-nibe, said-nibe, said-homiq}
use Rattle.messages.proofs.Laws.Decode.{inside}
use Rattle.messages.proofs.message_in.Goals as goal

pub slice_bounds-payload-count : goal.slice_bounds-payload-count
slice_bounds-payload-count c = (inside c.requires).0

pub slice_bounds-payload-start : goal.slice_bounds-payload-start
slice_bounds-payload-start c = (inside c.requires).0

pub slice_bounds-payload-end : goal.slice_bounds-payload-end
slice_bounds-payload-end c = (inside c.requires).1

pub message-requires : goal.message-requires
message-requires c = nikobus-frame c.requires c.in-Nikobus.is

pub word-requires : goal.word-requires
word-requires c = long-command c.requires c.in-NestCommand.is

pub word-requires-in-NestResponse : goal.word-requires-in-NestResponse
word-requires-in-NestResponse c = long-response c.requires c.in-NestResponse.is

pub bounds-frame-1 : goal.bounds-frame-1
bounds-frame-1 c = omega (arith, long-nibe c.requires c.in-Nibe.is)

pub returns-in-Nikobus : goal.returns-in-Nikobus
returns-in-Nikobus c = said-nikobus c.requires c.in-Nikobus.is c.message.ensures

pub returns-in-NestCommand : goal.returns-in-NestCommand
returns-in-NestCommand c = said-command c.requires c.in-NestCommand.is _ c.word.ensures

pub returns-in-NestResponse : goal.returns-in-NestResponse
returns-in-NestResponse c = said-response c.requires c.in-NestResponse.is _ c.word-in-NestResponse.ensures c.message-in-NestResponse.ensures

pub returns-in-Nibe : goal.returns-in-Nibe
returns-in-Nibe c = said-nibe c.requires c.in-Nibe.is _ refl c.message-in-Nibe.ensures

pub returns-in-Homiq : goal.returns-in-Homiq
returns-in-Homiq c = said-homiq c.requires c.in-Homiq.is c.message_of.ensures
