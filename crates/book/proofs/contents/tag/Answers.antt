-- `book::contents::tag` meets its contract, kind by kind.
-- Assumes nothing.
use native.Mathlib.Omega.{arith}
use Rattle.book.proofs.Laws.Contents.{in-arm, from-arm, long-command, command-tagged, long-response, response-tagged, long-nibe, nibe-tagged, homiq-tagged}
use Rattle.book.proofs.contents.tag.Goals as goal

pub of_nikobus-requires : goal.of_nikobus-requires
of_nikobus-requires c = in-arm c.requires c.in-Nikobus.is

pub word-requires : goal.word-requires
word-requires c = omega (arith, long-command c.requires c.in-NestCommand.is)

pub word-requires-in-NestResponse : goal.word-requires-in-NestResponse
word-requires-in-NestResponse c = omega (arith, long-response c.requires c.in-NestResponse.is)

pub bounds-frame-1 : goal.bounds-frame-1
bounds-frame-1 c = omega (arith, long-nibe c.requires c.in-Nibe.is)

pub returns-in-Nikobus : goal.returns-in-Nikobus
returns-in-Nikobus c = from-arm c.requires c.in-Nikobus.is c.of_nikobus.ensures

pub returns-in-NestCommand : goal.returns-in-NestCommand
returns-in-NestCommand c = command-tagged c.requires c.in-NestCommand.is c.word.ensures

pub returns-in-NestResponse : goal.returns-in-NestResponse
returns-in-NestResponse c = response-tagged c.requires c.in-NestResponse.is c.word-in-NestResponse.ensures

pub returns-in-Nibe : goal.returns-in-Nibe
returns-in-Nibe c = nibe-tagged c.requires c.in-Nibe.is

pub returns-in-Homiq : goal.returns-in-Homiq
returns-in-Homiq c = homiq-tagged c.requires c.in-Homiq.is
