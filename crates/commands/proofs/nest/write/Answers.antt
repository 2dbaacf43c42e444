-- `commands::nest::write` meets its contract: case by case.
-- Assumes nothing.
use mathlib.Core.Path.{refl}
use mathlib.Core.List.{[]}
use Rattle.digits.specs.Paper.Ascii.{ascii}
use Rattle.messages.specs.Paper.Content as content
use Rattle.messages.specs.Paper.Message.{state, break, end, text, response}
use Rattle.messages.specs.Paper.Says.{of_response}
use Rattle.messages.specs.Paper.Table.{content_of}
use Rattle.messages.specs.Work.Answers.{Only}
use Rattle.messages.specs.declared.nest.Response.{Response as Coded}
use Rattle.commands.proofs.Laws.Written.{built, in-case}
use Rattle.commands.proofs.nest.write.Goals as goal

pub returns-in-State : goal.returns-in-State
unfolding content_of
returns-in-State c = in-case (λ (x : Coded). Only (of_response x c.args.payload.now)) c.frame.result c.in-State.is (built (state c.args.payload.now) (content.response 0x000B c.args.payload.now) c.frame.result refl c.frame.ensures)

pub returns-in-Break : goal.returns-in-Break
unfolding content_of
returns-in-Break c = in-case (λ (x : Coded). Only (of_response x c.args.payload.now)) c.frame-in-Break.result c.in-Break.is (built (break) (content.response 0x0001 (ascii "BRK")) c.frame-in-Break.result refl c.frame-in-Break.ensures)

pub returns-in-End : goal.returns-in-End
unfolding content_of
returns-in-End c = in-case (λ (x : Coded). Only (of_response x c.args.payload.now)) c.frame-in-End.result c.in-End.is (built (end) (content.response 0x002F []) c.frame-in-End.result refl c.frame-in-End.ensures)

pub returns-in-Text : goal.returns-in-Text
unfolding content_of
returns-in-Text c = in-case (λ (x : Coded). Only (of_response x c.args.payload.now)) c.frame-in-Text.result c.in-Text.is (built (text _ c.args.payload.now) (content.response _ c.args.payload.now) c.frame-in-Text.result refl c.frame-in-Text.ensures)

pub returns-in-Other : goal.returns-in-Other
unfolding content_of
returns-in-Other c = in-case (λ (x : Coded). Only (of_response x c.args.payload.now)) c.frame-in-Other.result c.in-Other.is (built (response _ c.args.payload.now) (content.response _ c.args.payload.now) c.frame-in-Other.result refl c.frame-in-Other.ensures)
