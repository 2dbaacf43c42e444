-- `commands::nibe::write` meets its contract: case by case.
-- Assumes nothing.
use mathlib.Core.Path.{ap, refl, subst, ◌∙◌}
use Rattle.commands.proofs.Laws.NibeWrites.{bit-byte}
use mathlib.Core.List.{[], ◌∷◌}
use Prim.Native.Nat.{ℕ}
use Rattle.messages.specs.Paper.Content as content
use Rattle.messages.specs.Paper.Message.{ask, reply, put, done, nibe}
use Rattle.messages.specs.Paper.Says.{of_nibe}
use Rattle.messages.specs.Paper.Table.{content_of, valued, Limits}
use Rattle.messages.specs.Work.Answers.{Only}
use Rattle.messages.specs.declared.nibe.Nibe.{Nibe}
use Rattle.commands.proofs.Laws.Written.{built, in-case}
use Rattle.commands.proofs.nibe.write.Goals as goal

pub returns-in-Ask : goal.returns-in-Ask
unfolding content_of
returns-in-Ask c = in-case (λ (x : Nibe). Only (of_nibe x c.args.content.now)) c.frame.result c.in-Ask.is (built (ask _) (content.nibe 0x69 _) c.frame.result (ap (content.nibe 0x69) c.two.ensures) c.frame.ensures)

pub returns-in-Reply : goal.returns-in-Reply
unfolding content_of
returns-in-Reply c = in-case (λ (x : Nibe). Only (of_nibe x c.args.content.now)) c.write_valued.result c.in-Reply.is (λ m e l. built (reply _ _ _) (content.nibe 0x6A (valued _ _ _)) c.write_valued.result refl (c.write_valued.ensures (subst Limits e l).1.known) m e l)

pub returns-in-Put : goal.returns-in-Put
unfolding content_of
returns-in-Put c = in-case (λ (x : Nibe). Only (of_nibe x c.args.content.now)) c.write_valued-in-Put.result c.in-Put.is (λ m e l. built (put _ _ _) (content.nibe 0x6B (valued _ _ _)) c.write_valued-in-Put.result refl (c.write_valued-in-Put.ensures (subst Limits e l).1.known) m e l)

pub returns-in-Done : goal.returns-in-Done
unfolding content_of
returns-in-Done c = in-case (λ (x : Nibe). Only (of_nibe x c.args.content.now)) c.frame-in-Done.result c.in-Done.is (built (done _) (content.nibe 0x6C _) c.frame-in-Done.result (ap (λ (b : ℕ). content.nibe 0x6C (b ∷ [])) (c.from.ensures ∙ bit-byte c.in-Done.ok)) c.frame-in-Done.ensures)

pub returns-in-Other : goal.returns-in-Other
unfolding content_of
returns-in-Other c = in-case (λ (x : Nibe). Only (of_nibe x c.args.content.now)) c.frame-in-Other.result c.in-Other.is (built (nibe _ _) (content.nibe _ _) c.frame-in-Other.result refl c.frame-in-Other.ensures)
