-- `messages::homiq::field_end` meets its contract: the `;` that is found first ends the field.
-- Assumes nothing.
use borrow.Author.Rules.{rules}
use borrow.Author.Tests.{tests}
use lib.ListN.{drop}
use mathlib.Core.Path.{◌∙◌}
use Rattle.digits.proofs.Laws.Parts.{part-rest}
use Rattle.std.specs.Prelude.{nat_eq}
use Rattle.std.proofs.lemmas.Iterator.{YieldsList-from_slice}
use Rattle.std.proofs.lemmas.Iterator.Search.{position_from_yields_List}
use Rattle.messages.proofs.Laws.HomiqLook.{end-found, end-none}
use Rattle.messages.proofs.homiq.field_end.Goals as goal

pub returns-in-Some : goal.returns-in-Some
returns-in-Some c =
    end-found c.args.s.now c.args.from c.requires
    (position_from_yields_List (λ x. nat_eq x 59) _ _ c.position.result c.position.ensures.ran (YieldsList-from_slice (drop c.args.from c.args.s.now) (c.iter.ensures.rest ∙ part-rest c.args.from c.args.s.now)) (λ x b q k. search (rules, tests)))
    c.in-Some.is

pub returns-in-None : goal.returns-in-None
returns-in-None c =
    end-none c.args.s.now c.args.from c.requires
    (position_from_yields_List (λ x. nat_eq x 59) _ _ c.position.result c.position.ensures.ran (YieldsList-from_slice (drop c.args.from c.args.s.now) (c.iter.ensures.rest ∙ part-rest c.args.from c.args.s.now)) (λ x b q k. search (rules, tests)))
    c.in-None.is
