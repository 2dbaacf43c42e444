-- `characters::all_narrow` meets its contract.
-- Assumes nothing.
use Rattle.std.proofs.Common.{rules, tests}
use Rattle.std.proofs.lemmas.Iterator.Consumers.{YieldsList-from_first}
use Rattle.std.proofs.lemmas.Iterator.Search.{all_from_yields_List}
use lib.Dec.{leb}
use Rattle.jsontext.specs.Work.Names.{left}
use Rattle.jsontext.specs.Work.Units.{name_in}
use Rattle.jsontext.proofs.Laws.Narrow.{all-tested}
use Rattle.jsontext.proofs.characters.all_narrow.Goals as goal

pub returns : goal.returns
returns c =
    let all =
    all_from_yields_List (λ u. leb u 255) c.all.new.self _ _ c.all.ensures.ran
    (YieldsList-from_first (λ x. x) (λ u. left u.low u.rest.now) {s = c.of.result} (name_in c.args.text.now) c.of.ensures)
    (λ x b q k. search (rules, tests))
    in
    rw all (all-tested (name_in c.args.text.now))
