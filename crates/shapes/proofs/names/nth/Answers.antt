-- `names::nth` meets its contract.
-- Assumes nothing.
use Rattle.std.proofs.Common.{ap, sym, ◌∙◌, arith, [], List, ℕ, Bor}
use Rattle.std.proofs.lemmas.List.{get_or-map, length-map}
use Rattle.shapes.proofs.Laws.Picked.{name-there, unnamed}
use Rattle.shapes.proofs.names.nth.Goals as goal

pub returns-in-Some : goal.returns-in-Some
returns-in-Some c =
    let (h, is) = c.in-Some.ensures.lookup.3 in
    let text : Bor (List ℕ) → List ℕ = λ name. name.now in
    name-there (simp length-map (omega (arith, h)))
    (get_or-map text c.args.names.now c.args.member c.in-Some.name.now [] h ∙ ap text (sym (is c.in-Some.name.now))) c.front.ensures

pub returns-in-None : goal.returns-in-None
returns-in-None c = unnamed (simp length-map (omega (arith, c.in-None.ensures.lookup.3)))
