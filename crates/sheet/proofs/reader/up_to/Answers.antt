-- `sheet::reader::up_to` meets its contract: the place of the first, or the end.
-- Assumes nothing.
use Rattle.std.proofs.Common.{rules, tests, ap, ◌∙◌, length, eqb}
use Rattle.std.proofs.lemmas.Iterator.{YieldsList-from_slice}
use Rattle.std.proofs.lemmas.Iterator.Search.{position_from_yields_List}
use Rattle.std.specs.Prelude.{Option, unwrap_or}
use Prim.Native.Nat.{ℕ}
use Rattle.sheet.proofs.Laws.Chars.{up-found}
use Rattle.sheet.proofs.reader.up_to.Goals as goal

pub returns : goal.returns
returns c =
    let e = position_from_yields_List (λ (x : ℕ). eqb x c.args.c) _ _ c.position.result c.position.ensures.ran (YieldsList-from_slice c.args.s.now cc) (λ x b q k. search (rules, tests)) in
    c.unwrap_or.ensures ∙ ap (λ (o : Option ℕ). unwrap_or o (length c.args.s.now)) e ∙ up-found c.args.c c.args.s.now
