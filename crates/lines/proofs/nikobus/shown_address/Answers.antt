-- `lines::nikobus::shown_address` meets its contract: the digits are those of the bytes, high byte first.
-- Assumes nothing.
use mathlib.Core.Path.{ap, ◌∙◌}
use mathlib.Core.List.{List, [], ◌∷◌, ◌++◌}
use Prim.Native.Nat.{ℕ}
use Rattle.digits.specs.Paper.Ascii.{ascii}
use Rattle.puts.proofs.Laws.Puts.{◌then◌, puts-as}
use Rattle.lines.proofs.Laws.Put.{word-shown}
use Rattle.lines.proofs.nikobus.shown_address.Goals as goal

pub returns : goal.returns
returns c =
    puts-as (ap (λ (d : List ℕ). ascii ",\"addr\":\"" ++ (d ++ (34 ∷ []))) (c.four_digits-digits.ensures ∙ word-shown c.args.address))
    (c.bytes-a.ensures
    then c.bytes-b.ensures
    then c.byte.ensures)
