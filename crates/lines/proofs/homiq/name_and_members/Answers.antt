-- `lines::homiq::name_and_members` meets its contract: each field is the first of what stands behind the one before.
-- Assumes nothing.
use mathlib.Core.Path.{ap, ◌∙◌}
use mathlib.Core.List.{List, [], ◌∷◌, ◌++◌}
use Prim.Native.Nat.{ℕ}
use lib.ListN.{length}
use Rattle.digits.specs.Paper.Ascii.{ascii}
use Rattle.json_values.specs.Paper.Json.{◌∶◌, chars}
use Rattle.messages.specs.Paper.Homiq.{past, field_at}
use Rattle.messages.proofs.Laws.HomiqLook.{field-bytes}
use Rattle.puts.proofs.Laws.Puts.{◌then◌, puts-as}
use Rattle.lines.specs.Work.Put.{commaed}
use Rattle.lines.proofs.homiq.name_and_members.Goals as goal

pub behind-from_val-requires : goal.behind-from_val-requires
unfolding field_at
behind-from_val-requires c = ap length (field-bytes 0 c.field-cmd.ensures)

pub behind-from_src-requires : goal.behind-from_src-requires
unfolding field_at
behind-from_src-requires c = ap length (field-bytes 0 c.field-val.ensures)

pub behind-from_dst-requires : goal.behind-from_dst-requires
unfolding field_at
behind-from_dst-requires c = ap length (field-bytes 0 c.field-src.ensures)

pub behind-requires : goal.behind-requires
unfolding field_at
behind-requires c = ap length (field-bytes 0 c.field-dst.ensures)

pub returns : goal.returns
unfolding field_at commaed
returns c =
    let first = field-bytes 0 c.field-cmd.ensures in
    let from-2 = c.behind-from_val.ensures in
    let second = field-bytes 0 c.field-val.ensures ∙ ap (field_at 0) from-2 in
    let from-3 = c.behind-from_src.ensures ∙ ap past from-2 in
    let third = field-bytes 0 c.field-src.ensures ∙ ap (field_at 0) from-3 in
    let from-4 = c.behind-from_dst.ensures ∙ ap past from-3 in
    let fourth = field-bytes 0 c.field-dst.ensures ∙ ap (field_at 0) from-4 in
    let from-5 = c.behind.ensures ∙ ap past from-4 in
    c.name-a.ensures
    then puts-as (ap (λ (x : List ℕ). ascii ",\"cmd\":" ++ chars x) first) c.chars-b.ensures
    then puts-as (ap (λ (x : List ℕ). ascii ",\"val\":" ++ chars x) second) c.chars-c.ensures
    then puts-as (ap (λ (x : List ℕ). ascii ",\"src\":" ++ chars x) third) c.chars-d.ensures
    then puts-as (ap (λ (x : List ℕ). ascii ",\"dst\":" ++ chars x) fourth) c.chars-e.ensures
    then puts-as (ap (λ (x : List ℕ). commaed (ascii "id" ∶ field_at 0 x ∷ ascii "type" ∶ chars (field_at 1 x) ∷ [])) from-5) c.id_and_type.ensures
