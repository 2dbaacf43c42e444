-- `homiq::wire` meets its contract.
-- Assumes nothing.
use native.Mathlib.Omega.{arith}
use Rattle.std.proofs.lemmas.Result.{err_from_is_err_and}
use mathlib.Core.List.{List, [], ◌∷◌, ◌++◌}
use mathlib.Core.Path.{ap}
use Prim.Native.Nat.{ℕ}
use lib.IntN.{nat_abs}
use lib.ListN.{take, length-take}
use Rattle.digits.proofs.Laws.Parts.{part-front}
use Rattle.numbers.proofs.Laws.Signs.{back}
use Rattle.puts.proofs.Laws.Puts.{puts-as}
use Rattle.asked.specs.Work.Homiq as homiq
use Rattle.asked.proofs.Laws.Casts.{to-wide, at_most}
use Rattle.asked.proofs.Laws.Fields.{wires}
use Rattle.asked.proofs.Laws.Lift.{lifted, is_held, read-at}
use Rattle.asked.proofs.Laws.Results.{both-are, bounded}
use Rattle.asked.proofs.Laws.Shaped.{more, last, all-at, numbered}
use Rattle.asked.proofs.homiq.wire.Goals as goal

pub returns-in_err-a : goal.returns-in_err-a
returns-in_err-a c =
    let p = err_from_is_err_and c.from_residual.result c.from_residual.ensures.1 in
    rw (p.1, p.2) (homiq.not (all-at _ (more _ _ _ _ (lifted c.value.ensures c.wire_field-a.ensures.reads) (more _ _ _ _ (lifted c.value-2.ensures c.wire_field-b.ensures.reads) (more _ _ _ _ (lifted c.value-3.ensures c.wire_field-c.ensures.reads)
    (more _ _ _ _ (lifted c.value-4.ensures c.wire_field-d.ensures.reads) (more _ _ _ _ (numbered {m = 511} (omega arith) c.value-5.ensures _ c.whole-id.ensures)
    (last _ _ (lifted c.value-6.ensures c.type_letter-last.ensures)) c.both.ensures) c.both-end.ensures) c.both-2.ensures) c.both-3.ensures) c.both-4.ensures) c.in_err-a.was))

pub overflow_cast-id : goal.overflow_cast-id
overflow_cast-id c =
    let (ea, p) = both-are _ _ c.both-4.ensures c.in_ok-a.was in
    let (eb, q) = both-are _ _ c.both-3.ensures p in
    let (ec, r) = both-are _ _ c.both-2.ensures q in
    let (ed, t) = both-are _ _ c.both-end.ensures r in
    let (ei, el) = both-are _ _ c.both.ensures t in
    to-wide _ (is_held (read-at _ c.whole-id.ensures ei))

pub returns : goal.returns
returns c =
    let (ea, p) = both-are _ _ c.both-4.ensures c.in_ok-a.was in
    let (eb, q) = both-are _ _ c.both-3.ensures p in
    let (ec, r) = both-are _ _ c.both-2.ensures q in
    let (ed, t) = both-are _ _ c.both-end.ensures r in
    let (ei, el) = both-are _ _ c.both.ensures t in
    wires
    (record {
      cmd = take c.in_ok-a.a c.wire_field-a.new.room;
      val = take c.in_ok-a.b c.wire_field-b.new.room;
      src = take c.in_ok-a.c c.wire_field-c.new.room;
      dst = take c.in_ok-a.d c.wire_field-d.new.room;
      id = nat_abs (back c.in_ok-a.id);
      type = c.in_ok-a.letter;
    })
    (omega (arith, c.well_formed)) (all-at _ (more _ _ _ _ (lifted c.value.ensures c.wire_field-a.ensures.reads) (more _ _ _ _ (lifted c.value-2.ensures c.wire_field-b.ensures.reads) (more _ _ _ _ (lifted c.value-3.ensures c.wire_field-c.ensures.reads)
    (more _ _ _ _ (lifted c.value-4.ensures c.wire_field-d.ensures.reads) (more _ _ _ _ (numbered {m = 511} (omega arith) c.value-5.ensures _ c.whole-id.ensures)
    (last _ _ (lifted c.value-6.ensures c.type_letter-last.ensures)) c.both.ensures) c.both-end.ensures) c.both-2.ensures) c.both-3.ensures) c.both-4.ensures) c.in_ok-a.was)
    (puts-as (ap (λ (x : List ℕ). x ++ (59 ∷ [])) (part-front c.in_ok-a.a c.wire_field-a.new.room)) c.put_field-at.ensures)
    (puts-as (ap (λ (x : List ℕ). x ++ (59 ∷ [])) (part-front c.in_ok-a.b c.wire_field-b.new.room)) c.put_field-at-2.ensures)
    (puts-as (ap (λ (x : List ℕ). x ++ (59 ∷ [])) (part-front c.in_ok-a.c c.wire_field-c.new.room)) c.put_field-at-3.ensures)
    (puts-as (ap (λ (x : List ℕ). x ++ (59 ∷ [])) (part-front c.in_ok-a.d c.wire_field-d.new.room)) c.put_field-at-4.ensures)
    c.put_end.ensures (omega (arith, bounded _ c.wire_field-a.ensures.len_in_bounds.0 ea, length-take c.in_ok-a.a c.wire_field-a.new.room)) (omega (arith, bounded _ c.wire_field-b.ensures.len_in_bounds.0 eb, length-take c.in_ok-a.b c.wire_field-b.new.room)) (omega (arith, bounded _ c.wire_field-c.ensures.len_in_bounds.0 ec, length-take c.in_ok-a.c c.wire_field-c.new.room)) (omega (arith, bounded _ c.wire_field-d.ensures.len_in_bounds.0 ed, length-take c.in_ok-a.d c.wire_field-d.new.room))
    (at_most (omega arith) _ (is_held (read-at _ c.whole-id.ensures ei)))
