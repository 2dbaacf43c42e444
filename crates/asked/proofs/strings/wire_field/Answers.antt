-- `strings::wire_field` meets its contract.
-- Assumes nothing.
use Rattle.std.proofs.lemmas.Result.{err_from_is_err_and}
use Rattle.asked.proofs.Laws.Strings.{no_field, empty-field, not-field, a-field}
use Rattle.asked.proofs.strings.wire_field.Goals as goal

pub returns-in_err-n : goal.returns-in_err-n
returns-in_err-n c =
    let p = err_from_is_err_and c.from_residual.result c.from_residual.ensures.1 in
    let x = no_field c.args.room.now c.chars.new.room c.in_err-n.ensures.reads in record { reads = rw (p.1, p.2) x; len_in_bounds = rw p.1 (tt, c.in_err-n.ensures.len_in_bounds.1) }

pub returns-then-n-eq0 : goal.returns-then-n-eq0
returns-then-n-eq0 c =
    record { reads = empty-field _ _ c.in_ok-n.ensures.reads c.in_ok-n.ensures.len_in_bounds c.if-n-eq0.true; len_in_bounds = (tt, c.in_ok-n.ensures.len_in_bounds.1) }

pub returns-then-not-are_field_chars : goal.returns-then-not-are_field_chars
returns-then-not-are_field_chars c =
    record {
      reads = not-field _ _ c.in_ok-n.ensures.reads c.in_ok-n.ensures.len_in_bounds c.are_field_chars.ensures c.if-not-are_field_chars.true;
      len_in_bounds = (tt, c.in_ok-n.ensures.len_in_bounds.1);
    }

pub returns : goal.returns
returns c =
    record {
      reads = a-field _ _ c.in_ok-n.ensures.reads c.in_ok-n.ensures.len_in_bounds c.if-n-eq0.false c.are_field_chars.ensures c.if-not-are_field_chars.false;
      len_in_bounds = c.in_ok-n.ensures.len_in_bounds;
    }
