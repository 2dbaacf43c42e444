-- `sheet::reader::fields` meets its contract: the line is cut at its commas.
-- Assumes nothing.
use mathlib.Core.Path.{sym, ◌∙◌}
use mathlib.Core.List.{List}
use Prim.Native.Nat.{ℕ, ◌+◌, ◌-◌}
use native.Mathlib.Omega.{arith}
use lib.ListN.{length, take, drop, length-take}
use Rattle.std.proofs.lemmas.Result.{err_from_is_err_and}
use Rattle.sheet.specs.Paper.Sheet.{LF}
use Rattle.sheet.specs.Paper.Answers.{test_number}
use Rattle.sheet.specs.Work.Lines.{FieldsSay, FieldsFail, no-form, has-form}
use Rattle.sheet.proofs.Laws.Chars.{up_le, up-inside}
use Rattle.sheet.proofs.Laws.Cuts.{CutAt, cut_at, no-comma, one-comma, more-commas, two-commas, three, whole-size}
use Rattle.sheet.proofs.Laws.Options.{was-none, was-some}
use Rattle.sheet.proofs.reader.fields.Goals as goal
use Rattle.sheet.proofs.reader.fields.Goals.{In_ok-a, In_ok-b}

-- the line is cut at its first comma, and what is left of it at the second
cut-a : (c : In_ok-a) → CutAt c.args.s.now c.in_ok-a.a (take (length c.args.s.now - (c.in_ok-a.a + 1)) (drop (c.in_ok-a.a + 1) c.args.s.now))
cut-a c = cut_at c.args.s.now c.comma.ensures (was-some _ c.comma.result c.ok_or.ensures.value c.in_ok-a.was)

cut-b : (c : In_ok-b) → let r = take (length c.args.s.now - (c.in_ok-a.a + 1)) (drop (c.in_ok-a.a + 1) c.args.s.now) in CutAt r c.in_ok-b.b (take (length r - (c.in_ok-b.b + 1)) (drop (c.in_ok-b.b + 1) r))
cut-b c = cut_at _ c.comma-2.ensures (was-some _ c.comma-2.result c.ok_or-2.ensures.value c.in_ok-b.was)

pub returns-in_err-a : goal.returns-in_err-a
returns-in_err-a c =
    let p = err_from_is_err_and c.from_residual.result c.from_residual.ensures.1 in
    let x = was-none c.comma.result c.ok_or.ensures.value c.in_err-a.was in
    rw (p.1, p.2, x.1) (no-form (no-comma c.args.s.now c.comma.ensures x.0))

pub overflow_add-rest : goal.overflow_add-rest
overflow_add-rest c =
    let x = cut-a (goal.at.overflow_add-rest c).In_ok-a in
    omega (arith, x.inside)

pub slice_bounds-rest-count : goal.slice_bounds-rest-count
slice_bounds-rest-count c =
    let x = cut-a (goal.at.slice_bounds-rest-count c).In_ok-a in
    omega (arith, x.inside)

pub slice_bounds-rest-start : goal.slice_bounds-rest-start
slice_bounds-rest-start c =
    let x = cut-a (goal.at.slice_bounds-rest-start c).In_ok-a in
    omega (arith, x.inside)

pub returns-in_err-b : goal.returns-in_err-b
returns-in_err-b c =
    let p = err_from_is_err_and c.from_residual-in_err-b.result c.from_residual-in_err-b.ensures.1 in
    let x = cut-a (goal.at.returns-in_err-b c).In_ok-a in
    let y = was-none c.comma-2.result c.ok_or-2.ensures.value c.in_err-b.was in
    rw (p.1, p.2, y.1) (no-form (one-comma x c.comma-2.ensures y.0))

pub overflow_add-behind : goal.overflow_add-behind
overflow_add-behind c =
    let y = cut-b (goal.at.overflow_add-behind c).In_ok-b in
    omega (arith, y.inside)

pub slice_bounds-behind-count : goal.slice_bounds-behind-count
slice_bounds-behind-count c =
    let y = cut-b (goal.at.slice_bounds-behind-count c).In_ok-b in
    omega (arith, y.inside)

pub slice_bounds-behind-start : goal.slice_bounds-behind-start
slice_bounds-behind-start c =
    let y = cut-b (goal.at.slice_bounds-behind-start c).In_ok-b in
    omega (arith, y.inside)

pub slice_bounds-third-end : goal.slice_bounds-third-end
slice_bounds-third-end c = omega (arith, up-inside LF _ c.up_to-c.ensures, length-take {A = ℕ})

pub returns-then-contains : goal.returns-then-contains
returns-then-contains c =
    let x = cut-a (goal.at.returns-then-contains c).In_ok-a in
    let y = cut-b (goal.at.returns-then-contains c).In_ok-b in
    no-form (more-commas x y c.up_to-c.ensures (sym c.contains.ensures.value ∙ c.if-contains.true))

pub slice_bounds-of_fields-end : goal.slice_bounds-of_fields-end
slice_bounds-of_fields-end c =
    let x = cut-a (goal.at.slice_bounds-of_fields-end c).In_ok-a in
    omega (arith, x.inside, length-take {A = ℕ})

pub slice_bounds-of_fields-end-2 : goal.slice_bounds-of_fields-end-2
slice_bounds-of_fields-end-2 c =
    let y = cut-b (goal.at.slice_bounds-of_fields-end-2 c).In_ok-b in
    omega (arith, y.inside, length-take {A = ℕ})

pub returns-in_err-register : goal.returns-in_err-register
returns-in_err-register c =
    let p = err_from_is_err_and c.from_residual-in_err-register.result c.from_residual-in_err-register.ensures.1 in
    let x = cut-a (goal.at.returns-in_err-register c).In_ok-a in
    let y = cut-b (goal.at.returns-in_err-register c).In_ok-b in
    let t = test_number c.in_err-register.field-0.0 in
    rw (p.1, p.2) (has-form (two-commas x y c.up_to-c.ensures (sym c.contains.ensures.value ∙ c.if-contains.false))
    (three x y c.up_to-c.ensures (λ (a b d : List ℕ). FieldsFail a b d t) c.in_err-register.ensures))

pub overflow_add-result : goal.overflow_add-result
overflow_add-result c =
    let x = cut-a (goal.at.overflow_add-result c).In_ok-a in
    let y = cut-b (goal.at.overflow_add-result c).In_ok-b in
    omega (arith, whole-size x y c.up_to-c.ensures, up_le LF c.args.s.now)

pub overflow_add-result-2 : goal.overflow_add-result-2
overflow_add-result-2 c =
    let x = cut-a (goal.at.overflow_add-result-2 c).In_ok-a in
    let y = cut-b (goal.at.overflow_add-result-2 c).In_ok-b in
    omega (arith, whole-size x y c.up_to-c.ensures, up_le LF c.args.s.now)

pub overflow_add-result-3 : goal.overflow_add-result-3
overflow_add-result-3 c =
    let x = cut-a (goal.at.overflow_add-result-3 c).In_ok-a in
    let y = cut-b (goal.at.overflow_add-result-3 c).In_ok-b in
    omega (arith, whole-size x y c.up_to-c.ensures, up_le LF c.args.s.now)

pub returns : goal.returns
returns c =
    let x = cut-a (goal.at.returns c).In_ok-a in
    let y = cut-b (goal.at.returns c).In_ok-b in
    record {
      form = two-commas x y c.up_to-c.ensures (sym c.contains.ensures.value ∙ c.if-contains.false);
      fields = three x y c.up_to-c.ensures (λ (a b d : List ℕ). FieldsSay a b d c.in_ok-register.register c.in_ok-register.byte) c.in_ok-register.ensures;
      size_is = whole-size x y c.up_to-c.ensures;
    }
