-- `sheet::reader::of_fields` meets its contract: the tests refuse in their order.
-- Assumes nothing.
use mathlib.Core.Path.{◌≡◌, refl}
use Prim.Native.Nat.{◌<◌}
use native.Mathlib.Omega.{arith}
use Rattle.std.proofs.lemmas.Result.{err_from_is_err_and}
use Rattle.digits.specs.Paper.Decimal.{decimal}
use Rattle.sheet.specs.Work.Lines.{no_register, no-type, no-decimals}
use Rattle.sheet.proofs.Laws.Lines.{Named, number-some, number-none, type-some, type-none, fields-right}
use Rattle.sheet.proofs.Laws.Options.{was-none, was-some}
use Rattle.sheet.proofs.reader.of_fields.Goals as goal
use Rattle.sheet.proofs.reader.of_fields.Goals.{In_ok-n, In_ok-t, In_ok-d}

-- what each field says
register : (c : In_ok-n) → (c.in_ok-n.n < 65536) × (decimal c.in_ok-n.n ≡ c.args.register.now)
register c = number-some c.number_below.ensures (was-some _ c.number_below.result c.ok_or.ensures.value c.in_ok-n.was)

named : (c : In_ok-t) → Named c.args.name.now c.in_ok-t.t
named c = type-some c.type_number.ensures (was-some _ c.type_number.result c.ok_or-2.ensures.value c.in_ok-t.was)

decimals : (c : In_ok-d) → (c.in_ok-d.d < 4) × (decimal c.in_ok-d.d ≡ c.args.decimals.now)
decimals c = number-some c.number_below-2.ensures (was-some _ c.number_below-2.result c.ok_or-3.ensures.value c.in_ok-d.was)

pub returns-in_err-n : goal.returns-in_err-n
returns-in_err-n c =
    let p = err_from_is_err_and c.from_residual.result c.from_residual.ensures.1 in
    let x = was-none c.number_below.result c.ok_or.ensures.value c.in_err-n.was in
    rw (p.1, p.2, x.1) (no_register (number-none c.number_below.ensures x.0))

pub returns-in_err-t : goal.returns-in_err-t
returns-in_err-t c =
    let p = err_from_is_err_and c.from_residual-in_err-t.result c.from_residual-in_err-t.ensures.1 in
    let n = register (goal.at.returns-in_err-t c).In_ok-n in
    let x = was-none c.type_number.result c.ok_or-2.ensures.value c.in_err-t.was in
    rw (p.1, p.2, x.1) (no-type n.0 n.1 (type-none c.type_number.ensures x.0))

pub returns-in_err-d : goal.returns-in_err-d
returns-in_err-d c =
    let p = err_from_is_err_and c.from_residual-in_err-d.result c.from_residual-in_err-d.ensures.1 in
    let n = register (goal.at.returns-in_err-d c).In_ok-n in
    let t = named (goal.at.returns-in_err-d c).In_ok-t in
    let x = was-none c.number_below-2.result c.ok_or-3.ensures.value c.in_err-d.was in
    rw (p.1, p.2, x.1) (no-decimals n.0 n.1 t.signed t.known t.spelt (number-none c.number_below-2.ensures x.0))

pub overflow_mul-result : goal.overflow_mul-result
overflow_mul-result c =
    let t = named (goal.at.overflow_mul-result c).In_ok-t in
    omega arith

pub overflow_add-result : goal.overflow_add-result
overflow_add-result c =
    let t = named (goal.at.overflow_add-result c).In_ok-t in
    omega arith

pub overflow_cast-result : goal.overflow_cast-result
overflow_cast-result c =
    let d = decimals (goal.at.overflow_cast-result c).In_ok-d in
    omega arith

pub overflow_add-result-2 : goal.overflow_add-result-2
overflow_add-result-2 c =
    let t = named (goal.at.overflow_add-result-2 c).In_ok-t in
    let d = decimals (goal.at.overflow_add-result-2 c).In_ok-d in
    omega arith

pub returns : goal.returns
returns c =
    let n = register (goal.at.returns c).In_ok-n in
    let t = named (goal.at.returns c).In_ok-t in
    let d = decimals (goal.at.returns c).In_ok-d in
    fields-right n.0 n.1 t d.0 d.1 refl
