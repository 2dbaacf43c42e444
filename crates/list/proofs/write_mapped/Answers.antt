-- `list::write_mapped` meets its contract: the first two bytes, then the length, then the capture.
-- Assumes nothing.
use mathlib.Core.Path.{refl}
use native.Mathlib.Omega.{arith}
use Rattle.digits.proofs.Laws.Tests.{told, untold}
use Rattle.list.specs.Paper.Listing.{Input}
use Rattle.list.proofs.Laws.Inputs.{two_bytes, digit}
use Rattle.list.proofs.Laws.Written.{wrote-2, wrote-5, listable, wrote-capture}
use borrow.Author.Rules.{rules}
use Rattle.list.proofs.write_mapped.Goals as goal

pub returns-then-not-begins : goal.returns-then-not-begins
returns-then-not-begins c =
    wrote-2 c.front.result (untold c.begins.ensures c.if-not-begins.true) c.front.ensures

pub returns-then-input-gt65536 : goal.returns-then-input-gt65536
returns-then-input-gt65536 c =
    let begun : Input c.args.input.now = told c.begins.ensures c.if-not-begins.false in
    wrote-5 c.front-then-input-gt65536.result begun (omega (arith, c.if-input-gt65536.true)) c.front-then-input-gt65536.ensures

pub bounds-input-0 : goal.bounds-input-0
bounds-input-0 c =
    let begun : Input c.args.input.now = told c.begins.ensures c.if-not-begins.false in
    let h = two_bytes begun in search rules

pub overflow_sub-input : goal.overflow_sub-input
overflow_sub-input c =
    let begun : Input c.args.input.now = told c.begins.ensures c.if-not-begins.false in
    omega (arith, digit begun)

pub slice_bounds-capture-count : goal.slice_bounds-capture-count
slice_bounds-capture-count c =
    let begun : Input c.args.input.now = told c.begins.ensures c.if-not-begins.false in
    omega (arith, two_bytes begun)

pub slice_bounds-capture-start : goal.slice_bounds-capture-start
slice_bounds-capture-start c =
    let begun : Input c.args.input.now = told c.begins.ensures c.if-not-begins.false in
    omega (arith, two_bytes begun)

pub capture-requires : goal.capture-requires
capture-requires c =
    let begun : Input c.args.input.now = told c.begins.ensures c.if-not-begins.false in
    listable begun (omega (arith, c.if-input-gt65536.false))

pub returns : goal.returns
returns c =
    let begun : Input c.args.input.now = told c.begins.ensures c.if-not-begins.false in
    wrote-capture begun (omega (arith, c.if-input-gt65536.false)) refl c.capture.ensures
