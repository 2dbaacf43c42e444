-- `layouts::homiq::five` meets its contract: the parts follow one another as in `five_within`.
-- Assumes nothing.
use Rattle.layouts.proofs.Laws.HomiqPayload.{without-two, no-val, no-src, no-dst, no-id, five-there}
use Rattle.layouts.proofs.homiq.five.Goals as goal

pub returns-in_err-cmd : goal.returns-in_err-cmd
returns-in_err-cmd c = rw c.from_residual.ensures (without-two c.args.last c.args.p.now c.in_err-cmd.ensures)

pub returns-in_err-val : goal.returns-in_err-val
returns-in_err-val c = rw c.from_residual-in_err-val.ensures (no-val c.args.last c.args.p.now c.in_ok-cmd.ensures c.in_err-val.ensures)

pub returns-in_err-src : goal.returns-in_err-src
returns-in_err-src c = rw c.from_residual-in_err-src.ensures (no-src c.args.last c.args.p.now c.in_ok-cmd.ensures c.in_ok-val.ensures c.in_err-src.ensures)

pub returns-in_err-dst : goal.returns-in_err-dst
returns-in_err-dst c = rw c.from_residual-in_err-dst.ensures (no-dst c.args.last c.args.p.now c.in_ok-cmd.ensures c.in_ok-val.ensures c.in_ok-src.ensures c.in_err-dst.ensures)

pub returns-in_err-id : goal.returns-in_err-id
returns-in_err-id c = rw c.from_residual-in_err-id.ensures (no-id c.args.last c.args.p.now c.in_ok-cmd.ensures c.in_ok-val.ensures c.in_ok-src.ensures c.in_ok-dst.ensures c.in_err-id.ensures)

pub returns : goal.returns
returns c = five-there c.args.last c.args.p.now c.in_ok-cmd.ensures c.in_ok-val.ensures c.in_ok-src.ensures c.in_ok-dst.ensures c.in_ok-id.ensures.0
