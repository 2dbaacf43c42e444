-- `messages::find_as` meets its contract: what is found is one frame, whose message is the one.
-- Assumes nothing.
use mathlib.Core.Path.{subst}
use Prim.Native.Nat.{ℕ}
use Rattle.std.proofs.lemmas.Result.{err_from_is_err_and}
use Rattle.frames.specs.Paper.Search.{Searches}
use Rattle.messages.proofs.Laws.Find.{in_buffer, behind-start, payloaded, found, not_found}
use Rattle.messages.proofs.find_as.Goals as goal

pub slice_bounds-frame-end : goal.slice_bounds-frame-end
slice_bounds-frame-end c = in_buffer (subst (λ (k : ℕ). Searches k c.args.buffer.now c.args.place c.search.result) c.number.ensures c.search.ensures) c.in_ok-found.was

pub overflow_sub-found : goal.overflow_sub-found
overflow_sub-found c = (behind-start (subst (λ (k : ℕ). Searches k c.args.buffer.now c.args.place c.search.result) c.number.ensures c.search.ensures) c.in_ok-found.was).0

pub overflow_sub-found-2 : goal.overflow_sub-found-2
overflow_sub-found-2 c = (behind-start (subst (λ (k : ℕ). Searches k c.args.buffer.now c.args.place c.search.result) c.number.ensures c.search.ensures) c.in_ok-found.was).1

pub message_in-requires : goal.message_in-requires
message_in-requires c = payloaded (subst (λ (k : ℕ). Searches k c.args.buffer.now c.args.place c.search.result) c.number.ensures c.search.ensures) c.in_ok-found.was

pub returns-in_err-found : goal.returns-in_err-found
returns-in_err-found c =
    let p = err_from_is_err_and c.from_residual.result c.from_residual.ensures.1 in
    rw (p.1, p.2) (not_found (subst (λ (k : ℕ). Searches k c.args.buffer.now c.args.place c.search.result) c.number.ensures c.search.ensures) c.in_err-found.was)

pub returns : goal.returns
returns c = found (subst (λ (k : ℕ). Searches k c.args.buffer.now c.args.place c.search.result) c.number.ensures c.search.ensures) c.in_ok-found.was c.message_in.ensures
