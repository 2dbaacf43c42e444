-- `messages::decode_as` meets its contract: where the whole is one frame, its message is the one; else it is no message's.
-- Assumes nothing.
use mathlib.Core.Path.{subst}
use Prim.Native.Nat.{ℕ}
use Rattle.std.proofs.lemmas.Result.{err_from_is_err_and}
use Rattle.frames.specs.Paper.OneFrame.{TestsOneFrame}
use Rattle.messages.proofs.Laws.Cases.{decoded, undecoded}
use Rattle.messages.proofs.Laws.Decode.{first-decode, one-frame, no-first, first_of}
use Rattle.messages.proofs.decode_as.Goals as goal

pub message_in-requires : goal.message_in-requires
message_in-requires c = one-frame (subst (λ (k : ℕ). TestsOneFrame k c.args.frame.now c.one_frame.result) c.number.ensures c.one_frame.ensures) c.in_ok-payload.was

pub returns-in_err-payload : goal.returns-in_err-payload
returns-in_err-payload c =
    let a = (subst (λ (k : ℕ). TestsOneFrame k c.args.frame.now c.one_frame.result) c.number.ensures c.one_frame.ensures) in
    let p = err_from_is_err_and c.from_residual.result c.from_residual.ensures.1 in
    rw (p.1, p.2) (undecoded _ (first-decode (first_of a c.in_err-payload.was)))

pub returns : goal.returns
returns c =
    let a = (subst (λ (k : ℕ). TestsOneFrame k c.args.frame.now c.one_frame.result) c.number.ensures c.one_frame.ensures) in
    decoded (first-decode (no-first a c.in_ok-payload.was)) c.message_in.ensures
