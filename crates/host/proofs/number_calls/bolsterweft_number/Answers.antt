-- `host::number_calls::bolsterweft_number` meets its contract: it is `text::read`, case by case; what is read is a raw number, so the
-- machine keeps it.
-- Assumes nothing.
use mathlib.Core.Path.{refl, sym, subst}
use Rattle.std.specs.Prelude.{Ok}
use lib.Dec.{lit<}
use lib.IntN.{ℤ}
use Rattle.digits.proofs.Laws.Reads.{answered}
use Rattle.numbers.specs.Paper.Answers.{ReadsText}
use Rattle.numbers.proofs.Laws.Signs.{read_back, raw-fits}
use Rattle.host.proofs.number_calls.bolsterweft_number.Goals as goal

pub returns-in-Ok : goal.returns-in-Ok
returns-in-Ok c =
    let n = c.in-Ok.number in
    let a : ReadsText c.args.text.now (Ok n) = c.in-Ok.ensures in
    subst (λ (y : ℤ). ReadsText c.args.text.now (Ok (record { raw = y; decimals = n.decimals })))
    (sym (read_back n.raw (raw-fits n.raw (answered (lit< tt) a refl).0.in-range))) a

pub returns-in-Err : goal.returns-in-Err
returns-in-Err c = rw c.refusal_number.ensures c.in-Err.ensures
