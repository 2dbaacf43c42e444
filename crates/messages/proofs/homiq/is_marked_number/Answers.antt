-- `messages::homiq::is_marked_number` meets its contract: the mark is compared, and the digits are read as the number that is written so.
-- Assumes nothing.
use mathlib.Core.Bool.{true≢false}
use mathlib.Core.Path.{refl, sym, ap, subst, ◌∙◌}
use native.Mathlib.Omega.{arith}
use lib.Dec.{lit<}
use lib.ListN.{length}
use Rattle.std.proofs.lemmas.Slice.Eq.{starts_is}
use Rattle.std.proofs.lemmas.Bool.Decides.{Decides-eqb}
use Rattle.digits.proofs.Laws.Reads.{answered, refused}
use Rattle.digits.specs.Paper.Answers.{natural_refusal, ReadsDecimal}
use Rattle.digits.specs.Paper.Bytes.{part}
use Rattle.digits.specs.Paper.Decimal.{decimal}
use Rattle.digits.specs.Paper.Read.{fails}
use Rattle.messages.proofs.Laws.HomiqLook.{numbered-digits, numbered-by}
use Rattle.messages.proofs.homiq.is_marked_number.Goals as goal

pub returns-then-not-starts_with : goal.returns-then-not-starts_with
returns-then-not-starts_with c =
    fails (λ q. true≢false (sym ((starts_is Decides-eqb _ _ _ c.starts_with.ensures.value).1 (decimal q.number) q.is) ∙ c.if-not-starts_with.true))

pub returns-in-Some : goal.returns-in-Some
returns-in-Some c =
    let t = part (length c.args.mark.now) (length c.args.cmd.now) c.args.cmd.now in
    numbered-by _ ((starts_is Decides-eqb _ _ _ c.starts_with.ensures.value).0 c.if-not-starts_with.false)
    (answered (lit< tt) (subst (ReadsDecimal t) c.in-Some.is c.number_of.ensures) refl).1

pub returns-in-None : goal.returns-in-None
returns-in-None c =
    fails (λ q. refused (lit< tt) c.number_of.ensures (ap natural_refusal c.in-None.is) q.number (omega (arith, q.few, c.ranges.most)) (numbered-digits q))
