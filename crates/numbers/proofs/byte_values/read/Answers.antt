-- `numbers::byte_values::read` meets its contract: the tests refuse by their causes; of a width that there is, all bytes are a number's.
-- Assumes nothing.
use mathlib.Core.Path.{◌≡◌, refl, sym, ap, ◌∙◌, subst}
use Prim.Native.Nat.{ℕ, ◌^◌, ◌<◌}
use lib.Dec.{lit<}
use Rattle.std.specs.Prelude.{List}
use lib.ListN.{length}
use Rattle.std.specs.Prelude.{Option, Some}
use Rattle.digits.specs.Paper.LowFirst.{Width, Held, low_byte_first}
use Rattle.digits.specs.Paper.Answers.{number_refusal, ReadsNumber}
use Rattle.digits.proofs.Laws.LowFirst.{never-refused}
use Rattle.digits.proofs.Laws.Tests.{told, untold}
use Rattle.digits.proofs.Laws.Reads.{answered}
use Rattle.numbers.specs.Paper.ByteValues.{of_twos}
use Rattle.numbers.proofs.Laws.Signs.{raw-fits, back, read_back}
use Rattle.numbers.proofs.Laws.Values.{size, size-most, in-raw, of-twos}
use Rattle.numbers.proofs.Laws.Reading.{unknown-width, other-count, value_read}
use Rattle.numbers.proofs.byte_values.read.Goals as goal

-- the number that the bytes are
is_read : (s : List ℕ) {r : Option ℕ} (n : ℕ) → r ≡ Some n → ReadsNumber s r → Held (length s) n × (low_byte_first (length s) n ≡ s)
is_read s n e h = answered (lit< tt) (subst (ReadsNumber s) e h) refl

pub returns-then-not-is_width : goal.returns-then-not-is_width
returns-then-not-is_width c = unknown-width c.args.width c.args.signed c.args.s.now (untold c.is_width.ensures c.if-not-is_width.true)

pub returns-then-s-width : goal.returns-then-s-width
returns-then-s-width c =
    other-count c.args.width c.args.signed c.args.s.now (told c.is_width.ensures c.if-not-is_width.false) c.if-s-width.true

pub returns-in_default : goal.returns-in_default
returns-in_default c =
    absurd (never-refused c.args.s.now (record { each = λ i. (c.type_inv.s i).fits })
    (subst Width (sym c.if-s-width.false) (told c.is_width.ensures c.if-not-is_width.false))
    c.number_of.ensures (ap number_refusal c.in_default.is))

pub returns : goal.returns
returns c =
    let known = told c.is_width.ensures c.if-not-is_width.false in
    let small = subst (λ (k : ℕ). c.in-Some.n < 256 ^ k) c.if-s-width.false (is_read c.args.s.now c.in-Some.n c.in-Some.is c.number_of.ensures).0.below in
    value_read c.args.width c.args.signed c.args.s.now known c.in-Some.n c.if-s-width.false small (is_read c.args.s.now c.in-Some.n c.in-Some.is c.number_of.ensures).1
    (ap back c.of_twos.ensures ∙ read_back (of_twos c.args.width c.args.signed c.in-Some.n) (raw-fits (of_twos c.args.width c.args.signed c.in-Some.n) (in-raw (size known) (size-most known) (of-twos (size known) c.args.signed c.in-Some.n small).0)))
