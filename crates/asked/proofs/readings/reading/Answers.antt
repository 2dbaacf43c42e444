-- `readings::reading` meets its contract, member by member: each that is missing or disagrees is no reading.
-- Assumes nothing.
use Rattle.std.proofs.lemmas.Result.{err_from_is_err_and}
use mathlib.Core.Path.{sym, ap, ◌∙◌, subst}
use Rattle.std.specs.Prelude.{Err}
use lib.IntN.{ℤ}
use Rattle.digits.proofs.Laws.Tests.{told, untold}
use Rattle.numbers.proofs.Laws.Signs.{raw-fits}
use Rattle.numbers.specs.Paper.Raw.{Raw}
use Rattle.asked.proofs.Laws.Lift.{lifted, is_held, reason-at}
use Rattle.asked.proofs.Laws.Agree.{was_read}
use Rattle.asked.proofs.Laws.Numbers.{raw-back, read-within}
use Rattle.asked.proofs.Laws.Measured.{not-four, not-dec, not-single, not-raw, not-fits, not-text, all-agree, whole-so, beyond-so}
use Rattle.asked.proofs.readings.reading.Goals as goal

pub returns-then-not-has_four : goal.returns-then-not-has_four
returns-then-not-has_four c =
    not-four (untold c.has_four.ensures c.if-not-has_four.true)

pub returns-then-not-has_decimals : goal.returns-then-not-has_decimals
returns-then-not-has_decimals c =
    not-dec (untold c.has_decimals.ensures c.if-not-has_decimals.true)

pub returns-in_err-single : goal.returns-in_err-single
returns-in_err-single c =
    let p = err_from_is_err_and c.from_residual.result c.from_residual.ensures.1 in
    rw (p.1, p.2) (not-single (lifted c.value.ensures c.in_err-single.ensures))

pub returns-in-Err-NoValue : goal.returns-in-Err-NoValue
returns-in-Err-NoValue c =
    not-raw (lifted c.value-2.ensures (reason-at _ c.whole.ensures (c.in-Err-NoValue.is ∙ ap Err c.in-Err-NoValue.field-0-is)))

pub is_pointed-agrees-requires : goal.is_pointed-agrees-requires
is_pointed-agrees-requires c =
    c.requires.0

pub returns-in-Err-Large : goal.returns-in-Err-Large
returns-in-Err-Large c =
    beyond-so c.requires.1 c.requires.2 c.requires.0 (told c.has_four.ensures c.if-not-has_four.false) (told c.has_decimals.ensures c.if-not-has_decimals.false)
    (was_read (lifted c.value.ensures c.in_ok-single.ensures)).1
    (lifted c.value-2.ensures (reason-at _ c.whole.ensures (c.in-Err-Large.is ∙ ap Err c.in-Err-Large.field-0-is)))
    c.value-written.ensures c.value-in-Err-Large.ensures c.is_pointed-agrees.ensures c.beyond.ensures

pub returns-then-not-fits_so : goal.returns-then-not-fits_so
returns-then-not-fits_so c =
    not-fits ((was_read (lifted c.value-2.ensures c.in-Ok.ensures)).1) (is_held c.in-Ok.ensures) ((was_read (lifted c.value.ensures c.in_ok-single.ensures)).1) (untold c.fits_so.ensures c.if-not-fits_so.true)

pub is_text-requires : goal.is_text-requires
is_text-requires c =
    let r = is_held c.in-Ok.ensures in (subst (λ (z : ℤ). Raw z) (sym (raw-back r)) r, c.requires.0)

pub returns-then-not-is_text : goal.returns-then-not-is_text
returns-then-not-is_text c =
    not-text ((was_read (lifted c.value-2.ensures c.in-Ok.ensures)).1) (is_held c.in-Ok.ensures) c.value-written.ensures (untold c.is_text.ensures c.if-not-is_text.true)

pub returns : goal.returns
returns c =
    let z = is_held c.in-Ok.ensures in
    let n = read-within (raw-fits _ z) c.ranges.least c.ranges.most c.within.ensures in
    whole-so (all-agree ((was_read (lifted c.value-2.ensures c.in-Ok.ensures)).1) z (told c.has_four.ensures c.if-not-has_four.false) (told c.has_decimals.ensures c.if-not-has_decimals.false) ((was_read (lifted c.value.ensures c.in_ok-single.ensures)).1)
    (told c.fits_so.ensures c.if-not-fits_so.false) c.value-written.ensures (told c.is_text.ensures c.if-not-is_text.false)) n
