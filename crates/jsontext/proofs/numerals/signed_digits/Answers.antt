-- `numerals::signed_digits` meets its contract.
-- Assumes nothing.
use Rattle.jsontext.proofs.Laws.Numbers.{passed_then}
use Rattle.jsontext.proofs.numerals.signed_digits.Goals as goal

pub returns : goal.returns
returns c = passed_then c.behind_sign.ensures c.some_digits.ensures
