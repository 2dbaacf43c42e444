-- `sorts::spells` meets its contract.
-- Assumes nothing.
use native.Mathlib.Omega.{arith}
use Rattle.shapes.specs.Paper.Shapes.{number, bytes, digits, content, string, bool, measured}
use Rattle.asked.proofs.Laws.Sorted.{some-spelt, as-coded, no-sort, few-of, so-many}
use borrow.Author.Rules.{rules}
use Rattle.asked.proofs.sorts.spells.Goals as goal

pub reading-requires : goal.reading-requires
reading-requires c = (few-of c.in-Reading.is c.requires, search rules, search rules)

pub returns-in-Nothing : goal.returns-in-Nothing
returns-in-Nothing c = no-sort _ c.in-Nothing.is

pub returns-in-Number : goal.returns-in-Number
returns-in-Number c = as-coded _ number c.in-Number.is (some-spelt _ _ c.whole.ensures c.is_spelt.ensures)

pub returns-in-Bytes : goal.returns-in-Bytes
returns-in-Bytes c = as-coded _ (bytes _) c.in-Bytes.is (so-many bytes (omega arith) c.are_bytes.ensures)

pub returns-in-Digits : goal.returns-in-Digits
returns-in-Digits c = as-coded _ (digits _) c.in-Digits.is (so-many digits (omega arith) c.are_digits.ensures)

pub returns-in-Content : goal.returns-in-Content
returns-in-Content c = as-coded _ content c.in-Content.is (some-spelt _ _ c.hex.ensures.reads c.is_spelt-in-Content.ensures)

pub returns-in-Text : goal.returns-in-Text
returns-in-Text c = as-coded _ string c.in-Text.is (some-spelt _ _ c.chars.ensures.reads c.is_spelt-in-Text.ensures)

pub returns-in-Truth : goal.returns-in-Truth
returns-in-Truth c = as-coded _ bool c.in-Truth.is (some-spelt _ _ c.truth.ensures c.is_spelt-in-Truth.ensures)

pub returns-in-Reading : goal.returns-in-Reading
returns-in-Reading c = as-coded _ (measured _) c.in-Reading.is (some-spelt _ _ c.reading.ensures c.is_spelt-in-Reading.ensures)
