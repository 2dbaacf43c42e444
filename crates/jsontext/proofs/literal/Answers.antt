-- `literal` meets its contract.
-- Assumes nothing.
use native.Mathlib.Omega.{arith}
use Rattle.std.specs.Cmp.Lexicographic.{same_text, other_text}
use Rattle.std.proofs.Common.{rules}
use Rattle.jsontext.proofs.Laws.Texts.{short, differs, equals}
use Rattle.jsontext.proofs.literal.Goals as goal

pub returns-then-s-p : goal.returns-then-s-p
returns-then-s-p c = short c.args.w.now (omega arith) (omega arith)

pub returns-then-not-starts_with : goal.returns-then-not-starts_with
returns-then-not-starts_with c = differs c.args.w.now (other_text _ _ c.if-not-starts_with.ensures.value)

pub returns : goal.returns
returns c =
    equals c.args.w.now c.requires (c.if-not-starts_with.ensures.bound (search rules)) c.if-s-p.false
    (same_text _ _ c.if-not-starts_with.ensures.value)
