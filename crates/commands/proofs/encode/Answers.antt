-- `commands::encode` meets its contract: its tests in the paper's order, and then the message's own writer.
-- Assumes nothing.
use mathlib.Core.Bool.{not}
use mathlib.Core.Path.{sym, ap, ◌∙◌}
use Rattle.frames.specs.Paper.Kinds.{number_of}
use Rattle.commands.proofs.Laws.Encode.{unknown}
use Rattle.commands.proofs.Laws.Widths.{by_width, by-other-kind, by-writer}
use Rattle.commands.proofs.encode.Goals as goal

pub returns-then-not-known : goal.returns-then-not-known
returns-then-not-known c = unknown c.args.kind c.args.message c.args.content.now c.args.room.now (sym c.known.ensures ∙ c.if-not-known.true)

pub returns-then-not-has_width : goal.returns-then-not-has_width
returns-then-not-has_width c = by_width c.args.kind c.args.message c.args.content.now c.args.room.now c.known.ensures c.has_width.ensures (ap not c.if-not-known.false) (ap not c.if-not-has_width.true)

pub returns-then-number-kind : goal.returns-then-number-kind
returns-then-number-kind c = by-other-kind c.args.kind c.args.message c.args.content.now c.args.room.now c.known.ensures c.has_width.ensures (ap not c.if-not-known.false) (ap not c.if-not-has_width.false) (c.number.ensures ∙ ap number_of c.kind_of.ensures) c.if-number-kind.true

pub returns : goal.returns
returns c = by-writer c.args.kind c.args.message c.args.content.now c.args.room.now c.known.ensures c.has_width.ensures (ap not c.if-not-known.false) (ap not c.if-not-has_width.false) (c.number.ensures ∙ ap number_of c.kind_of.ensures) c.write_allowed.result c.if-number-kind.false c.write_allowed.ensures
