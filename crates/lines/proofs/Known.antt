-- Document 01's lines, byte for byte, by computation.
-- Assumes nothing.
use mathlib.Core.List.{[], ◌∷◌}
use mathlib.Core.Path.{◌≡◌, refl}
use Rattle.digits.specs.Paper.Ascii.{ascii}
use Rattle.digits.specs.Paper.Decimal.{decimal, decimal_in, enough}
use Rattle.digits.specs.Paper.Hex.{hex_digit, hex_byte, hex_bytes}
use Rattle.json_values.specs.Paper.Json.{escaped, each_escaped, object, further}
use Rattle.messages.specs.Paper.Message.{read, command, text}
use Rattle.lines.specs.Paper.Line.{members, line}

-- 01, "JSON and the listing program": the first line of its example
reset : line 0 9 (command 255 []) ≡ ascii "{\"at\":0,\"len\":9,\"msg\":\"command\",\"id\":255,\"data\":\"\"}\n"
unfolding line members object further decimal decimal_in enough hex_bytes
reset = refl

-- known point (b): "read, group 1, 4707", whose address is sent as 07 47
address : line 0 16 (read 1 0x4707) ≡ ascii "{\"at\":0,\"len\":16,\"msg\":\"read\",\"group\":1,\"addr\":\"4707\"}\n"
unfolding line members object further decimal decimal_in enough hex_bytes hex_byte hex_digit
address = refl

-- "`"` and `\` escaped by `\` and bytes outside 0x20 to 0x7E as `\u00` and two upper-case digits"
escapes : line 0 15 (text 1 (34 ∷ 92 ∷ 0x1F ∷ 0x7F ∷ 65 ∷ [])) ≡ ascii "{\"at\":0,\"len\":15,\"msg\":\"text\",\"id\":1,\"text\":\"\\\"\\\\\\u001F\\u007FA\"}\n"
unfolding line members object further decimal decimal_in enough escaped each_escaped hex_byte hex_digit
escapes = refl
