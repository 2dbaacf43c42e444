-- `json_values::code` meets its contract: the last two of the six characters are the digits of the byte.
-- Assumes nothing.
use mathlib.Core.List.{List, ◌++◌}
use mathlib.Core.Path.{ap}
use Prim.Native.Nat.{ℕ}
use native.Mathlib.Omega.{arith}
use Rattle.digits.proofs.Laws.Hex.{byte-digits}
use Rattle.digits.specs.Paper.Ascii.{ascii}
use Rattle.puts.proofs.Laws.Puts.{puts-as}
use Rattle.json_values.proofs.code.Goals as goal

pub returns : goal.returns
returns c =
    puts-as (ap (λ (l : List ℕ). ascii "\\u00" ++ l) (byte-digits c.args.b _ _ (omega arith) c.digit.ensures c.digit-2.ensures)) c.bytes.ensures
