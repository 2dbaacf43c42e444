-- A known sheet, its map and its data, computed.
-- Assumes nothing.
use mathlib.Core.Path.{◌≡◌, refl, ap}
use mathlib.Core.Bool.{true, false}
use mathlib.Core.List.{List, [], ◌∷◌}
use mathlib.Core.Option.{none, some}
use Prim.Native.Nat.{ℕ, ◌<◌}
use native.Mathlib.Omega.{arith}
use lib.Dec.{lit<, lit≤}
use lib.IntN.{pos, negsuc}
use lib.ListN.{length}
use Rattle.digits.specs.Paper.Ascii.{ascii}
use Rattle.digits.specs.Paper.Decimal.{decimal, decimal_in, enough}
use Rattle.digits.specs.Paper.LowFirst.{one, low_byte_first}
use Rattle.numbers.proofs.Laws.Values.{size, in_held, plain, lower}
use Rattle.sheet.specs.Paper.Sheet.{Row, type_name, fields, sheet, Sheet, done, next, find}
use Rattle.sheet.specs.Paper.Map.{type_number, type_byte, type_of_byte, in_byte, lookup_in}
use Rattle.sheet.specs.Paper.Split.{Pair, data_of, Listed, Splits, pair_bytes, Pairs}
use Rattle.sheet.specs.Paper.Split as split
use Rattle.sheet.specs.Paper.Split.{Unsolicited}
use Rattle.sheet.specs.Paper.Fault.{count, no-last-LF}
use Rattle.sheet.proofs.Laws.FirstPair.{tens-length}
use Rattle.sheet.proofs.Laws.Pairs.{uncons, no_bytes}
use Rattle.sheet.proofs.Laws.Scans.{begins, passes-each, of-sheet}
use Rattle.sheet.proofs.Laws.Tens.{listed-first}
use Rattle.sheet.proofs.Laws.Widths.{eight}

-- the outdoor temperature in tenths, and a byte without a sign
abbrev rows : List Row
rows =
    record { register = 40004; is = record { width = 2; signed = true; decimals = 1 } }
    ∷ record { register = 47011; is = record { width = 1; signed = false; decimals = 0 } }
    ∷ []

pub text : sheet rows ≡ ascii "40004,s16,1\n47011,u8,0\n"
unfolding sheet fields type_name decimal decimal_in enough
text = refl

-- 1 + 4 × 3 + 1 and 1 + 4 × 0 + 0
pub bytes : (type_byte (record { width = 2; signed = true; decimals = 1 }) ≡ 14) × (in_byte 14 ≡ some (record { width = 2; signed = true; decimals = 1 }))
unfolding type_byte type_number in_byte type_of_byte
bytes = (refl, refl)

-- −12.5 and 10
abbrev pairs : List Pair
pairs = record { register = 40004; raw = negsuc 124 } ∷ record { register = 47011; raw = pos 10 } ∷ []

pub content : data_of (find rows) pairs ≡ 0x44 ∷ 0x9C ∷ 0x83 ∷ 0xFF ∷ 0xA3 ∷ 0xB7 ∷ 0x0A ∷ []
unfolding data_of find low_byte_first
content = refl

pub ten-each :
    pair_bytes pairs
    ≡ 0x44 ∷ 0x9C ∷ 0x83 ∷ 0xFF ∷ 0xFF ∷ 0xFF ∷ 0xFF ∷ 0xFF ∷ 0xFF ∷ 0xFF
    ∷ 0xA3 ∷ 0xB7 ∷ 0x0A ∷ 0 ∷ 0 ∷ 0 ∷ 0 ∷ 0 ∷ 0 ∷ 0
    ∷ []
unfolding pair_bytes low_byte_first
ten-each = refl

-- ---- a cause of each refusal

-- "x" is no sheet: it has no LF
pub no-sheet : (rows : List Row) → Sheet (ascii "x") rows → ⊥
unfolding sheet count
no-sheet [] w = omega (arith, ap length w.written)
no-sheet (r ∷ rows) w = passes-each (begins (of-sheet w)) 7 (no-last-LF (λ h. omega arith))

pub empty : Sheet [] []
unfolding sheet
empty = record { written = refl; rising = done; few = lit≤ tt }

pub not_found : find [] 0 ≡ none
unfolding find
not_found = refl

pub not-in-map : lookup_in [] 0 ≡ none
unfolding lookup_in in_byte
not-in-map = refl

pub no-command : Unsolicited 0 → ⊥
no-command u = u.is

pub no-split : (pairs : List Pair) → Splits (find []) (0 ∷ []) pairs → ⊥
no-split [] w = omega (arith, ap length (no_bytes w))
no-split (p ∷ pairs) w = let u = uncons w in omega (arith, u.first.whole)

-- register 0 is one byte
abbrev zero_row : Row
zero_row = record { register = 0; is = record { width = 1; signed = false; decimals = 0 } }

abbrev pub zero_text : List ℕ
zero_text = sheet (zero_row ∷ [])

pub zero-sheet : Sheet zero_text (zero_row ∷ [])
zero-sheet =
    record {
      written = refl;
      rising = next (record { register = lit< tt; width = one; decimals = lit≤ tt }) (lit≤ tt) done;
      few = lit≤ tt;
    }

-- and it is 0
abbrev zero_pair : Pair
zero_pair = record { register = 0; raw = pos 0 }

abbrev pub zero_data : List ℕ
zero_data = 0 ∷ 0 ∷ 0 ∷ []

pub zero-splits : Splits (find (zero_row ∷ [])) zero_data (zero_pair ∷ [])
unfolding find data_of low_byte_first
zero-splits =
    record {
      held = split.and {t = record { width = 1; signed = false; decimals = 0 }} refl
          (record { register = lit< tt; width = one; value = in_held (size one) (plain (lit< tt)) }) split.end;
      written = refl;
    }

pub zero-bytes : 0 < length (pair_bytes (zero_pair ∷ []))
zero-bytes = omega (arith, tens-length (zero_pair ∷ []))

abbrev pub zero_ten : List ℕ
zero_ten = 0 ∷ 0 ∷ 0 ∷ 0 ∷ 0 ∷ 0 ∷ 0 ∷ 0 ∷ 0 ∷ 0 ∷ []

pub zero-pairs : Pairs zero_ten (zero_pair ∷ [])
unfolding pair_bytes low_byte_first
zero-pairs =
    record {
      limits = split.and (record { register = lit< tt; raw = in_held eight (lower (lit< tt)) }) split.end;
      written = refl;
    }

pub not_listed : Listed (find []) (zero_pair ∷ []) → ⊥
not_listed l = listed-first l not_found
