-- How long the values of a line are, and objects of them.
-- Assumes nothing.
use mathlib.Core.Bool.{Bool, true, false, cond, ◌||◌}
use mathlib.Core.List.{List, [], ◌∷◌, ◌++◌}
use mathlib.Core.Path.{◌≡◌, refl}
use Prim.Native.Nat.{ℕ, ◌+◌, ◌*◌, ◌^◌, ◌≤◌, ◌<◌}
use native.Mathlib.Omega.{arith}
use lib.Dec.{eqb, ltb}
use lib.IntN.{ℤ, nat_abs}
use lib.ListN.{length, length-append}
use Rattle.digits.specs.Paper.Ascii.{ascii}
use Rattle.digits.specs.Paper.Decimal.{decimal}
use Rattle.digits.specs.Paper.Hex.{hex_byte, hex_bytes}
use Rattle.digits.proofs.Laws.Decimal.{length-decimal}
use Rattle.digits.proofs.Laws.Hex as hexes
use Rattle.numbers.specs.Paper.Raw.{most_decimals}
use Rattle.numbers.specs.Paper.Single.{fits_single}
use Rattle.numbers.specs.Paper.Text.{below_zero, text}
use Rattle.numbers.proofs.Laws.Text.{text-short}
use Rattle.json_values.specs.Paper.Json.{quoted, hex, escaped, each_escaped, chars, truth, Member, ◌∶◌, member, further, object, reading}

-- ---- values

pub length-quoted : (t : List ℕ) → length (quoted t) ≡ length t + 2
length-quoted t = omega (arith, length-append t (34 ∷ []))

pub length-hex : (s : List ℕ) → length (hex s) ≡ length s * 2 + 2
length-hex s = omega (arith, length-quoted (hex_bytes s), hexes.length-hex s)

-- a character, `\` and it, or `\u00` and two digits
length-escaped : (b : ℕ) → length (escaped b) ≤ 6
unfolding escaped hex_byte
length-escaped b = go (eqb b 34 || eqb b 92) (ltb b 0x20 || ltb 0x7E b)
  where
    go : (p q : Bool) → length (cond p (ascii "\\" ++ (b ∷ [])) (cond q (ascii "\\u00" ++ hex_byte b) (b ∷ []))) ≤ 6
    go true q = omega arith
    go false true = omega arith
    go false false = omega arith

length-each : (s : List ℕ) → length (each_escaped s) ≤ 6 * length s
unfolding each_escaped
length-each [] = omega arith
length-each (b ∷ s) = omega (arith, length-append (escaped b) (each_escaped s), length-escaped b, length-each s)

pub length-chars : (s : List ℕ) → length (chars s) ≤ 6 * length s + 2
length-chars s = omega (arith, length-quoted (each_escaped s), length-each s)

pub length-truth : (b : Bool) → length (truth b) ≤ 5
length-truth true = omega arith
length-truth false = omega arith

-- ---- objects

-- the characters of so many members, with a `,` or a `{` before each
unfoldable pub total : List Member → ℕ
total [] = 0
total (m ∷ ms) = length m.name + length m.value + 4 + total ms

length-member : (m : Member) → length (member m) ≡ length m.name + length m.value + 3
length-member m = omega (arith, length-append (quoted m.name) (58 ∷ m.value), length-quoted m.name)

length-further : (ms : List Member) → length (further ms) ≡ total ms + 1
unfolding further total
length-further [] = refl
length-further (m ∷ ms) = omega (arith, length-append (member m) (further ms), length-member m, length-further ms)

pub length-object : (m : Member) (ms : List Member) → length (object (m ∷ ms)) ≡ total (m ∷ ms) + 1
unfolding object total
length-object m ms = omega (arith, length-append (member m) (further ms), length-member m, length-further ms)

-- two texts of at most 12 characters, a digit, true or false, and what stands between them
pub length-reading : (z : ℤ) (d : ℕ) → nat_abs z < 2 ^ 32 → d ≤ most_decimals → length (reading z d) ≤ 62
unfolding reading total
length-reading z d h k =
    let whole = text-short (below_zero z) (nat_abs z) 0 h (omega arith) in
    let shown = text-short (below_zero z) (nat_abs z) d h k in
    let tenth : length (decimal d) ≤ 1 = length-decimal 0 d (omega arith) in
    omega (arith, length-object (ascii "raw" ∶ text z 0) (ascii "dec" ∶ decimal d ∷ ascii "text" ∶ quoted (text z d) ∷ ascii "f32" ∶ truth (fits_single z) ∷ []), length-quoted (text z d), length-truth (fits_single z))
