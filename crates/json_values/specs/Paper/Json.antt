-- 01, "JSON and the listing program": the values of a line, and objects of them.
-- Assumes nothing.
use Rattle.std.specs.Prelude.{Bool, true, false, cond, ◌||◌, List, [], ◌∷◌, ◌++◌, ℕ, eqb, ltb, ℤ}
use Rattle.digits.specs.Paper.Ascii.{ascii}
use Rattle.digits.specs.Paper.Decimal.{decimal}
use Rattle.digits.specs.Paper.Hex.{hex_byte, hex_bytes}
use Rattle.numbers.specs.Paper.Single.{fits_single}
use Rattle.numbers.specs.Paper.Text.{text}

-- ---- strings

-- "All else are strings": what stands between two quotes
abbrev pub quoted : List ℕ → List ℕ
quoted t = 34 ∷ (t ++ (34 ∷ []))

-- "addr, out and data in upper-case hex"
abbrev pub hex : List ℕ → List ℕ
hex s = quoted (hex_bytes s)

-- "text and Homiq fields one character a byte, with `"` and `\` escaped by `\` and bytes outside 0x20 to 0x7E as
-- `\u00` and two upper-case digits"
unfoldable pub escaped : ℕ → List ℕ
escaped b =
    cond (eqb b 34 || eqb b 92) (ascii "\\" ++ (b ∷ []))
    (cond (ltb b 0x20 || ltb 0x7E b) (ascii "\\u00" ++ hex_byte b)
    (b ∷ []))

unfoldable pub each_escaped : List ℕ → List ℕ
each_escaped [] = []
each_escaped (b ∷ s) = escaped b ++ each_escaped s

abbrev pub chars : List ℕ → List ℕ
chars s = quoted (each_escaped s)

-- ---- numbers, and what is true or false

-- "Whole numbers .. are JSON numbers"
abbrev pub number : ℕ → List ℕ
number n = decimal n

abbrev pub truth : Bool → List ℕ
truth true = ascii "true"
truth false = ascii "false"

-- ---- objects

-- a member: its name, and its value as it is spelt
pub record Member : Type 0 where
  pub name : List ℕ
  pub value : List ℕ

infixl 70 ◌∶◌
abbrev pub ◌∶◌ : List ℕ → List ℕ → Member
n ∶ v = record { name = n; value = v }

abbrev pub member : Member → List ℕ
member m = quoted m.name ++ (58 ∷ m.value)

-- "no spaces": `{`, the members with `,` between them, `}`
unfoldable pub further : List Member → List ℕ
further [] = ascii "}"
further (m ∷ ms) = 44 ∷ (member m ++ further ms)

unfoldable pub object : List Member → List ℕ
object [] = ascii "{}"
object (m ∷ ms) = 123 ∷ (member m ++ further ms)

-- ---- arrays

-- 02, K2: "a list of `{"reg":..,"value":..}`": `[`, the values as they are spelt, with `,` between them, `]`
unfoldable pub further_values : List (List ℕ) → List ℕ
further_values [] = ascii "]"
further_values (v ∷ vs) = 44 ∷ (v ++ further_values vs)

unfoldable pub array : List (List ℕ) → List ℕ
array [] = ascii "[]"
array (v ∷ vs) = 91 ∷ (v ++ further_values vs)

-- "A reading is `{"raw":-125,"dec":1,"text":"-12.5","f32":true}`; f32 says whether raw fits a single"
unfoldable pub reading : ℤ → ℕ → List ℕ
reading z d =
    object
    (ascii "raw" ∶ text z 0
    ∷ ascii "dec" ∶ number d
    ∷ ascii "text" ∶ quoted (text z d)
    ∷ ascii "f32" ∶ truth (fits_single z)
    ∷ [])
