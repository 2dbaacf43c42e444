-- The grammar as a reader goes through it: the next byte says which way, and blanks and digits are read to their last.
-- Assumes nothing.
use Rattle.std.specs.Prelude.{Bool, true, false, cond, ◌||◌, List, [], ◌∷◌, ◌≡◌, ◌⊎◌, ℕ, zero, suc, ◌≤◌, eqb, ltb}
use Rattle.digits.specs.Paper.Ascii.{ascii}
use Rattle.jsontext.specs.Paper.Abnf.{Rule, byte, range, text, many, ◌⨾◌, ◌∕◌}
use Rattle.jsontext.specs.Paper.Names.{Once}
use Rattle.jsontext.specs.Work.Units.{name_in}
use Rattle.jsontext.specs.Paper.Json.{blank, DIGIT, digit1-9, e, minus, HEXDIG, UTF8-tail, string}

-- s does not begin with what the rule derives
abbrev pub Without : Rule → List ℕ → Type 0
Without a s = (t : List ℕ) → a s t → ⊥

-- as many as there are
pub record All (a : Rule) (s t : List ℕ) : Type 0 where
  pub all : many a s t
  pub no_more : Without a t

-- the four blanks
abbrev pub IsBlank : ℕ → Type 0
IsBlank b = (b ≡ 0x20) ⊎ (b ≡ 0x09) ⊎ (b ≡ 0x0A) ⊎ (b ≡ 0x0D)

abbrev pub Blanks : Rule
Blanks = All blank

-- the rule, or nothing where s does not begin so
abbrev pub Opt : Rule → Rule → Rule
Opt begin a s t = a s t ⊎ ((s ≡ t) × Without begin s)

-- ---- numbers

abbrev pub Digits : Rule
Digits = DIGIT ⨾ All DIGIT

abbrev pub Int : Rule
Int = byte 0x30 ∕ (digit1-9 ⨾ All DIGIT)

abbrev pub Frac : Rule
Frac = Opt (byte 0x2E) (byte 0x2E ⨾ Digits)

abbrev pub sign : Rule
sign = minus ∕ byte 0x2B

abbrev pub Exp : Rule
Exp = Opt e (e ⨾ Opt sign sign ⨾ Digits)

unfoldable pub Number : Rule
Number = Opt minus minus ⨾ Int ⨾ Frac ⨾ Exp

-- a first byte, and what stands behind it
pub data Lead (f : ℕ → Rule) : List ℕ → List ℕ → Type 0 where
  lead : {b : ℕ} {s u t : List ℕ} → s ≡ b ∷ u → f b u t → Lead f s t

-- ---- strings: what stands behind the first byte of a character

abbrev pub nothing : Rule
nothing s t = ⊥

abbrev pub done : Rule
done s t = s ≡ t

-- behind `\`: `u` and four digits, or one of eight
unfoldable pub is_short : ℕ → Bool
is_short b =
    eqb b 0x22
    || (eqb b 0x5C || (eqb b 0x2F || (eqb b 0x62 || (eqb b 0x66 || (eqb b 0x6E || (eqb b 0x72 || eqb b 0x74))))))

abbrev pub four : Rule
four = HEXDIG ⨾ HEXDIG ⨾ HEXDIG ⨾ HEXDIG

unfoldable pub escapes : ℕ → Rule
escapes b = cond (eqb b 0x75) four (cond (is_short b) done nothing)

abbrev pub IsHex : ℕ → Type 0
IsHex b = ((0x30 ≤ b) × (b ≤ 0x39)) ⊎ (((0x41 ≤ b) × (b ≤ 0x46)) ⊎ ((0x61 ≤ b) × (b ≤ 0x66)))

abbrev pub two : ℕ → ℕ → Rule
two low high = range low high ⨾ UTF8-tail

abbrev pub three : ℕ → ℕ → Rule
three low high = range low high ⨾ UTF8-tail ⨾ UTF8-tail

unfoldable pub follow : ℕ → Rule
follow b =
    cond (eqb b 0x5C) (Lead escapes)
    (cond (ltb b 0x20) nothing
    (cond (eqb b 0x22) nothing
    (cond (ltb b 0x80) done
    (cond (ltb b 0xC2) nothing
    (cond (ltb b 0xE0) UTF8-tail
    (cond (eqb b 0xE0) (two 0xA0 0xBF)
    (cond (eqb b 0xED) (two 0x80 0x9F)
    (cond (ltb b 0xF0) (two 0x80 0xBF)
    (cond (eqb b 0xF0) (three 0x90 0xBF)
    (cond (ltb b 0xF4) (three 0x80 0xBF)
    (cond (eqb b 0xF4) (three 0x80 0x8F)
    nothing)))))))))))

abbrev pub Char : Rule
Char = Lead follow

-- ---- arrays and objects

-- each with blanks behind it, `,` between them, and the bracket at the end
pub data Elements (one : Rule) (close : ℕ) : List ℕ → List ℕ → Type 0 where
  last : {s m n t : List ℕ} → one s m → Blanks m n → n ≡ close ∷ t → Elements one close s t
  next : {s m n u w t : List ℕ} → one s m → Blanks m n → n ≡ 0x2C ∷ u → Blanks u w → Elements one close w t
      → Elements one close s t

-- what stands behind the opening bracket
pub data Rest (one : Rule) (close : ℕ) : List ℕ → List ℕ → Type 0 where
  empty : {s m t : List ℕ} → Blanks s m → m ≡ close ∷ t → Rest one close s t
  full : {s m t : List ℕ} → Blanks s m → Without (byte close) m → Elements one close m t → Rest one close s t

pub data Member (value : Rule) : List ℕ → List ℕ → Type 0 where
  member : {s a b c d t : List ℕ} → string s a → Blanks a b → b ≡ 0x3A ∷ c → Blanks c d → value d t
      → Member value s t

-- the names of what stands between brackets, from the first on
unfoldable pub names_in : {one : Rule} {close : ℕ} {s t : List ℕ} → Elements one close s t → List (List ℕ)
names_in (last {s = s} o b e) = name_in s ∷ []
names_in (next {s = s} o b e c r) = name_in s ∷ names_in r

unfoldable pub names_of : {one : Rule} {close : ℕ} {s t : List ℕ} → Rest one close s t → List (List ℕ)
names_of (empty b e) = []
names_of (full b w r) = names_in r

-- no name twice, if names are compared
abbrev pub Compared : Bool → List (List ℕ) → Type 0
Compared true ns = Once ns
Compared false ns = Unit

-- what stands behind the opening bracket of an object
pub record Object (names : Bool) (value : Rule) (s t : List ℕ) : Type 0 where
  pub members : Rest (Member value) 0x7D s t
  pub once : Compared names (names_of members)

-- ---- values, by their first byte; whether names are compared comes first

unfoldable pub leads : Bool → Rule → ℕ → Rule
leads names value b u t =
    cond (eqb b 0x22) (string (b ∷ u) t)
    (cond (eqb b 0x7B) (Object names value u t)
    (cond (eqb b 0x5B) (Rest value 0x5D u t)
    (cond (eqb b 0x74) (text (ascii "true") (b ∷ u) t)
    (cond (eqb b 0x66) (text (ascii "false") (b ∷ u) t)
    (cond (eqb b 0x6E) (text (ascii "null") (b ∷ u) t)
    (Number (b ∷ u) t))))))

unfoldable pub tight : Bool → ℕ → Rule
tight names zero = nothing
tight names (suc d) = Lead (leads names (tight names d))
