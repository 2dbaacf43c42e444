-- 02, K4: "no name twice in an object once escapes are read". RFC 8259, 8.3: names are compared as "sequences of
-- Unicode code units, .. code unit by code unit".
-- Assumes nothing.
use Rattle.std.specs.Prelude.{cond, List, [], ◌∷◌, ◌++◌, ◌≡◌, ℕ, ◌+◌, ◌-◌, ◌*◌, ◌/◌, ◌%◌, ◌≤◌, ◌<◌, ltb, length}
use Rattle.jsontext.specs.Paper.Abnf.{Rule, ◌⨾◌}
use Rattle.jsontext.specs.Paper.Json.{begin-object, end-object, name-separator, value-separator}
use Rattle.jsontext.specs.Paper.Json.{value_with, JSON-text}

-- ---- characters

-- RFC 3629, 3: the bytes of a character
unfoldable pub utf8 : ℕ → List ℕ
utf8 c =
    cond (ltb c 0x80) (c ∷ [])
    (cond (ltb c 0x800) ((0xC0 + c / 64) ∷ (0x80 + c % 64) ∷ [])
    (cond (ltb c 0x10000) ((0xE0 + c / 4096) ∷ (0x80 + c / 64 % 64) ∷ (0x80 + c % 64) ∷ [])
    ((0xF0 + c / 262144) ∷ (0x80 + c / 4096 % 64) ∷ (0x80 + c / 64 % 64) ∷ (0x80 + c % 64) ∷ [])))

-- RFC 2781, 2.1: its code units
unfoldable pub utf16 : ℕ → List ℕ
utf16 c =
    cond (ltb c 0x10000) (c ∷ [])
    ((0xD800 + (c - 0x10000) / 0x400) ∷ (0xDC00 + (c - 0x10000) % 0x400) ∷ [])

-- unescaped = %x20-21 / %x23-5B / %x5_d-10FFFF; RFC 3629, 3: none of D800 to DFFF
pub record Unescaped (c : ℕ) : Type 0 where
  pub low : 0x20 ≤ c
  pub high : c ≤ 0x10FFFF
  pub no-quote : (c ≡ 0x22) → ⊥
  pub no-escape : (c ≡ 0x5C) → ⊥
  pub no_surrogate : (0xD800 ≤ c) × (c ≤ 0xDFFF) → ⊥

-- what stands behind `\`, and what it means: %x62 is backspace U+0008, and so on
pub data Short : ℕ → ℕ → Type 0 where
  quotation-mark : Short 0x22 0x22
  reverse-solidus : Short 0x5C 0x5C
  solidus : Short 0x2F 0x2F
  backspace : Short 0x62 0x08
  form-feed : Short 0x66 0x0C
  line-feed : Short 0x6E 0x0A
  carriage-return : Short 0x72 0x0D
  tab : Short 0x74 0x09

-- a hex digit of either case, and its value
pub data Hex : ℕ → ℕ → Type 0 where
  digit : {v : ℕ} → v < 10 → Hex (0x30 + v) v
  upper : {v : ℕ} → v < 6 → Hex (0x41 + v) (10 + v)
  lower : {v : ℕ} → v < 6 → Hex (0x61 + v) (10 + v)

-- char: its bytes in the text, and its code units
pub data Char : List ℕ → List ℕ → Type 0 where
  unescaped : {c : ℕ} → Unescaped c → Char (utf8 c) (utf16 c)
  escaped : {b v : ℕ} → Short b v → Char (0x5C ∷ b ∷ []) (v ∷ [])
  code : {a b c d p q r s : ℕ} → Hex a p → Hex b q → Hex c r → Hex d s
      → Char (0x5C ∷ 0x75 ∷ a ∷ b ∷ c ∷ d ∷ []) ((p * 4096 + q * 256 + r * 16 + s) ∷ [])

pub data Chars : List ℕ → List ℕ → Type 0 where
  none : Chars [] []
  more : {w us x vs : List ℕ} → Char w us → Chars x vs → Chars (w ++ x) (us ++ vs)

-- string = quotation-mark *char quotation-mark, with its code units
pub data spelt (us : List ℕ) : List ℕ → List ℕ → Type 0 where
  quoted : {x s t : List ℕ} → Chars x us → s ≡ 0x22 ∷ (x ++ (0x22 ∷ t)) → spelt us s t

-- ---- objects

-- a member: its name's code units, its value as it is spelt, and how many bytes stand behind that
pub record Member : Type 0 where
  pub name : List ℕ
  pub value : List ℕ
  pub behind : ℕ

unfoldable pub names : List Member → List (List ℕ)
names [] = []
names (m ∷ ms) = m.name ∷ names ms

-- member = string name-separator value
pub data member (value : Rule) (m : Member) : List ℕ → List ℕ → Type 0 where
  is : {s a b t : List ℕ} → spelt m.name s a → name-separator a b → value b t → b ≡ m.value ++ t
      → m.behind ≡ length t → member value m s t

-- *( value-separator member )
pub data further (value : Rule) : List Member → List ℕ → List ℕ → Type 0 where
  done : {s : List ℕ} → further value [] s s
  next : {m : Member} {ms : List Member} {s a b t : List ℕ}
      → value-separator s a → member value m a b → further value ms b t → further value (m ∷ ms) s t

-- [ member *( value-separator member ) ]
pub data members (value : Rule) : List Member → List ℕ → List ℕ → Type 0 where
  none : {s : List ℕ} → members value [] s s
  some : {m : Member} {ms : List Member} {s a t : List ℕ}
      → member value m s a → further value ms a t → members value (m ∷ ms) s t

-- object = begin-object [ member *( value-separator member ) ] end-object, with these members
abbrev pub object_of : Rule → List Member → Rule
object_of value ms = begin-object ⨾ members value ms ⨾ end-object

-- "no name twice": a name is none of those, and so of each
pub data Other (name : List ℕ) : List (List ℕ) → Type 0 where
  none : Other name []
  and : {n : List ℕ} {ns : List (List ℕ)} → ((name ≡ n) → ⊥) → Other name ns → Other name (n ∷ ns)

pub data Once : List (List ℕ) → Type 0 where
  none : Once []
  and : {n : List ℕ} {ns : List (List ℕ)} → Other n ns → Once ns → Once (n ∷ ns)

-- an object whose members are as is asked; one with no name twice
abbrev pub object_with : (List Member → Type 0) → Rule → Rule
object_with Asked value s t = (ms : List Member) × (Asked ms) × object_of value ms s t

abbrev pub object_once : Rule → Rule
object_once = object_with (λ ms. Once (names ms))

-- 02, K4: "UTF-8 texts up to 8,192 bytes", "exactly the grammar of RFC 8259 with values nested at most 16 deep .. and
-- no name twice in an object"
abbrev pub most_bytes : ℕ
most_bytes = 8192

abbrev pub most_depth : ℕ
most_depth = 16

pub record InGrammar (s : List ℕ) : Type 0 where
  pub short : length s ≤ most_bytes
  pub text : JSON-text (value_with object_once most_depth) s
