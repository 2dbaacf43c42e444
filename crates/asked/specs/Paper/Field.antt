-- 02, K4: "Numbers and hex are spelt as in 01, strings read with their escapes; a reading's raw, dec, text and f32 must
-- agree". How each value of a command's members is spelt, and an object with such members.
-- Assumes nothing.
use Rattle.std.specs.Prelude.{Bool, List, [], ◌∷◌, ◌≡◌, ℕ, ℤ, pos, length}
use Rattle.digits.specs.Paper.Ascii.{ascii}
use Rattle.digits.specs.Paper.Bytes.{Bytes}
use Rattle.digits.specs.Paper.Hex.{hex_bytes}
use Rattle.numbers.specs.Paper.Raw.{Raw}
use Rattle.numbers.specs.Paper.Single.{fits_single}
use Rattle.numbers.specs.Paper.Text.{text}
use Rattle.json_values.specs.Paper.Json as json
use Rattle.jsontext.specs.Paper.Members.{IsObject, FirstNamed, CountOf, IsString}
use Rattle.jsontext.specs.Paper.Names.{Member, InGrammar}
use Rattle.shapes.specs.Paper.Fields.{Named, ◌∶◌, Plain, whole, hex, chars, truth, Field, plain, reading}

-- ---- members of an object, in any order

-- the object s has the member: the first with its name, and so spelt
pub record Has {A : Type 0} (Spells : List ℕ → A → Type 0) (s : List ℕ) (f : Named A) : Type 0 where
  pub members : List Member
  pub object : IsObject s members
  pub member : Member
  pub first : FirstNamed f.name members member
  pub spelt : Spells member.value f.value

-- it has each of them
pub data HasEach {A : Type 0} (Spells : List ℕ → A → Type 0) (s : List ℕ) : List (Named A) → Type 0 where
  none : HasEach Spells s []
  and : {f : Named A} {fs : List (Named A)} → Has Spells s f → HasEach Spells s fs → HasEach Spells s (f ∷ fs)

-- s is a text of the grammar, so that no name stands twice in it; an object with so many members, and with these: "in
-- any order", none missing, none extra
pub record IsObjectOf {A : Type 0} (Spells : List ℕ → A → Type 0) (s : List ℕ) (fs : List (Named A)) : Type 0 where
  pub grammar : InGrammar s
  pub many : CountOf s (length fs)
  pub each : HasEach Spells s fs

-- ---- values that are no objects

-- v spells it. "Numbers and hex are spelt as in 01": no minus on zero, no leading zero, no point; upper case. "strings
-- read with their escapes"
pub data SpellsPlain (v : List ℕ) : Plain → Type 0 where
  as-whole : {z : ℤ} → v ≡ text z 0 → SpellsPlain v (whole z)
  as-hex : {p : List ℕ} → Bytes p → IsString v (hex_bytes p) → SpellsPlain v (hex p)
  as-chars : {p : List ℕ} → IsString v p → SpellsPlain v (chars p)
  as-truth : {b : Bool} → v ≡ json.truth b → SpellsPlain v (truth b)

-- ---- readings

-- v spells the reading of z at d decimals: "raw, dec, text and f32 must agree". Of a number that is none of 01's raw
-- numbers, 01 does not say whether it fits a single: there f32 may be either (ours)
pub record SpellsReading (v : List ℕ) (z : ℤ) (d : ℕ) : Type 0 where
  pub f32 : Bool
  pub agrees : Raw z → f32 ≡ fits_single z
  pub object : IsObjectOf SpellsPlain v
      (ascii "raw" ∶ whole z
      ∷ ascii "dec" ∶ whole (pos d)
      ∷ ascii "text" ∶ chars (text z d)
      ∷ ascii "f32" ∶ truth f32
      ∷ [])

-- ---- the values of a command's members

pub data Spells (v : List ℕ) : Field → Type 0 where
  as_plain : {p : Plain} → SpellsPlain v p → Spells v (plain p)
  as-reading : {z : ℤ} {d : ℕ} → SpellsReading v z d → Spells v (reading z d)
