-- RFC 8259, 4: the members of an object, for a caller that reads them; and the promises of those readers. 02, K4: "An
-- object with the members of a line of 01, .. in any order"; "strings read with their escapes".
-- Assumes nothing.
use Rattle.std.specs.Prelude.{List, [], ◌∷◌, ◌++◌, ◌≡◌, ℕ, ◌-◌, ◌≤◌, ◌<◌, length, Result, Ok, Err}
use Rattle.digits.specs.Paper.Bytes.{Bytes}
use Rattle.digits.specs.Paper.Part.{Ends, zero_ends}
use Rattle.digits.specs.Paper.Refusals.{refusal_number, Answers}
use Rattle.digits.specs.declared.refusal.Refusal.{Refusal}
use Rattle.puts.specs.Paper.Right.{WritesRight}
use Rattle.puts.specs.Paper.Wrote.{Written}
use Rattle.jsontext.specs.Paper.Json.{blank, value, JSON-text}
use Rattle.jsontext.specs.Paper.Names.{Member, object_of, spelt, most_bytes, most_depth}
use Rattle.jsontext.specs.declared.members.Value.{Value}

-- ---- the members

-- the blanks around a value are not its own: it neither begins nor ends with one
pub record Bare (v : List ℕ) : Type 0 where
  pub front : (t : List ℕ) → blank v t → ⊥
  pub back : (u t : List ℕ) → v ≡ u ++ t → blank t [] → ⊥

pub data Bares : List Member → Type 0 where
  none : Bares []
  and : {m : Member} {ms : List Member} → Bare m.value → Bares ms → Bares (m ∷ ms)

-- the text s is an object with these members, by the RFC, and within K4's limits. Names are not compared.
pub record IsObject (s : List ℕ) (ms : List Member) : Type 0 where
  pub short : length s ≤ most_bytes
  pub text : JSON-text (object_of (value (most_depth - 1)) ms) s
  pub bare : Bares ms

-- the first member with this name
pub data FirstNamed (n : List ℕ) : List Member → Member → Type 0 where
  here : {m : Member} {ms : List Member} → m.name ≡ n → FirstNamed n (m ∷ ms) m
  further : {m l : Member} {ms : List Member} → ((m.name ≡ n) → ⊥) → FirstNamed n ms l → FirstNamed n (m ∷ ms) l

-- ---- how many there are

-- 12: the text is no object
pub data CountCause (s : List ℕ) : ℕ → Type 0 where
  no-object : ((ms : List Member) → IsObject s ms → ⊥) → CountCause s 12

pub record CountOf (s : List ℕ) (n : ℕ) : Type 0 where
  pub members : List Member
  pub object : IsObject s members
  pub is : n ≡ length members

abbrev pub count_refusal : Result ℕ Refusal → ℕ
count_refusal (Ok n) = 0
count_refusal (Err why) = refusal_number why

abbrev pub count_value : Result ℕ Refusal → ℕ
count_value (Ok n) = n
count_value (Err why) = 0

abbrev pub Counts : List ℕ → Result ℕ Refusal → Type 0
Counts s r = Answers 0 (CountCause s) (CountOf s) (count_refusal r) (count_value r)

-- ---- the value of one of them

-- where the value of a member of s begins and ends
abbrev pub value_ends : List ℕ → Member → Ends
value_ends s m = record { from = length s - m.behind - length m.value; to = length s - m.behind }

-- 12: the text is no object with that name
pub data ValueCause (s name : List ℕ) : ℕ → Type 0 where
  no_value : ((ms : List Member) (m : Member) → IsObject s ms → FirstNamed name ms m → ⊥) → ValueCause s name 12

pub record ValueOf (s name : List ℕ) (e : Ends) : Type 0 where
  pub members : List Member
  pub member : Member
  pub object : IsObject s members
  pub first : FirstNamed name members member
  pub is : e ≡ value_ends s member

abbrev pub value_refusal : Result Value Refusal → ℕ
value_refusal (Ok v) = 0
value_refusal (Err why) = refusal_number why

abbrev pub value_value : Result Value Refusal → Ends
value_value (Ok v) = record { from = v.from; to = v.to }
value_value (Err why) = zero_ends

abbrev pub FindsValue : List ℕ → List ℕ → Result Value Refusal → Type 0
FindsValue s name r = Answers zero_ends (ValueCause s name) (ValueOf s name) (value_refusal r) (value_value r)

-- ---- a string's characters

-- the text s is a string of these characters, one byte each. 02, K4: none is "above U+00FF"
pub record IsString (s cs : List ℕ) : Type 0 where
  pub short : length s ≤ most_bytes
  pub string : spelt cs s []
  pub bytes : Bytes cs

-- 12: it is no such string; 4: "lent room too short for the answer"
pub data CharactersCause (s : List ℕ) (n : ℕ) : ℕ → Type 0 where
  no-string : ((cs : List ℕ) → IsString s cs → ⊥) → CharactersCause s n 12
  short : {cs : List ℕ} → IsString s cs → n < length cs → CharactersCause s n 4

abbrev pub WritesCharacters : List ℕ → List ℕ → Written → List ℕ → Type 0
WritesCharacters s room r later = WritesRight (CharactersCause s (length room)) (IsString s) room r later
