-- What the readers of values answer: a value; or why not: one that is spelt rightly and that the code does not hold, or
-- none of the sort. Of several reasons the worst is the one that counts.
-- Assumes nothing.
use Rattle.std.specs.Prelude.{Bool, true, false, cond, List, [], ◌∷◌, ◌++◌, ◌≡◌, ℕ, ◌-◌, ◌≤◌, ◌<◌, eqb}
use Rattle.std.specs.Prelude.{zero, suc, ℤ, pos}
use Rattle.std.specs.Prelude.{Result, Ok, Err, length, take, drop}
use Rattle.std.proofs.lemmas.List.Edits.{sets}
use Rattle.digits.specs.Paper.Ascii.{ascii}
use Rattle.digits.specs.Paper.Bytes.{Bytes}
use Rattle.digits.specs.Paper.Decimal.{decimal}
use Rattle.digits.specs.Paper.Hex.{hex_bytes}
use Rattle.layouts.specs.Paper.Chars.{one_of}
use Rattle.layouts.specs.Paper.Homiq as homiqs
use Rattle.messages.specs.Paper.Table.{Letter, v_in, v_op, v_bat}
use Rattle.messages.specs.declared.nibe.Valued.{Valued}
use Rattle.numbers.specs.Paper.Raw.{Between}
use Rattle.numbers.specs.Paper.Text.{text}
use Rattle.jsontext.specs.Paper.Members.{IsObject, FirstNamed, CountOf}
use Rattle.jsontext.specs.Paper.Names.{Member, InGrammar}
use Rattle.shapes.specs.Paper.Fields.{Named, ◌∶◌, whole, hex, chars, truth}
use Rattle.shapes.specs.Paper.Fields.{Field, plain, reading}
use Rattle.asked.specs.Paper.Field.{Spells, Has}
use Rattle.asked.specs.Paper.Means.{least_volts}
use Rattle.shapes.specs.Paper.Shapes.{Sort, number, measured, IsOf, number_field}
use Rattle.asked.specs.declared.values.Reason.{Reason}
use Rattle.asked.specs.declared.values.Reason.TheVariants.{Large, NoValue}

-- ---- answers

-- an answer whose value is taken as another
abbrev pub mapped : {A B E : Type 0} → (A → B) → Result A E → Result B E
mapped f (Ok x) = Ok (f x)
mapped f (Err why) = Err why

abbrev pub worse : Reason → Reason → Reason
worse Large b = b
worse NoValue b = NoValue

-- two answers as one: what both are, or the worst reason
abbrev pub both : {A B C : Type 0} → (A → B → C) → Result A Reason → Result B Reason → Result C Reason
both f (Ok x) (Ok y) = Ok (f x y)
both f (Ok x) (Err why) = Err why
both f (Err why) (Ok y) = Err why
both f (Err why) (Err other) = Err (worse why other)

abbrev pub joined : {A B : Type 0} → Result A Reason → Result B Reason → Result (A × B) Reason
joined a b = both (λ x y. (x, y)) a b

-- an answer for which a large value is none; and one of a list which has to have n elements
abbrev pub firm_of : {A : Type 0} → Result A Reason → Result A Reason
firm_of (Ok x) = Ok x
firm_of (Err why) = Err NoValue

abbrev pub exact_of : Result ℕ Reason → ℕ → Result Unit Reason
exact_of (Ok len) n = cond (eqb len n) (Ok tt) (Err NoValue)
exact_of (Err why) n = Err NoValue

-- whether a value of the sort stands there, held or not
abbrev pub is_spelt : {A : Type 0} → Result A Reason → Bool
is_spelt (Ok x) = true
is_spelt (Err Large) = true
is_spelt (Err NoValue) = false

-- ---- values

-- the number and the list in a field
abbrev pub number_in : Field → ℤ
number_in (plain (whole z)) = z
number_in (plain (hex p)) = pos 0
number_in (plain (chars p)) = pos 0
number_in (plain (truth b)) = pos 0
number_in (reading z d) = z

abbrev pub list_in : Field → List ℕ
list_in (plain (whole z)) = []
list_in (plain (hex p)) = p
list_in (plain (chars p)) = p
list_in (plain (truth b)) = []
list_in (reading z d) = []

-- what the code holds: numbers in a range, lists up to a length, a field of Homiq up to a length, its type, all
pub data Limit : Type 0 where
  between : ℤ → ℤ → Limit
  up_to : ℕ → Limit
  wire-field : ℕ → Limit
  wire-type : Limit
  any : Limit

abbrev pub Holds : Limit → Field → Type 0
Holds (between least most) f = Between least most (number_in f)
Holds (up_to most) f = length (list_in f) ≤ most
Holds (wire-field most) f = homiqs.Field most (list_in f)
Holds wire-type f = Letter (ascii "sa") (list_in f)
Holds any f = Unit

-- the value's text v, read as a field of a sort that the code holds
pub data Reads (v : List ℕ) (sort : Sort) (limit : Limit) : Result Field Reason → Type 0 where
  is : {f : Field} → IsOf sort f → Spells v f → Holds limit f → Reads v sort limit (Ok f)
  large : {g : Field} → IsOf sort g → Spells v g → (Holds limit g → ⊥) → Reads v sort limit (Err Large)
  none : ((g : Field) → IsOf sort g → Spells v g → ⊥) → Reads v sort limit (Err NoValue)

-- v is a whole number as it is spelt; the digits of one above zero
abbrev pub SpellsWhole : List ℕ → Type 0
SpellsWhole v = (z : ℤ) × (v ≡ text z 0)

abbrev pub SpellsPositive : List ℕ → Type 0
SpellsPositive d = (n : ℕ) × (0 < n) × (d ≡ decimal n)

-- a number in the range, or one that is not held
pub data Within (raw least most : ℤ) : Result ℤ Reason → Type 0 where
  is : Between least most raw → Within raw least most (Ok raw)
  outside : (Between least most raw → ⊥) → Within raw least most (Err Large)

-- Homiq's type, read as so many characters, of which this is the first
abbrev pub typed_of : ℕ → ℕ → Result ℕ Reason
typed_of len first = cond (eqb len 0) (Err Large) (cond (one_of (ascii "sa") first) (Ok first) (Err Large))

-- why characters were refused: 4 is a room too short for them
abbrev pub unwritten_of : ℕ → Reason
unwritten_of refusal = cond (eqb refusal 4) Large NoValue

-- why a raw number out of 01's range is not answered, by whether its text agrees
abbrev pub beyond_of : Bool → Reason
beyond_of agrees = cond agrees Large NoValue

-- the bytes that digits are, put at the front of the room: all of them; or they are too many, or none
pub data Unhexes (d room later : List ℕ) : Result ℕ Reason → Type 0 where
  are : {p : List ℕ} → Bytes p → d ≡ hex_bytes p → length p ≤ length room → later ≡ sets room 0 p
      → Unhexes d room later (Ok (length p))
  many : {p : List ℕ} → Bytes p → d ≡ hex_bytes p → length room < length p → length later ≡ length room
      → Unhexes d room later (Err Large)
  none : ((p : List ℕ) → Bytes p → d ≡ hex_bytes p → ⊥) → length later ≡ length room
      → Unhexes d room later (Err NoValue)

-- an object of four members, by the grammar
pub record FourMembers (v : List ℕ) : Type 0 where
  pub grammar : InGrammar v
  pub four : CountOf v 4

-- the voltages in a state's data
pub record Volts (p : List ℕ) (v-in v-op v-bat : ℤ) : Type 0 where
  pub enough : least_volts ≤ length p
  pub is-in : pos (v_in p) ≡ v-in
  pub is-op : pos (v_op p) ≡ v-op
  pub is-bat : pos (v_bat p) ≡ v-bat

-- digits with a point before the last d of them
abbrev pub pointed : ℕ → List ℕ → List ℕ
pointed zero s = s
pointed (suc d) s = take (length s - suc d) s ++ (46 ∷ drop (length s - suc d) s)

-- ---- members

-- the value's text of the first member with a name; an empty one if there is none
pub data ValueIn (s name : List ℕ) : List ℕ → Type 0 where
  is : {ms : List Member} {m : Member} → IsObject s ms → FirstNamed name ms m → ValueIn s name m.value
  none : ((ms : List Member) (m : Member) → IsObject s ms → FirstNamed name ms m → ⊥) → ValueIn s name []

-- a member that is read: its name and sort, and what of it the code holds
pub record Slot : Type 0 where
  pub member : Named Sort
  pub limit : Limit

-- the member of the object s, read as a field
pub data ReadsIn (s : List ℕ) (slot : Slot) : Result Field Reason → Type 0 where
  is : {f : Field} → IsOf slot.member.value f → Has Spells s (record { name = slot.member.name; value = f })
      → Holds slot.limit f → ReadsIn s slot (Ok f)
  large : {g : Field} → IsOf slot.member.value g → Has Spells s (record { name = slot.member.name; value = g })
      → (Holds slot.limit g → ⊥) → ReadsIn s slot (Err Large)
  none : ((g : Field) → IsOf slot.member.value g
      → Has Spells s (record { name = slot.member.name; value = g }) → ⊥) → ReadsIn s slot (Err NoValue)

-- members, read as fields, or the worst of their reasons
pub data ReadsAll (s : List ℕ) : List Slot → Result (List Field) Reason → Type 0 where
  none : ReadsAll s [] (Ok [])
  and : {slot : Slot} {slots : List Slot} {a : Result Field Reason} {b : Result (List Field) Reason}
      → ReadsIn s slot a → ReadsAll s slots b → ReadsAll s (slot ∷ slots) (both ◌∷◌ a b)

-- ---- members that two rows share

abbrev pub slot : List ℕ → Sort → Limit → Slot
slot n sort limit = record { member = n ∶ sort; limit = limit }

-- reply and put: `reg,width,value`
abbrev pub valued_slots : List Slot
valued_slots =
    slot (ascii "reg") number (between (pos 0) (pos 65535))
    ∷ slot (ascii "width") number (between (pos 0) (pos 255))
    ∷ slot (ascii "value") (measured 0) (between (pos 0) (pos 4294967295))
    ∷ []

abbrev pub valued_fields : Valued → List Field
valued_fields v = number_field v.register ∷ number_field v.width ∷ reading (pos v.value) 0 ∷ []
