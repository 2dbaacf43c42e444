-- 02, K4: a reader that "accepts exactly the grammar". Of a text that it does not accept: where it goes wrong, and what
-- must stand there. The text is read as the grammar has it, from the front (Work/Tight), and the fault is where the
-- reading has to stop.
-- Assumes nothing.
use Rattle.std.specs.Prelude.{true, cond, List, [], ◌∷◌, ◌++◌, ◌≡◌, ℕ, ◌≤◌, ◌<◌, eqb, length, drop}
use Rattle.std.specs.Prelude.{zero, suc, Option, None, Some}
use Rattle.jsontext.specs.Paper.Abnf.{Rule, byte}
use Rattle.jsontext.specs.Paper.Json.{string}
use Rattle.jsontext.specs.Paper.Names.{Other, InGrammar, most_bytes, most_depth}
use Rattle.jsontext.specs.Work.Tight.{Without, Blanks, Member, tight}
use Rattle.jsontext.specs.Work.Units.{name_in}
use Rattle.jsontext.specs.declared.faults.Lack.{Lack}
use Rattle.jsontext.specs.declared.faults.Lack.TheVariants.{Value, Depth, Name, OtherName, Colon, Comma, End}
use Rattle.jsontext.specs.declared.faults.Fault.{Fault}
use Rattle.jsontext.specs.declared.faults.Fault.TheVariants.{Long, At}

-- `f s w t`: the reading of s stops where t stands, and w must stand there
abbrev pub Stops : Type 1
Stops = List ℕ → Lack → List ℕ → Type 0

-- ---- a member

-- member = string name-separator value: s is none for want of a name, or a colon, or a value
pub data InMember (value : Stops) : List ℕ → Lack → List ℕ → Type 0 where
  no_name : {s : List ℕ} → Without string s → InMember value s Name s
  no-colon : {s a t : List ℕ} → string s a → Blanks a t → Without (byte 0x3A) t → InMember value s Colon t
  no_value : {s a b c d t : List ℕ} {w : Lack} → string s a → Blanks a b → b ≡ 0x3A ∷ c → Blanks c d → value d w t
      → InMember value s w t

-- ---- what stands in brackets

-- a name may stand behind those names, if it is in an object: "no name twice in an object once escapes are read"
abbrev pub Names : Type 1
Names = List (List ℕ) → List ℕ → Type 0

abbrev pub any_item : Names
any_item ns s = Unit

abbrev pub other_name : Names
other_name ns s = Other (name_in s) ns

-- *( value-separator item ), behind items with these names: the item at s is none; or its name has stood before; or
-- neither a comma nor the bracket stands behind it; or it is good, and the fault is further on
pub data InItems (item : Rule) (May : Names) (inside : Stops) : List (List ℕ) → List ℕ → Lack → List ℕ → Type 0 where
  no_item : {ns : List (List ℕ)} {s t : List ℕ} {w : Lack} → Without item s → inside s w t
      → InItems item May inside ns s w t
  twice : {ns : List (List ℕ)} {s a : List ℕ} → item s a → (May ns s → ⊥) → InItems item May inside ns s OtherName s
  no-comma : {ns : List (List ℕ)} {s a t : List ℕ} → item s a → May ns s → Blanks a t → Without (byte 0x2C) t
      → InItems item May inside ns s Comma t
  further : {ns : List (List ℕ)} {s a b c d t : List ℕ} {w : Lack} → item s a → May ns s → Blanks a b → b ≡ 0x2C ∷ c
      → Blanks c d → InItems item May inside (ns ++ (name_in s ∷ [])) d w t → InItems item May inside ns s w t

-- ---- a value

-- behind an opening bracket and its blanks
abbrev pub behind_blanks : Stops → Stops
behind_blanks f s w t = (m : List ℕ) × Blanks s m × f m w t

-- the elements of an array, and the members of an object, of values at most so deep whose faults are these
abbrev pub elements_stop : ℕ → Stops → Stops
elements_stop d value = behind_blanks (InItems (tight true d) any_item value [])

abbrev pub members_stop : ℕ → Stops → Stops
members_stop d value = behind_blanks (InItems (Member (tight true d)) other_name (InMember value) [])

-- by its first byte: the fault of an array is in its elements, and that of an object in its members; all else is no
-- value. "values nested at most 16 deep": at depth 0 none may stand
unfoldable pub value_stops : ℕ → Stops
value_stops zero [] w t = (w ≡ Value) × (t ≡ [])
value_stops zero (b ∷ u) w t = (w ≡ Depth) × (t ≡ b ∷ u)
value_stops (suc d) [] w t = (w ≡ Value) × (t ≡ [])
value_stops (suc d) (b ∷ u) w t =
    cond (eqb b 0x7B) (members_stop d (value_stops d) u w t)
    (cond (eqb b 0x5B) (elements_stop d (value_stops d) u w t) ((w ≡ Value) × (t ≡ b ∷ u)))

abbrev pub array_stops : ℕ → Stops
array_stops d = elements_stop d (value_stops d)

abbrev pub object_stops : ℕ → Stops
object_stops d = members_stop d (value_stops d)

-- ---- the whole text

-- JSON-text = ws value ws. None: the text is in the grammar. Long: it has more than 8,192 bytes. At w n: w must stand
-- at byte n, counted from 0, and does not; for `End`, a value has ended and more stands behind it
pub data FaultOf (s : List ℕ) : Option Fault → Type 0 where
  none : InGrammar s → FaultOf s None
  long : most_bytes < length s → FaultOf s (Some Long)
  inside : {a : List ℕ} {w : Lack} {n : ℕ} → length s ≤ most_bytes → Blanks s a → Without (tight true most_depth) a
      → n ≤ length s → value_stops most_depth a w (drop n s) → FaultOf s (Some (At w n))
  behind : {a b : List ℕ} {n : ℕ} → length s ≤ most_bytes → Blanks s a → tight true most_depth a b
      → n < length s → Blanks b (drop n s) → FaultOf s (Some (At End n))
