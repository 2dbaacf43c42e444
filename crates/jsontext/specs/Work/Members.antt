-- The members of an object as a reader goes through them.
-- Assumes nothing.
use Rattle.std.specs.Prelude.{false, List, [], ◌∷◌, ◌≡◌, ℕ, ◌-◌, ◌≤◌, length, take, drop}
use Rattle.std.specs.Prelude.{Option, None, Some, Result, Ok}
use Rattle.std.specs.Option.{IfSome}
use Rattle.digits.specs.Paper.Part.{Ends}
use Rattle.digits.specs.declared.refusal.Refusal.{Refusal}
use Rattle.jsontext.specs.Paper.Members.{IsObject, FirstNamed, value_ends}
use Rattle.jsontext.specs.Paper.Abnf.{Rule}
use Rattle.jsontext.specs.Paper.Names as names
use Rattle.jsontext.specs.Paper.Names.{most_bytes, most_depth}
use Rattle.jsontext.specs.Work.Tight.{Blanks, Elements, last, next, Rest, empty, full, Member, member, tight}
use Rattle.jsontext.specs.Work.Units.{name_in}
use Rattle.jsontext.specs.declared.members.Value.{Value}

-- a member that is read: its value is what stands between its places
unfoldable pub member_in : {value : Rule} {s t : List ℕ} → Member value s t → names.Member
member_in (member {s = s} {d = d} {t = t} n b e c v) =
    record { name = name_in s; value = take (length d - length t) d; behind = length t }

unfoldable pub members_in : {value : Rule} {s t : List ℕ} → Elements (Member value) 0x7D s t → List names.Member
members_in (last o b e) = member_in o ∷ []
members_in (next o b e c r) = member_in o ∷ members_in r

unfoldable pub members_of : {value : Rule} {s t : List ℕ} → Rest (Member value) 0x7D s t → List names.Member
members_of (empty b e) = []
members_of (full b w r) = members_in r

-- the values inside an object, names not compared
abbrev pub inner : Rule
inner = tight false (most_depth - 1)

-- an object that is read, and its members
pub record ReadObject (s : List ℕ) (ms : List names.Member) : Type 0 where
  pub short : length s ≤ most_bytes
  pub inside : List ℕ
  pub end : List ℕ
  pub before : Blanks s (0x7B ∷ inside)
  pub rest : Rest (Member inner) 0x7D inside end
  pub behind : Blanks end []
  pub is : ms ≡ members_of rest

-- ---- what the readers of members answer

-- where the object that the text is opens, if it is one: the place behind its bracket
pub data Opened (s : List ℕ) : Option ℕ → Type 0 where
  none : ((ms : List names.Member) → IsObject s ms → ⊥) → Opened s None
  at : {p : ℕ} {t : List ℕ} → length s ≤ most_bytes → (x : Rest (Member inner) 0x7D (drop p s) t)
      → IsObject s (members_of x) → Opened s (Some p)

-- the members from a place on, if there are any
pub data From (s t : List ℕ) : Option ℕ → List names.Member → Type 0 where
  end : From s t None []
  on : {i : ℕ} → i ≤ length s → (x : Elements (Member inner) 0x7D (drop i s) t) → From s t (Some i) (members_in x)

-- the place of the first member behind an opening bracket, if there is one
pub record Starts (s : List ℕ) (p : ℕ) (r : Option ℕ) : Type 0 where
  pub within : IfSome r (λ i. i ≤ length s)
  pub from : (t : List ℕ) (x : Rest (Member inner) 0x7D (drop p s) t) → From s t r (members_of x)

abbrev pub CountsFrom : List ℕ → ℕ → ℕ → Type 0
CountsFrom s p r = (t : List ℕ) (x : Rest (Member inner) 0x7D (drop p s) t) → r ≡ length (members_of x)

-- where the first member with a name stands, if there is one
pub data NamedAt (name s t : List ℕ) (ms : List names.Member) : Option ℕ → Type 0 where
  none : ((m : names.Member) → FirstNamed name ms m → ⊥) → NamedAt name s t ms None
  at : {i : ℕ} {e : List ℕ} → i ≤ length s → (x : Member inner (drop i s) e) → FirstNamed name ms (member_in x)
      → NamedAt name s t ms (Some i)

abbrev pub FindsNamed : List ℕ → List ℕ → ℕ → Option ℕ → Type 0
FindsNamed name s p r = (t : List ℕ) (x : Rest (Member inner) 0x7D (drop p s) t) → NamedAt name s t (members_of x) r

-- where the value of a member stands
abbrev pub value_at : Ends → Result Value Refusal
value_at e = Ok (record { from = e.from; to = e.to })

abbrev pub Places : List ℕ → ℕ → Result Value Refusal → Type 0
Places s p r = (t : List ℕ) (x : Member inner (drop p s) t) → r ≡ value_at (value_ends s (member_in x))
