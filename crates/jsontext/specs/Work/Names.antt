-- What the readers of names answer.
-- Assumes nothing.
use Rattle.std.specs.Prelude.{Bool, true, false, List, [], ◌∷◌, ◌≡◌, ℕ, ◌+◌, ◌<◌, length, get_or}
use Rattle.std.specs.Prelude.{drop, Option, None, Some}
use Rattle.digits.specs.Paper.Read.{Decides}
use Rattle.jsontext.specs.Paper.Abnf.{Rule}
use Rattle.jsontext.specs.Paper.Json.{blank}
use Rattle.jsontext.specs.Paper.Names.{Other}
use Rattle.jsontext.specs.Work.Found.{Found, Skipped}
use Rattle.jsontext.specs.Work.Members.{member_in, members_in}
use Rattle.jsontext.specs.Work.Tight.{Member, Elements, names_in}
use Rattle.jsontext.specs.Work.Units.{units, name_in}

-- the units left of a string: the second of a character of four bytes, if it waits, and those of the bytes that
-- are left
abbrev pub left : Option ℕ → List ℕ → List ℕ
left None s = units s
left (Some low) s = low ∷ units s

-- ---- names

abbrev pub Members : Rule → List ℕ → List ℕ → Type 0
Members value = Elements (Member value) 0x7D

-- a member, and then none
pub record Single (value : Rule) (s : List ℕ) (i : ℕ) (t : List ℕ) (x : Members value (drop i s) t) : Type 0 where
  pub end : List ℕ
  pub first : Member value (drop i s) end
  pub names : names_in x ≡ name_in (drop i s) ∷ []
  pub members : members_in x ≡ member_in first ∷ []

-- a member, and then those from a place on
pub record Behind (value : Rule) (s : List ℕ) (i r : ℕ) (t : List ℕ) (x : Members value (drop i s) t) : Type 0 where
  pub end : List ℕ
  pub first : Member value (drop i s) end
  pub rest : Members value (drop r s) t
  pub names : names_in x ≡ name_in (drop i s) ∷ names_in rest
  pub members : members_in x ≡ member_in first ∷ members_in rest

-- one member further: a member stands at i, and behind it and a comma the next place is k
pub record Next (value : Rule) (s : List ℕ) (i k : ℕ) : Type 0 where
  pub e : ℕ
  pub f : ℕ
  pub member : Found (Member value) s i (Some e)
  pub blanks : Skipped blank s e f
  pub inside : f < length s
  pub comma : get_or s f 0 ≡ 0x2C
  pub behind : Skipped blank s (f + 1) k

-- where the next member stands, if there is one
pub data Later (value : Rule) (s : List ℕ) (i : ℕ) : Option ℕ → Type 0 where
  last : ((k : ℕ) → Next value s i k → ⊥) → ((t : List ℕ) (x : Members value (drop i s) t) → Single value s i t x)
      → Later value s i None
  next : {r : ℕ} → Next value s i r → Later value s i (Some r)

-- the members from i on, up to j: their names
pub data Reached (value : Rule) (s : List ℕ) : ℕ → ℕ → List (List ℕ) → Type 0 where
  here : {i : ℕ} → Reached value s i i []
  on : {i k j : ℕ} {ns : List (List ℕ)} → Next value s i k → Reached value s k j ns
      → Reached value s i j (name_in (drop i s) ∷ ns)

-- the name is none of those, if names are compared
abbrev pub New : Bool → List ℕ → List (List ℕ) → Type 0
New true n ns = Other n ns
New false n ns = Unit

-- the name at a place is none of those before it
abbrev pub TellsNew : Bool → Rule → List ℕ → ℕ → ℕ → Bool → Type 0
TellsNew names value s first at r =
    (ns : List (List ℕ)) → Reached value s first at ns → Decides (New names (name_in (drop at s)) ns) r
