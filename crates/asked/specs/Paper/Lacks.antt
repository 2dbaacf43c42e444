-- 02, K4: 12 is for "members missing, extra, of another sort or spelling, with a character above U+00FF, or
-- disagreeing, kind with msg too". Which of these it is: the first thing that a text lacks to fill a shape.
-- Assumes nothing.
use Rattle.std.specs.Prelude.{Bool, true, List, [], ◌∷◌, ◌≡◌, ℕ, suc, ◌+◌, Option, Some, None, length}
use Rattle.digits.specs.Paper.Ascii.{ascii}
use Rattle.digits.specs.Paper.Read.{Decides}
use Rattle.frames.specs.Paper.Kinds.{known}
use Rattle.jsontext.specs.Paper.Members.{IsObject, FirstNamed, CountOf}
use Rattle.jsontext.specs.Paper.Names.{Member as Found, InGrammar}
use Rattle.shapes.specs.Paper.Fields.{Named, ◌∶◌, Field}
use Rattle.asked.specs.Paper.Field.{Spells, Has}
use Rattle.asked.specs.Paper.Means.{HeadOf, HasRow}
use Rattle.shapes.specs.Paper.Shapes.{Sort, IsOf, shape_at, number_field}
use Rattle.asked.specs.declared.lacks.Lack.{Lack}
use Rattle.asked.specs.declared.lacks.Lack.TheVariants.{Text, Object, Kind, Msg, Member, Extra, Volts}

-- ---- what an object has

-- a member with this name, whatever its value
pub record Stands (s n : List ℕ) : Type 0 where
  pub members : List Found
  pub member : Found
  pub object : IsObject s members
  pub first : FirstNamed n members member

-- a member in its sort
pub record HasOf (s : List ℕ) (m : Named Sort) : Type 0 where
  pub field : Field
  pub of : IsOf m.value field
  pub has : Has Spells s (m.name ∶ field)

pub data HasAll (s : List ℕ) : List (Named Sort) → Type 0 where
  none : HasAll s []
  and : {m : Named Sort} {ms : List (Named Sort)} → HasOf s m → HasAll s ms → HasAll s (m ∷ ms)

-- the first member that it does not have so, counted from 0
pub data FirstLacking (s : List ℕ) : List (Named Sort) → ℕ → Named Sort → Type 0 where
  here : {m : Named Sort} {ms : List (Named Sort)} → (HasOf s m → ⊥) → FirstLacking s (m ∷ ms) 0 m
  further : {m l : Named Sort} {ms : List (Named Sort)} {i : ℕ}
      → HasOf s m → FirstLacking s ms i l → FirstLacking s (m ∷ ms) (suc i) l

-- a kind of the table
pub record HasKind (s : List ℕ) : Type 0 where
  pub kind : ℕ
  pub is_known : known kind ≡ true
  pub has : Has Spells s (ascii "kind" ∶ number_field kind)

-- ---- the first thing that a text lacks

-- it lacks A, and the answer says that; or it has A, and the answer says what it lacks next
pub data Lacks (A : Type 0) (Without : Lack → Type 0) (Next : Option Lack → Type 0) : Option Lack → Type 0 where
  without : {l : Lack} → (A → ⊥) → Without l → Lacks A Without Next (Some l)
  next : {l : Option Lack} → A → Next l → Lacks A Without Next l

-- the answers for kind and msg, and for a member of row r, say too whether a member with that name stands there
pub record SaysHead (s n : List ℕ) (said : Bool → Lack) (l : Lack) : Type 0 where
  pub there : Bool
  pub stands : Decides (Stands s n) there
  pub is : l ≡ said there

pub record SaysMember (s : List ℕ) (r : ℕ) (l : Lack) : Type 0 where
  pub place : ℕ
  pub member : Named Sort
  pub first : FirstLacking s (shape_at r).members place member
  pub there : Bool
  pub stands : Decides (Stands s member.name) there
  pub is : l ≡ Member r place there

-- in this order: each member of row r in its sort; no more members than these, kind and msg; fields that agree
abbrev pub LackIn : List ℕ → ℕ → Option Lack → Type 0
LackIn s r =
    Lacks (HasAll s (shape_at r).members) (SaysMember s r)
    (Lacks (CountOf s (length (shape_at r).members + 2)) (λ l. l ≡ Extra)
    (Lacks (HasRow s r) (λ l. l ≡ Volts)
    (λ l. l ≡ None)))

pub record LackInRow (s : List ℕ) (l : Option Lack) : Type 0 where
  pub row : ℕ
  pub head : HeadOf s row
  pub lack : LackIn s row l

-- and before these: the grammar; an object; a kind; a msg of that kind
abbrev pub LackOf : List ℕ → Option Lack → Type 0
LackOf s =
    Lacks (InGrammar s) (λ l. l ≡ Text)
    (Lacks ((ms : List Found) × IsObject s ms) (λ l. l ≡ Object)
    (Lacks (HasKind s) (SaysHead s (ascii "kind") Kind)
    (Lacks ((r : ℕ) × HeadOf s r) (SaysHead s (ascii "msg") Msg)
    (LackInRow s))))
