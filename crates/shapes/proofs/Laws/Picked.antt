-- One of so many names or sorts, by its number; and those of a row's members.
-- Assumes nothing.
use mathlib.Core.Bool.{false, true≢false}
use mathlib.Core.List.{List}
use mathlib.Core.Path.{◌≡◌, sym, ap, subst}
use Prim.Native.Nat.{ℕ, ◌≤◌, ◌<◌}
use native.Mathlib.Omega.{arith}
use lib.Dec.{lit<}
use lib.ListN.{length}
use Rattle.digits.specs.Paper.Refusals.{First, clear, here, after}
use Rattle.puts.proofs.Laws.Right.{ours, first-5, first-4, no-cause}
use Rattle.puts.proofs.Laws.Wrote.{after-tests}
use Rattle.puts.specs.Paper.Wrote.{Wrote, refused, RoomCause}
use Rattle.shapes.specs.Paper.Members.{names, name_in, sorts, NameCause, no_name, short}
use Rattle.shapes.specs.Paper.Fields.{Named}
use Rattle.shapes.specs.Paper.Shapes.{Sort, shape_at}
use Rattle.shapes.specs.Work.Picked.{SortIn}
use Rattle.shapes.specs.declared.Sort.{Sort as Coded}

-- ---- the first cause, of causes that are others by name

pub mapped : {A B : ℕ → Type 0} {l : List ℕ} {no : ℕ} → ((k : ℕ) → B k → A k) → (A no → B no) → First A l no → First B l no
mapped back to clear = clear
mapped back to (here x) = here (to x)
mapped back to (after {no = k} n f) = after (λ y. n (back k y)) (mapped back to f)

-- ---- sorts

-- those of a row, by its members or by its number
pub sort-as : {ms ns : List (Named Sort)} {i : ℕ} {t : Coded} → ns ≡ ms → SortIn (sorts ms) i t → SortIn (sorts ns) i t
sort-as {i = i} {t} e f = subst (λ (l : List (Named Sort)). SortIn (sorts l) i t) (sym e) f

pub sort-at : (k : ℕ) {r i : ℕ} {t : Coded} → r ≡ k → SortIn (sorts (shape_at k).members) i t → SortIn (sorts (shape_at r).members) i t
sort-at k e f = sort-as (ap (λ (j : ℕ). (shape_at j).members) e) f

-- ---- names

module _ {ns : List (List ℕ)} {i n : ℕ} where
  only : (k : ℕ) → ours k ≡ false → NameCause ns i n k → ⊥
  only k e (no_name h) = true≢false e
  only k e (short h l) = true≢false e

  -- no such name
  pub unnamed : {room : List ℕ} → length ns ≤ i → Wrote (NameCause ns i n) (name_in ns i) room 5 0 room
  unnamed h = refused (lit< tt) (first-5 only (no_name h))

abbrev NamesIn : List (List ℕ) → ℕ → List ℕ → (k n : ℕ) → List ℕ → Type 0
NamesIn ns i room k n later = Wrote (NameCause ns i (length room)) (name_in ns i) room k n later

-- the name with a number
pub name-there : {a room later : List ℕ} {ns : List (List ℕ)} {i k n : ℕ} → i < length ns → name_in ns i ≡ a
    → Wrote (RoomCause (length room) (length a)) a room k n later → NamesIn ns i room k n later
name-there {room = room} {later} {ns} {i} {k} {n} h e w =
    after-tests (λ l. no-cause only none (not_short l)) (λ l. first-4 only none (short h l))
    (subst (λ (a : List ℕ). Wrote (RoomCause (length room) (length a)) a room k n later) (sym e) w)
  where
    none : NameCause ns i (length room) 5 → ⊥
    none (no_name l) = omega arith

    not_short : length (name_in ns i) ≤ length room → NameCause ns i (length room) 4 → ⊥
    not_short l (short q m) = omega arith

-- those of a row, by its members or by its number
abbrev NamedIn : List (Named Sort) → (i m j n : ℕ) → List ℕ → List ℕ → Type 0
NamedIn ms i m j n room later = Wrote (NameCause (names ms) i m) (name_in (names ms) i) room j n later

pub name-as : {ms ns : List (Named Sort)} {i m j n : ℕ} {room later : List ℕ} → ns ≡ ms → NamedIn ms i m j n room later → NamedIn ns i m j n room later
name-as {i = i} {m} {j} {n} {room} {later} e w = subst (λ (l : List (Named Sort)). NamedIn l i m j n room later) (sym e) w

pub name-at : (k : ℕ) {r i m j n : ℕ} {room later : List ℕ} → r ≡ k → NamedIn (shape_at k).members i m j n room later → NamedIn (shape_at r).members i m j n room later
name-at k e w = name-as (ap (λ (j : ℕ). (shape_at j).members) e) w
