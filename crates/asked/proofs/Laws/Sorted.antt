-- What a row's members are called, of which sorts they are, and whether a value is of one.
-- Assumes nothing.
use mathlib.Core.Bool.{Bool, true, false, ◌&&◌}
use mathlib.Core.List.{List, [], ◌∷◌}
use mathlib.Core.Path.{◌≡◌, refl, sym, ap, ◌∙◌, subst}
use Prim.Native.Nat.{ℕ, zero, suc, ◌≤◌, ◌<◌}
use native.Mathlib.Omega.{arith}
use lib.Dec.{T, leb, leb→le}
use lib.ListN.{length, get_or, drop, replicate, length-append, length-replicate}
use Rattle.std.specs.Prelude.{Result, Ok, Err, is_ok}
use Rattle.digits.proofs.Laws.Parts.{part-front, length_part}
use Rattle.digits.proofs.Laws.Refusals.{cause-at, some_number}
use Rattle.digits.proofs.Laws.Tests.{T_and}
use Rattle.digits.specs.Paper.Bytes.{part}
use Rattle.digits.specs.Paper.Read.{Decides, holds, fails}
use Rattle.digits.specs.declared.refusal.Refusal.{Refusal}
use Rattle.jsontext.specs.Paper.Members.{FindsValue}
use Rattle.jsontext.specs.declared.members.Value.{Value}
use Rattle.puts.proofs.Laws.Right.{as-right, first_of, written-right}
use Rattle.puts.specs.Paper.Wrote as puts
use Rattle.puts.specs.Paper.Wrote.{Wrote, Written}
use Rattle.shapes.specs.Paper.Fields.{Named, Field}
use Rattle.shapes.specs.Paper.Members.{names, name_in, sort_of, sorts, sort_at, NameCause, no_name, short, WritesName}
use Rattle.asked.specs.Paper.Lacks.{HasOf}
use Rattle.shapes.specs.Paper.Shapes.{Sort, number, bytes, digits, content, string, bool, measured, shape_at}
use Rattle.asked.specs.Work.Got as got
use Rattle.asked.specs.Work.Got.{Limit, any, Reads, ValueIn, mapped, is_spelt}
use Rattle.asked.specs.declared.values.Reason.{Reason}
use Rattle.asked.specs.declared.values.Reason.TheVariants.{Large, NoValue}
use Rattle.asked.specs.Work.Lacks.{no_member, member_at, Spelt, SpeltAs, decimals_of}
use Rattle.shapes.specs.declared.Sort.{Sort as Coded}
use Rattle.shapes.specs.declared.Sort.TheVariants.{Nothing, Reading}
use Rattle.asked.proofs.Laws.Lift.{in-value, value_in, nothing-spelt}
use Rattle.shapes.proofs.Laws.Rows.{each_row}

-- ---- a member of a row, its name and its sort

pub names-many : (ms : List (Named Sort)) → length (names ms) ≡ length ms
unfolding names
names-many [] = refl
names-many (m ∷ ms) = ap suc (names-many ms)

pub its-name : (ms : List (Named Sort)) (i : ℕ) → name_in (names ms) i ≡ (get_or ms i no_member).name
unfolding names
its-name [] i = refl
its-name (m ∷ ms) zero = refl
its-name (m ∷ ms) (suc i) = its-name ms i

pub its-sort : (ms : List (Named Sort)) (i : ℕ) → i < length ms → get_or (sorts ms) i Nothing ≡ sort_of (get_or ms i no_member).value
unfolding sorts
its-sort [] i h = absurd (omega arith)
its-sort (m ∷ ms) zero h = refl
its-sort (m ∷ ms) (suc i) h = its-sort ms i (omega arith)

-- a test of each element of a list
all_of : {A : Type 0} → (A → Bool) → List A → Bool
all_of p [] = true
all_of p (x ∷ xs) = p x && all_of p xs

each_of : {A : Type 0} (p : A → Bool) (xs : List A) (d : A) → T (all_of p xs) → T (p d) → (i : ℕ) → T (p (get_or xs i d))
unfolding all_of
each_of p [] d t e i = e
each_of p (x ∷ xs) d t e zero = (T_and (p x) (all_of p xs) t).0
each_of p (x ∷ xs) d t e (suc i) = each_of p xs d (T_and (p x) (all_of p xs) t).1 e i

pub few-decimals : (r i : ℕ) → r ≤ 23 → decimals_of (sort_at r i) ≤ 3
unfolding all_of sorts
few-decimals r i h =
    leb→le _ 3
    (each_of (λ t. leb (decimals_of t) 3) (sorts (shape_at r).members) Nothing (each_row (λ j. all_of (λ t. leb (decimals_of t) 3) (sorts (shape_at j).members)) tt r h) tt i)

short-names : (r i : ℕ) → r ≤ 23 → length (name_in (names (shape_at r).members) i) ≤ 8
unfolding all_of names
short-names r i h =
    leb→le _ 8
    (each_of (λ n. leb (length n) 8) (names (shape_at r).members) [] (each_row (λ j. all_of (λ n. leb (length n) 8) (names (shape_at j).members)) tt r h) tt i)

-- ---- a name that was written into a room of eight bytes

module _ (r i : ℕ) {room later : List ℕ} {w : Written} (wrote : WritesName (names (shape_at r).members) i room w later) where
  as-answered : {q : Written} → w ≡ q → WritesName (names (shape_at r).members) i room q later
  as-answered e = subst (λ (q : Written). WritesName (names (shape_at r).members) i room q later) e wrote

  pub within-room : {n : ℕ} → w ≡ Ok n → n ≤ length later
  within-room e = by (as-answered e)
    where
      by : {bs room later : List ℕ} {Cause : ℕ → Type 0} {k n : ℕ} → Wrote Cause bs room k n later → n ≤ length later
      by {bs} {room} (puts.wrote f) = omega (arith, length-append bs (drop (length bs) room))
      by (puts.refused p f) = omega arith

  pub found-by : {s : List ℕ} {n : ℕ} (v : Result Value Refusal) → w ≡ Ok n → FindsValue s (part 0 n later) v → FindsValue s (member_at r i).name v
  found-by {s} {n} v e f =
      let its : part 0 n later ≡ (member_at r i).name =
      part-front n later ∙ written-right (as-right {Right = λ bs. bs ≡ name_in (names (shape_at r).members) i} refl (as-answered e)) refl ∙ its-name (shape_at r).members i in
      subst (λ (l : List ℕ). FindsValue s l v) its f

  pub always-written : {why : Refusal} → w ≡ Err why → r ≤ 23 → i < length (shape_at r).members → length room ≡ 8 → ⊥
  always-written {why} e h l m =
      by (cause-at (first_of (as-right {Right = λ bs. bs ≡ name_in (names (shape_at r).members) i} refl (as-answered e))) (some_number why))
    where
      by : {k : ℕ} → NameCause (names (shape_at r).members) i (length room) k → ⊥
      by (no_name g) = omega (arith, names-many (shape_at r).members)
      by (short g k) = omega (arith, short-names r i h)

-- ---- a value of a sort

-- a reader that answers a value or a large one has read one
pub some-spelt : {A : Type 0} (f : A → Field) (r : Result A Reason) {v : List ℕ} {sort : Sort} {limit : Limit} {b : Bool}
    → Reads v sort limit (mapped f r) → b ≡ is_spelt r → Decides (Spelt v sort) b
some-spelt {A} f r {v} {sort} {limit} x e = rw e (by r x)
  where
    by : (r : Result A Reason) → Reads v sort limit (mapped f r) → Decides (Spelt v sort) (is_spelt r)
    by (Ok y) (got.Reads.is a x l) = holds (record { field = _; of = a; spelt = x })
    by (Err Large) (got.Reads.large a x l) = holds (record { field = _; of = a; spelt = x })
    by (Err NoValue) (got.Reads.none n) = fails (λ s. n s.field s.of s.spelt)

-- one of so many elements, which is none if it is not read
pub exactly-spelt : (f : Field) (q : Result Unit Reason) {v : List ℕ} {sort : Sort} {b : Bool} → Reads v sort any (mapped (λ (u : Unit). f) q) → b ≡ is_ok q
    → Decides (Spelt v sort) b
exactly-spelt f q {v} {sort} x e = rw e (by q x)
  where
    by : (q : Result Unit Reason) → Reads v sort any (mapped (λ (u : Unit). f) q) → Decides (Spelt v sort) (is_ok q)
    by (Ok u) (got.Reads.is a x l) = holds (record { field = _; of = a; spelt = x })
    by (Err Large) (got.Reads.large a x l) = absurd (l tt)
    by (Err NoValue) (got.Reads.none n) = fails (λ s. n s.field s.of s.spelt)

same-sort : (v : List ℕ) (u : Sort) → SpeltAs v (sort_of u) ≡ Spelt v u
same-sort v number = refl
same-sort v (bytes n) = refl
same-sort v (digits n) = refl
same-sort v content = refl
same-sort v string = refl
same-sort v bool = refl
same-sort v (measured d) = refl

module _ (v : List ℕ) {t : Coded} {b : Bool} where
  pub as-coded : (u : Sort) → t ≡ sort_of u → Decides (Spelt v u) b → Decides (SpeltAs v t) b
  as-coded u e d = rw e (subst (λ (A : Type 0). Decides A b) (sym (same-sort v u)) d)

  pub as_said : (u : Sort) → t ≡ sort_of u → Decides (SpeltAs v t) b → Decides (Spelt v u) b
  as_said u e d = subst (λ (A : Type 0). Decides A b) (same-sort v u) (rw e at d)

pub no-sort : (v : List ℕ) {t : Coded} → t ≡ Nothing → Decides (SpeltAs v t) false
no-sort v e = rw e (fails (λ x. x))

-- a reading has few decimals; and a part of a room has as many elements as it is to have
pub few-of : {t : Coded} {d : ℕ} → t ≡ Reading d → decimals_of t ≤ 3 → d ≤ 3
few-of e h = rw e at h

abbrev pub zeros : List ℕ
zeros = replicate 256 0

pub so-many : {v : List ℕ} {b : Bool} {n : ℕ} (sized : ℕ → Sort) → n ≤ 256 → Decides (Spelt v (sized (length (part 0 n zeros)))) b → Decides (Spelt v (sized n)) b
so-many {v} {b} {n} sized h d =
    let e : length (part 0 n zeros) ≡ n = omega (arith, length_part 0 n zeros (omega arith) (omega (arith, length-replicate {A = ℕ} 256 0))) in
    subst (λ (k : ℕ). Decides (Spelt v (sized k)) b) e d

-- ---- a member of a sort

pub has_of : {s v : List ℕ} {m : Named Sort} {b : Bool} → ValueIn s m.name v → Decides (Spelt v m.value) b → Decides (HasOf s m) b
has_of i (holds x) = holds (record { field = x.field; of = x.of; has = in-value i x.spelt })
has_of i (fails n) = fails (λ h. n (record { field = h.field; of = h.of; spelt = value_in i h.has }))

pub no-value-of : {s : List ℕ} {m : Named Sort} → ValueIn s m.name [] → Decides (HasOf s m) false
no-value-of i = has_of i (fails (λ x. nothing-spelt x.field x.spelt))
