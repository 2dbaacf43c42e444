-- For each public function: two answers that meet its promise are the same answer, and the lent memory is the same afterwards.
-- Assumes nothing.
use mathlib.Core.Path.{◌≡◌, refl, sym, ap, ap₂, ◌∙◌, subst}
use mathlib.Core.Bool.{Bool}
use mathlib.Core.List.{List, [], ◌∷◌}
use Prim.Native.Nat.{ℕ, ◌-◌}
use native.Mathlib.Omega.{arith}
use lib.ListN.{length, get_or}
use Rattle.digits.specs.declared.refusal.Refusal.{Refusal}
use Rattle.digits.proofs.Laws.Refusals.{one_answer, same_answer}
use Rattle.digits.proofs.Unique.{test}
use Rattle.digits.specs.Paper.Read.{Decides}
use Rattle.puts.specs.Paper.Wrote.{Written}
use Rattle.puts.proofs.Laws.Right.{one-wrote}
use Rattle.std.specs.Prelude.{Option, Some, None, Result, Ok, Err}
use Rattle.sheet.specs.Paper.Sheet.{RegisterType, Row, Lookup, find}
use Rattle.sheet.specs.Paper.Map.{map_of}
use Rattle.sheet.specs.Paper.Split.{Unsolicited, Pair, Splits, data_of, pair_bytes}
use Rattle.sheet.specs.Paper.Answers.{rows_refusal, rows_count, HasRows, Opens, typed_refusal, typed_value, TypesIn, HasType, Types, IsMap, Maps, IsSplit, SplitsInto, IsJoin, Joins, SomeSplit, test_number, fault_line, fault_test, Faults}
use Rattle.sheet.specs.declared.Typed.{Typed}
use Rattle.sheet.specs.declared.faults.Test.{Test}
use Rattle.sheet.specs.declared.faults.Test.TheVariants.{Form, Register, TypeName, Decimals, NotRising, Over500, NoLastLF}
use Rattle.sheet.specs.declared.faults.Fault.{Fault}
use Rattle.sheet.proofs.Laws.Faults.{one-fault}
use Rattle.sheet.proofs.Laws.Pairs.{one_split, one_type}
use Rattle.sheet.proofs.Laws.Scans.{one-sheet, some-test}
use Rattle.sheet.proofs.Laws.Tens.{one-pairs}

-- ---- an answer is its number and its value

cases : {A : Type 0} (P : Result A Refusal → Type 0) → ((a : A) → P (Ok a)) → ((why : Refusal) → P (Err why)) → (r : Result A Refusal) → P r
cases P f g (Ok a) = f a
cases P f g (Err why) = g why

rows-answer : (r q : Result ℕ Refusal) → rows_refusal r ≡ rows_refusal q → rows_count r ≡ rows_count q → r ≡ q
rows-answer = same_answer Ok Err rows_refusal rows_count (λ n. refl) (λ why. refl) (λ n. refl) cases

abbrev typed : RegisterType → Result Typed Refusal
typed t = Ok (record { width = t.width; signed = t.signed; decimals = t.decimals })

typed-cases : (P : Result Typed Refusal → Type 0) → ((t : RegisterType) → P (typed t)) → ((why : Refusal) → P (Err why)) → (r : Result Typed Refusal) → P r
typed-cases P f g (Ok t) = f (record { width = t.width; signed = t.signed; decimals = t.decimals })
typed-cases P f g (Err why) = g why

typed-answer : (r q : Result Typed Refusal) → typed_refusal r ≡ typed_refusal q → typed_value r ≡ typed_value q → r ≡ q
typed-answer = same_answer typed Err typed_refusal typed_value (λ t. refl) (λ why. refl) (λ t. refl) typed-cases

-- ---- open

pub opened : (text : List ℕ) (r q : Result ℕ Refusal) → Opens text r → Opens text q → r ≡ q
opened text r q a b = let e = one_answer one a b in rows-answer r q e.0 e.1
  where
    one : (m n : ℕ) → HasRows text m → HasRows text n → m ≡ n
    one m n x y = x.count ∙ ap {B = ℕ} (λ (l : List Row). length l) (one-sheet x.is y.is) ∙ sym y.count

-- ---- type_in and type_of

pub type-in : (look : Lookup) (register : ℕ) (r q : Result Typed Refusal) → TypesIn look register r → TypesIn look register q → r ≡ q
type-in look register r q a b = let e = one_answer (λ t u x y. one_type x y) a b in typed-answer r q e.0 e.1

pub type-of : (text : List ℕ) (register : ℕ) (r q : Result Typed Refusal) → Types text register r → Types text register q → r ≡ q
type-of text register r q a b = let e = one_answer one a b in typed-answer r q e.0 e.1
  where
    one : (t u : RegisterType) → HasType text register t → HasType text register u → t ≡ u
    one t u x y = one_type x.listed (ap (λ (l : List Row). find l register) (one-sheet x.is y.is) ∙ y.listed)

-- ---- map, split and join: with the room afterwards

pub one_map : {text a b : List ℕ} → IsMap text a → IsMap text b → a ≡ b
one_map x y = x.bytes-are ∙ ap (λ (l : List Row). map_of (find l)) (one-sheet x.is y.is) ∙ sym y.bytes-are

pub mapped : (text room : List ℕ) (r q : Written) (s t : List ℕ) → Maps text room r s → Maps text room q t → (r ≡ q) × (s ≡ t)
mapped text room r q s t a b = one-wrote (λ u v x y. one_map x y) {r = r} {q = q} a b

pub one-pieces : {content text a b : List ℕ} → IsSplit content text a → IsSplit content text b → a ≡ b
one-pieces {content} x y =
    x.bytes-are
    ∙ ap pair_bytes (one_split x.pairs y.pairs (subst (λ (l : List Row). Splits (find l) content x.pairs) (one-sheet x.is y.is) x.splits) y.splits)
    ∙ sym y.bytes-are

pub split : (command : ℕ) (content text room : List ℕ) (r q : Written) (s t : List ℕ)
    → SplitsInto command content text room r s → SplitsInto command content text room q t → (r ≡ q) × (s ≡ t)
split command content text room r q s t a b = one-wrote (λ u v x y. one-pieces x y) {r = r} {q = q} a b

pub one-whole : {bytes text a b : List ℕ} → IsJoin bytes text a → IsJoin bytes text b → a ≡ b
one-whole x y =
    sym x.splits.written
    ∙ ap₂ (λ (l : List Row) (p : List Pair). data_of (find l) p) (one-sheet x.is y.is) (one-pairs x.pairs y.pairs x.are y.are)
    ∙ y.splits.written

pub joined : (command : ℕ) (bytes text room : List ℕ) (r q : Written) (s t : List ℕ)
    → Joins command bytes text room r s → Joins command bytes text room q t → (r ≡ q) × (s ≡ t)
joined command bytes text room r q s t a b = one-wrote (λ u v x y. one-whole x y) {r = r} {q = q} a b

-- ---- splits

pub splits : (look : Lookup) (content : List ℕ) (r q : Bool) → Decides (SomeSplit look content) r → Decides (SomeSplit look content) q → r ≡ q
splits look content r q a b = test a b

-- ---- unsolicited

pub unsolicited : (command : ℕ) (r q : Bool) → Decides (Unsolicited command) r → Decides (Unsolicited command) q → r ≡ q
unsolicited command r q a b = test a b

-- ---- fault

abbrev named : ℕ → Test
named n = get_or (Form ∷ Register ∷ TypeName ∷ Decimals ∷ NotRising ∷ Over500 ∷ NoLastLF ∷ []) (n - 1) Form

name_of : (t : Test) → named (test_number t) ≡ t
name_of Form = refl
name_of Register = refl
name_of TypeName = refl
name_of Decimals = refl
name_of NotRising = refl
name_of Over500 = refl
name_of NoLastLF = refl

one-test : (t u : Test) → test_number t ≡ test_number u → t ≡ u
one-test t u e = sym (name_of t) ∙ ap named e ∙ name_of u

same-fault : (r q : Option Fault) → fault_line r ≡ fault_line q → fault_test r ≡ fault_test q → r ≡ q
same-fault None None e f = refl
same-fault None (Some g) e f = absurd (omega (arith, some-test g.test))
same-fault (Some g) None e f = absurd (omega (arith, some-test g.test))
same-fault (Some g) (Some h) e f = ap₂ (λ (l : ℕ) (t : Test). Some (record { line = l; test = t })) e (one-test g.test h.test f)

pub fault : (text : List ℕ) (r q : Option Fault) → Faults text r → Faults text q → r ≡ q
fault text r q a b = let e = one-fault a b in same-fault r q e.0 e.1
