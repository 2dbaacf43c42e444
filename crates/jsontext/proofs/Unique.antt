-- For each public function: two answers that meet its promise are the same answer, and the lent memory is the same afterwards.
-- Assumes nothing.
use mathlib.Core.Path.{◌≡◌, refl, sym, ap, subst, ◌∙◌}
use mathlib.Core.Bool.{Bool}
use mathlib.Core.List.{List}
use Prim.Native.Nat.{ℕ}
use lib.ListN.{length}
use Rattle.std.specs.Prelude.{Option, Result, Ok, Err}
use Rattle.digits.proofs.Unique.{test}
use Rattle.digits.proofs.Laws.Refusals.{one_answer, same_answer}
use Rattle.digits.specs.declared.refusal.Refusal.{Refusal}
use Rattle.digits.specs.Paper.Part.{Ends}
use Rattle.digits.specs.Paper.Read.{Decides}
use Rattle.puts.specs.Paper.Wrote.{Written}
use Rattle.puts.proofs.Laws.Right.{one-wrote}
use Rattle.jsontext.specs.Paper.Names.{Member, InGrammar}
use Rattle.jsontext.specs.Paper.Members.{FirstNamed, count_refusal, count_value, CountOf, Counts}
use Rattle.jsontext.specs.Paper.Members.{value_refusal, value_value, value_ends, ValueOf, FindsValue, WritesCharacters}
use Rattle.jsontext.specs.declared.members.Value.{Value}
use Rattle.jsontext.specs.Work.Members.{value_at}
use Rattle.jsontext.specs.Paper.Faults.{FaultOf}
use Rattle.jsontext.specs.declared.faults.Fault.{Fault}
use Rattle.jsontext.proofs.Laws.Objects.{one-object}
use Rattle.jsontext.proofs.Laws.OneFault.{one-fault}
use Rattle.jsontext.proofs.Laws.Units.{one_name}

pub accepts : (text : List ℕ) (r q : Bool) → Decides (InGrammar text) r → Decides (InGrammar text) q → r ≡ q
accepts text r q a b = test a b

pub fault : (text : List ℕ) (r q : Option Fault) → FaultOf text r → FaultOf text q → r ≡ q
fault text r q a b = one-fault a b

-- ---- an answer is its number and its value

count-cases : (P : Result ℕ Refusal → Type 0) → ((n : ℕ) → P (Ok n)) → ((why : Refusal) → P (Err why)) → (r : Result ℕ Refusal) → P r
count-cases P f g (Ok n) = f n
count-cases P f g (Err why) = g why

count-answer : (r q : Result ℕ Refusal) → count_refusal r ≡ count_refusal q → count_value r ≡ count_value q → r ≡ q
count-answer = same_answer Ok Err count_refusal count_value (λ n. refl) (λ why. refl) (λ n. refl) count-cases

value-cases : (P : Result Value Refusal → Type 0) → ((e : Ends) → P (value_at e)) → ((why : Refusal) → P (Err why)) → (r : Result Value Refusal) → P r
value-cases P f g (Ok v) = f (record { from = v.from; to = v.to })
value-cases P f g (Err why) = g why

value-answer : (r q : Result Value Refusal) → value_refusal r ≡ value_refusal q → value_value r ≡ value_value q → r ≡ q
value-answer = same_answer value_at Err value_refusal value_value (λ e. refl) (λ why. refl) (λ e. refl) value-cases

-- ---- members::count

pub count : (text : List ℕ) (r q : Result ℕ Refusal) → Counts text r → Counts text q → r ≡ q
count text r q a b = let e = one_answer one a b in count-answer r q e.0 e.1
  where
    one : (m n : ℕ) → CountOf text m → CountOf text n → m ≡ n
    one m n x y = x.is ∙ ap {B = ℕ} (λ (l : List Member). length l) (one-object x.object y.object) ∙ sym y.is

-- ---- members::value_of

pub one-first : {name : List ℕ} {ms : List Member} {m l : Member} → FirstNamed name ms m → FirstNamed name ms l → m ≡ l
one-first (FirstNamed.here e) (FirstNamed.here f) = refl
one-first (FirstNamed.here e) (FirstNamed.further g y) = absurd (g e)
one-first (FirstNamed.further g x) (FirstNamed.here f) = absurd (g f)
one-first (FirstNamed.further g x) (FirstNamed.further h y) = one-first x y

pub value_of : (text name : List ℕ) (r q : Result Value Refusal) → FindsValue text name r → FindsValue text name q → r ≡ q
value_of text name r q a b = let e = one_answer one a b in value-answer r q e.0 e.1
  where
    one : (d e : Ends) → ValueOf text name d → ValueOf text name e → d ≡ e
    one d e x y =
        let same = one-object x.object y.object in
        let f = subst (λ (l : List Member). FirstNamed name l x.member) same x.first in
        x.is ∙ ap {B = Ends} (λ m. value_ends text m) (one-first f y.first) ∙ sym y.is

-- ---- members::characters: with the room afterwards

pub characters : (text room : List ℕ) (r q : Written) (s t : List ℕ)
    → WritesCharacters text room r s → WritesCharacters text room q t → (r ≡ q) × (s ≡ t)
characters text room r q s t a b = one-wrote (λ u v x y. one_name x.string y.string) {r = r} {q = q} a b
