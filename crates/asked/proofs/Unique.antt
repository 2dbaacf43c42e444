-- For each public function: two answers that meet its promise are the same.
-- Assumes nothing.
use mathlib.Core.Bool.{Bool}
use mathlib.Core.List.{List, ◌++◌}
use mathlib.Core.Option.{Option as Maybe, none, some}
use mathlib.Core.Path.{◌≡◌, sym, ap, ap₂, ◌∙◌, subst}
use Prim.Native.Nat.{ℕ}
use native.Mathlib.Omega.{arith}
use lib.ListN.{length, drop}
use Rattle.std.specs.Prelude.{Option, Some, Result, Ok, Err}
use Rattle.digits.proofs.Laws.Refusals.{one-refusal, some_number, one_answer}
use Rattle.digits.proofs.Unique.{test}
use Rattle.digits.specs.Paper.Read.{Decides}
use Rattle.digits.specs.declared.refusal.Refusal.{Refusal}
use Rattle.puts.proofs.Laws.Right.{one-wrote}
use Rattle.puts.specs.Paper.Wrote.{Written}
use Rattle.messages.proofs.Laws.Says.{one-case}
use Rattle.messages.specs.Paper.Message.{Message, row}
use Rattle.messages.specs.Paper.Says.{Says}
use Rattle.messages.specs.Paper.Table.{bytes}
use Rattle.messages.specs.declared.Message.{Message as Coded}
use Rattle.commands.specs.Paper.Answers.{MeantBytes}
use Rattle.asked.specs.Paper.Answers.{EncodesAsked, ReadsAsked, AskedValue, AskedAs, asked_refusal, asked_value, beside}
use Rattle.shapes.specs.Paper.Fields.{Named}
use Rattle.asked.specs.Paper.Lacks as lacks
use Rattle.asked.specs.Paper.Lacks.{Stands, Lacks, SaysHead, SaysMember, LackIn, LackInRow, LackOf}
use Rattle.asked.specs.Paper.Means.{Means}
use Rattle.shapes.specs.Paper.Shapes.{Sort, shape_at}
use Rattle.asked.specs.declared.Asked.{Asked}
use Rattle.asked.specs.declared.lacks.Lack.{Lack}
use Rattle.asked.specs.declared.lacks.Lack.TheVariants.{Member as Of}
use Rattle.asked.proofs.Laws.Lacking.{one-lacking}
use Rattle.asked.proofs.Laws.OneMeaning.{one-meaning}
use Rattle.asked.proofs.Laws.Texts.{one-head}

-- encode: a text means one message
pub meant-one : {s : List ℕ} (a b : List ℕ) → MeantBytes (Means s) a → MeantBytes (Means s) b → a ≡ b
meant-one {s} a b x y = x.is ∙ ap bytes (one-meaning s x.message y.message x.meant y.meant) ∙ sym y.is

pub encode : (s room : List ℕ) (r q : Written) {x y : List ℕ} → EncodesAsked s room r x → EncodesAsked s room q y → (r ≡ q) × (x ≡ y)
encode s room r q a b = one-wrote meant-one {r = r} {q = q} a b

-- read: and so one case, one length and one room
same-value : {u v : AskedValue} → u.kind ≡ v.kind → u.message ≡ v.message → u.len ≡ v.len → u ≡ v
same-value {u} {v} a b c = rw (a, b, c)

one-asked : (s room : List ℕ) (u v : AskedValue × List ℕ) → AskedAs s room u.0 u.1 → AskedAs s room v.0 v.1 → u ≡ v
one-asked s room u v x y =
    let m : x.meant ≡ y.meant = one-meaning s x.meant y.meant x.means y.means in
    let e : x.coded ≡ y.coded = one-case x.coded y.coded (beside x.meant) (beside y.meant) y.meant (subst (Says x.coded (beside x.meant)) m x.says) y.says in
    let k : u.0.kind ≡ v.0.kind = x.kind-is ∙ ap (λ (i : Message). (shape_at (row i)).kind) m ∙ sym y.kind-is in
    let c : u.0.message ≡ v.0.message = x.message-is ∙ ap {B = Maybe Coded} (λ (i : Coded). some i) e ∙ sym y.message-is in
    let l : u.0.len ≡ v.0.len = x.len_is ∙ ap (λ (i : Message). length (beside i)) m ∙ sym y.len_is in
    let w : u.1 ≡ v.1 = x.room-is ∙ ap (λ (i : Message). beside i ++ drop (length (beside i)) room) m ∙ sym y.room-is in
    ap₂ (λ (i : AskedValue) (j : List ℕ). (i, j)) (same-value k c l) w

held : Coded → Maybe Coded → Coded
held e none = e
held e (some d) = d

one-value : (a b : Asked) → asked_value (Ok a) ≡ asked_value (Ok b) → a ≡ b
unfolding held
one-value a b v =
    let k : a.kind ≡ b.kind = ap (λ (u : AskedValue). u.kind) v in
    let e : a.message ≡ b.message = ap (λ (u : AskedValue). held a.message u.message) v in
    let n : a.len ≡ b.len = ap (λ (u : AskedValue). u.len) v in
    rw (k, e, n)

asked-answer : (r q : Result Asked Refusal) → asked_refusal r ≡ asked_refusal q → asked_value r ≡ asked_value q → r ≡ q
asked-answer (Ok a) (Ok b) p v = ap Ok (one-value a b v)
asked-answer (Ok a) (Err why) p v = absurd (omega (arith, some_number why, p))
asked-answer (Err why) (Ok a) p v = absurd (omega (arith, some_number why, p))
asked-answer (Err why) (Err other) p v = ap Err (one-refusal why other p)

pub read : (s room : List ℕ) (r q : Result Asked Refusal) {x y : List ℕ} → ReadsAsked s room r x → ReadsAsked s room q y → (r ≡ q) × (x ≡ y)
read s room r q a b =
    let e = one_answer (one-asked s room) a b in
    (asked-answer r q e.0 (ap (λ (v : AskedValue × List ℕ). v.0) e.1), ap (λ (v : AskedValue × List ℕ). v.1) e.1)

-- lacks::first: each thing that a text may lack is there or is not
one-lack : {A : Type 0} {Without : Lack → Type 0} {Next : Option Lack → Type 0} → ((a b : Lack) → Without a → Without b → a ≡ b)
    → ((a b : Option Lack) → Next a → Next b → a ≡ b) → (a b : Option Lack) → Lacks A Without Next a → Lacks A Without Next b → a ≡ b
one-lack one later (Some a) (Some b) (lacks.without n x) (lacks.without m y) = ap Some (one a b x y)
one-lack one later a b (lacks.without n x) (lacks.next h y) = absurd (n h)
one-lack one later a b (lacks.next h x) (lacks.without n y) = absurd (n h)
one-lack one later a b (lacks.next h x) (lacks.next g y) = later a b x y

said : {A : Type 0} {l : A} (a b : A) → a ≡ l → b ≡ l → a ≡ b
said a b x y = x ∙ sym y

said-head : {s n : List ℕ} {as_said : Bool → Lack} (a b : Lack) → SaysHead s n as_said a → SaysHead s n as_said b → a ≡ b
said-head {as_said = as_said} a b x y = x.is ∙ ap as_said (test x.stands y.stands) ∙ sym y.is

said-member : {s : List ℕ} {r : ℕ} (a b : Lack) → SaysMember s r a → SaysMember s r b → a ≡ b
said-member {s} {r} a b x y =
    let (i, m) = one-lacking x.first y.first in
    let t : x.there ≡ y.there = test x.stands (subst (λ (k : Named Sort). Decides (Stands s k.name) y.there) (sym m) y.stands) in
    x.is ∙ ap₂ (Of r) i t ∙ sym y.is

lack-in : {s : List ℕ} {r : ℕ} (a b : Option Lack) → LackIn s r a → LackIn s r b → a ≡ b
lack-in = one-lack said-member (one-lack said (one-lack said said))

lack-in-row : {s : List ℕ} (a b : Option Lack) → LackInRow s a → LackInRow s b → a ≡ b
lack-in-row {s} a b x y = lack-in a b x.lack (subst (λ (r : ℕ). LackIn s r b) (one-head y.head x.head) y.lack)

pub first : (s : List ℕ) (r q : Option Lack) → LackOf s r → LackOf s q → r ≡ q
first s = one-lack said (one-lack said (one-lack said-head (one-lack said-head lack-in-row)))
