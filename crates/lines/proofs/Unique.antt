-- For each public function: two answers that meet its promise are the same, and so are the rooms afterwards.
-- Assumes nothing.
use mathlib.Core.Path.{◌≡◌, refl, ap}
use mathlib.Core.List.{List}
use mathlib.Core.Option.{Option}
use Prim.Native.Nat.{ℕ}
use Rattle.std.specs.Prelude.{Result, Ok, Err}
use Rattle.digits.specs.declared.refusal.Refusal.{Refusal}
use Rattle.digits.proofs.Laws.Refusals.{same_answer, one_answer}
use Rattle.messages.specs.Paper.Says.{Says}
use Rattle.messages.specs.declared.Message.{Message as Coded}
use Rattle.messages.specs.declared.Tag.{Tag}
use Rattle.puts.specs.Paper.Wrote.{Written}
use Rattle.puts.proofs.Laws.Right.{one-wrote}
use Rattle.puts.proofs.Unique.{written-answer}
use Rattle.sheet.specs.Paper.Sheet.{Lookup}
use Rattle.lines.specs.Paper.Answers.{WritesLine, WritesLineByText, WritesSaid, ended_refusal, ended_place, PutsContent, listed_refusal, listed_placed, PutsNext, measured_refusal, measured_size, Measures}
use Rattle.lines.specs.declared.Listed.{Listed}
use Rattle.lines.specs.declared.Measured.{Measured}
use Rattle.lines.proofs.Laws.Next.{one_line, one-next-line, one-next-size}
use Rattle.lines.proofs.Laws.ByText.{one-line-by-text}
use Rattle.lines.proofs.Laws.Of.{one-says, one-put-said, one-put-content}

-- write, write_mapped
pub write : (sheet : Option Lookup) (k : ℕ) (f : List ℕ) (at : ℕ) (room : List ℕ) {r q : Written} {s t : List ℕ} → WritesLine sheet k f at room r s → WritesLine sheet k f at room q t → (r ≡ q) × (s ≡ t)
write sheet k f at room a b = one-wrote one_line a b

-- write_with
pub write-with : (k : ℕ) (f : List ℕ) (at : ℕ) (text room : List ℕ) {r q : Written} {s t : List ℕ} → WritesLineByText k f at text room r s
    → WritesLineByText k f at text room q t → (r ≡ q) × (s ≡ t)
write-with k f at text room a b = one-wrote one-line-by-text a b

-- of: a message and what stands beside it say one line
pub of : {sheet : Option Lookup} (e : Coded) (s : List ℕ) {at len : ℕ} {room : List ℕ} {to : ℕ} {x y : List ℕ} (r q : Written) → WritesSaid sheet (Says e s) at len room to r x
    → WritesSaid sheet (Says e s) at len room to q y → (r ≡ q) × (x ≡ y)
of e s r q a b =
    let u = one_answer (one-put-said (one-says e s)) a b in
    (written-answer r q u.0 (ap (λ v. v.0) u.1), ap (λ v. v.1) u.1)

-- put_content: and so do a tag and its payload
result-cases : {A : Type 0} (P : Result A Refusal → Type 0) → ((v : A) → P (Ok v)) → ((why : Refusal) → P (Err why)) → (r : Result A Refusal) → P r
result-cases P f g (Ok v) = f v
result-cases P f g (Err why) = g why

ended-answer : (r q : Result ℕ Refusal) → ended_refusal r ≡ ended_refusal q → ended_place r ≡ ended_place q → r ≡ q
ended-answer = same_answer Ok Err ended_refusal ended_place (λ n. refl) (λ why. refl) (λ n. refl) result-cases

pub put-content : {sheet : Option Lookup} (t : Tag) (p : List ℕ) {at len : ℕ} {room : List ℕ} {to : ℕ} {x y : List ℕ} (r q : Result ℕ Refusal) → PutsContent sheet t p at len room to r x
    → PutsContent sheet t p at len room to q y → (r ≡ q) × (x ≡ y)
put-content t p r q a b =
    let e = one_answer one-put-content a b in
    (ended-answer r q e.0 (ap (λ v. v.0) e.1), ap (λ v. v.1) e.1)

-- next, measure: what the search finds is one, and so is its line
listed_answer : (r q : Result Listed Refusal) → listed_refusal r ≡ listed_refusal q → listed_placed r ≡ listed_placed q → r ≡ q
listed_answer = same_answer Ok Err listed_refusal listed_placed (λ v. refl) (λ why. refl) (λ v. refl) result-cases

measured-answer : (r q : Result Measured Refusal) → measured_refusal r ≡ measured_refusal q → measured_size r ≡ measured_size q → r ≡ q
measured-answer = same_answer Ok Err measured_refusal measured_size (λ v. refl) (λ why. refl) (λ v. refl) result-cases

module _ (sheet : Option Lookup) (k : ℕ) (s : List ℕ) (place : ℕ) where
  pub next : (room : List ℕ) (to : ℕ) (r q : Result Listed Refusal) {x y : List ℕ} → PutsNext sheet k s place room to r x → PutsNext sheet k s place room to q y → (r ≡ q) × (x ≡ y)
  next room to r q a b =
      let e = one_answer one-next-line a b in
      (listed_answer r q e.0 (ap (λ v. v.0) e.1), ap (λ v. v.1) e.1)

  pub measure : (r q : Result Measured Refusal) → Measures sheet k s place r → Measures sheet k s place q → r ≡ q
  measure r q a b = let e = one_answer one-next-size a b in measured-answer r q e.0 e.1
