-- For each public function: two answers that meet its promise, and the rooms afterwards, are the same.
-- Assumes nothing.
use Rattle.std.specs.Prelude.{Result, Err, Ok}
use mathlib.Core.Path.{◌≡◌, refl, sym, ap₂, ◌∙◌}
use mathlib.Core.Bool.{Bool}
use mathlib.Core.List.{List}
use Prim.Native.Nat.{ℕ}
use native.Mathlib.Omega.{arith}
use lib.IntN.{ℤ}
use lib.Ieee.{Float}
use lib.ListN.{length}
use Rattle.digits.specs.declared.refusal.Refusal.{Refusal}
use Rattle.digits.proofs.Laws.Reads.{one-reading}
use Rattle.digits.proofs.Laws.Refusals.{same_answer, one_answer}
use Rattle.puts.specs.Paper.Wrote.{Writes, Written}
use Rattle.puts.proofs.Unique.{one_written}
use Rattle.numbers.specs.Paper.Text.{text, Number}
use Rattle.numbers.specs.Paper.ByteValues.{value_bytes}
use Rattle.numbers.specs.Paper.Panel.{ClimatePair}
use Rattle.numbers.specs.Paper.Answers.{TextCause, reading_refusal, reading_value, ReadsText, ValueCause, value_refusal, value_of, ValueIn, AnswersValue, fits_refusal, fits_value, AnswersFits, shown_refusal, shown_value, AnswersPanel}
use Rattle.numbers.specs.declared.text.Reading.{Reading}
use Rattle.numbers.specs.declared.panel.Climate.{Climate}
use Rattle.numbers.specs.declared.panel.Value.{Value as PanelValue}
use Rattle.numbers.proofs.Laws.Reader.{text-inj}
use Rattle.numbers.proofs.Laws.Values.{size, held_in, value_inj}

-- ---- text::write and byte_values::write

pub text-written : {z : ℤ} {d : ℕ} {room s t : List ℕ} {r q : Written} → Writes (TextCause z d (length room)) (text z d) room r s
    → Writes (TextCause z d (length room)) (text z d) room q t → (r ≡ q) × (s ≡ t)
text-written a b = one_written a b

pub value_written : {w : ℕ} {signed : Bool} {z : ℤ} {room s t : List ℕ} {r q : Written} → Writes (ValueCause w signed z (length room)) (value_bytes w z) room r s
    → Writes (ValueCause w signed z (length room)) (value_bytes w z) room q t → (r ≡ q) × (s ≡ t)
value_written a b = one_written a b

-- ---- text::read: an answer is its number and its values

abbrev is_number : Number → Result Reading Refusal
is_number n = Ok (record { raw = n.raw; decimals = n.decimals })

reading-cases : (P : Result Reading Refusal → Type 0) → ((n : Number) → P (is_number n)) → ((why : Refusal) → P (Err why)) → (r : Result Reading Refusal) → P r
reading-cases P f g (Ok n) = f (record { raw = n.raw; decimals = n.decimals })
reading-cases P f g (Err why) = g why

reading-answer : (r q : Result Reading Refusal) → reading_refusal r ≡ reading_refusal q → reading_value r ≡ reading_value q → r ≡ q
reading-answer = same_answer is_number Err reading_refusal reading_value (λ x. refl) (λ why. refl) (λ x. refl) reading-cases

pub same_number : (m n : Number) → text m.raw m.decimals ≡ text n.raw n.decimals → m ≡ n
same_number m n e =
    let i = text-inj m.raw n.raw m.decimals n.decimals e in
    ap₂ (λ (z : ℤ) (d : ℕ). record { raw = z; decimals = d }) i.0 i.1

pub text-read : (t : List ℕ) (r q : Result Reading Refusal) → ReadsText t r → ReadsText t q → r ≡ q
text-read t r q a b =
    let e = one-reading (omega arith) (λ m n h k f. same_number m n f) a b in
    reading-answer r q e.0 e.1

-- ---- byte_values::read

value-cases : (P : Result ℤ Refusal → Type 0) → ((z : ℤ) → P (Ok z)) → ((why : Refusal) → P (Err why)) → (r : Result ℤ Refusal) → P r
value-cases P f g (Ok z) = f z
value-cases P f g (Err why) = g why

value-answer : (r q : Result ℤ Refusal) → value_refusal r ≡ value_refusal q → value_of r ≡ value_of q → r ≡ q
value-answer = same_answer Ok Err value_refusal value_of (λ x. refl) (λ why. refl) (λ x. refl) value-cases

pub same-value : (w : ℕ) (signed : Bool) (s : List ℕ) (y z : ℤ) → ValueIn w signed s y → ValueIn w signed s z → y ≡ z
same-value w signed s y z h k =
    let n = size h.known in
    value_inj n (held_in n signed y h.held) (held_in n signed z k.held) (h.bytes ∙ sym k.bytes)

pub value_read : (w : ℕ) (signed : Bool) (s : List ℕ) (r q : Result ℤ Refusal) → AnswersValue w signed s r → AnswersValue w signed s q → r ≡ q
value_read w signed s r q a b = let e = one_answer (same-value w signed s) a b in value-answer r q e.0 e.1

-- ---- single::fits

fit-cases : (P : Result Bool Refusal → Type 0) → ((b : Bool) → P (Ok b)) → ((why : Refusal) → P (Err why)) → (r : Result Bool Refusal) → P r
fit-cases P f g (Ok b) = f b
fit-cases P f g (Err why) = g why

fit-answer : (r q : Result Bool Refusal) → fits_refusal r ≡ fits_refusal q → fits_value r ≡ fits_value q → r ≡ q
fit-answer = same_answer Ok Err fits_refusal fits_value (λ x. refl) (λ why. refl) (λ x. refl) fit-cases

pub fits : (z : ℤ) (r q : Result Bool Refusal) → AnswersFits z r → AnswersFits z q → r ≡ q
fits z r q a b = let e = one_answer (λ x y g h. g ∙ sym h) a b in fit-answer r q e.0 e.1

-- ---- panel::of and panel::pair

shown-cases : (P : Result PanelValue Refusal → Type 0) → ((v : PanelValue) → P (Ok v)) → ((why : Refusal) → P (Err why)) → (r : Result PanelValue Refusal) → P r
shown-cases P f g (Ok v) = f v
shown-cases P f g (Err why) = g why

shown-answer : (r q : Result PanelValue Refusal) → shown_refusal r ≡ shown_refusal q → shown_value r ≡ shown_value q → r ≡ q
shown-answer = same_answer Ok Err shown_refusal shown_value (λ x. refl) (λ why. refl) (λ x. refl) shown-cases

pub panel-shown : (z : ℤ) (r q : Result PanelValue Refusal) → AnswersPanel z r → AnswersPanel z q → r ≡ q
panel-shown z r q a b = let e = one_answer (λ x y g h. g.cast ∙ sym h.cast) a b in shown-answer r q e.0 e.1

pub climate : (t h : ℤ) (r q : Climate) → ClimatePair t h r.temperature r.humidity → ClimatePair t h q.temperature q.humidity → r ≡ q
climate t h r q a b =
    ap₂ (λ (x y : Float). record { temperature = x; humidity = y }) (a.first.cast ∙ sym b.first.cast) (a.second.cast ∙ sym b.second.cast)
