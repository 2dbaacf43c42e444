-- For each public function: two answers that meet its promise are the same answer.
-- Assumes nothing.
use Rattle.std.specs.Prelude.{Option, None, Some}
use mathlib.Core.Path.{◌≡◌, refl, sym, ap, ap₂, ◌∙◌}
use mathlib.Core.Bool.{Bool}
use mathlib.Core.List.{List, ◌++◌}
use Prim.Native.Nat.{ℕ, ◌<◌}
use native.Mathlib.Omega.{arith}
use lib.ListN.{length, replicate}
use Rattle.digits.specs.declared.decimal.Decimal.{Decimal}
use Rattle.digits.specs.Paper.Decimal.{decimal}
use Rattle.digits.specs.Paper.Read.{Decides, holds, fails}
use Rattle.digits.specs.Paper.Answers.{refusal_if_none, value_or_zero, ReadsDigit, ReadsByte, ReadsWord, ReadsNumber, ReadsDecimal, AtEnd}
use Rattle.digits.proofs.Laws.Reads.{one-reading}
use Rattle.digits.proofs.Laws.Hex.{digit-inj, byte-inj, word-inj}
use Rattle.digits.proofs.Laws.Decimal.{decimal-inj}
use Rattle.digits.proofs.Laws.LowFirst.{low-inj}

-- ---- hex::digit, hex::two_digits, hex::four_digits, low_first::one, two, four and eight: the promise is an equation

pub equation : {A : Type 0} {r q x : A} → r ≡ x → q ≡ x → r ≡ q
equation e f = e ∙ sym f

-- ---- slices::same

pub test : {A : Type 0} {r q : Bool} → Decides A r → Decides A q → r ≡ q
test (holds a) (holds b) = refl
test (holds a) (fails f) = absurd (f a)
test (fails f) (holds a) = absurd (f a)
test (fails f) (fails g) = refl

-- ---- an answer is its number and its value

number-answer : {k : ℕ} → 0 < k → (r q : Option ℕ) → refusal_if_none k r ≡ refusal_if_none k q → value_or_zero r ≡ value_or_zero q → r ≡ q
number-answer h (Some u) (Some v) e f = ap Some f
number-answer h (Some u) None e f = absurd (omega (arith, e, h))
number-answer h None (Some v) e f = absurd (omega (arith, e, h))
number-answer h None None e f = refl

-- ---- hex::value, hex::byte_of, hex::word_of, decimal::number_of, low_first::number_of

pub digit_value : (c : ℕ) (r q : Option ℕ) → ReadsDigit c r → ReadsDigit c q → r ≡ q
digit_value c r q a b =
    let e = one-reading (omega arith) (λ u v h k f. digit-inj u v h k cc) a b in
    number-answer (omega arith) r q e.0 e.1

pub two_digits : (high low : ℕ) (r q : Option ℕ) → ReadsByte high low r → ReadsByte high low q → r ≡ q
two_digits high low r q a b = let e = one-reading (omega arith) byte-inj a b in number-answer (omega arith) r q e.0 e.1

pub four-digits : (d : List ℕ) (r q : Option ℕ) → ReadsWord d r → ReadsWord d q → r ≡ q
four-digits d r q a b = let e = one-reading (omega arith) word-inj a b in number-answer (omega arith) r q e.0 e.1

pub decimal-number : (s : List ℕ) (r q : Option ℕ) → ReadsDecimal s r → ReadsDecimal s q → r ≡ q
decimal-number s r q a b =
    let e = one-reading (omega arith) (λ u v h k f. decimal-inj u v f) a b in
    number-answer (omega arith) r q e.0 e.1

pub low-first-number : (s : List ℕ) (r q : Option ℕ) → ReadsNumber s r → ReadsNumber s q → r ≡ q
low-first-number s r q a b =
    let e = one-reading (omega arith) (λ u v h k f. low-inj (length s) u v h.below k.below f) a b in
    number-answer (omega arith) r q e.0 e.1

-- ---- decimal::digits

pub written : (n : ℕ) (r q : Decimal) → AtEnd 20 (decimal n) r.chars r.from → AtEnd 20 (decimal n) q.chars q.from → r ≡ q
written n r q a b =
    let e : r.from ≡ q.from = omega (arith, a.place, b.place) in
    let f : r.chars ≡ q.chars =
    a.text-last ∙ ap (λ (k : ℕ). replicate k 0 ++ decimal n) e ∙ sym b.text-last in
    ap₂ (λ (l : List ℕ) (k : ℕ). record { chars = l; from = k }) f e
