-- The decimal digits of a number below 100,000, one by one.
-- Assumes nothing.
use mathlib.Core.List.{List, [], ◌∷◌, ◌++◌}
use mathlib.Core.Path.{◌≡◌, sym, ap, ap₂, ◌∙◌}
use Prim.Native.Nat.{ℕ, ◌/◌, ◌%◌, ◌≤◌, ◌<◌}
use native.Mathlib.Omega.{arith}
use Rattle.digits.specs.Paper.Decimal.{decimal_digit, decimal}
use Rattle.digits.proofs.Laws.Decimal.{decimal-small, decimal-more}

-- the last digit
abbrev figure : ℕ → ℕ
figure n = decimal_digit (n % 10)

-- those of n / 10, and then the last
longer : (n : ℕ) {x : ℕ} {d : List ℕ} → 10 ≤ n → d ≡ decimal (n / 10) → x ≡ figure n → d ++ (x ∷ []) ≡ decimal n
longer n h e f = ap₂ (λ (d : List ℕ) (i : ℕ). d ++ (i ∷ [])) e f ∙ sym (decimal-more n h)

pub one : (n : ℕ) {a : ℕ} → n < 10 → a ≡ figure n → a ∷ [] ≡ decimal n
one n h a = let e : n % 10 ≡ n = omega arith in ap (λ (i : ℕ). i ∷ []) (a ∙ ap decimal_digit e) ∙ sym (decimal-small n h)

pub two : (n : ℕ) {a b : ℕ} → 10 ≤ n → n < 100 → a ≡ figure (n / 10) → b ≡ figure n → a ∷ b ∷ [] ≡ decimal n
two n h k a b = longer n h (one (n / 10) (omega arith) a) b

-- a digit further to the left is one of n / 10
left : {x m k : ℕ} → x ≡ figure m → m ≡ k → x ≡ figure k
left a e = a ∙ ap figure e

pub three : (n : ℕ) {a b c : ℕ} → 100 ≤ n → n < 1000 → a ≡ figure (n / 100) → b ≡ figure (n / 10) → c ≡ figure n
    → a ∷ b ∷ c ∷ [] ≡ decimal n
three n h k a b c = longer n (omega arith) (two (n / 10) (omega arith) (omega arith) (left a (omega arith)) b) c

pub four : (n : ℕ) {a b c d : ℕ} → 1000 ≤ n → n < 10000 → a ≡ figure (n / 1000) → b ≡ figure (n / 100) → c ≡ figure (n / 10)
    → d ≡ figure n → a ∷ b ∷ c ∷ d ∷ [] ≡ decimal n
four n h k a b c d = longer n (omega arith) (three (n / 10) (omega arith) (omega arith) (left a (omega arith)) (left b (omega arith)) c) d

pub five : (n : ℕ) {a b c d e : ℕ} → 10000 ≤ n → n < 100000 → a ≡ figure (n / 10000) → b ≡ figure (n / 1000) → c ≡ figure (n / 100)
    → d ≡ figure (n / 10) → e ≡ figure n → a ∷ b ∷ c ∷ d ∷ e ∷ [] ≡ decimal n
five n h k a b c d e =
    longer n (omega arith)
    (four (n / 10) (omega arith) (omega arith) (left a (omega arith)) (left b (omega arith)) (left c (omega arith)) d) e
