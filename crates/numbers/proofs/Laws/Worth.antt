-- What the digits of a number's text are worth.
-- Assumes nothing.
use mathlib.Core.Path.{◌≡◌, refl, sym, ap, ◌∙◌}
use mathlib.Core.List.{List, [], ◌∷◌, ◌++◌}
use Prim.Native.Nat.{ℕ, zero, suc, ◌+◌, ◌-◌, ◌*◌, ◌/◌, ◌%◌, ◌^◌, ◌≤◌, ◌<◌}
use native.Mathlib.Nat.{pow-suc, mul_assoc, mod-lt, zero-lt-suc, div-add-mod'}
use native.Mathlib.Omega.{arith}
use lib.ListN.{length, get_or}
use Rattle.digits.specs.Paper.Decimal.{decimal_digit, decimal}
use Rattle.digits.specs.Work.Decimal.{guess}
use Rattle.digits.proofs.Laws.Decimal.{guess-decimal, chars-digits}
use Rattle.numbers.specs.Paper.Text.{last_digits, fraction}
use Rattle.numbers.specs.Paper.Exact.{Digits, none, one, worth_behind, worth, pointed}
use Rattle.numbers.proofs.Laws.Text.{length_last, mod-ten}

-- ---- what is a digit

digits_append : {s t : List ℕ} → Digits s → Digits t → Digits (s ++ t)
digits_append none d = d
digits_append (one h k r) d = one h k (digits_append r d)

by-places : (s : List ℕ) → ((i : ℕ) → i < length s → (48 ≤ get_or s i 0) × (get_or s i 0 ≤ 57)) → Digits s
by-places [] f = none
by-places (c ∷ s) f = one (f 0 (omega arith)).0 (f 0 (omega arith)).1 (by-places s (λ i h. f (suc i) (omega arith)))

last-digit : (n : ℕ) → Digits (decimal_digit (n % 10) ∷ [])
last-digit n = let h : n % 10 < 10 = mod-lt n (zero-lt-suc 9) in one {c = decimal_digit (n % 10)} (omega arith) (omega arith) none

digits_last : (k n : ℕ) → Digits (last_digits k n)
unfolding last_digits
digits_last zero n = none
digits_last (suc k) n = digits_append (digits_last k (n / 10)) (last-digit n)

pub all_digits : (n k m : ℕ) → Digits (decimal n ++ last_digits k m)
all_digits n k m = digits_append (by-places (decimal n) (chars-digits n)) (digits_last k m)

-- ---- what they are worth

worth-append : (s t : List ℕ) (n : ℕ) → worth_behind n (s ++ t) ≡ worth_behind (worth_behind n s) t
unfolding worth_behind
worth-append [] t n = refl
worth-append (c ∷ s) t n = worth-append s t _

worth-digit : (n v : ℕ) → worth_behind n (decimal_digit v ∷ []) ≡ n * 10 + v
unfolding worth_behind
worth-digit n v = let e : 48 + v - 48 ≡ v = omega arith in rw e

as-guessed : {s : List ℕ} → Digits s → (n : ℕ) → worth_behind n s ≡ guess n s
unfolding worth_behind guess
as-guessed none n = refl
as-guessed (one {c} {s} h k r) n = let e : c - 48 ≡ (c + 2) % 10 = omega arith in rw e (as-guessed r (n * 10 + (c + 2) % 10))

worth-decimal : (n : ℕ) → worth (decimal n) ≡ n
worth-decimal n = as-guessed (by-places (decimal n) (chars-digits n)) 0 ∙ guess-decimal n

worth-last : (k n m : ℕ) → worth_behind m (last_digits k n) ≡ m * 10 ^ k + n % 10 ^ k
unfolding worth_behind last_digits
worth-last zero n m = omega arith
worth-last (suc k) n m =
    let q : m * 10 ^ suc k ≡ m * 10 ^ k * 10 = ap (λ (x : ℕ). m * x) (pow-suc 10 k) ∙ sym (mul_assoc m (10 ^ k) 10) in
    worth-append (last_digits k (n / 10)) (decimal_digit (n % 10) ∷ []) m
    ∙ worth-digit (worth_behind m (last_digits k (n / 10))) (n % 10)
    ∙ omega (arith, worth-last k (n / 10) m, mod-ten k n, q)

-- the digits before the point and those behind it are worth the number
pub worth-both : (n d : ℕ) → worth (decimal (n / 10 ^ d) ++ last_digits d n) ≡ n
worth-both n d =
    worth-append (decimal (n / 10 ^ d)) (last_digits d n) 0
    ∙ ap (λ (m : ℕ). worth_behind m (last_digits d n)) (worth-decimal (n / 10 ^ d))
    ∙ worth-last d n (n / 10 ^ d) ∙ div-add-mod' n (10 ^ d)

-- ---- the point

pointed-some : (s : List ℕ) → 0 < length s → pointed s ≡ 46 ∷ s
pointed-some [] h = absurd (omega arith)
pointed-some (c ∷ s) h = refl

pub point-before : (d n : ℕ) → fraction d n ≡ pointed (last_digits d n)
unfolding last_digits
point-before zero n = refl
point-before (suc d) n = sym (pointed-some (last_digits (suc d) n) (omega (arith, length_last (suc d) n)))
