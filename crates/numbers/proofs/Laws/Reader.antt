-- A text reads back: what the reader takes a number's text for is that number. So no two numbers have one text. And the reader's
-- loops.
-- Assumes nothing.
use mathlib.Core.Path.{◌≡◌, refl, sym, ap, ◌∙◌, subst}
use mathlib.Core.Bool.{Bool, true, false}
use mathlib.Core.List.{List, [], ◌∷◌, ◌++◌, append-nil}
use Prim.Native.Nat.{ℕ, zero, suc, ◌+◌, ◌-◌, ◌*◌, ◌/◌, ◌%◌, ◌^◌, ◌≤◌, ◌<◌}
use native.Mathlib.Nat.{div-add-mod', div-one, mul_assoc, pow-suc, pow-le-pow_right, zero-lt-suc, lt_irrefl, lt_of_lt_of_le}
use native.Mathlib.Numerals.{add-one}
use native.Mathlib.Omega.{arith}
use lib.Dec.{ltb, eqb}
use lib.IntN.{ℤ, pos, negsuc, nat_abs}
use lib.ListN.{length, drop, get_or, length-drop, drop_of_length-le}
use borrow.Author.Tests.{eq-eqb, ne_eqb, le-ltb}
use Rattle.digits.specs.Paper.Decimal.{decimal_digit, decimal}
use Rattle.digits.specs.Work.Decimal.{guess}
use Rattle.digits.proofs.Laws.Decimal.{guess-append, one-digit, guess-decimal, chars-digits, length_some}
use Rattle.digits.proofs.Laws.Parts.{next}
use Rattle.numbers.specs.Paper.Text.{below_zero, sign, last_digits, fraction, text_of, text}
use Rattle.numbers.specs.Work.Text.{step, value, pointed, behind, minus_first, signed}
use Rattle.numbers.proofs.Laws.Text.{length_last, mod-ten, one-and-fraction}

-- ---- characters that are all digits

pub record Digits (s : List ℕ) : Type 0 where
  pub each : (i : ℕ) → i < length s → (48 ≤ get_or s i 0) × (get_or s i 0 ≤ 57)

digits-tail : {c : ℕ} {s : List ℕ} → Digits (c ∷ s) → Digits s
digits-tail d = record { each = λ i h. d.each (suc i) (omega arith) }

decimal-digits : (n : ℕ) → Digits (decimal n)
decimal-digits n = record { each = chars-digits n }

last_digits_lem : (k n : ℕ) → Digits (last_digits k n)
last_digits_lem k n = digits-tail (subst Digits (one-and-fraction k n) (decimal-digits (10 ^ k + n % 10 ^ k)))

-- each is a digit of the number, and none is a point or a minus
value-digits : (s t : List ℕ) (n : ℕ) → Digits s → value n (s ++ t) ≡ value (guess n s) t
unfolding guess
value-digits [] t n d = refl
value-digits (c ∷ s) t n d =
    let b = d.each 0 (omega arith) in
    let e : n * 10 + c % 16 ≡ n * 10 + (c + 2) % 10 = omega (arith, b.0, b.1) in
    ap (λ (x : Bool). value (step x n c) (s ++ t)) (le-ltb c 48 b.0)
    ∙ value-digits s t (n * 10 + c % 16) (digits-tail d)
    ∙ ap (λ (x : ℕ). value (guess x s) t) e

behind-digits : (s t : List ℕ) → Digits s → behind (s ++ t) ≡ behind t
behind-digits [] t d = refl
behind-digits (c ∷ s) t d =
    let b = d.each 0 (omega arith) in
    ap (λ (x : Bool). pointed x (length (s ++ t)) (behind (s ++ t))) (ne_eqb c 46 (λ (e : c ≡ 46). omega (arith, b.0)))
    ∙ behind-digits s t (digits-tail d)

minus-digits : (s t : List ℕ) → Digits s → 0 < length s → minus_first (s ++ t) ≡ false
minus-digits [] t d h = absurd (omega arith)
minus-digits (c ∷ s) t d h = ne_eqb c 45 (λ (e : c ≡ 45). omega (arith, (d.each 0 (omega arith)).0))

-- ---- the parts of a text

guess-last : (k n m : ℕ) → guess m (last_digits k n) ≡ m * 10 ^ k + n % 10 ^ k
unfolding last_digits guess
guess-last zero n m = omega arith
guess-last (suc k) n m =
    let e : m * 10 ^ suc k ≡ m * 10 ^ k * 10 = ap (λ (x : ℕ). m * x) (pow-suc 10 k) ∙ sym (mul_assoc m (10 ^ k) 10) in
    let f = mod-ten k n in
    let g : (m * 10 ^ k + n / 10 % 10 ^ k) * 10 + n % 10 ≡ m * 10 ^ suc k + n % 10 ^ suc k = omega arith in
    guess-append (last_digits k (n / 10)) (decimal_digit (n % 10) ∷ []) m
    ∙ ap (λ (x : ℕ). guess x (decimal_digit (n % 10) ∷ [])) (guess-last k (n / 10) m)
    ∙ one-digit (m * 10 ^ k + n / 10 % 10 ^ k) (n % 10) (omega arith) ∙ g

value-fraction : (d n : ℕ) → value (n / 10 ^ d) (fraction d n) ≡ n
unfolding guess
value-fraction zero n = div-one n
value-fraction (suc d) n =
    ap (value (n / 10 ^ suc d)) (sym (append-nil (last_digits (suc d) n)))
    ∙ value-digits (last_digits (suc d) n) [] (n / 10 ^ suc d) (last_digits_lem (suc d) n)
    ∙ guess-last (suc d) n (n / 10 ^ suc d)
    ∙ div-add-mod' n (10 ^ suc d)

behind-fraction : (d n : ℕ) → behind (fraction d n) ≡ d
behind-fraction zero n = refl
behind-fraction (suc d) n = length_last (suc d) n

value-sign : (m : Bool) (t : List ℕ) → value 0 (sign m ++ t) ≡ value 0 t
value-sign true t = refl
value-sign false t = refl

behind-sign : (m : Bool) (t : List ℕ) → behind (sign m ++ t) ≡ behind t
behind-sign true t = refl
behind-sign false t = refl

minus-sign : (m : Bool) (t : List ℕ) → minus_first t ≡ false → minus_first (sign m ++ t) ≡ m
minus-sign true t e = refl
minus-sign false t e = e

-- ---- a text

module _ (m : Bool) (n d : ℕ) where
  abbrev whole : List ℕ
  whole = decimal (n / 10 ^ d)

  value-text : value 0 (text_of m n d) ≡ n
  unfolding text_of
  value-text =
      value-sign m (whole ++ fraction d n)
      ∙ value-digits whole (fraction d n) 0 (decimal-digits (n / 10 ^ d))
      ∙ ap (λ (x : ℕ). value x (fraction d n)) (guess-decimal (n / 10 ^ d))
      ∙ value-fraction d n

  pub behind-text : behind (text_of m n d) ≡ d
  unfolding text_of
  behind-text =
      behind-sign m (whole ++ fraction d n)
      ∙ behind-digits whole (fraction d n) (decimal-digits (n / 10 ^ d))
      ∙ behind-fraction d n

  minus-text : minus_first (text_of m n d) ≡ m
  unfolding text_of
  minus-text = minus-sign m (whole ++ fraction d n) (minus-digits whole (fraction d n) (decimal-digits (n / 10 ^ d)) (length_some (n / 10 ^ d)))

signed_back : (z : ℤ) → signed (below_zero z) (nat_abs z) ≡ z
signed_back (pos n) = refl
signed_back (negsuc n) = refl

-- what a text is taken for
abbrev pub taken : List ℕ → ℤ
taken t = signed (minus_first t) (value 0 t)

-- A NUMBER'S TEXT IS TAKEN FOR THAT NUMBER
pub taken-text : (z : ℤ) (d : ℕ) → taken (text z d) ≡ z
taken-text z d =
    ap (λ (m : Bool). signed m (value 0 (text z d))) (minus-text (below_zero z) (nat_abs z) d)
    ∙ ap (signed (below_zero z)) (value-text (below_zero z) (nat_abs z) d)
    ∙ signed_back z

-- so no two numbers have one text
pub text-inj : (y z : ℤ) (d e : ℕ) → text y d ≡ text z e → (y ≡ z) × (d ≡ e)
text-inj y z d e p = (
  sym (taken-text y d) ∙ ap taken p ∙ taken-text z e,
  sym (behind-text (below_zero y) (nat_abs y) d) ∙ ap behind p ∙ behind-text (below_zero z) (nat_abs z) e,
)

-- ---- the reader's loops over t: i characters are passed

-- n is the number of the digits passed, and what is left makes the whole of it
pub record Valued (t : List ℕ) (n i : ℕ) : Type 0 where
  pub passed : i ≤ length t
  pub small : n < 16 ^ i
  pub rest : value n (drop i t) ≡ value 0 t

step-lt : (b : Bool) (n c i : ℕ) → n < 16 ^ i → step b n c < 16 ^ (i + 1)
step-lt true n c i h = let e : 16 ^ (i + 1) ≡ 16 ^ i * 16 = ap (λ (j : ℕ). 16 ^ j) (add-one i) ∙ pow-suc 16 i in omega arith
step-lt false n c i h = let e : 16 ^ (i + 1) ≡ 16 ^ i * 16 = ap (λ (j : ℕ). 16 ^ j) (add-one i) ∙ pow-suc 16 i in omega arith

module _ {t : List ℕ} {n i : ℕ} (v : Valued t n i) where
  pub valued-next : i < length t → Valued t (step (ltb (get_or t i 0) 48) n (get_or t i 0)) (i + 1)
  valued-next h =
      record {
        passed = omega arith;
        small = step-lt (ltb (get_or t i 0) 48) n (get_or t i 0) i v.small;
        rest = sym (ap (value n) (next t i h)) ∙ v.rest;
      }

  pub valued-end : length t ≤ i → n ≡ value 0 t
  valued-end h = sym (ap (value n) (drop_of_length-le t h)) ∙ v.rest

  pub valued-lt : length t ≤ 12 → n < 2 ^ 48
  valued-lt h =
      let p : i ≤ 12 = omega (arith, v.passed) in
      let e : 16 ^ i ≤ 16 ^ 12 = pow-le-pow_right (zero-lt-suc 15) p in
      omega (arith, v.small)

-- no character passed is a point
module _ (t : List ℕ) (i : ℕ) where
  pub point-here : i < length t → get_or t i 0 ≡ 46 → length t - (i + 1) ≡ behind (drop i t)
  point-here h e =
      sym (ap behind (next t i h)
      ∙ ap (λ (b : Bool). pointed b (length (drop (i + 1) t)) (behind (drop (i + 1) t))) (eq-eqb (get_or t i 0) 46 e)
      ∙ length-drop (i + 1) t)

  pub point-later : i < length t → (get_or t i 0 ≡ 46 → ⊥) → behind (drop (i + 1) t) ≡ behind (drop i t)
  point-later h e =
      sym (ap behind (next t i h)
      ∙ ap (λ (b : Bool). pointed b (length (drop (i + 1) t)) (behind (drop (i + 1) t))) (ne_eqb (get_or t i 0) 46 e))

  pub no-point : length t ≤ i → behind (drop i t) ≡ 0
  no-point h = ap behind (drop_of_length-le t h)

pub minus-at : (t : List ℕ) → 0 < length t → eqb (get_or t 0 0) 45 ≡ minus_first t
minus-at [] h = absurd (lt_irrefl 0 h)
minus-at (c ∷ t) h = refl

pub minus-none : (t : List ℕ) → length t ≤ 0 → false ≡ minus_first t
minus-none [] h = refl
minus-none (c ∷ t) h = absurd (lt_irrefl 0 (lt_of_lt_of_le (zero-lt-suc (length t)) h))
