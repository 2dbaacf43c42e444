-- A number's text: its digits behind the point, how long it is, and how its parts stand in the characters that the code has.
-- Assumes nothing.
use mathlib.Core.Path.{◌≡◌, refl, sym, ap, ◌∙◌, subst}
use mathlib.Core.Bool.{Bool, true, false}
use mathlib.Core.List.{List, [], ◌∷◌, ◌++◌, append_assoc}
use Prim.Native.Nat.{ℕ, zero, suc, ◌+◌, ◌-◌, ◌*◌, ◌/◌, ◌%◌, ◌^◌, ◌≤◌, ◌<◌}
use native.Mathlib.Nat.{pow-suc, pow-le-pow_right, zero-lt-suc, one-le-pow, mod-lt, sub-zero}
use native.Mathlib.Omega.{arith}
use lib.Arith.{mod-mul}
use lib.IntN.{ℤ, nat_abs}
use lib.ListN.{length, take, drop, replicate, length-append, length-replicate}
use lib.Seq.{drop_at, take_all}
use Rattle.digits.specs.Paper.Answers.{AtEnd}
use Rattle.digits.specs.Paper.Decimal.{decimal_digit, decimal}
use Rattle.digits.proofs.Laws.Decimal.{decimal-small, decimal-more, length-decimal}
use Rattle.puts.specs.Paper.Put.{Put}
use Rattle.puts.proofs.Laws.Puts.{puts-as, put-length, front-count, front_bytes}
use Rattle.numbers.specs.Paper.Raw.{Raw, most_decimals}
use Rattle.numbers.specs.Paper.Text.{below_zero, sign, last_digits, fraction, text_of, text}
use Rattle.numbers.specs.Work.Text.{Front}
use Rattle.numbers.proofs.Laws.Signs.{magnitude-lt}

pub ten-pos : (k : ℕ) → 0 < 10 ^ k
ten-pos k = one-le-pow k 10 (zero-lt-suc 9)

-- ---- the last digits

pub length_last : (k n : ℕ) → length (last_digits k n) ≡ k
unfolding last_digits
length_last zero n = refl
length_last (suc k) n = omega (arith, length-append (last_digits k (n / 10)) (decimal_digit (n % 10) ∷ []), length_last k (n / 10))

-- the last k + 1 digits of n in two parts: the last, and the k before it
pub mod-ten : (k n : ℕ) → n % 10 ^ suc k ≡ n / 10 % 10 ^ k * 10 + n % 10
mod-ten k n = ap (λ (x : ℕ). n % x) (pow-suc 10 k) ∙ mod-mul n (ten-pos k) (zero-lt-suc 9)

-- what stands before the last k digits does not matter
pub last-mod : (k n : ℕ) → last_digits k (n % 10 ^ k) ≡ last_digits k n
unfolding last_digits
last-mod zero n = refl
last-mod (suc k) n =
    let e = mod-ten k n in
    let f : n % 10 ^ suc k / 10 ≡ n / 10 % 10 ^ k = omega arith in
    let g : n % 10 ^ suc k % 10 ≡ n % 10 = omega arith in
    rw (f, g, last-mod k (n / 10))

-- the digits of 10 ^ k and a number below it are a `1` and that number's last k
pub one-and-last : (k n : ℕ) → n < 10 ^ k → decimal (10 ^ k + n) ≡ decimal_digit 1 ∷ last_digits k n
unfolding last_digits
one-and-last zero n h = let e : n ≡ 0 = omega arith in ap (λ (x : ℕ). decimal (1 + x)) e ∙ decimal-small 1 (omega arith)
one-and-last (suc k) n h =
    let p : 10 ^ suc k ≡ 10 ^ k * 10 = pow-suc 10 k in
    let t = ten-pos k in
    let e : (10 ^ suc k + n) / 10 ≡ 10 ^ k + n / 10 = omega arith in
    let f : (10 ^ suc k + n) % 10 ≡ n % 10 = omega arith in
    decimal-more (10 ^ suc k + n) (omega arith)
    ∙ rw (e, f) (ap (λ (l : List ℕ). l ++ (decimal_digit (n % 10) ∷ [])) (one-and-last k (n / 10) (omega arith)))

pub one-and-fraction : (k n : ℕ) → decimal (10 ^ k + n % 10 ^ k) ≡ decimal_digit 1 ∷ last_digits k n
one-and-fraction k n = one-and-last k (n % 10 ^ k) (mod-lt n (ten-pos k)) ∙ ap (λ (l : List ℕ). decimal_digit 1 ∷ l) (last-mod k n)

-- ---- how long a text is

pub fraction-some : (d n : ℕ) → (d ≡ 0 → ⊥) → fraction d n ≡ 46 ∷ last_digits d n
fraction-some zero n h = absurd (h refl)
fraction-some (suc d) n h = refl

pub fraction-none : (d n : ℕ) → d ≡ 0 → fraction d n ≡ []
fraction-none d n e = ap (λ (x : ℕ). fraction x n) e

pub length-text : (m : Bool) (n d : ℕ) → length (text_of m n d) ≡ length (sign m) + (length (decimal (n / 10 ^ d)) + length (fraction d n))
unfolding text_of
length-text m n d = simp length-append

pub length-sign : (m : Bool) → length (sign m) ≤ 1
length-sign true = omega arith
length-sign false = omega arith

-- a number below 2 ^ 32 has at most ten digits, d of them behind the point
pub text-short : (m : Bool) (n d : ℕ) → n < 2 ^ 32 → d ≤ most_decimals → length (text_of m n d) ≤ 12
text-short m n zero s h = omega (arith, length-text m n 0, length-sign m, length-decimal 9 (n / 1) (omega arith))
text-short m n (suc zero) s h = omega (arith, length-text m n 1, length-sign m, length-decimal 8 (n / 10) (omega arith), length_last 1 n)
text-short m n (suc (suc zero)) s h = omega (arith, length-text m n 2, length-sign m, length-decimal 7 (n / 100) (omega arith), length_last 2 n)
text-short m n (suc (suc (suc zero))) s h = omega (arith, length-text m n 3, length-sign m, length-decimal 6 (n / 1000) (omega arith), length_last 3 n)
text-short m n (suc (suc (suc (suc d)))) s h = absurd (omega arith)

-- ---- where it stands in characters

-- of a text at the end of its room, what follows its first character
pub rest_part : {room from : ℕ} {c : ℕ} {text chars : List ℕ} (e : ℕ) → AtEnd room (c ∷ text) chars from → e + length text ≡ room
    → take (room - e) (drop e chars) ≡ text
rest_part {room} {from} {c} {text} {chars} e a h =
    let k : length (replicate from 0 ++ (c ∷ [])) ≡ e = omega (arith, length-append (replicate from 0) (c ∷ []), length-replicate {A = ℕ} from 0, a.place) in
    ap (λ (l : List ℕ). take (room - e) (drop e l)) (a.text-last ∙ sym (append_assoc (replicate from 0) (c ∷ []) text))
    ∙ ap (take (room - e)) (drop_at (replicate from 0 ++ (c ∷ [])) text e k)
    ∙ take_all (room - e) text (omega arith)

-- the digits behind the point, where the code has those of 10 ^ d and the fraction
pub fraction-part : (d n one : ℕ) {from : ℕ} {chars : List ℕ} → one ≡ 10 ^ d → d ≤ most_decimals → AtEnd 20 (decimal (one + n % one)) chars from
    → take (20 - (20 - d)) (drop (20 - d) chars) ≡ last_digits d n
fraction-part d n one {from} {chars} e h a =
    let f : decimal (one + n % one) ≡ decimal_digit 1 ∷ last_digits d n = ap (λ (x : ℕ). decimal (x + n % x)) e ∙ one-and-fraction d n in
    rest_part (20 - d) (subst (λ (l : List ℕ). AtEnd 20 l chars from) f a) (omega (arith, length_last d n))

pub unit-le : (d : ℕ) → d ≤ most_decimals → 10 ^ d ≤ 1000
unit-le d h = pow-le-pow_right (zero-lt-suc 9) h

-- what is put by sign and magnitude is the number's text
pub text-put : {r s : List ℕ} {k : ℕ} (y z : ℤ) (d : ℕ) {m : Bool} {n : ℕ} → m ≡ below_zero y → n ≡ nat_abs y → y ≡ z → Put r s 0 k (text_of m n d) → Put r s 0 k (text z d)
text-put y z d {m} {n} e f g p =
    puts-as (ap (λ (b : Bool). text_of b n d) e ∙ ap (λ (x : ℕ). text_of (below_zero y) x d) f ∙ ap (λ (x : ℤ). text x d) g) p

-- a raw number's text, put at the front of twelve characters
pub at_front : {r s : List ℕ} {k : ℕ} (z : ℤ) (d : ℕ) → Raw z → d ≤ most_decimals → length r ≡ 12
    → Put r s 0 k (text z d) → Front (text z d) s k
at_front {r} {s} {k} z d raw few l p =
    let short : length (text z d) ≤ length r = omega (arith, text-short (below_zero z) (nat_abs z) d (magnitude-lt z raw) few) in
    let count : k ≡ length (text z d) = front-count p short in
    record { room = put-length p ∙ l; within = omega arith; count = count; front = ap (λ (n : ℕ). take n s) (sub-zero k) ∙ front_bytes p short }
