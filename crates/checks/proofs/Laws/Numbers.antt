-- Numbers as bits: a number is what its bits say, the bits of an exclusive or, and the bits of a number one place on.
-- Assumes nothing.
use mathlib.Core.Bool.{Bool, true, false}
use mathlib.Core.List.{List, [], ◌∷◌, ◌++◌, reverse, reverse-cons, reverse-append, reverse-reverse}
use mathlib.Core.Path.{◌≡◌, refl, sym, ap, ap₂, ◌∙◌}
use Prim.Native.Nat.{ℕ, zero, suc, ◌+◌, ◌*◌, ◌/◌, ◌%◌, ◌^◌, ◌<◌}
use native.Mathlib.Nat.{mul_assoc, mul-one, zero-add, suc-add, pow-suc, div-add-mod'}
use native.Mathlib.Omega.{arith}
use lib.Arith.{lt-one, digits_div, digits_mod}
use lib.Bits.{bit_xor, differ, xor_step}
use lib.ListN.{length, length-reverse}
use Rattle.digits.specs.Paper.Bits.{is_set, lows}
use Rattle.checks.specs.Paper.Bits.{BitOrder, high_bit_first, low_bit_first, bits, worth, of_lows, of_bits}
use Rattle.checks.specs.Paper.Check.{xor, mix, shift}
use Rattle.checks.proofs.Laws.Register.{mix-append, mix-zero}

-- ---- lengths

length-lows : (w n : ℕ) → length (lows w n) ≡ w
unfolding lows
length-lows zero n = refl
length-lows (suc w) n = ap suc (length-lows w (n / 2))

pub length-bits : (o : BitOrder) (w n : ℕ) → length (bits o w n) ≡ w
unfolding bits
length-bits high_bit_first w n = length-reverse (lows w n) ∙ length-lows w n
length-bits low_bit_first w n = length-lows w n

-- ---- a number from its bits, and bits from their number

worth-is_set : (n : ℕ) → n < 2 → worth (is_set n) ≡ n
worth-is_set zero h = refl
worth-is_set (suc n) h = omega arith

worth-lt : (b : Bool) → worth b < 2
worth-lt false = omega arith
worth-lt true = omega arith

is_set-worth : (b : Bool) → is_set (worth b) ≡ b
is_set-worth false = refl
is_set-worth true = refl

half_lt : (w n : ℕ) → n < 2 ^ suc w → n / 2 < 2 ^ w
half_lt w n h = omega (arith, pow-suc 2 w)

of_lows-lows : (w n : ℕ) → n < 2 ^ w → of_lows (lows w n) ≡ n
unfolding lows of_lows
of_lows-lows zero n h = sym (lt-one h)
of_lows-lows (suc w) n h =
    omega (arith, of_lows-lows w (n / 2) (half_lt w n h), worth-is_set (n % 2) (omega arith), div-add-mod' n 2)

lows-of_lows : (l : List Bool) → lows (length l) (of_lows l) ≡ l
unfolding lows of_lows
lows-of_lows [] = refl
lows-of_lows (b ∷ l) =
    cc (digits_mod (of_lows l) (worth-lt b), digits_div (of_lows l) (worth-lt b), is_set-worth b, lows-of_lows l)

pub number-bits : (o : BitOrder) (w n : ℕ) → n < 2 ^ w → of_bits o (bits o w n) ≡ n
unfolding bits of_bits
number-bits high_bit_first w n h = ap of_lows (reverse-reverse (lows w n)) ∙ of_lows-lows w n h
number-bits low_bit_first w n h = of_lows-lows w n h

bits_of_number : (o : BitOrder) (l : List Bool) → bits o (length l) (of_bits o l) ≡ l
unfolding bits of_bits
bits_of_number high_bit_first l = cc (length-reverse l, lows-of_lows (reverse l), reverse-reverse l)
bits_of_number low_bit_first l = lows-of_lows l

pub bits-number : (o : BitOrder) (w : ℕ) (l : List Bool) → length l ≡ w → bits o w (of_bits o l) ≡ l
bits-number o w l h = cc (bits_of_number o l)

of_lows-lt : (l : List Bool) → of_lows l < 2 ^ length l
unfolding of_lows
of_lows-lt [] = omega arith
of_lows-lt (b ∷ l) = omega (arith, of_lows-lt l, worth-lt b, pow-suc 2 (length l))

pub number_lt : (o : BitOrder) (w : ℕ) (l : List Bool) → length l ≡ w → of_bits o l < 2 ^ w
unfolding of_bits
number_lt high_bit_first w l h = rw (← h, ← length-reverse l) (of_lows-lt (reverse l))
number_lt low_bit_first w l h = rw (← h) (of_lows-lt l)

-- ---- exclusive or

is_set-differ : (x y : ℕ) → x < 2 → y < 2 → is_set (differ x y) ≡ xor (is_set x) (is_set y)
is_set-differ zero y hx hy = refl
is_set-differ (suc x) zero hx hy = refl
is_set-differ (suc x) (suc y) hx hy =
    let a : x ≡ 0 = omega arith in
    let b : y ≡ 0 = omega arith in
    ap₂ (λ (s t : ℕ). is_set (differ s t)) a b

differ-lt : (x y : ℕ) → x < 2 → y < 2 → differ x y < 2
differ-lt zero y hx hy = hy
differ-lt (suc x) zero hx hy = hx
differ-lt (suc x) (suc y) hx hy =
    let a : x ≡ 0 = omega arith in
    let b : y ≡ 0 = omega arith in
    rw (a, b) (omega arith)

lows-xor : (w a b : ℕ) → lows w (bit_xor a b) ≡ mix (lows w a) (lows w b)
unfolding lows
lows-xor zero a b = refl
lows-xor (suc w) a b =
    let ha : a % 2 < 2 = omega arith in
    let hb : b % 2 < 2 = omega arith in
    let d = differ-lt (a % 2) (b % 2) ha hb in
    let q : ℕ = bit_xor (a / 2) (b / 2) in
    cc (xor_step a b, digits_mod q d, digits_div q d, is_set-differ (a % 2) (b % 2) ha hb, lows-xor w (a / 2) (b / 2))

reverse-mix : (a b : List Bool) → length a ≡ length b → reverse (mix a b) ≡ mix (reverse a) (reverse b)
reverse-mix [] [] h = refl
reverse-mix [] (y ∷ b) h = absurd (omega arith)
reverse-mix (x ∷ a) [] h = absurd (omega arith)
reverse-mix (x ∷ a) (y ∷ b) h =
    cc (
      reverse-cons (xor x y) (mix a b),
      reverse-mix a b (omega arith),
      reverse-cons x a,
      reverse-cons y b,
      mix-append (reverse a) (reverse b) (x ∷ []) (y ∷ []) (omega (arith, length-reverse a, length-reverse b)),
    )

pub bits-xor : (o : BitOrder) (w a b : ℕ) → bits o w (bit_xor a b) ≡ mix (bits o w a) (bits o w b)
unfolding bits
bits-xor high_bit_first w a b =
    ap reverse (lows-xor w a b) ∙ reverse-mix (lows w a) (lows w b) (length-lows w a ∙ sym (length-lows w b))
bits-xor low_bit_first w a b = lows-xor w a b

-- ---- one place on

shift_suc : (a k : ℕ) → a * 2 ^ suc k ≡ a * 2 ^ k * 2
shift_suc a k = ap (λ (x : ℕ). a * x) (pow-suc 2 k) ∙ sym (mul_assoc a (2 ^ k) 2)

-- the bit at place k, above n
lows-top : (k n : ℕ) (b : Bool) → n < 2 ^ k → lows (suc k) (worth b * 2 ^ k + n) ≡ lows k n ++ (b ∷ [])
unfolding lows
lows-top zero n false h = ap (λ (x : ℕ). is_set ((0 + x) % 2) ∷ []) (lt-one h)
lows-top zero n true h = ap (λ (x : ℕ). is_set ((1 + x) % 2) ∷ []) (lt-one h)
lows-top (suc k) n b h =
    let m : ℕ = worth b * 2 ^ suc k + n in
    let low : m % 2 ≡ n % 2 = omega (arith, shift_suc (worth b) k) in
    let high : m / 2 ≡ worth b * 2 ^ k + n / 2 = omega (arith, shift_suc (worth b) k) in
    cc (low, high, lows-top k (n / 2) b (half_lt k n h))

-- the number of k + 1 bits whose first bit is b and whose others are those of m
abbrev front : BitOrder → ℕ → Bool → ℕ → ℕ
front high_bit_first k b m = worth b * 2 ^ k + m
front low_bit_first k b m = m * 2 + worth b

-- the number of k + 1 bits whose first bits are those of m and whose last is 0
abbrev moved : BitOrder → ℕ → ℕ
moved high_bit_first m = m * 2
moved low_bit_first m = m

bits-front : (o : BitOrder) (k : ℕ) (b : Bool) (m : ℕ) → m < 2 ^ k → bits o (suc k) (front o k b m) ≡ b ∷ bits o k m
unfolding bits lows
bits-front high_bit_first k b m h = ap reverse (lows-top k m b h) ∙ reverse-append (lows k m) (b ∷ [])
bits-front low_bit_first k b m h = cc (digits_mod m (worth-lt b), digits_div m (worth-lt b), is_set-worth b)

bits-moved : (o : BitOrder) (k m : ℕ) → m < 2 ^ k → bits o (suc k) (moved o m) ≡ bits o k m ++ (false ∷ [])
unfolding bits lows
bits-moved high_bit_first k m h =
    let a : m * 2 % 2 ≡ 0 = omega arith in
    let b : m * 2 / 2 ≡ m = omega arith in
    ap₂ (λ (x : ℕ) (y : ℕ). reverse (is_set x ∷ lows k y)) a b ∙ reverse-cons false (lows k m)
bits-moved low_bit_first k m h =
    let e : m ≡ 0 * 2 ^ k + m = omega arith in
    ap (lows (suc k)) e ∙ lows-top k m false h

-- the register one place on, as a number: where the bit that leaves v is clear, and where it is set; m has the bits that stay
pub shift-clear : (o : BitOrder) (k v m : ℕ) (p : List Bool) → m < 2 ^ k → v ≡ front o k false m
    → bits o (suc k) (moved o m) ≡ shift p (bits o (suc k) v)
shift-clear o k v m p h e = rw (e, bits-front o k false m h) (bits-moved o k m h)

pub shift-set : (o : BitOrder) (k v m poly : ℕ) → m < 2 ^ k → v ≡ front o k true m
    → bits o (suc k) (bit_xor (moved o m) poly) ≡ shift (bits o (suc k) poly) (bits o (suc k) v)
shift-set o k v m poly h e = rw (e, bits-front o k true m h, bits-xor o (suc k) (moved o m) poly, bits-moved o k m h)

-- ---- a number laid at the head of a wider register

abbrev up : BitOrder → ℕ → ℕ → ℕ
up high_bit_first m b = b * 2 ^ m
up low_bit_first m b = b

up_lt : (o : BitOrder) (m k b : ℕ) → b < 2 ^ k → up o m b < 2 ^ (m + k)
up_lt high_bit_first zero k b h = omega (arith, mul-one b, ap (λ (x : ℕ). 2 ^ x) (zero-add k))
up_lt low_bit_first zero k b h = omega (arith, ap (λ (x : ℕ). 2 ^ x) (zero-add k))
up_lt high_bit_first (suc m) k b h =
    omega (arith, up_lt high_bit_first m k b h, shift_suc b m, ap (λ (x : ℕ). 2 ^ x) (suc-add m k), pow-suc 2 (m + k))
up_lt low_bit_first (suc m) k b h =
    omega (arith, up_lt low_bit_first m k b h, ap (λ (x : ℕ). 2 ^ x) (suc-add m k), pow-suc 2 (m + k))

up_suc : (o : BitOrder) (m b : ℕ) → up o (suc m) b ≡ moved o (up o m b)
up_suc high_bit_first m b = shift_suc b m
up_suc low_bit_first m b = refl

up-zero : (o : BitOrder) (b : ℕ) → up o zero b ≡ b
up-zero high_bit_first b = mul-one b
up-zero low_bit_first b = refl

laid : (o : BitOrder) (m k b : ℕ) (a : List Bool) → b < 2 ^ k → mix a (bits o (m + k) (up o m b)) ≡ mix a (bits o k b)
laid o zero k b a h = cc (zero-add k, up-zero o b)
laid o (suc m) k b a h =
    cc (
      suc-add m k,
      up_suc o m b,
      bits-moved o (m + k) (up o m b) (up_lt o m k b h),
      mix-zero a (bits o (m + k) (up o m b)),
      laid o m k b a h,
    )

pub bits-laid : (o : BitOrder) (m k v b : ℕ) → b < 2 ^ k → bits o (m + k) (bit_xor v (up o m b)) ≡ mix (bits o (m + k) v) (bits o k b)
bits-laid o m k v b h = bits-xor o (m + k) v (up o m b) ∙ laid o m k b (bits o (m + k) v) h
