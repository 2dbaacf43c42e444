-- Numbers as bytes, low byte first, there and back.
-- Assumes nothing.
use mathlib.Core.Path.{◌≡◌, refl, sym, ap, ap₂, ◌∙◌, subst}
use Prim.Native.Nat.{ℕ, zero, suc, ◌+◌, ◌-◌, ◌*◌, ◌/◌, ◌%◌, ◌^◌, ◌≤◌, ◌<◌}
use mathlib.Core.List.{List, [], ◌∷◌}
use native.Mathlib.Omega.{arith}
use native.Mathlib.Nat.{pow-suc, le_refl, div-div-eq-div-mul}
use Rattle.std.specs.Int.{bytes_low_first, byte_at}
use lib.Dec.{lit<}
use lib.ListN.{length, get_or, take, drop, length-drop}
use lib.Seq.{drop-cons}
use Rattle.digits.specs.Paper.Bytes.{Bytes}
use Rattle.digits.specs.Paper.LowFirst.{Width, one, two, four, Held, low_byte_first}
use Rattle.digits.specs.Paper.Read.{Reads, is, none}
use Rattle.digits.specs.Paper.LowFirst.{low_value}
use Rattle.digits.proofs.Laws.Reads.{refused}
use Rattle.digits.proofs.Laws.Bytes.{bytes-nil, bytes-cons, bytes-head, bytes-tail, bytes_drop}

pub width-most : {w : ℕ} → Width w → w ≤ 4
width-most one = omega arith
width-most two = omega arith
width-most four = omega arith

pub length-low : (w n : ℕ) → length (low_byte_first w n) ≡ w
unfolding low_byte_first
length-low zero n = refl
length-low (suc w) n = ap suc (length-low w (n / 256))

pub bytes_low : (w n : ℕ) → Bytes (low_byte_first w n)
unfolding low_byte_first
bytes_low zero n = bytes-nil
bytes_low (suc w) n = bytes-cons (omega arith) (bytes_low w (n / 256))

-- a narrower form is the front of a wider one
pub low-take : (v w n : ℕ) → v ≤ w → take v (low_byte_first w n) ≡ low_byte_first v n
unfolding low_byte_first
low-take zero w n h = refl
low-take (suc v) zero n h = absurd (omega arith)
low-take (suc v) (suc w) n h = ap (λ (l : List ℕ). n % 256 ∷ l) (low-take v w (n / 256) (omega arith))

-- ---- there and back

pub value_low : (w n : ℕ) → n < 256 ^ w → low_value (low_byte_first w n) ≡ n
unfolding low_byte_first low_value
value_low zero n h = omega arith
value_low (suc w) n h =
    let p : n < 256 ^ w * 256 = rw pow-suc at h in
    let q : n / 256 < 256 ^ w = omega arith in
    rw (value_low w (n / 256) q) (omega arith)

pub low_value_lem : (s : List ℕ) → Bytes s → low_byte_first (length s) (low_value s) ≡ s
unfolding low_byte_first low_value
low_value_lem [] b = refl
low_value_lem (x ∷ s) b =
    let k : x < 256 = bytes-head b in
    let h : (x + low_value s * 256) % 256 ≡ x = omega arith in
    let q : (x + low_value s * 256) / 256 ≡ low_value s = omega arith in
    rw (h, q, low_value_lem s (bytes-tail b))

pub low-inj : (w u v : ℕ) → u < 256 ^ w → v < 256 ^ w → low_byte_first w u ≡ low_byte_first w v → u ≡ v
low-inj w u v h k e = sym (value_low w u h) ∙ ap low_value e ∙ value_low w v k

pub value-lt : (w : ℕ) (s : List ℕ) → Bytes s → length s ≤ w → low_value s < 256 ^ w
unfolding low_value
value-lt zero [] b e = lit< tt
value-lt zero (x ∷ s) b e = absurd (omega arith)
value-lt (suc w) [] b e = let h = value-lt w [] b (omega arith) in rw pow-suc (omega arith)
value-lt (suc w) (x ∷ s) b e =
    let l : length s ≤ w = omega arith in
    let h = value-lt w s (bytes-tail b) l in
    rw pow-suc (omega (arith, bytes-head b))

pub low-all : (s : List ℕ) → Bytes s → (n : ℕ) × (n < 256 ^ length s) × (low_byte_first (length s) n ≡ s)
low-all s b = (low_value s, value-lt (length s) s b (le_refl (length s)), low_value_lem s b)

-- ---- read from the last byte to the first

-- one byte more in front
pub value-step : (s : List ℕ) (i : ℕ) → 0 < i → i ≤ length s → get_or s (i - 1) 0 + low_value (drop i s) * 256 ≡ low_value (drop (i - 1) s)
unfolding low_value
value-step s i p h =
    let l : i - 1 < length s = omega arith in
    let e : suc (i - 1) ≡ i = omega arith in
    sym (ap low_value (drop-cons s (i - 1) 0 l ∙ ap (λ (j : ℕ). get_or s (i - 1) 0 ∷ drop j s) e))

pub value-part : (w : ℕ) (s : List ℕ) (i : ℕ) → Bytes s → length s ≤ w → low_value (drop i s) < 256 ^ w
value-part w s i b h = value-lt w (drop i s) (bytes_drop i s b) (omega (arith, length-drop i s))

-- ---- what reading answers

-- bytes of a width that there is are a number's, whose value is n
pub number_is : (s : List ℕ) (k n : ℕ) → Bytes s → length s ≡ k → Width k → n ≡ low_value s → Reads 0 (Held (length s)) (low_byte_first (length s)) 7 s 0 n
number_is s k n b e w v =
    is {v = n}
    (record {
      known = subst Width (sym e) w;
      below = subst (λ (x : ℕ). x < 256 ^ length s) (sym v) (value-lt (length s) s b (le_refl (length s)));
    })
    (ap (low_byte_first (length s)) v ∙ low_value_lem s b)

pub no-width : {k : ℕ} → (k ≡ 1 → ⊥) → (k ≡ 2 → ⊥) → (k ≡ 4 → ⊥) → Width k → ⊥
no-width a b d one = a refl
no-width a b d two = b refl
no-width a b d four = d refl

pub number-none : (s : List ℕ) → (length s ≡ 1 → ⊥) → (length s ≡ 2 → ⊥) → (length s ≡ 4 → ⊥)
    → Reads 0 (Held (length s)) (low_byte_first (length s)) 7 s 7 0
number-none s a b d = none (λ n h e. no-width a b d h.known)

-- bytes of a width that there is are never refused
pub never-refused : (s : List ℕ) → Bytes s → Width (length s) → {k m : ℕ} → Reads 0 (Held (length s)) (low_byte_first (length s)) 7 s k m → k ≡ 7 → ⊥
never-refused s b w r e =
    let a = low-all s b in
    refused (lit< tt) r e a.0 (record { known = w; below = a.1 }) a.2

-- ---- the library's bytes of a number are those of document 01

byte-from : (i n : ℕ) → byte_at i n ≡ n / 256 ^ i % 256
byte-from zero n = ap (λ (m : ℕ). m % 256) (omega arith)
byte-from (suc i) n = refl

next-byte : (i n : ℕ) → n / 256 ^ suc i ≡ n / 256 ^ i / 256
next-byte i n = ap (λ (m : ℕ). n / m) (pow-suc 256 i) ∙ sym (div-div-eq-div-mul n (256 ^ i) 256)

low-bytes-from : (k i n : ℕ) → bytes_low_first i k n ≡ low_byte_first k (n / 256 ^ i)
unfolding low_byte_first
low-bytes-from zero i n = refl
low-bytes-from (suc k) i n = ap₂ ◌∷◌ (byte-from i n) (low-bytes-from k (suc i) n ∙ ap (low_byte_first k) (next-byte i n))

pub low-bytes : (k n : ℕ) → bytes_low_first 0 k n ≡ low_byte_first k n
low-bytes k n = low-bytes-from k 0 n ∙ ap (low_byte_first k) (omega arith)
