-- Digits with a point before the last of them; and the text of a number that is none of 01's raw numbers.
-- Assumes nothing.
use mathlib.Core.Bool.{Bool, true, false}
use mathlib.Core.List.{List, [], ◌∷◌, ◌++◌, append_assoc, append-nil}
use mathlib.Core.Path.{◌≡◌, refl, sym, ap, ◌∙◌}
use Prim.Native.Nat.{ℕ, zero, suc, ◌+◌, ◌-◌, ◌*◌, ◌/◌, ◌%◌, ◌^◌, ◌≤◌, ◌<◌}
use native.Mathlib.Nat.{div-one, div-div-eq-div-mul, mul_comm, pow-suc, le_trans}
use native.Mathlib.Omega.{arith}
use lib.Dec.{ltb, le→leb}
use lib.IntN.{ℤ, pos, negsuc, nat_abs}
use lib.ListN.{length, get_or, take, drop, length-append, length-take, length-drop, take-append-drop}
use lib.Seq.{take_at, drop_at, get_or-append_seam}
use borrow.Author.Tests.{ltb-true, ltb-false}
use Rattle.digits.proofs.Laws.Decimal.{decimal-more}
use Rattle.digits.proofs.Laws.Parts.{next}
use Rattle.digits.specs.Paper.Decimal.{decimal_digit, decimal}
use Rattle.digits.specs.Paper.Read.{Decides, holds, fails}
use Rattle.numbers.proofs.Laws.Text.{ten-pos, length_last, unit-le}
use Rattle.numbers.specs.Paper.Raw.{Raw}
use Rattle.numbers.specs.Paper.Text.{below_zero, sign, last_digits, text_of, text}
use Rattle.asked.specs.Work.Got.{pointed}
use Rattle.asked.proofs.Laws.Numerals.{whole-text}

-- ---- a point

-- a point behind k of w
abbrev split : ℕ → List ℕ → List ℕ
split k w = take k w ++ (46 ∷ drop k w)

pub pointed-some : (d : ℕ) (w : List ℕ) → (d ≡ 0 → ⊥) → pointed d w ≡ split (length w - d) w
pointed-some zero w h = absurd (h refl)
pointed-some (suc d) w h = refl

module _ (w : List ℕ) (k : ℕ) (h : k ≤ length w) where
  length_front : length (take k w) ≡ k
  length_front = simp length-take (omega arith)

  length-split : length (split k w) ≡ length w + 1
  length-split = simp (length-append, length-take, length-drop) (omega arith)

module _ (w : List ℕ) {d k : ℕ} (n : d ≡ 0 → ⊥) (k-is : k ≡ length w - d) where
  fits : k ≤ length w
  fits = omega arith

  -- what a text with the point is
  same : pointed d w ≡ split k w
  same = pointed-some d w n ∙ ap (λ (i : ℕ). split i w) (sym k-is)

  behind : drop (k + 1) (split k w) ≡ drop k w
  behind =
      ap (drop (k + 1)) (sym (append_assoc (take k w) (46 ∷ []) (drop k w)))
      ∙ drop_at (take k w ++ (46 ∷ [])) (drop k w) (k + 1) (length-append (take k w) (46 ∷ []) ∙ ap (λ (i : ℕ). i + 1) (length_front w k fits))

  module _ {s : List ℕ} where
    pub other_length : (length s ≡ length w + 1 → ⊥) → Decides (s ≡ pointed d w) false
    other_length f = fails (λ e. f (ap length (e ∙ same) ∙ length-split w k fits))

    pub other-front : (take (k - 0) s ≡ take (k - 0) w → ⊥) → Decides (s ≡ pointed d w) false
    other-front f =
        let z : k - 0 ≡ k = omega arith in
        fails (λ e. f (rw z (ap (take k) (e ∙ same) ∙ take_at (take k w) (46 ∷ drop k w) k (length_front w k fits))))

    pub no-point : (get_or s k 0 ≡ 46 → ⊥) → Decides (s ≡ pointed d w) false
    no-point f =
        let l : length (take k w) ≡ k = length_front w k fits in
        fails (λ e. f (ap (λ (t : List ℕ). get_or t k 0) (e ∙ same) ∙ rw l at (get_or-append_seam (take k w) 46 (drop k w) 0)))

    pub by-rest : {b : Bool} → length s ≡ length w + 1 → take (k - 0) s ≡ take (k - 0) w → get_or s k 0 ≡ 46 → Decides (drop (k + 1) s ≡ drop k w) b → Decides (s ≡ pointed d w) b
    by-rest l e p (holds r) =
        let z : k - 0 ≡ k = omega arith in
        let f : take k s ≡ take k w = rw z at e in
        let i : k < length s = omega (arith, fits) in
        holds (sym (take-append-drop k s) ∙ (rw (f, next s k i, p, r) (sym same)))
    by-rest l e p (fails f) = fails (λ e. f (ap (drop (k + 1)) (e ∙ same) ∙ behind))

-- ---- the text of a large number

-- the digits before the last d, and those
decimal-split : (d n : ℕ) → 10 ^ d ≤ n → decimal n ≡ decimal (n / 10 ^ d) ++ last_digits d n
unfolding last_digits
decimal-split zero n h = ap decimal (sym (div-one n)) ∙ sym (append-nil (decimal (n / 1)))
decimal-split (suc d) n h =
    let p : 10 ^ suc d ≡ 10 ^ d * 10 = pow-suc 10 d in
    let t : 0 < 10 ^ d = ten-pos d in
    let q : n / 10 / 10 ^ d ≡ n / 10 ^ suc d = div-div-eq-div-mul n 10 (10 ^ d) ∙ ap (λ (x : ℕ). n / x) (mul_comm 10 (10 ^ d) ∙ sym p) in
    decimal-more n (omega arith)
    ∙ ap (λ (l : List ℕ). l ++ (decimal_digit (n % 10) ∷ [])) (decimal-split d (n / 10) (omega arith) ∙ ap (λ (x : ℕ). decimal x ++ last_digits d (n / 10)) q)
    ∙ append_assoc (decimal (n / 10 ^ suc d)) (last_digits d (n / 10)) (decimal_digit (n % 10) ∷ [])

pointed-between : (p l : List ℕ) (d : ℕ) → (d ≡ 0 → ⊥) → length l ≡ d → pointed d (p ++ l) ≡ p ++ (46 ∷ l)
pointed-between p l d n h =
    let k : length (p ++ l) - d ≡ length p = omega (arith, length-append p l) in
    pointed-some d (p ++ l) n ∙ rw (k, take_at p l (length p) refl, drop_at p l (length p) refl) refl

text-parts : (m : Bool) (n d : ℕ) → sign m ++ (decimal (n / 10 ^ suc d) ++ (46 ∷ last_digits (suc d) n)) ≡ text_of m n (suc d)
unfolding text_of
text-parts m n d = refl

text-pointed : (m : Bool) (n d : ℕ) → 10 ^ d ≤ n → pointed d (text_of m n 0) ≡ text_of m n d
text-pointed m n zero h = refl
text-pointed m n (suc d) h =
    let p : List ℕ = sign m ++ decimal (n / 10 ^ suc d) in
    let e : text_of m n 0 ≡ p ++ last_digits (suc d) n =
    whole-text m n ∙ ap (λ (l : List ℕ). sign m ++ l) (decimal-split (suc d) n h) ∙ sym (append_assoc (sign m) (decimal (n / 10 ^ suc d)) (last_digits (suc d) n)) in
    ap (pointed (suc d)) e ∙ pointed-between p (last_digits (suc d) n) (suc d) (λ (z : suc d ≡ 0). omega arith) (length_last (suc d) n)
    ∙ append_assoc (sign m) (decimal (n / 10 ^ suc d)) (46 ∷ last_digits (suc d) n) ∙ text-parts m n d

small-raw : (z : ℤ) → nat_abs z < 1000 → Raw z
small-raw (pos n) h = record { low = record { le = tt }; high = record { le = le→leb n 4294967295 (omega arith) } }
small-raw (negsuc n) h = record { low = record { le = le→leb n 2147483647 (omega arith) }; high = record { le = tt } }

far : (z : ℤ) → (Raw z → ⊥) → 1000 ≤ nat_abs z
far z f = by (ltb (nat_abs z) 1000) refl
  where
    by : (b : Bool) → ltb (nat_abs z) 1000 ≡ b → 1000 ≤ nat_abs z
    by true e = absurd (f (small-raw z (ltb-true _ _ e)))
    by false e = ltb-false _ _ e

-- A NUMBER BEYOND THE RAW NUMBERS HAS THE DIGITS OF ITS WHOLE NUMBER, AND A POINT
pub pointed-text : (z : ℤ) (d : ℕ) → (Raw z → ⊥) → d ≤ 3 → pointed d (text z 0) ≡ text z d
pointed-text z d f h = text-pointed (below_zero z) (nat_abs z) d (le_trans (unit-le d h) (far z f))
