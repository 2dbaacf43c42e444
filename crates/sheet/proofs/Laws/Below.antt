-- The digits of a number, read from the first to the last.
-- Assumes nothing.
use mathlib.Core.Path.{◌≡◌, refl, sym, ap, ap₂, ◌∙◌, subst}
use mathlib.Core.List.{List, [], ◌∷◌, ◌++◌}
use Prim.Native.Nat.{ℕ, zero, suc, ◌+◌, ◌-◌, ◌*◌, ◌/◌, ◌%◌, ◌^◌, ◌≤◌, ◌<◌}
use native.Mathlib.Omega.{arith}
use native.Mathlib.Nat.{pow-suc, pow-le-pow_right, zero-lt-suc}
use lib.ListN.{length, get_or, take}
use lib.Seq.{take-suc, take_all}
use Rattle.std.specs.Prelude.{Some, None}
use Rattle.digits.specs.Paper.Decimal.{decimal}
use Rattle.digits.proofs.Laws.Decimal.{decimal-small, decimal-more, decimal-inj, length_some, length-decimal, chars-digits, no-leading-zero}
use Rattle.sheet.specs.Work.Lines.{NumberBelow}
use Rattle.sheet.specs.Work.Lines as work

-- the characters before the place i are the digits of n; none is a leading zero
pub record Digits (s : List ℕ) (n i : ℕ) : Type 0 where
  pub inside : i ≤ length s
  pub small : n < 10 ^ i
  pub some : 0 < i → 0 < n
  pub made : 0 < i → decimal n ≡ take i s

pub digits-start : (s : List ℕ) → Digits s 0 0
digits-start s = record { inside = omega arith; small = omega arith; some = λ h. absurd (omega arith); made = λ h. absurd (omega arith) }

-- a digit alone, and a digit more
one-taken : (s : List ℕ) → 0 < length s → take 1 s ≡ get_or s 0 0 ∷ []
one-taken [] h = absurd (omega arith)
one-taken (x ∷ s) h = refl

decimal-one : {x d : ℕ} → 48 ≤ x → x ≤ 57 → d ≡ x - 48 → decimal d ≡ x ∷ []
decimal-one {x} {d} l h e =
    let f : 48 + d ≡ x = omega arith in
    decimal-small d (omega arith) ∙ ap (λ (c : ℕ). c ∷ []) f

decimal-next : (n : ℕ) {x m : ℕ} → 0 < n → 48 ≤ x → x ≤ 57 → m ≡ 10 * n + (x - 48) → decimal m ≡ decimal n ++ (x ∷ [])
decimal-next n {x} {m} p l h e =
    let q : m / 10 ≡ n = omega arith in
    let r : 48 + m % 10 ≡ x = omega arith in
    decimal-more m (omega arith) ∙ ap₂ (λ (k c : ℕ). decimal k ++ (c ∷ [])) q r

module _ {s : List ℕ} (no_zero : get_or s 0 0 ≡ 48 → ⊥) where
  next-in : (n i x : ℕ) → x ≡ get_or s i 0 → Digits s n i → i < length s → 48 ≤ x → x ≤ 57
      → (0 < 10 * n + (x - 48)) × (decimal (10 * n + (x - 48)) ≡ take (suc i) s)
  next-in n zero x e d k l h =
      let z : n < 1 = d.small in
      let p : x ≡ 48 → ⊥ = (λ f. no_zero (sym e ∙ f)) in
      (omega arith, decimal-one l h (omega arith) ∙ ap (λ (c : ℕ). c ∷ []) e ∙ sym (one-taken s k))
  next-in n (suc i) x e d k l h = (
    omega (arith, d.some (omega arith)),
    decimal-next n (d.some (omega arith)) l h refl ∙ ap₂ (λ (a : List ℕ) (c : ℕ). a ++ (c ∷ [])) (d.made (omega arith)) e ∙ sym (take-suc s (suc i) 0 k),
  )

  pub digits-next : {n i : ℕ} → Digits s n i → i < length s → 48 ≤ get_or s i 0 → get_or s i 0 ≤ 57
      → Digits s (10 * n + (get_or s i 0 - 48)) (i + 1)
  digits-next {n} {i} d k l h =
      let e : i + 1 ≡ suc i = omega arith in
      let p : 10 ^ (i + 1) ≡ 10 ^ i * 10 = ap (λ (j : ℕ). 10 ^ j) e ∙ pow-suc 10 i in
      let x = next-in n i (get_or s i 0) refl d k l h in
      record {
        inside = omega arith;
        small = omega (arith, d.small, p);
        some = λ z. x.0;
        made = λ z. x.1 ∙ ap (λ (j : ℕ). take j s) (sym e);
      }

-- five digits at most
pub digits-most : {s : List ℕ} {n i : ℕ} → Digits s n i → length s ≤ 5 → n < 100000
digits-most {s} {n} {i} d h =
    let f : i ≤ 5 = omega (arith, d.inside) in
    let p : 10 ^ i ≤ 10 ^ 5 = pow-le-pow_right (zero-lt-suc 9) f in
    omega (arith, d.small)

pub digits-end : {s : List ℕ} {n i : ℕ} → Digits s n i → length s ≤ i → (length s ≡ 0 → ⊥) → decimal n ≡ s
digits-end {s} {n} {i} d h p = d.made (omega arith) ∙ take_all i s h

-- ---- what reading answers

module _ (s : List ℕ) {most : ℕ} where
  pub none-empty : length s ≡ 0 → NumberBelow most s None
  none-empty h = work.none (λ m l e. omega (arith, length_some m, ap length e))

  pub none-long : most ≤ 65536 → 5 < length s → NumberBelow most s None
  none-long k h = work.none (λ m l e. omega (arith, length-decimal 4 m (omega arith), ap length e))

  pub zero-alone : 0 < most → get_or s 0 0 ≡ 48 → length s ≡ 1 → NumberBelow most s (Some 0)
  zero-alone p e h =
      let l : 0 < length s = omega arith in
      work.is p (decimal-small 0 (omega arith) ∙ ap (λ (c : ℕ). c ∷ []) (sym e) ∙ sym (one-taken s l) ∙ take_all 1 s (omega arith))

  pub leading-zero : get_or s 0 0 ≡ 48 → (length s ≡ 1 → ⊥) → NumberBelow most s None
  leading-zero e h = work.none go
    where
      go : (m : ℕ) → m < most → decimal m ≡ s → ⊥
      go zero l f = h (ap length (sym f) ∙ ap length (decimal-small 0 (omega arith)))
      go (suc m) l f = omega (arith, no-leading-zero (suc m) (omega arith), ap (λ (t : List ℕ). get_or t 0 0) f)

  pub no_digit : {i : ℕ} → i < length s → (48 ≤ get_or s i 0 → get_or s i 0 ≤ 57 → ⊥) → NumberBelow most s None
  no_digit {i} h f =
      work.none (λ m l e.
      let x : (48 ≤ get_or s i 0) × (get_or s i 0 ≤ 57) =
      subst (λ (t : List ℕ). (48 ≤ get_or t i 0) × (get_or t i 0 ≤ 57)) e (chars-digits m i (omega (arith, ap length e))) in
      f x.0 x.1)

  pub number-large : {n : ℕ} → decimal n ≡ s → most ≤ n → NumberBelow most s None
  number-large {n} e h = work.none (λ m l f. omega (arith, decimal-inj m n (f ∙ sym e)))
