-- A type's byte, there and back.
-- Assumes nothing.
use mathlib.Core.Path.{◌≡◌, refl, sym, ap, ap₂, ◌∙◌, subst}
use mathlib.Core.Bool.{Bool, true, false}
use mathlib.Core.Option.{Option, none, some}
use Prim.Native.Nat.{ℕ, zero, suc, ◌+◌, ◌-◌, ◌*◌, ◌/◌, ◌%◌, ◌^◌, ◌≤◌, ◌<◌}
use native.Mathlib.Omega.{arith}
use lib.Dec.{leb, eqb}
use borrow.Author.Tests.{le-leb, lt-leb, leb-true, leb-false}
use Rattle.std.specs.Prelude.{Some, None}
use Rattle.std.proofs.lemmas.Option.{none-some, same_Some}
use Rattle.digits.specs.Paper.Bits.{is_set}
use Rattle.digits.specs.Paper.LowFirst.{Width, one, two, four}
use Rattle.sheet.specs.Paper.Sheet.{RegisterType}
use Rattle.sheet.specs.Paper.Map.{type_number, type_byte, most_byte, type_of_byte, in_byte}
use Rattle.sheet.specs.Work.Maps.{width_in, width_said, signed_in, decimals_in, Known}

-- ---- what a byte says

pub in-known : {b : ℕ} → Known b → in_byte b ≡ some (type_of_byte b)
unfolding in_byte
in-known {b} k = simp (le-leb 1 b k.some-type, le-leb b 24 k.most)

zero-none : in_byte 0 ≡ none
unfolding in_byte
zero-none = refl

pub in-zero : {b : ℕ} → b ≡ 0 → in_byte b ≡ none
in-zero {b} e = ap in_byte e ∙ zero-none

pub in-large : {b : ℕ} → most_byte < b → in_byte b ≡ none
unfolding in_byte
in-large {b} h = simp (le-leb 1 b (omega arith), lt-leb b 24 h)

module _ (b : ℕ) (k : Known b) where
  width_of : width_in (in_byte b) ≡ 2 ^ ((b - 1) / 4 / 2)
  unfolding type_of_byte
  width_of = ap width_in (in-known k)

  -- its width by the third of the bytes
  pub width-at : (n : ℕ) → (b - 1) / 4 / 2 ≡ n → 2 ^ n ≡ width_in (in_byte b)
  width-at n e = ap (λ (x : ℕ). 2 ^ x) (sym e) ∙ sym width_of

  thirds : {A : Type 0} → ((b - 1) / 4 / 2 ≡ 0 → A) → ((b - 1) / 4 / 2 ≡ 1 → A) → ((b - 1) / 4 / 2 ≡ 2 → A) → A
  thirds {A} f g h = go ((b - 1) / 4 / 2) refl
    where
      go : (n : ℕ) → (b - 1) / 4 / 2 ≡ n → A
      go zero e = f e
      go (suc zero) e = g e
      go (suc (suc zero)) e = h e
      go (suc (suc (suc n))) e = absurd (omega (arith, k.most))

  pub width-known : Width (width_in (in_byte b))
  width-known =
      thirds (λ e. subst Width (width-at 0 e) one) (λ e. subst Width (width-at 1 e) two) (λ e. subst Width (width-at 2 e) four)

  pub signed_is : {r : Bool} → r ≡ eqb ((b - 1) / 4 % 2) 1 → r ≡ signed_in (in_byte b)
  unfolding type_of_byte
  signed_is e = e ∙ bit ((b - 1) / 4 % 2) (omega arith) ∙ sym (ap signed_in (in-known k))
    where
      bit : (n : ℕ) → n < 2 → eqb n 1 ≡ is_set n
      bit zero h = refl
      bit (suc zero) h = refl
      bit (suc (suc n)) h = absurd (omega arith)

  pub decimals-is : {r : ℕ} → r ≡ (b - 1) % 4 → r ≡ decimals_in (in_byte b)
  unfolding type_of_byte
  decimals-is e = e ∙ sym (ap decimals_in (in-known k))

  pub typed-is : {w d : ℕ} {s : Bool} → w ≡ width_in (in_byte b) → s ≡ signed_in (in_byte b) → d ≡ decimals_in (in_byte b)
      → in_byte b ≡ some (record { width = w; signed = s; decimals = d })
  typed-is {w} {d} {s} e f g =
      made (in_byte b) (type_of_byte b) (in-known k) e f g
    where
      made : (o : Option RegisterType) (t : RegisterType) → o ≡ some t → w ≡ width_in o → s ≡ signed_in o → d ≡ decimals_in o
          → o ≡ some (record { width = w; signed = s; decimals = d })
      made none t h e f g = absurd (differ (ap widthful h))
        where
          widthful : Option RegisterType → ℕ
          widthful none = 0
          widthful (some t) = 1

          differ : ◌≡◌ {A = ℕ} 0 1 → ⊥
          differ e = omega arith
      made (some u) t h e f g =
          ap {B = Option RegisterType} some
          (ap (λ (x : ℕ). record { width = x; signed = u.signed; decimals = u.decimals }) (sym e)
          ∙ ap₂ (λ (x : Bool) (y : ℕ). record { width = w; signed = x; decimals = y }) (sym f) (sym g))

-- by cases
by_byte : (b : ℕ) {A : Type 0} → (in_byte b ≡ none → A) → (Known b → A) → A
by_byte zero f g = f (in-zero refl)
by_byte (suc n) {A} f g = go (leb (suc n) 24) refl
  where
    go : (t : Bool) → leb (suc n) 24 ≡ t → A
    go true e = g (record { some-type = omega arith; most = leb-true (suc n) 24 e })
    go false e = f (in-large (leb-false (suc n) 24 e))

-- ---- the width that a byte says

pub said-none : (b : ℕ) → in_byte b ≡ none → None ≡ width_said (in_byte b)
said-none b e = sym (ap width_said e)

pub said-at : {b : ℕ} → Known b → (n : ℕ) → (b - 1) / 4 / 2 ≡ n → Some (2 ^ n) ≡ width_said (in_byte b)
unfolding type_of_byte
said-at {b} k n e = ap (λ (x : ℕ). Some (2 ^ x)) (sym e) ∙ sym (ap width_said (in-known k))

pub unsaid : (b : ℕ) → width_said (in_byte b) ≡ None → in_byte b ≡ none
unsaid b e = by_byte b (λ h. h) (λ k. absurd (none-some _ (sym e ∙ ap width_said (in-known k))))

module _ (b : ℕ) {w : ℕ} (e : width_said (in_byte b) ≡ Some w) where
  pub said-known : Known b
  said-known = by_byte b (λ h. absurd (none-some w (sym (ap width_said h) ∙ e))) (λ k. k)

  pub said-type : in_byte b ≡ some (type_of_byte b)
  said-type = in-known said-known

  pub said-width : w ≡ width_in (in_byte b)
  said-width = same_Some w (width_in (in_byte b)) (sym e ∙ ap width_said said-type ∙ ap (λ (o : Option RegisterType). Some (width_in o)) (sym said-type))

-- a byte whose width is 0 says no type; any other does
pub none-width : (b : ℕ) → width_in (in_byte b) ≡ 0 → in_byte b ≡ none
none-width b e = by_byte b (λ h. h) (λ k. absurd (no_zero (width-known b k) e))
  where
    no_zero : {w : ℕ} → Width w → w ≡ 0 → ⊥
    no_zero one e = omega arith
    no_zero two e = omega arith
    no_zero four e = omega arith

pub some-width : (b : ℕ) → (width_in (in_byte b) ≡ 0 → ⊥) → Known b
some-width b f = by_byte b (λ h. absurd (f (ap width_in h))) (λ k. k)

-- a type that a byte says is one that there is
pub known-type : (b : ℕ) {t : RegisterType} → in_byte b ≡ some t → Width t.width
known-type b {t} e = by_byte b (λ h. absurd (differ (ap listed (sym h ∙ e)))) (λ k. subst Width (ap width_in e) (width-known b k))
  where
    listed : Option RegisterType → ℕ
    listed none = 0
    listed (some t) = 1

    differ : ◌≡◌ {A = ℕ} 0 1 → ⊥
    differ e = omega arith

-- ---- a type's byte says that type

at_byte : (k d : ℕ) → k ≤ 5 → d ≤ 3 → in_byte (1 + 4 * k + d) ≡ some (record { width = 2 ^ (k / 2); signed = is_set (k % 2); decimals = d })
unfolding type_of_byte
at_byte k d h l =
    let e : (1 + 4 * k + d - 1) / 4 ≡ k = omega arith in
    let f : (1 + 4 * k + d - 1) % 4 ≡ d = omega arith in
    in-known (record { some-type = omega arith; most = omega arith })
    ∙ ap₂ (λ (x y : ℕ). some (record { width = 2 ^ (x / 2); signed = is_set (x % 2); decimals = y })) e f

each-byte : {w : ℕ} (s : Bool) (d : ℕ) → Width w → d ≤ 3
    → in_byte (type_byte (record { width = w; signed = s; decimals = d })) ≡ some (record { width = w; signed = s; decimals = d })
unfolding type_byte type_number
each-byte false d one h = at_byte 0 d (omega arith) h
each-byte true d one h = at_byte 1 d (omega arith) h
each-byte false d two h = at_byte 2 d (omega arith) h
each-byte true d two h = at_byte 3 d (omega arith) h
each-byte false d four h = at_byte 4 d (omega arith) h
each-byte true d four h = at_byte 5 d (omega arith) h

pub byte-back : (t : RegisterType) → Width t.width → t.decimals ≤ 3 → in_byte (type_byte t) ≡ some t
byte-back t w h = each-byte t.signed t.decimals w h
