-- A character as the RFC has it is one by its first byte.
-- Assumes nothing.
use mathlib.Core.Bool.{Bool, true, false, ◌||◌}
use mathlib.Core.Logic.{◌⊎◌, inl, inr, ⊎_elim}
use mathlib.Core.Path.{◌≡◌, refl, sym, ap, ◌∙◌}
use mathlib.Core.List.{List, [], ◌∷◌}
use Prim.Native.Nat.{ℕ, ◌≤◌, ◌<◌}
use native.Mathlib.Omega.{arith}
use lib.Dec.{eqb, ltb}
use borrow.Author.Tests.{eqb-true, eqb-false, ltb-true, ltb-false}
use Rattle.jsontext.specs.Paper.Json.{char, escaped}
use Rattle.jsontext.specs.Work.Tight.{Lead, lead, follow, Char, two, escapes, is_short, Without}
use Rattle.jsontext.proofs.Laws.Places as places
use Rattle.jsontext.proofs.Laws.Follow.{f-low, f-plain, f-tail, f-2, f-3, f-4, f-over, f-5C, f-22, f-E0, f-ED, f-F0, f-F4, cast, e-75, e-short, e-none}

-- which way a test goes
pub less : (b n : ℕ) → (b < n) ⊎ (n ≤ b)
less b n = by (ltb b n) refl
  where
    by : (x : Bool) → ltb b n ≡ x → (b < n) ⊎ (n ≤ b)
    by true e = inl (ltb-true b n e)
    by false e = inr (ltb-false b n e)

pub equal : (b n : ℕ) → (b ≡ n) ⊎ ((b ≡ n) → ⊥)
equal b n = by (eqb b n) refl
  where
    by : (x : Bool) → eqb b n ≡ x → (b ≡ n) ⊎ ((b ≡ n) → ⊥)
    by true e = inl (eqb-true b n e)
    by false e = inr (eqb-false b n e)

or-true : (x y : Bool) → (x || y) ≡ true → (x ≡ true) ⊎ (y ≡ true)
or-true true y e = inl refl
or-true false y e = inr e

-- ---- escapes

short : {s t : List ℕ} (b : ℕ) → ((b ≡ 0x75) → ⊥) → is_short b ≡ true → s ≡ b ∷ t → Lead escapes s t
short {s} {t} b n k e = lead e (cast (sym (e-short b n k)) t t refl)

to-escapes : {s t : List ℕ} → escaped s t → Lead escapes s t
unfolding is_short
to-escapes (inl e) = short 0x22 (λ z. omega arith) refl e
to-escapes (inr (inl e)) = short 0x5C (λ z. omega arith) refl e
to-escapes (inr (inr (inl e))) = short 0x2F (λ z. omega arith) refl e
to-escapes (inr (inr (inr (inl e)))) = short 0x62 (λ z. omega arith) refl e
to-escapes (inr (inr (inr (inr (inl e))))) = short 0x66 (λ z. omega arith) refl e
to-escapes (inr (inr (inr (inr (inr (inl e)))))) = short 0x6E (λ z. omega arith) refl e
to-escapes (inr (inr (inr (inr (inr (inr (inl e))))))) = short 0x72 (λ z. omega arith) refl e
to-escapes (inr (inr (inr (inr (inr (inr (inr (inl e)))))))) = short 0x74 (λ z. omega arith) refl e
to-escapes {s} {t} (inr (inr (inr (inr (inr (inr (inr (inr x)))))))) = lead x.1 (cast (sym (e-75 0x75 refl)) x.0 t x.2)

-- a byte that is the same
is_byte : {b c : ℕ} {s u t : List ℕ} → s ≡ b ∷ u → u ≡ t → b ≡ c → s ≡ c ∷ t
is_byte e f g = cc

shorts : (b : ℕ) (s u t : List ℕ) → s ≡ b ∷ u → u ≡ t → is_short b ≡ true → escaped s t
unfolding is_short
shorts b s u t e f k = at_1 (or-true _ _ k)
  where
    y : (c : ℕ) → eqb b c ≡ true → s ≡ c ∷ t
    y c q = is_byte e f (eqb-true b c q)

    at_7 : (eqb b 0x72 ≡ true) ⊎ (eqb b 0x74 ≡ true) → escaped s t
    at_7 (inl q) = inr (inr (inr (inr (inr (inr (inl (y 0x72 q)))))))
    at_7 (inr q) = inr (inr (inr (inr (inr (inr (inr (inl (y 0x74 q))))))))

    at-6 : (eqb b 0x6E ≡ true) ⊎ ((eqb b 0x72 || eqb b 0x74) ≡ true) → escaped s t
    at-6 (inl q) = inr (inr (inr (inr (inr (inl (y 0x6E q))))))
    at-6 (inr q) = at_7 (or-true _ _ q)

    at_5 : (eqb b 0x66 ≡ true) ⊎ ((eqb b 0x6E || (eqb b 0x72 || eqb b 0x74)) ≡ true) → escaped s t
    at_5 (inl q) = inr (inr (inr (inr (inl (y 0x66 q)))))
    at_5 (inr q) = at-6 (or-true _ _ q)

    at-4 : (eqb b 0x62 ≡ true) ⊎ ((eqb b 0x66 || (eqb b 0x6E || (eqb b 0x72 || eqb b 0x74))) ≡ true) → escaped s t
    at-4 (inl q) = inr (inr (inr (inl (y 0x62 q))))
    at-4 (inr q) = at_5 (or-true _ _ q)

    at-3 : (eqb b 0x2F ≡ true) ⊎ ((eqb b 0x62 || (eqb b 0x66 || (eqb b 0x6E || (eqb b 0x72 || eqb b 0x74)))) ≡ true) → escaped s t
    at-3 (inl q) = inr (inr (inl (y 0x2F q)))
    at-3 (inr q) = at-4 (or-true _ _ q)

    at-2 : (eqb b 0x5C ≡ true) ⊎ ((eqb b 0x2F || (eqb b 0x62 || (eqb b 0x66 || (eqb b 0x6E || (eqb b 0x72 || eqb b 0x74))))) ≡ true) → escaped s t
    at-2 (inl q) = inr (inl (y 0x5C q))
    at-2 (inr q) = at-3 (or-true _ _ q)

    at_1 : (eqb b 0x22 ≡ true) ⊎ ((eqb b 0x5C || (eqb b 0x2F || (eqb b 0x62 || (eqb b 0x66 || (eqb b 0x6E || (eqb b 0x72 || eqb b 0x74)))))) ≡ true) → escaped s t
    at_1 (inl q) = inl (y 0x22 q)
    at_1 (inr q) = at-2 (or-true _ _ q)

from-escapes : {s t : List ℕ} → Lead escapes s t → escaped s t
from-escapes {s} {t} (lead {b = b} {u = u} e x) =
    ⊎_elim (λ q. inr (inr (inr (inr (inr (inr (inr (inr (u, is_byte e refl q, cast (e-75 b q) u t x)))))))))
    (λ n. by n (is_short b) refl)
    (equal b 0x75)
  where
    by : ((b ≡ 0x75) → ⊥) → (y : Bool) → is_short b ≡ y → escaped s t
    by n true k = shorts b s u t e (cast (e-short b n k) u t x) k
    by n false k = absurd (cast (e-none b n k) u t x)

-- ---- characters

plain : {s t : List ℕ} (b : ℕ) → ((b ≡ 0x5C) → ⊥) → 0x20 ≤ b → ((b ≡ 0x22) → ⊥) → b < 0x80 → s ≡ b ∷ t → Char s t
plain {s} {t} b n k q h e = lead e (cast (sym (f-plain b n k q h)) t t refl)

pub to-char : (s t : List ℕ) → char s t → Char s t
unfolding char
to-char s t (inl (inl x)) = plain x.0 (λ e. omega (arith, x.2)) x.1 (λ e. omega (arith, x.2)) (omega (arith, x.2)) x.3
to-char s t (inl (inr (inl x))) = plain x.0 (λ e. omega (arith, x.2)) (omega (arith, x.1)) (λ e. omega (arith, x.1)) (omega (arith, x.2)) x.3
to-char s t (inl (inr (inr (inl x)))) = plain x.0 (λ e. omega (arith, x.1)) (omega (arith, x.1)) (λ e. omega (arith, x.1)) (omega (arith, x.2)) x.3
to-char s t (inl (inr (inr (inr (inl x))))) = lead x.1.3 (cast (sym (f-2 x.1.0 x.1.1 (omega (arith, x.1.2)))) x.0 t x.2)
to-char s t (inl (inr (inr (inr (inr (inl (inl x))))))) = lead x.1 (cast (sym (f-E0 0xE0 refl)) x.0 t x.2)
to-char s t (inl (inr (inr (inr (inr (inl (inr (inl x)))))))) =
    lead x.1.3 (cast (sym (f-3 x.1.0 x.1.1 (omega (arith, x.1.2)) (λ e. omega (arith, x.1.2)))) x.0 t x.2)
to-char s t (inl (inr (inr (inr (inr (inl (inr (inr (inl x))))))))) = lead x.1 (cast (sym (f-ED 0xED refl)) x.0 t x.2)
to-char s t (inl (inr (inr (inr (inr (inl (inr (inr (inr x))))))))) =
    lead x.1.3 (cast (sym (f-3 x.1.0 (omega (arith, x.1.1)) (omega (arith, x.1.2)) (λ e. omega (arith, x.1.1)))) x.0 t x.2)
to-char s t (inl (inr (inr (inr (inr (inr (inl x))))))) = lead x.1 (cast (sym (f-F0 0xF0 refl)) x.0 t x.2)
to-char s t (inl (inr (inr (inr (inr (inr (inr (inl x)))))))) =
    lead x.1.3 (cast (sym (f-4 x.1.0 x.1.1 (omega (arith, x.1.2)))) x.0 t x.2)
to-char s t (inl (inr (inr (inr (inr (inr (inr (inr x)))))))) = lead x.1 (cast (sym (f-F4 0xF4 refl)) x.0 t x.2)
to-char s t (inr x) = lead x.1 (cast (sym (f-5C 0x5C refl)) x.0 t (to-escapes x.2))

-- a plain byte is in one of three ranges
pub plain-from : (b : ℕ) (s t : List ℕ) → ((b ≡ 0x5C) → ⊥) → 0x20 ≤ b → ((b ≡ 0x22) → ⊥) → b < 0x80 → s ≡ b ∷ t → char s t
unfolding char
plain-from b s t n k q h e = by (ltb b 0x22) refl (ltb b 0x5C) refl
  where
    by : (x : Bool) → ltb b 0x22 ≡ x → (y : Bool) → ltb b 0x5C ≡ y → char s t
    by true p y r = inl (inl (b, k, omega (arith, ltb-true b 0x22 p), e))
    by false p true r = inl (inr (inl (b, omega (arith, ltb-false b 0x22 p, q), omega (arith, ltb-true b 0x5C r), e)))
    by false p false r = inl (inr (inr (inl (b, omega (arith, ltb-false b 0x5C r, n), omega arith, e))))

three-from : (b : ℕ) (s u t : List ℕ) → 0xE1 ≤ b → b < 0xF0 → ((b ≡ 0xED) → ⊥) → s ≡ b ∷ u → two 0x80 0xBF u t → char s t
unfolding char
three-from b s u t h k n e x = by (ltb b 0xED) refl
  where
    by : (y : Bool) → ltb b 0xED ≡ y → char s t
    by true r = inl (inr (inr (inr (inr (inl (inr (inl (u, (b, h, omega (arith, ltb-true b 0xED r), e), x))))))))
    by false r = inl (inr (inr (inr (inr (inl (inr (inr (inr (u, (b, omega (arith, ltb-false b 0xED r, n), omega arith, e), x)))))))))

pub from-char : (s t : List ℕ) → Char s t → char s t
unfolding char
from-char s t (lead {b = b} {u = u} e x) =
    ⊎_elim (λ q. inr (u, is_byte e refl q, from-escapes (cast (f-5C b q) u t x)))
    (λ n. ⊎_elim (λ q. absurd (cast (f-low b q) u t x))
    (λ k. ⊎_elim (λ q. absurd (cast (f-22 b q) u t x))
    (λ o. ⊎_elim (λ q. plain-from b s t n k o q (e ∙ ap {B = List ℕ} (λ l. b ∷ l) (cast (f-plain b n k o q) u t x)))
    (λ k2. ⊎_elim (λ q. absurd (cast (f-tail b k2 q) u t x))
    (λ k3. ⊎_elim (λ q. inl (inr (inr (inr (inl (u, (b, k3, omega arith, e), cast (f-2 b k3 q) u t x))))))
    (λ k4. ⊎_elim (λ q. inl (inr (inr (inr (inr (inl (inl (u, is_byte e refl q, cast (f-E0 b q) u t x))))))))
    (λ n1. ⊎_elim (λ q. inl (inr (inr (inr (inr (inl (inr (inr (inl (u, is_byte e refl q, cast (f-ED b q) u t x))))))))))
    (λ n2. ⊎_elim (λ q. let l : 0xE1 ≤ b = omega arith in three-from b s u t l q n2 e (cast (f-3 b l q n2) u t x))
    (λ k5. ⊎_elim (λ q. inl (inr (inr (inr (inr (inr (inl (u, is_byte e refl q, cast (f-F0 b q) u t x))))))))
    (λ n3. ⊎_elim (λ q. let l : 0xF1 ≤ b = omega arith in inl (inr (inr (inr (inr (inr (inr (inl (u, (b, l, omega arith, e), cast (f-4 b l q) u t x)))))))))
    (λ k6. ⊎_elim (λ q. inl (inr (inr (inr (inr (inr (inr (inr (u, is_byte e refl q, cast (f-F4 b q) u t x)))))))))
    (λ n4. absurd (cast (f-over b (omega arith)) u t x))
    (equal b 0xF4)) (less b 0xF4)) (equal b 0xF0)) (less b 0xF0)) (equal b 0xED)) (equal b 0xE0)) (less b 0xE0)) (less b 0xC2)) (less b 0x80)) (equal b 0x22)) (less b 0x20)) (equal b 0x5C)

-- no character begins with `"`, and none stands at the end
pub char-quote : (u m : List ℕ) → char (0x22 ∷ u) m → ⊥
unfolding follow
char-quote u m x = no (to-char (0x22 ∷ u) m x)
  where
    go : (s : List ℕ) → s ≡ 0x22 ∷ u → Char s m → ⊥
    go s e (lead {b = b} {u = v} y z) = cast (f-22 b (places.head_of (sym y ∙ e))) v m z

    no : Char (0x22 ∷ u) m → ⊥
    no c = go (0x22 ∷ u) refl c

pub char-never : Without char []
char-never t x = go [] refl (to-char [] t x)
  where
    go : (s : List ℕ) → s ≡ [] → Char s t → ⊥
    go s e (lead y z) = places.nothing (sym e ∙ y)
