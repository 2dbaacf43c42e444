-- What stands behind the first byte of a character.
-- Assumes nothing.
use mathlib.Core.Bool.{true, false}
use mathlib.Core.Path.{◌≡◌, refl, sym, subst}
use mathlib.Core.List.{List}
use Prim.Native.Nat.{ℕ, ◌+◌, ◌≤◌, ◌<◌}
use native.Mathlib.Omega.{arith}
use lib.ListN.{length, get_or, drop}
use borrow.Author.Tests.{ne_eqb, lt-ltb, le-ltb}
use Rattle.std.specs.Prelude.{Option, None, Some}
use Rattle.jsontext.specs.Paper.Abnf.{Rule}
use Rattle.jsontext.specs.Paper.Json.{UTF8-tail}
use Rattle.jsontext.specs.Work.Tight.{Lead, lead, follow, nothing, done, two, three, escapes, four, is_short}
use Rattle.jsontext.specs.Work.Found.{Found, ends}
use Rattle.jsontext.proofs.Laws.Places.{at_place}
use Rattle.jsontext.proofs.Laws.Values.{unlead, led-behind, led-none}

module _ (b : ℕ) where
  pub f-low : b < 0x20 → follow b ≡ nothing
  unfolding follow
  f-low h = simp (ne_eqb b 0x5C (λ e. omega arith), lt-ltb b 0x20 h)

  pub f-plain : ((b ≡ 0x5C) → ⊥) → 0x20 ≤ b → ((b ≡ 0x22) → ⊥) → b < 0x80 → follow b ≡ done
  unfolding follow
  f-plain a h q k = simp (ne_eqb b 0x5C a, le-ltb b 0x20 h, ne_eqb b 0x22 q, lt-ltb b 0x80 k)

  pub f-tail : 0x80 ≤ b → b < 0xC2 → follow b ≡ nothing
  unfolding follow
  f-tail h k = simp (ne_eqb b 0x5C (λ e. omega arith), le-ltb b 0x20 (omega arith), ne_eqb b 0x22 (λ e. omega arith), le-ltb b 0x80 h, lt-ltb b 0xC2 k)

  pub f-2 : 0xC2 ≤ b → b < 0xE0 → follow b ≡ UTF8-tail
  unfolding follow
  f-2 h k = simp (ne_eqb b 0x5C (λ e. omega arith), le-ltb b 0x20 (omega arith), ne_eqb b 0x22 (λ e. omega arith), le-ltb b 0x80 (omega arith), le-ltb b 0xC2 h, lt-ltb b 0xE0 k)

  pub f-3 : 0xE1 ≤ b → b < 0xF0 → ((b ≡ 0xED) → ⊥) → follow b ≡ two 0x80 0xBF
  unfolding follow
  f-3 h k n =
      simp (ne_eqb b 0x5C (λ e. omega arith), le-ltb b 0x20 (omega arith), ne_eqb b 0x22 (λ e. omega arith), le-ltb b 0x80 (omega arith), le-ltb b 0xC2 (omega arith), le-ltb b 0xE0 (omega arith), ne_eqb b 0xE0 (λ e. omega arith), ne_eqb b 0xED n, lt-ltb b 0xF0 k)

  pub f-4 : 0xF1 ≤ b → b < 0xF4 → follow b ≡ three 0x80 0xBF
  unfolding follow
  f-4 h k =
      simp (ne_eqb b 0x5C (λ e. omega arith), le-ltb b 0x20 (omega arith), ne_eqb b 0x22 (λ e. omega arith), le-ltb b 0x80 (omega arith), le-ltb b 0xC2 (omega arith), le-ltb b 0xE0 (omega arith), ne_eqb b 0xE0 (λ e. omega arith), ne_eqb b 0xED (λ e. omega arith), le-ltb b 0xF0 (omega arith), ne_eqb b 0xF0 (λ e. omega arith), lt-ltb b 0xF4 k)

  pub f-over : 0xF5 ≤ b → follow b ≡ nothing
  unfolding follow
  f-over h =
      simp (ne_eqb b 0x5C (λ e. omega arith), le-ltb b 0x20 (omega arith), ne_eqb b 0x22 (λ e. omega arith), le-ltb b 0x80 (omega arith), le-ltb b 0xC2 (omega arith), le-ltb b 0xE0 (omega arith), ne_eqb b 0xE0 (λ e. omega arith), ne_eqb b 0xED (λ e. omega arith), le-ltb b 0xF0 (omega arith), ne_eqb b 0xF0 (λ e. omega arith), le-ltb b 0xF4 (omega arith), ne_eqb b 0xF4 (λ e. omega arith))

pub f-5C : (b : ℕ) → b ≡ 0x5C → follow b ≡ Lead escapes
unfolding follow
f-5C b e = rw e

pub f-22 : (b : ℕ) → b ≡ 0x22 → follow b ≡ nothing
unfolding follow
f-22 b e = rw e

pub f-E0 : (b : ℕ) → b ≡ 0xE0 → follow b ≡ two 0xA0 0xBF
unfolding follow
f-E0 b e = rw e

pub f-ED : (b : ℕ) → b ≡ 0xED → follow b ≡ two 0x80 0x9F
unfolding follow
f-ED b e = rw e

pub f-F0 : (b : ℕ) → b ≡ 0xF0 → follow b ≡ three 0x90 0xBF
unfolding follow
f-F0 b e = rw e

pub f-F4 : (b : ℕ) → b ≡ 0xF4 → follow b ≡ three 0x80 0x8F
unfolding follow
f-F4 b e = rw e

-- an answer for what stands behind the first byte
pub cast : {a b : Rule} → a ≡ b → (u t : List ℕ) → a u t → b u t
cast e u t x = subst (λ (r : Rule). r u t) e x

pub followed : {f : ℕ → Rule} {s : List ℕ} {p : ℕ} {r : Option ℕ} (x : Rule) → p < length s → f (get_or s p 0) ≡ x → Found x s (p + 1) r → Found (Lead f) s p r
followed {f} {s} {p} x h e v = led-behind (get_or s p 0) h refl x (cast (sym e)) (cast e) v

pub followed-none : {f : ℕ → Rule} {s : List ℕ} {p : ℕ} → p < length s → f (get_or s p 0) ≡ nothing → Found (Lead f) s p None
followed-none {f} {s} {p} h e = led-none (get_or s p 0) h refl (cast e)

pub followed-done : {f : ℕ → Rule} {s : List ℕ} {p : ℕ} → p < length s → f (get_or s p 0) ≡ done → Found (Lead f) s p (Some (p + 1))
followed-done {f} {s} {p} h e =
    let l : p < p + 1 = omega arith in
    let k : p + 1 ≤ length s = omega arith in
    ends l k (lead (at_place s p h) (cast (sym e) (drop (p + 1) s) (drop (p + 1) s) refl)) (λ t x. sym (cast e (drop (p + 1) s) t (unlead (at_place s p h) x)))

pub e-75 : (b : ℕ) → b ≡ 0x75 → escapes b ≡ four
unfolding escapes
e-75 b e = rw e

pub e-short : (b : ℕ) → ((b ≡ 0x75) → ⊥) → is_short b ≡ true → escapes b ≡ done
unfolding escapes
e-short b n e = simp (ne_eqb b 0x75 n, e)

pub e-none : (b : ℕ) → ((b ≡ 0x75) → ⊥) → is_short b ≡ false → escapes b ≡ nothing
unfolding escapes
e-none b n e = simp (ne_eqb b 0x75 n, e)
