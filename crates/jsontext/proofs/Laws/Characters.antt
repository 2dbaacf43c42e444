-- What the readers of one character answer, by its first bytes.
-- Assumes nothing.
use mathlib.Core.Path.{◌≡◌, refl, sym, ap, ◌∙◌}
use mathlib.Core.List.{List, [], ◌∷◌}
use Prim.Native.Nat.{ℕ, ◌+◌, ◌*◌, ◌≤◌, ◌<◌}
use native.Mathlib.Omega.{arith}
use mathlib.Core.Bool.{Bool, true, false, cond}
use lib.Dec.{eqb, ltb}
use lib.ListN.{get_or}
use borrow.Author.Tests.{eq-eqb, ne_eqb, lt-ltb, le-ltb}
use Rattle.jsontext.specs.Work.Units.{hex_value, short_value, size_of, code_of, escape_of, two_of, three_of, four_of, units_of, high_of, low_of}

module _ (t : List ℕ) {b : ℕ} (q : b ≡ get_or t 0 0) where
  differs : {n : ℕ} → ((b ≡ n) → ⊥) → (get_or t 0 0 ≡ n) → ⊥
  differs f e = f (q ∙ e)

  pub size-escape : {e r : ℕ} → b ≡ 0x5C → e ≡ get_or t 1 0 → r ≡ cond (eqb e 0x75) 6 2 → r ≡ size_of t
  unfolding size_of
  size-escape h k x = x ∙ simp (eq-eqb (get_or t 0 0) 0x5C (sym q ∙ h)) (ap (λ (n : ℕ). cond (eqb n 0x75) 6 2) k)

  pub code-escape : b ≡ 0x5C → escape_of t ≡ code_of t
  unfolding code_of
  code-escape h = simp (eq-eqb (get_or t 0 0) 0x5C (sym q ∙ h))

  module _ (f : (b ≡ 0x5C) → ⊥) where
    pub size-1 : b < 0x80 → 1 ≡ size_of t
    unfolding size_of
    size-1 h = simp (ne_eqb (get_or t 0 0) 0x5C (differs f), lt-ltb (get_or t 0 0) 0x80 (omega arith))

    pub size-2 : 0x80 ≤ b → b < 0xE0 → 2 ≡ size_of t
    unfolding size_of
    size-2 k h = simp (ne_eqb (get_or t 0 0) 0x5C (differs f), le-ltb (get_or t 0 0) 0x80 (omega arith), lt-ltb (get_or t 0 0) 0xE0 (omega arith))

    pub size-3 : 0xE0 ≤ b → b < 0xF0 → 3 ≡ size_of t
    unfolding size_of
    size-3 k h =
        simp
        (ne_eqb (get_or t 0 0) 0x5C (differs f), le-ltb (get_or t 0 0) 0x80 (omega arith), le-ltb (get_or t 0 0) 0xE0 (omega arith), lt-ltb (get_or t 0 0) 0xF0 (omega arith))

    pub size-4 : 0xF0 ≤ b → 4 ≡ size_of t
    unfolding size_of
    size-4 k =
        simp
        (ne_eqb (get_or t 0 0) 0x5C (differs f), le-ltb (get_or t 0 0) 0x80 (omega arith), le-ltb (get_or t 0 0) 0xE0 (omega arith), le-ltb (get_or t 0 0) 0xF0 (omega arith))

    pub code-1 : b < 0x80 → b ≡ code_of t
    unfolding code_of
    code-1 h = simp (ne_eqb (get_or t 0 0) 0x5C (differs f), lt-ltb (get_or t 0 0) 0x80 (omega arith)) q

    pub code-2 : 0x80 ≤ b → b < 0xE0 → two_of t ≡ code_of t
    unfolding code_of
    code-2 k h = simp (ne_eqb (get_or t 0 0) 0x5C (differs f), le-ltb (get_or t 0 0) 0x80 (omega arith), lt-ltb (get_or t 0 0) 0xE0 (omega arith))

    pub code-3 : 0xE0 ≤ b → three_of t ≡ code_of t
    unfolding code_of
    code-3 k = simp (ne_eqb (get_or t 0 0) 0x5C (differs f), le-ltb (get_or t 0 0) 0x80 (omega arith), le-ltb (get_or t 0 0) 0xE0 (omega arith))

-- behind `\`
pub escape-short : (t : List ℕ) {b : ℕ} → b ≡ get_or t 1 0 → ((b ≡ 0x75) → ⊥) → short_value b ≡ escape_of t
unfolding escape_of
escape-short t q f = simp (ne_eqb (get_or t 1 0) 0x75 (λ e. f (q ∙ e))) (ap short_value q)

pub escape-code : (t : List ℕ) {b : ℕ} → b ≡ get_or t 1 0 → b ≡ 0x75
    → ((hex_value (get_or t 2 0) * 16 + hex_value (get_or t 3 0)) * 16 + hex_value (get_or t 4 0)) * 16 + hex_value (get_or t 5 0) ≡ escape_of t
unfolding escape_of
escape-code t q e = simp (eq-eqb (get_or t 1 0) 0x75 (sym q ∙ e))

-- the units of one character
pub narrow : (t : List ℕ) → get_or t 0 0 < 0xF0 → units_of t ≡ code_of t ∷ []
unfolding units_of code_of
narrow t h = by (eqb (get_or t 0 0) 0x5C) refl (ltb (get_or t 0 0) 0x80) refl (ltb (get_or t 0 0) 0xE0) refl
  where
    by : (x : Bool) → eqb (get_or t 0 0) 0x5C ≡ x → (y : Bool) → ltb (get_or t 0 0) 0x80 ≡ y → (z : Bool) → ltb (get_or t 0 0) 0xE0 ≡ z
        → units_of t ≡ code_of t ∷ []
    by true e y f z g = simp (e)
    by false e true f z g = simp (e, f)
    by false e false f true g = simp (e, f, g)
    by false e false f false g = simp (e, f, g, lt-ltb (get_or t 0 0) 0xF0 h)

pub wide : (t : List ℕ) → 0xF0 ≤ get_or t 0 0 → units_of t ≡ high_of (four_of t) ∷ low_of (four_of t) ∷ []
unfolding units_of
wide t h =
    simp
    (ne_eqb (get_or t 0 0) 0x5C (λ e. omega arith), le-ltb (get_or t 0 0) 0x80 (omega arith), le-ltb (get_or t 0 0) 0xE0 (omega arith), le-ltb (get_or t 0 0) 0xF0 h)
