-- Bytes of a class, one by one.
-- Assumes nothing.
use mathlib.Core.Path.{◌≡◌, refl, sym, subst}
use mathlib.Core.Logic.{◌⊎◌, inl, inr}
use mathlib.Core.List.{List, [], ◌∷◌}
use Prim.Native.Nat.{ℕ, ◌+◌, ◌≤◌, ◌<◌, max}
use native.Mathlib.Omega.{arith}
use lib.ListN.{length, get_or, drop}
use Rattle.std.specs.Prelude.{None, Some}
use Rattle.jsontext.specs.Paper.Abnf.{Rule, range, ◌∕◌, many, done, more}
use Rattle.jsontext.specs.Paper.Json.{blank, HEXDIG, DIGIT}
use Rattle.jsontext.specs.Work.Tight.{All, Without, IsBlank, IsHex}
use Rattle.jsontext.specs.Work.Found.{Found, ends, none, Skipped}
use Rattle.jsontext.proofs.Laws.Places.{tail_of, head_of, nothing, at_place, at-end}

-- a rule that derives single bytes
pub record Class (a : Rule) (C : ℕ → Type 0) : Type 0 where
  pub first : (x : ℕ) (u m : List ℕ) → a (x ∷ u) m → C x
  pub rest : (x : ℕ) (u m : List ℕ) → a (x ∷ u) m → u ≡ m
  pub is : (x : ℕ) (u : List ℕ) → C x → a (x ∷ u) u
  pub never : Without a []

blank-first : (x : ℕ) (u m : List ℕ) → blank (x ∷ u) m → IsBlank x
blank-first x u m (inl e) = inl (head_of e)
blank-first x u m (inr (inl e)) = inr (inl (head_of e))
blank-first x u m (inr (inr (inl e))) = inr (inr (inl (head_of e)))
blank-first x u m (inr (inr (inr e))) = inr (inr (inr (head_of e)))

blank-rest : (x : ℕ) (u m : List ℕ) → blank (x ∷ u) m → u ≡ m
blank-rest x u m (inl e) = tail_of e
blank-rest x u m (inr (inl e)) = tail_of e
blank-rest x u m (inr (inr (inl e))) = tail_of e
blank-rest x u m (inr (inr (inr e))) = tail_of e

blank-is : (x : ℕ) (u : List ℕ) → IsBlank x → blank (x ∷ u) u
blank-is x u (inl e) = inl (rw e)
blank-is x u (inr (inl e)) = inr (inl (rw e))
blank-is x u (inr (inr (inl e))) = inr (inr (inl (rw e)))
blank-is x u (inr (inr (inr e))) = inr (inr (inr (rw e)))

blank-never : Without blank []
blank-never t (inl e) = nothing e
blank-never t (inr (inl e)) = nothing e
blank-never t (inr (inr (inl e))) = nothing e
blank-never t (inr (inr (inr e))) = nothing e

pub blanks : Class blank IsBlank
blanks = record { first = blank-first; rest = blank-rest; is = blank-is; never = blank-never }

pub ranged : (low high : ℕ) → Class (range low high) (λ x. (low ≤ x) × (x ≤ high))
ranged low high =
    record {
      first = λ x u m r. let e : x ≡ r.0 = head_of r.3 in (subst (λ (y : ℕ). low ≤ y) (sym e) r.1, subst (λ (y : ℕ). y ≤ high) (sym e) r.2);
      rest = λ x u m r. tail_of r.3;
      is = λ x u k. (x, k.0, k.1, refl);
      never = λ t r. nothing r.3;
    }

module _ {a : Rule} {C : ℕ → Type 0} (k : Class a C) where
  none-there : {s t : List ℕ} → Without a s → many a s t → t ≡ s
  none-there f done = refl
  none-there f (more x r) = absurd (f _ x)

  -- one, and the rest
  behind-one : {x : ℕ} {s u t : List ℕ} → C x → s ≡ x ∷ u → many a s t → Without a t → many a u t
  behind-one {x} {s} {u} c e done f = absurd (f u (rw e (k.is x u c)))
  behind-one {x} {s} {u} c e (more {m = m} y r) f = rw (k.rest x u m (rw e at y)) r

  one-step : {x : ℕ} {u t : List ℕ} → C x → All a (x ∷ u) t → All a u t
  one-step c b = record { all = behind-one c refl b.all b.no_more; no_more = b.no_more }

  one_more : {x : ℕ} {u t : List ℕ} → C x → All a u t → All a (x ∷ u) t
  one_more {x} {u} c b = record { all = more (k.is x u c) b.all; no_more = b.no_more }

-- those from p on are those from i on, and some before
pub record Behind (a : Rule) (s : List ℕ) (p i : ℕ) : Type 0 where
  pub on : p ≤ i
  pub within : p ≤ length s → i ≤ length s
  pub there : (t : List ℕ) → All a (drop p s) t → All a (drop i s) t
  pub back : (t : List ℕ) → All a (drop i s) t → All a (drop p s) t

pub start : {a : Rule} {s : List ℕ} {p : ℕ} → Behind a s p p
start = record { on = omega arith; within = λ h. h; there = λ t b. b; back = λ t b. b }

module _ {a : Rule} {C : ℕ → Type 0} (k : Class a C) where
  pub further : {s : List ℕ} {p i : ℕ} → i < length s → C (get_or s i 0) → Behind a s p i → Behind a s p (i + 1)
  further {s} {p} {i} h c b =
      record {
        on = omega (arith, b.on);
        within = λ q. omega arith;
        there = λ t x. one-step k c (rw (at_place s i h) at (b.there t x));
        back = λ t x. b.back t (rw (at_place s i h) (one_more k c x));
      }

  stop-at : {s : List ℕ} {p i : ℕ} → Without a (drop i s) → Behind a s p i → Skipped a s p i
  stop-at {s} {p} {i} f b =
      record {
        on = b.on;
        within = b.within;
        is = b.back _ (record { all = done; no_more = f });
        only = λ t x. none-there k f (b.there t x).all;
      }

  pub stop : {s : List ℕ} {p i : ℕ} → i < length s → (C (get_or s i 0) → ⊥) → Behind a s p i → Skipped a s p i
  stop {s} {p} {i} h f b = stop-at (λ t x. f (k.first (get_or s i 0) (drop (i + 1) s) t (rw (at_place s i h) at x))) b

  pub stop-end : {s : List ℕ} {p i : ℕ} → length s ≤ i → Behind a s p i → Skipped a s p i
  stop-end {s} {p} {i} h b = stop-at (λ t x. k.never t (rw (at-end s i h) at x)) b

-- the end of the walk: the end of s, or p where that is behind it
pub walked : {a : Rule} {C : ℕ → Type 0} (k : Class a C) {s : List ℕ} {p i r : ℕ} → length s ≤ i → i ≤ max p (length s) → Behind a s p i
    → r ≡ max (length s) p → Skipped a s p r
walked {a} k {s} {p} {i} {r} h l b e = let n : r ≡ i = omega (arith, b.on) in subst (Skipped a s p) (sym n) (stop-end k h b)

-- one of a class
module _ {a : Rule} {C : ℕ → Type 0} (k : Class a C) where
  pub class-one : {s : List ℕ} {p : ℕ} → p < length s → C (get_or s p 0) → Found a s p (Some (p + 1))
  class-one {s} {p} h c =
      let l : p < p + 1 = omega arith in
      let l2 : p + 1 ≤ length s = omega arith in
      let e : drop p s ≡ get_or s p 0 ∷ drop (p + 1) s = at_place s p h in
      ends l l2 (rw e (k.is (get_or s p 0) (drop (p + 1) s) c)) (λ t x. sym (k.rest (get_or s p 0) (drop (p + 1) s) t (rw e at x)))

  pub class-none : {s : List ℕ} {p : ℕ} → p < length s → (C (get_or s p 0) → ⊥) → Found a s p None
  class-none {s} {p} h f = none (λ t x. f (k.first (get_or s p 0) (drop (p + 1) s) t (rw (at_place s p h) at x)))

  pub class-end : {s : List ℕ} {p : ℕ} → length s ≤ p → Found a s p None
  class-end {s} {p} h = none (λ t x. k.never t (rw (at-end s p h) at x))

either : {a b : Rule} {C D : ℕ → Type 0} → Class a C → Class b D → Class (a ∕ b) (λ x. C x ⊎ D x)
either {a} {b} {C} {D} k l = record { first = fi; rest = re; is = i; never = n }
  where
    fi : (x : ℕ) (u m : List ℕ) → (a ∕ b) (x ∷ u) m → C x ⊎ D x
    fi x u m (inl y) = inl (k.first x u m y)
    fi x u m (inr y) = inr (l.first x u m y)

    re : (x : ℕ) (u m : List ℕ) → (a ∕ b) (x ∷ u) m → u ≡ m
    re x u m (inl y) = k.rest x u m y
    re x u m (inr y) = l.rest x u m y

    i : (x : ℕ) (u : List ℕ) → C x ⊎ D x → (a ∕ b) (x ∷ u) u
    i x u (inl y) = inl (k.is x u y)
    i x u (inr y) = inr (l.is x u y)

    n : Without (a ∕ b) []
    n t (inl y) = k.never t y
    n t (inr y) = l.never t y

pub hexes : Class HEXDIG IsHex
hexes = either (ranged 0x30 0x39) (either (ranged 0x41 0x46) (ranged 0x61 0x66))

pub digits : Class DIGIT (λ x. (0x30 ≤ x) × (x ≤ 0x39))
digits = ranged 0x30 0x39
