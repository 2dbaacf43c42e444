-- Numbers, part by part.
-- Assumes nothing.
use mathlib.Core.Logic.{inl, inr}
use mathlib.Core.Path.{◌≡◌, refl, sym, subst, ◌∙◌}
use mathlib.Core.List.{List}
use Prim.Native.Nat.{ℕ, ◌+◌, ◌≤◌, ◌<◌}
use native.Mathlib.Omega.{arith}
use lib.ListN.{length, get_or, drop}
use Rattle.std.specs.Prelude.{Option, None, Some}
use Rattle.jsontext.specs.Paper.Abnf.{Rule, byte, range, ◌⨾◌, ◌∕◌}
use Rattle.jsontext.specs.Paper.Json.{DIGIT, digit1-9, e, minus}
use Rattle.jsontext.specs.Work.Tight.{Without, All, Opt, Int, Frac, Exp, Digits, Number, sign}
use Rattle.jsontext.specs.Work.Found.{Found, ends, none, Passed, Skipped, May, passes, breaks}
use Rattle.jsontext.proofs.Laws.Places.{tail_of, stands, not_there, past, one, Ends, found, not_found, after-byte, then-none}
use Rattle.jsontext.proofs.Laws.Blanks.{ranged, class-one, class-none, class-end}

-- ---- one or the other

pub first_of : {a b : Rule} {s : List ℕ} {p : ℕ} {r : Option ℕ} → Found a s p r → Without b (drop p s) → Found (a ∕ b) s p r
first_of {a} {b} {s} {p} (ends {r} h k x o) f = ends h k (inl x) go
  where
    go : (t : List ℕ) → (a ∕ b) (drop p s) t → t ≡ drop r s
    go t (inl y) = o t y
    go t (inr y) = absurd (f t y)
first_of {a} {b} {s} {p} (none n) f = none go
  where
    go : (t : List ℕ) → (a ∕ b) (drop p s) t → ⊥
    go t (inl y) = n t y
    go t (inr y) = f t y

pub second-of : {a b : Rule} {s : List ℕ} {p : ℕ} {r : Option ℕ} → Without a (drop p s) → Found b s p r → Found (a ∕ b) s p r
second-of {a} {b} {s} {p} f (ends {r} h k x o) = ends h k (inr x) go
  where
    go : (t : List ℕ) → (a ∕ b) (drop p s) t → t ≡ drop r s
    go t (inl y) = absurd (f t y)
    go t (inr y) = o t y
second-of {a} {b} {s} {p} f (none n) = none go
  where
    go : (t : List ℕ) → (a ∕ b) (drop p s) t → ⊥
    go t (inl y) = f t y
    go t (inr y) = n t y

-- ---- one behind the other

module _ {a b : Rule} {s : List ℕ} {p q : ℕ} where
  pub then-passed : {r : ℕ} → Ends a s p q → Passed b s q r → Found (a ⨾ b) s p (Some r)
  then-passed {r} x y =
      let l : p < r = omega (arith, x.on, y.on) in
      ends l (y.within x.within) (drop q s, x.is, y.is) (λ t z. y.only t (subst (λ (l : List ℕ). b l t) (x.only z.0 z.1) z.2))

  pub passed_then : {r : Option ℕ} → Passed a s p q → Found b s q r → Found (a ⨾ b) s p r
  passed_then x (ends {r} h k y o) =
      let l : p < r = omega (arith, x.on) in
      ends l k (drop q s, x.is, y) (λ t z. o t (subst (λ (l : List ℕ). b l t) (x.only z.0 z.1) z.2))
  passed_then x (none n) = none (λ t z. n t (subst (λ (l : List ℕ). b l t) (x.only z.0 z.1) z.2))

  pub then_may : {r : Option ℕ} → Ends a s p q → May b s q r → Found (a ⨾ b) s p r
  then_may x (passes k y) = then-passed x y
  then_may x (breaks n) = none (λ t z. n t (subst (λ (l : List ℕ). b l t) (x.only z.0 z.1) z.2))

pub may_none : {a : Rule} {s : List ℕ} {p : ℕ} → May a s p None → Without a (drop p s)
may_none (breaks n) = n

pub record Passing (a : Rule) (s : List ℕ) (p r : ℕ) : Type 0 where
  pub within : r ≤ length s
  pub passed : Passed a s p r

pub may : {a : Rule} {s : List ℕ} {p r : ℕ} → May a s p (Some r) → Passing a s p r
may (passes k x) = record { within = k; passed = x }

pub may-stop : {a b : Rule} {s : List ℕ} {p : ℕ} → May a s p None → May (a ⨾ b) s p None
may-stop x = breaks (λ t y. may_none x y.0 y.1)

pub may-then : {a b : Rule} {s : List ℕ} {p q : ℕ} {r : Option ℕ} → Passing a s p q → May b s q r → May (a ⨾ b) s p r
may-then {a} {b} {s} {p} {q} x (passes {r} k y) =
    passes k
    (record {
      on = omega (arith, x.passed.on, y.on);
      within = λ l. k;
      is = (drop q s, x.passed.is, y.is);
      only = λ t z. y.only t (subst (λ (l : List ℕ). b l t) (x.passed.only z.0 z.1) z.2);
    })
may-then {a} {b} x (breaks n) = breaks (λ t z. n t (subst (λ (l : List ℕ). b l t) (x.passed.only z.0 z.1) z.2))

-- ---- one or nothing

-- where it does not begin so
pub opt-skip : {begin a : Rule} {s : List ℕ} {p : ℕ} → Without begin (drop p s) → Without a (drop p s) → Passed (Opt begin a) s p p
opt-skip {begin} {a} {s} {p} f g = record { on = omega arith; within = λ h. h; is = inr (refl, f); only = go }
  where
    go : (t : List ℕ) → Opt begin a (drop p s) t → t ≡ drop p s
    go t (inl x) = absurd (g t x)
    go t (inr x) = sym x.0

-- where it does
pub opt-take : {begin a : Rule} {s : List ℕ} {p r : ℕ} (m : List ℕ) → begin (drop p s) m → Ends a s p r → Passed (Opt begin a) s p r
opt-take {begin} {a} {s} {p} {r} m b x = record { on = omega (arith, x.on); within = λ h. x.within; is = inl x.is; only = go }
  where
    go : (t : List ℕ) → Opt begin a (drop p s) t → t ≡ drop r s
    go t (inl y) = x.only t y
    go t (inr y) = absurd (y.1 m b)

pub opt-may : {begin a : Rule} {s : List ℕ} {p : ℕ} {r : Option ℕ} (m : List ℕ) → begin (drop p s) m → Found a s p r → May (Opt begin a) s p r
opt-may {begin} {a} {s} {p} m b (ends {r} h k x o) =
    passes k (opt-take {begin = begin} {a = a} m b (record { on = h; within = k; is = x; only = o }))
opt-may {begin} {a} {s} {p} m b (none n) = breaks go
  where
    go : (t : List ℕ) → Opt begin a (drop p s) t → ⊥
    go t (inl y) = n t y
    go t (inr y) = y.1 m b

-- ---- minus

pub no_minus : {s : List ℕ} {p : ℕ} → p < length s → ((get_or s p 0 ≡ 0x2D) → ⊥) → Passed (Opt minus minus) s p p
no_minus {s} {p} h f = opt-skip {begin = minus} {a = minus} (not_there s p 0x2D h f) (not_there s p 0x2D h f)

pub minus-end : {s : List ℕ} {p : ℕ} → length s ≤ p → Passed (Opt minus minus) s p p
minus-end {s} {p} h = opt-skip {begin = minus} {a = minus} (past s p 0x2D h) (past s p 0x2D h)

pub a-minus : {s : List ℕ} {p : ℕ} → p < length s → get_or s p 0 ≡ 0x2D → Passed (Opt minus minus) s p (p + 1)
a-minus {s} {p} h x = opt-take {begin = minus} {a = minus} (drop (p + 1) s) (stands s p 0x2D h x) (found (one h x))

-- ---- the sign of an exponent

neither : (s : List ℕ) (p : ℕ) → Without (byte 0x2D) (drop p s) → Without (byte 0x2B) (drop p s) → Without sign (drop p s)
neither s p f g t (inl x) = f t x
neither s p f g t (inr x) = g t x

pub no_sign : {s : List ℕ} {p : ℕ} → p < length s → ((get_or s p 0 ≡ 0x2D) → ⊥) → ((get_or s p 0 ≡ 0x2B) → ⊥) → Passed (Opt sign sign) s p p
no_sign {s} {p} h f g = let n = neither s p (not_there s p 0x2D h f) (not_there s p 0x2B h g) in opt-skip {begin = sign} {a = sign} n n

pub sign-end : {s : List ℕ} {p : ℕ} → length s ≤ p → Passed (Opt sign sign) s p p
sign-end {s} {p} h = let n = neither s p (past s p 0x2D h) (past s p 0x2B h) in opt-skip {begin = sign} {a = sign} n n

differs : (s : List ℕ) (p b c : ℕ) → p < length s → get_or s p 0 ≡ b → ((b ≡ c) → ⊥) → Without (byte c) (drop p s)
differs s p b c h x n = not_there s p c h (λ z. n (sym x ∙ z))

pub sign-minus : {s : List ℕ} {p : ℕ} → p < length s → get_or s p 0 ≡ 0x2D → Passed (Opt sign sign) s p (p + 1)
sign-minus {s} {p} h x =
    opt-take {begin = sign} {a = sign} (drop (p + 1) s) (inl (stands s p 0x2D h x)) (found (first_of {a = byte 0x2D} {b = byte 0x2B} (one h x) (differs s p 0x2D 0x2B h x (λ z. omega arith))))

pub sign-plus : {s : List ℕ} {p : ℕ} → p < length s → get_or s p 0 ≡ 0x2B → Passed (Opt sign sign) s p (p + 1)
sign-plus {s} {p} h x =
    opt-take {begin = sign} {a = sign} (drop (p + 1) s) (inr (stands s p 0x2B h x)) (found (second-of {a = byte 0x2D} {b = byte 0x2B} (differs s p 0x2B 0x2D h x (λ z. omega arith)) (one h x)))

-- ---- digits, and the whole part

in-range : {s : List ℕ} {p : ℕ} (low high : ℕ) → p < length s → low ≤ get_or s p 0 → get_or s p 0 ≤ high → Ends (range low high) s p (p + 1)
in-range low high h x y = found (class-one (ranged low high) h (x, y))

pub digits_from : {s : List ℕ} {p r : ℕ} → p < length s → 0x30 ≤ get_or s p 0 → get_or s p 0 ≤ 0x39 → Skipped DIGIT s (p + 1) r → Found Digits s p (Some r)
digits_from h x y z = then-passed (in-range 0x30 0x39 h x y) z

out_of : (s : List ℕ) (p low high : ℕ) → p < length s → ((low ≤ get_or s p 0) × (get_or s p 0 ≤ high) → ⊥) → Without (range low high) (drop p s)
out_of s p low high h f = not_found (class-none (ranged low high) {s = s} {p = p} h f)

pub no_digit : {s : List ℕ} {p : ℕ} → p < length s → ((0x30 ≤ get_or s p 0) × (get_or s p 0 ≤ 0x39) → ⊥) → Found Digits s p None
no_digit h f = then-none (class-none (ranged 0x30 0x39) h f)

pub digits-end : {s : List ℕ} {p : ℕ} → length s ≤ p → Found Digits s p None
digits-end h = then-none (class-end (ranged 0x30 0x39) h)

pub int-zero : {s : List ℕ} {p : ℕ} → p < length s → get_or s p 0 ≡ 0x30 → Found Int s p (Some (p + 1))
int-zero {s} {p} h x = first_of {a = byte 0x30} {b = digit1-9 ⨾ All DIGIT} (one h x) (λ t y. out_of s p 0x31 0x39 h (λ z. omega (arith, z.0)) y.0 y.1)

pub int-some : {s : List ℕ} {p r : ℕ} → p < length s → 0x31 ≤ get_or s p 0 → get_or s p 0 ≤ 0x39 → Skipped DIGIT s (p + 1) r → Found Int s p (Some r)
int-some {s} {p} h x y z = second-of {a = byte 0x30} {b = digit1-9 ⨾ All DIGIT} (not_there s p 0x30 h (λ w. omega arith)) (then-passed (in-range 0x31 0x39 h x y) z)

pub int-none : {s : List ℕ} {p : ℕ} → p < length s → ((get_or s p 0 ≡ 0x30) → ⊥) → ((0x31 ≤ get_or s p 0) × (get_or s p 0 ≤ 0x39) → ⊥) → Found Int s p None
int-none {s} {p} h n f = second-of {a = byte 0x30} {b = digit1-9 ⨾ All DIGIT} (not_there s p 0x30 h n) (then-none (class-none (ranged 0x31 0x39) h f))

pub int-end : {s : List ℕ} {p : ℕ} → length s ≤ p → Found Int s p None
int-end {s} {p} h = second-of {a = byte 0x30} {b = digit1-9 ⨾ All DIGIT} (past s p 0x30 h) (then-none (class-end (ranged 0x31 0x39) h))

-- ---- fraction and exponent

pub frac-none : {s : List ℕ} {p : ℕ} → p < length s → ((get_or s p 0 ≡ 0x2E) → ⊥) → May Frac s p (Some p)
frac-none {s} {p} h f = let l : p ≤ length s = omega arith in passes l (opt-skip {begin = byte 0x2E} {a = byte 0x2E ⨾ Digits} (not_there s p 0x2E h f) (λ t x. not_there s p 0x2E h f x.0 x.1))

pub frac-end : {s : List ℕ} {p : ℕ} → p ≤ length s → length s ≤ p → May Frac s p (Some p)
frac-end {s} {p} l h = passes l (opt-skip {begin = byte 0x2E} {a = byte 0x2E ⨾ Digits} (past s p 0x2E h) (λ t x. past s p 0x2E h x.0 x.1))

then_one : {b : Rule} {s : List ℕ} {p : ℕ} {r : Option ℕ} (c : ℕ) → p < length s → get_or s p 0 ≡ c → Found b s (p + 1) r → Found (byte c ⨾ b) s p r
then_one {b} {s} {p} c h x v =
    after-byte (λ t y. (drop (p + 1) s, stands s p c h x, y)) (λ t y. subst (λ (l : List ℕ). b l t) (tail_of (sym y.1 ∙ stands s p c h x)) y.2) v

pub frac-some : {s : List ℕ} {p : ℕ} {r : Option ℕ} → p < length s → get_or s p 0 ≡ 0x2E → Found Digits s (p + 1) r → May Frac s p r
frac-some {s} {p} h x v = opt-may {begin = byte 0x2E} {a = byte 0x2E ⨾ Digits} (drop (p + 1) s) (stands s p 0x2E h x) (then_one {b = Digits} 0x2E h x v)

abbrev Power : Rule
Power = Opt sign sign ⨾ Digits

no-e : (s : List ℕ) (p : ℕ) → Without (byte 0x65) (drop p s) → Without (byte 0x45) (drop p s) → Without e (drop p s)
no-e s p f g t (inl x) = f t x
no-e s p f g t (inr x) = g t x

pub exp-none : {s : List ℕ} {p : ℕ} → p < length s → ((get_or s p 0 ≡ 0x65) → ⊥) → ((get_or s p 0 ≡ 0x45) → ⊥) → May Exp s p (Some p)
exp-none {s} {p} h f g =
    let l : p ≤ length s = omega arith in
    let n = no-e s p (not_there s p 0x65 h f) (not_there s p 0x45 h g) in
    passes l (opt-skip {begin = e} {a = e ⨾ Power} n (λ t x. n x.0 x.1))

pub exp-end : {s : List ℕ} {p : ℕ} → p ≤ length s → length s ≤ p → May Exp s p (Some p)
exp-end {s} {p} l h = let n = no-e s p (past s p 0x65 h) (past s p 0x45 h) in passes l (opt-skip {begin = e} {a = e ⨾ Power} n (λ t x. n x.0 x.1))

behind-e : {s : List ℕ} {p : ℕ} {r : Option ℕ} → Ends e s p (p + 1) → Found Power s (p + 1) r → Found (e ⨾ Power) s p r
behind-e {s} {p} x v =
    after-byte (λ t y. (drop (p + 1) s, x.is, y)) (λ t y. subst (λ (l : List ℕ). Power l t) (x.only y.0 y.1) y.2) v

pub exp-lower : {s : List ℕ} {p : ℕ} {r : Option ℕ} → p < length s → get_or s p 0 ≡ 0x65 → Found Power s (p + 1) r → May Exp s p r
exp-lower {s} {p} h x v =
    let y : Ends e s p (p + 1) = found (first_of {a = byte 0x65} {b = byte 0x45} (one h x) (differs s p 0x65 0x45 h x (λ z. omega arith))) in
    opt-may {begin = e} {a = e ⨾ Power} (drop (p + 1) s) y.is (behind-e y v)

pub exp-upper : {s : List ℕ} {p : ℕ} {r : Option ℕ} → p < length s → get_or s p 0 ≡ 0x45 → Found Power s (p + 1) r → May Exp s p r
exp-upper {s} {p} h x v =
    let y : Ends e s p (p + 1) = found (second-of {a = byte 0x65} {b = byte 0x45} (differs s p 0x45 0x65 h x (λ z. omega arith)) (one h x)) in
    opt-may {begin = e} {a = e ⨾ Power} (drop (p + 1) s) y.is (behind-e y v)

-- ---- the whole number

pub number-found : {s : List ℕ} {p a : ℕ} {r : Option ℕ} → Passed (Opt minus minus) s p a → Found (Int ⨾ Frac ⨾ Exp) s a r → Found Number s p r
unfolding Number
number-found x v = passed_then x v
