-- Values by their first byte.
-- Assumes nothing.
use mathlib.Core.Bool.{Bool}
use mathlib.Core.Path.{◌≡◌, refl, sym, subst, ◌∙◌}
use mathlib.Core.List.{List, [], ◌∷◌}
use Prim.Native.Nat.{ℕ, zero, suc, ◌+◌, ◌-◌, ◌≤◌, ◌<◌}
use native.Mathlib.Omega.{arith}
use lib.ListN.{length, get_or, drop}
use borrow.Author.Tests.{ne_eqb}
use Rattle.std.specs.Prelude.{Option, None}
use Rattle.digits.specs.Paper.Ascii.{ascii}
use Rattle.jsontext.specs.Paper.Abnf.{Rule, text}
use Rattle.jsontext.specs.Paper.Json.{string}
use Rattle.jsontext.specs.Work.Tight.{Without, Lead, lead, leads, tight, Rest, Object, Number}
use Rattle.jsontext.specs.Work.Found.{Found, none}
use Rattle.jsontext.proofs.Laws.Places.{tail_of, head_of, nothing, at-end, stands, same-found, after-byte}

pub unlead : {f : ℕ → Rule} {b : ℕ} {s u t : List ℕ} → s ≡ b ∷ u → Lead f s t → f b u t
unlead {f} {b} {s} {u} {t} e (lead {b = c} {u = v} x y) = subst (λ (l : List ℕ). f b l t) (tail_of (sym x ∙ e)) (subst (λ (n : ℕ). f n v t) (head_of (sym x ∙ e)) y)

module _ {f : ℕ → Rule} {s : List ℕ} {p : ℕ} {r : Option ℕ} (b : ℕ) (h : p < length s) (e : get_or s p 0 ≡ b) where
  pub led-here : (x : Rule) → ((u t : List ℕ) → x (b ∷ u) t → f b u t) → ((u t : List ℕ) → f b u t → x (b ∷ u) t) → Found x s p r → Found (Lead f) s p r
  led-here x to from v =
      let there : drop p s ≡ b ∷ drop (p + 1) s = stands s p b h e in
      same-found (λ t y. lead there (to (drop (p + 1) s) t (subst (λ (l : List ℕ). x l t) there y))) (λ t y. subst (λ (l : List ℕ). x l t) (sym there) (from (drop (p + 1) s) t (unlead there y))) v

  pub led-behind : (x : Rule) → ((u t : List ℕ) → x u t → f b u t) → ((u t : List ℕ) → f b u t → x u t) → Found x s (p + 1) r → Found (Lead f) s p r
  led-behind x to from v =
      let there : drop p s ≡ b ∷ drop (p + 1) s = stands s p b h e in
      after-byte (λ t y. lead there (to (drop (p + 1) s) t y)) (λ t y. from (drop (p + 1) s) t (unlead there y)) v

pub led-none : {f : ℕ → Rule} {s : List ℕ} {p : ℕ} (b : ℕ) → p < length s → get_or s p 0 ≡ b → ((u t : List ℕ) → f b u t → ⊥) → Found (Lead f) s p None
led-none {f} {s} {p} b h e n = none (λ t y. n (drop (p + 1) s) t (unlead (stands s p b h e) y))

no_lead : {f : ℕ → Rule} {s t : List ℕ} → s ≡ [] → Lead f s t → ⊥
no_lead e (lead x y) = nothing (sym e ∙ x)

pub led-end : {f : ℕ → Rule} {s : List ℕ} {p : ℕ} → length s ≤ p → Found (Lead f) s p None
led-end {s = s} {p} h = none (λ t y. no_lead (at-end s p h) y)

-- a value nested no deeper than 0
pub too-deep : (names : Bool) {s : List ℕ} {d p : ℕ} → d ≡ 0 → Found (tight names d) s p None
unfolding tight
too-deep names e = rw e (none (λ t x. x))

-- one deeper
deep : (names : Bool) {s : List ℕ} {d p : ℕ} {r : Option ℕ} → ((d ≡ 0) → ⊥) → Found (Lead (leads names (tight names (d - 1)))) s p r → Found (tight names d) s p r
unfolding tight
deep names {s} {d} {p} {r} f v = go d f v
  where
    go : (d : ℕ) → ((d ≡ 0) → ⊥) → Found (Lead (leads names (tight names (d - 1)))) s p r → Found (tight names d) s p r
    go zero f v = absurd (f refl)
    go (suc d) f v = let z : suc d - 1 ≡ d = omega arith in subst (λ (n : ℕ). Found (Lead (leads names (tight names n))) s p r) z v

pub no_value : (names : Bool) {s : List ℕ} {d p : ℕ} → ((d ≡ 0) → ⊥) → length s ≤ p → Found (tight names d) s p None
no_value names f h = deep names f (led-end h)

module _ (names : Bool) {s : List ℕ} {d p : ℕ} {r : Option ℕ} (f : (d ≡ 0) → ⊥) (h : p < length s) where
  pub is-string : get_or s p 0 ≡ 0x22 → Found string s p r → Found (tight names d) s p r
  unfolding leads
  is-string e v = deep names f (led-here 0x22 h e string (λ u t x. x) (λ u t x. x) v)

  pub is-object : get_or s p 0 ≡ 0x7B → Found (Object names (tight names (d - 1))) s (p + 1) r → Found (tight names d) s p r
  unfolding leads
  is-object e v = deep names f (led-behind 0x7B h e (Object names (tight names (d - 1))) (λ u t x. x) (λ u t x. x) v)

  pub is-array : get_or s p 0 ≡ 0x5B → Found (Rest (tight names (d - 1)) 0x5D) s (p + 1) r → Found (tight names d) s p r
  unfolding leads
  is-array e v = deep names f (led-behind 0x5B h e (Rest (tight names (d - 1)) 0x5D) (λ u t x. x) (λ u t x. x) v)

  pub is_true : get_or s p 0 ≡ 0x74 → Found (text (ascii "true")) s p r → Found (tight names d) s p r
  unfolding leads
  is_true e v = deep names f (led-here 0x74 h e (text (ascii "true")) (λ u t x. x) (λ u t x. x) v)

  pub is_false : get_or s p 0 ≡ 0x66 → Found (text (ascii "false")) s p r → Found (tight names d) s p r
  unfolding leads
  is_false e v = deep names f (led-here 0x66 h e (text (ascii "false")) (λ u t x. x) (λ u t x. x) v)

  pub is-null : get_or s p 0 ≡ 0x6E → Found (text (ascii "null")) s p r → Found (tight names d) s p r
  unfolding leads
  is-null e v = deep names f (led-here 0x6E h e (text (ascii "null")) (λ u t x. x) (λ u t x. x) v)

pub leads-number : (names : Bool) (v : Rule) (b : ℕ) (u t : List ℕ) → ((b ≡ 0x22) → ⊥) → ((b ≡ 0x7B) → ⊥) → ((b ≡ 0x5B) → ⊥) → ((b ≡ 0x74) → ⊥) → ((b ≡ 0x66) → ⊥) → ((b ≡ 0x6E) → ⊥) → leads names v b u t ≡ Number (b ∷ u) t
unfolding leads
leads-number names v b u t a1 a2 a3 a4 a5 a6 = simp (ne_eqb b 0x22 a1, ne_eqb b 0x7B a2, ne_eqb b 0x5B a3, ne_eqb b 0x74 a4, ne_eqb b 0x66 a5, ne_eqb b 0x6E a6)

pub is_number : (names : Bool) {s : List ℕ} {d p : ℕ} {r : Option ℕ} → ((d ≡ 0) → ⊥) → p < length s → ((get_or s p 0 ≡ 0x22) → ⊥) → ((get_or s p 0 ≡ 0x7B) → ⊥) → ((get_or s p 0 ≡ 0x5B) → ⊥) → ((get_or s p 0 ≡ 0x74) → ⊥) → ((get_or s p 0 ≡ 0x66) → ⊥) → ((get_or s p 0 ≡ 0x6E) → ⊥) → Found Number s p r → Found (tight names d) s p r
is_number names {s} {d} {p} f h a1 a2 a3 a4 a5 a6 v =
    let same : (u t : List ℕ) → leads names (tight names (d - 1)) (get_or s p 0) u t ≡ Number (get_or s p 0 ∷ u) t = λ u t. leads-number names (tight names (d - 1)) (get_or s p 0) u t a1 a2 a3 a4 a5 a6 in
    deep names f (led-here (get_or s p 0) h refl Number (λ u t x. subst (λ (A : Type 0). A) (sym (same u t)) x) (λ u t x. subst (λ (A : Type 0). A) (same u t) x) v)

pub value-never : (names : Bool) (d : ℕ) → Without (tight names d) []
unfolding tight
value-never names zero t x = x
value-never names (suc d) t x = no_lead refl x
