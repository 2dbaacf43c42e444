-- Strings, read character by character.
-- Assumes nothing.
use mathlib.Core.Path.{◌≡◌, sym, subst, ◌∙◌}
use mathlib.Core.List.{List, ◌∷◌}
use Prim.Native.Nat.{ℕ, ◌+◌, ◌≤◌, ◌<◌}
use native.Mathlib.Omega.{arith}
use lib.ListN.{length, get_or, drop}
use Rattle.std.specs.Prelude.{Option, None, Some}
use Rattle.jsontext.specs.Paper.Abnf.{Rule, byte, many, done, more, ◌⨾◌}
use Rattle.jsontext.specs.Paper.Json.{char, string}
use Rattle.jsontext.specs.Work.Tight.{Char, Without}
use Rattle.jsontext.specs.Work.Found.{Found, ends, none}
use Rattle.jsontext.proofs.Laws.Places.{tail_of, at-end, stands, not_there, past, same-found, Ends, found, not_found}
use Rattle.jsontext.proofs.Laws.Chars.{to-char, from-char, char-quote, char-never}

-- characters, and the quotation mark
abbrev Inner : Rule
Inner = many char ⨾ byte 0x22

-- the mark, or a character and more
data Way (s t : List ℕ) : Type 0 where
  closes : s ≡ 0x22 ∷ t → Way s t
  goes : (m : List ℕ) → char s m → Inner m t → Way s t

by-many : {s m t : List ℕ} → many char s m → m ≡ 0x22 ∷ t → Way s t
by-many done e = closes e
by-many (more {m = n} x r) e = goes n x (_, r, e)

way : (s t : List ℕ) → Inner s t → Way s t
way s t x = by-many x.1 x.2

pub record Inside (s : List ℕ) (p i : ℕ) : Type 0 where
  pub on : p < i
  pub there : (t : List ℕ) → string (drop p s) t → Inner (drop i s) t
  pub back : (t : List ℕ) → Inner (drop i s) t → string (drop p s) t

pub opened : {s : List ℕ} {p : ℕ} → p < length s → get_or s p 0 ≡ 0x22 → Inside s p (p + 1)
unfolding string
opened {s} {p} h e =
    record {
      on = omega arith;
      there = λ t x. subst (λ (l : List ℕ). Inner l t) (tail_of (sym x.1 ∙ stands s p 0x22 h e)) x.2;
      back = λ t x. (drop (p + 1) s, stands s p 0x22 h e, x);
    }

pub not_opened : {s : List ℕ} {p : ℕ} → p < length s → ((get_or s p 0 ≡ 0x22) → ⊥) → Found string s p None
unfolding string
not_opened {s} {p} h f = none (λ t x. not_there s p 0x22 h f x.0 x.1)

pub no-string : {s : List ℕ} {p : ℕ} → length s ≤ p → Found string s p None
unfolding string
no-string {s} {p} h = none (λ t x. past s p 0x22 h x.0 x.1)

quoted-end : (s t u : List ℕ) → s ≡ 0x22 ∷ u → Way s t → t ≡ u
quoted-end s t u e (closes x) = tail_of (sym x ∙ e)
quoted-end s t u e (goes m c r) = absurd (char-quote u m (subst (λ (l : List ℕ). char l m) e c))

pub closed : {s : List ℕ} {p i : ℕ} → Inside s p i → i < length s → get_or s i 0 ≡ 0x22 → Found string s p (Some (i + 1))
closed {s} {p} {i} w h e =
    let l : p < i + 1 = omega (arith, w.on) in
    let k : i + 1 ≤ length s = omega arith in
    ends l k (w.back (drop (i + 1) s) (drop i s, done, stands s i 0x22 h e)) (λ t x. quoted-end (drop i s) t (drop (i + 1) s) (stands s i 0x22 h e) (way (drop i s) t (w.there t x)))

no_way : (s t : List ℕ) → Without (byte 0x22) s → Without char s → Way s t → ⊥
no_way s t f g (closes x) = f t x
no_way s t f g (goes m c r) = g m c

as-char : {s : List ℕ} {p : ℕ} {r : Option ℕ} → Found Char s p r → Found char s p r
as-char {s} {p} v = same-found (λ t x. from-char (drop p s) t x) (λ t x. to-char (drop p s) t x) v

pub broken : {s : List ℕ} {p i : ℕ} → Inside s p i → i < length s → ((get_or s i 0 ≡ 0x22) → ⊥) → Found Char s i None → Found string s p None
broken {s} {p} {i} w h f v = none (λ t x. no_way (drop i s) t (not_there s i 0x22 h f) (not_found (as-char v)) (way (drop i s) t (w.there t x)))

pub unclosed : {s : List ℕ} {p i : ℕ} → Inside s p i → length s ≤ i → Found string s p None
unclosed {s} {p} {i} w h = none (λ t x. no_way (drop i s) t (past s i 0x22 h) (λ m c. char-never m (subst (λ (l : List ℕ). char l m) (at-end s i h) c)) (way (drop i s) t (w.there t x)))

onwards : (s u t : List ℕ) → Without (byte 0x22) s → ((m : List ℕ) → char s m → m ≡ u) → Way s t → Inner u t
onwards s u t f o (closes x) = absurd (f t x)
onwards s u t f o (goes m c r) = subst (λ (l : List ℕ). Inner l t) (o m c) r

pub one_more : {s : List ℕ} {p i r : ℕ} → Inside s p i → i < length s → ((get_or s i 0 ≡ 0x22) → ⊥) → Found Char s i (Some r) → Inside s p r
one_more {s} {p} {i} {r} w h f v =
    let x : Ends char s i r = found (as-char v) in
    record {
      on = omega (arith, w.on, x.on);
      there = λ t y. onwards (drop i s) (drop r s) t (not_there s i 0x22 h f) x.only (way (drop i s) t (w.there t y));
      back = λ t y. w.back t (y.0, more x.is y.1, y.2);
    }

pub goes_on : {s : List ℕ} {i r : ℕ} → Found Char s i (Some r) → (i < r) × (r ≤ length s)
goes_on v = ((found v).on, (found v).within)
