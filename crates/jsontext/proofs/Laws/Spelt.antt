-- The rules of RFC 8259 and RFC 3629 derive the characters that are spelt so, and no others; and so of strings.
-- Assumes nothing.
use mathlib.Core.Logic.{inl, inr, ⊎_elim}
use mathlib.Core.Path.{◌≡◌, refl, ap, ◌∙◌}
use mathlib.Core.List.{List, [], ◌∷◌, ◌++◌, append_assoc}
use Prim.Native.Nat.{ℕ, ◌+◌, ◌-◌, ◌*◌, ◌/◌, ◌%◌, ◌≤◌, ◌<◌}
use native.Mathlib.Omega.{arith}
use borrow.Author.Tests.{lt-ltb, le-ltb}
use Rattle.jsontext.specs.Paper.Abnf.{byte, range, ◌⨾◌, many, done, more}
use Rattle.jsontext.specs.Paper.Json.{char, string, escaped, HEXDIG, UTF8-tail, UTF8-2, UTF8-3, UTF8-4}
use Rattle.jsontext.specs.Paper.Names as names
use Rattle.jsontext.specs.Paper.Names.{utf8, utf16, Unescaped, Short, Hex, Char, Chars, spelt, quoted}
use Rattle.jsontext.proofs.Laws.Chars.{less, equal, plain-from}

-- ---- a character that is spelt so is one of the rules

-- the bytes of a character, by how many there are
module _ (c : ℕ) where
  pub bytes-1 : c < 0x80 → utf8 c ≡ c ∷ []
  unfolding utf8
  bytes-1 h = simp (lt-ltb c 0x80 h)

  pub bytes_2 : 0x80 ≤ c → c < 0x800 → utf8 c ≡ (0xC0 + c / 64) ∷ (0x80 + c % 64) ∷ []
  unfolding utf8
  bytes_2 h k = simp (le-ltb c 0x80 h, lt-ltb c 0x800 k)

  pub bytes-3 : 0x800 ≤ c → c < 0x10000 → utf8 c ≡ (0xE0 + c / 4096) ∷ (0x80 + c / 64 % 64) ∷ (0x80 + c % 64) ∷ []
  unfolding utf8
  bytes-3 h k = simp (le-ltb c 0x80 (omega arith), le-ltb c 0x800 h, lt-ltb c 0x10000 k)

  pub bytes_4 : 0x10000 ≤ c → utf8 c ≡ (0xF0 + c / 262144) ∷ (0x80 + c / 4096 % 64) ∷ (0x80 + c / 64 % 64) ∷ (0x80 + c % 64) ∷ []
  unfolding utf8
  bytes_4 h = simp (le-ltb c 0x80 (omega arith), le-ltb c 0x800 (omega arith), le-ltb c 0x10000 h)

in-range : (low high b : ℕ) (u : List ℕ) → low ≤ b → b ≤ high → range low high (b ∷ u) u
in-range low high b u h k = (b, h, k, refl)

tail : (x : ℕ) (u : List ℕ) → x < 64 → UTF8-tail ((0x80 + x) ∷ u) u
tail x u h = in-range 0x80 0xBF (0x80 + x) u (omega arith) (omega arith)

is : (b n : ℕ) (u : List ℕ) → b ≡ n → byte n (b ∷ u) u
is b n u e = ap {B = List ℕ} (λ x. x ∷ u) e

-- the rules of RFC 3629 among those of a character
module _ {s t : List ℕ} where
  utf8-2 : UTF8-2 s t → char s t
  unfolding char
  utf8-2 x = inl (inr (inr (inr (inl x))))

  utf8-3 : UTF8-3 s t → char s t
  unfolding char
  utf8-3 x = inl (inr (inr (inr (inr (inl x)))))

  utf8-4 : UTF8-4 s t → char s t
  unfolding char
  utf8-4 x = inl (inr (inr (inr (inr (inr x)))))

module _ (c : ℕ) (t : List ℕ) (k : Unescaped c) where
  in_two : 0x80 ≤ c → c < 0x800 → char ((0xC0 + c / 64) ∷ (0x80 + c % 64) ∷ t) t
  in_two h l =
      let u : List ℕ = (0x80 + c % 64) ∷ t in
      utf8-2 (u, in-range 0xC2 0xDF (0xC0 + c / 64) u (omega arith) (omega arith), tail (c % 64) t (omega arith))

  in_three : 0x800 ≤ c → c < 0x10000 → char ((0xE0 + c / 4096) ∷ (0x80 + c / 64 % 64) ∷ (0x80 + c % 64) ∷ t) t
  in_three h l =
      let b : ℕ = 0xE0 + c / 4096 in
      let d : ℕ = 0x80 + c / 64 % 64 in
      let u : List ℕ = (0x80 + c % 64) ∷ t in
      let v : List ℕ = (0x80 + c / 64 % 64) ∷ u in
      let last : UTF8-tail u t = tail (c % 64) t (omega arith) in
      let middle : UTF8-tail v u = tail (c / 64 % 64) u (omega arith) in
      ⊎_elim (λ q. utf8-3 (inl (v, is b 0xE0 v q, (u, in-range 0xA0 0xBF d u (omega arith) (omega arith), last))))
      (λ m. ⊎_elim (λ q. utf8-3 (inr (inr (inl (v, is b 0xED v q, (u, in-range 0x80 0x9F d u (omega arith) (no-high q), last))))))
      (λ n. ⊎_elim (λ q. utf8-3 (inr (inl (v, in-range 0xE1 0xEC b v (omega arith) (omega arith), (u, middle, last)))))
      (λ q. utf8-3 (inr (inr (inr (v, in-range 0xEE 0xEF b v (omega arith) (omega arith), (u, middle, last))))))
      (less b 0xED)) (equal b 0xED)) (equal b 0xE0)
    where
      no-high : 0xE0 + c / 4096 ≡ 0xED → 0x80 + c / 64 % 64 ≤ 0x9F
      no-high q =
          ⊎_elim (λ x. omega arith) (λ x. absurd (k.no_surrogate (omega arith, omega arith))) (less (0x80 + c / 64 % 64) 0xA0)

  in_four : 0x10000 ≤ c → char ((0xF0 + c / 262144) ∷ (0x80 + c / 4096 % 64) ∷ (0x80 + c / 64 % 64) ∷ (0x80 + c % 64) ∷ t) t
  in_four h =
      let m : c ≤ 0x10FFFF = k.high in
      let b : ℕ = 0xF0 + c / 262144 in
      let d : ℕ = 0x80 + c / 4096 % 64 in
      let u : List ℕ = (0x80 + c % 64) ∷ t in
      let v : List ℕ = (0x80 + c / 64 % 64) ∷ u in
      let w : List ℕ = (0x80 + c / 4096 % 64) ∷ v in
      let last : UTF8-tail u t = tail (c % 64) t (omega arith) in
      let third : UTF8-tail v u = tail (c / 64 % 64) u (omega arith) in
      let second : UTF8-tail w v = tail (c / 4096 % 64) v (omega arith) in
      ⊎_elim (λ q. utf8-4 (inl (w, is b 0xF0 w q, (v, in-range 0x90 0xBF d v (omega arith) (omega arith), (u, third, last)))))
      (λ n. ⊎_elim (λ q. utf8-4 (inr (inr (w, is b 0xF4 w q, (v, in-range 0x80 0x8F d v (omega arith) (omega arith), (u, third, last))))))
      (λ o. utf8-4 (inr (inl (w, in-range 0xF1 0xF3 b w (omega arith) (omega arith), (v, second, (u, third, last))))))
      (equal b 0xF4)) (equal b 0xF0)

  unescaped : char (utf8 c ++ t) t
  unescaped =
      ⊎_elim (λ h. rw (bytes-1 c h) (plain-from c (c ∷ t) t k.no-escape k.low k.no-quote h refl))
      (λ a. ⊎_elim (λ h. rw (bytes_2 c a h) (in_two a h))
      (λ b. ⊎_elim (λ h. rw (bytes-3 c b h) (in_three b h)) (λ d. rw (bytes_4 c d) (in_four d)) (less c 0x10000)) (less c 0x800)) (less c 0x80)

short : {b v : ℕ} (t : List ℕ) → Short b v → escaped (b ∷ t) t
short t names.quotation-mark = inl refl
short t names.reverse-solidus = inr (inl refl)
short t names.solidus = inr (inr (inl refl))
short t names.backspace = inr (inr (inr (inl refl)))
short t names.form-feed = inr (inr (inr (inr (inl refl))))
short t names.line-feed = inr (inr (inr (inr (inr (inl refl)))))
short t names.carriage-return = inr (inr (inr (inr (inr (inr (inl refl))))))
short t names.tab = inr (inr (inr (inr (inr (inr (inr (inl refl)))))))

hex : {a v : ℕ} (t : List ℕ) → Hex a v → HEXDIG (a ∷ t) t
hex t (names.digit {v = v} h) = inl (0x30 + v, omega arith, omega arith, refl)
hex t (names.upper {v = v} h) = inr (inl (0x41 + v, omega arith, omega arith, refl))
hex t (names.lower {v = v} h) = inr (inr (0x61 + v, omega arith, omega arith, refl))

-- whatever stands behind it
pub a-char : {w us : List ℕ} (t : List ℕ) → Char w us → char (w ++ t) t
unfolding char
a-char t (names.unescaped {c = c} k) = unescaped c t k
a-char t (names.escaped {b = b} x) = inr (b ∷ t, refl, short t x)
a-char t (names.code {a = a} {b = b} {c = c} {d = d} p q r s) =
    inr (0x75 ∷ a ∷ b ∷ c ∷ d ∷ t, refl, inr (inr (inr (inr (inr (inr (inr (inr (a ∷ b ∷ c ∷ d ∷ t, refl, four-digits)))))))))
  where
    four-digits : (HEXDIG ⨾ HEXDIG ⨾ HEXDIG ⨾ HEXDIG) (a ∷ b ∷ c ∷ d ∷ t) t
    four-digits = (b ∷ c ∷ d ∷ t, hex (b ∷ c ∷ d ∷ t) p, (c ∷ d ∷ t, hex (c ∷ d ∷ t) q, (d ∷ t, hex (d ∷ t) r, hex t s)))

-- ---- and the other way

-- a character at the head of s, with t behind it
pub record Spelling (s t : List ℕ) : Type 0 where
  pub bytes : List ℕ
  pub units : List ℕ
  pub is : Char bytes units
  pub there : s ≡ bytes ++ t

plain : (c : ℕ) {s t : List ℕ} → Unescaped c → s ≡ utf8 c ++ t → Spelling s t
plain c k e = record { bytes = utf8 c; units = utf16 c; is = names.unescaped k; there = e }

-- of one byte
from-1 : {s t : List ℕ} (b : ℕ) → 0x20 ≤ b → b < 0x80 → ((b ≡ 0x22) → ⊥) → ((b ≡ 0x5C) → ⊥) → s ≡ b ∷ t → Spelling s t
from-1 b h k q n e =
    plain b
    (record {
      low = h;
      high = omega arith;
      no-quote = q;
      no-escape = n;
      no_surrogate = λ x. omega arith;
    })
    (simp (bytes-1 b k) e)

-- of more: what the bytes come to, less what C0 80, E0 80 80 and F0 80 80 80 come to
beyond : {c : ℕ} → 0x80 ≤ c → c ≤ 0x10FFFF → ((0xD800 ≤ c) × (c ≤ 0xDFFF) → ⊥) → Unescaped c
beyond h k n =
    record {
      low = omega arith;
      high = k;
      no-quote = λ e. omega arith;
      no-escape = λ e. omega arith;
      no_surrogate = n;
    }

from-2 : {v w t : List ℕ} → range 0xC2 0xDF v w → UTF8-tail w t → Spelling v t
from-2 {v} {w} {t} (b, h, k, i) (d, l, m, j) = go (b * 64 + d - 0x3080) (omega arith) (cc)
  where
    go : (c : ℕ) → c + 0x3080 ≡ b * 64 + d → v ≡ b ∷ d ∷ t → Spelling v t
    go c q there =
        let x : 0xC0 + c / 64 ≡ b = omega arith in
        let y : 0x80 + c % 64 ≡ d = omega arith in
        plain c (beyond (omega arith) (omega arith) (omega arith)) (simp (bytes_2 c (omega arith) (omega arith), x, y) there)

-- the first two bytes of a longer one: from these to those, and no surrogate's
record Begins (low high b d : ℕ) : Type 0 where
  tail : (0x80 ≤ d) × (d ≤ 0xBF)
  from : low ≤ b * 64 + d
  to : b * 64 + d ≤ high
  no_surrogate : (0x3BE0 ≤ b * 64 + d) × (b * 64 + d ≤ 0x3BFF) → ⊥

module _ {low high least most : ℕ} {v w x : List ℕ} where
  from-3 : {t : List ℕ} → ((b d : ℕ) → low ≤ b → b ≤ high → least ≤ d → d ≤ most → Begins 0x38A0 0x3C7F b d)
      → range low high v w → range least most w x → UTF8-tail x t → Spelling v t
  from-3 {t} f (b, h, k, i) (d, l, m, j) (e, n, o, p) =
      let g : Begins 0x38A0 0x3C7F b d = f b d h k l m in
      go g (b * 4096 + d * 64 + e - 0xE2080) (omega arith) (cc)
    where
      go : Begins 0x38A0 0x3C7F b d → (c : ℕ) → c + 0xE2080 ≡ b * 4096 + d * 64 + e → v ≡ b ∷ d ∷ e ∷ t → Spelling v t
      go g c q there =
          let x : 0xE0 + c / 4096 ≡ b = omega arith in
          let y : 0x80 + c / 64 % 64 ≡ d = omega arith in
          let z : 0x80 + c % 64 ≡ e = omega arith in
          plain c (beyond (omega arith) (omega arith) (λ r. g.no_surrogate (omega arith))) (simp (bytes-3 c (omega arith) (omega arith), x, y, z) there)

  from-4 : {y t : List ℕ} → ((b d : ℕ) → low ≤ b → b ≤ high → least ≤ d → d ≤ most → Begins 0x3C90 0x3D8F b d)
      → range low high v w → range least most w x → UTF8-tail x y → UTF8-tail y t → Spelling v t
  from-4 {y} {t} f (b, h, k, i) (d, l, m, j) (e, n, o, p) (g, q, r, s) =
      let z : Begins 0x3C90 0x3D8F b d = f b d h k l m in
      go z (b * 262144 + d * 4096 + e * 64 + g - 0x3C82080) (omega arith) (cc)
    where
      go : Begins 0x3C90 0x3D8F b d → (c : ℕ) → c + 0x3C82080 ≡ b * 262144 + d * 4096 + e * 64 + g → v ≡ b ∷ d ∷ e ∷ g ∷ t → Spelling v t
      go u c a there =
          let w : 0xF0 + c / 262144 ≡ b = omega arith in
          let x : 0x80 + c / 4096 % 64 ≡ d = omega arith in
          let y : 0x80 + c / 64 % 64 ≡ e = omega arith in
          let z : 0x80 + c % 64 ≡ g = omega arith in
          plain c (beyond (omega arith) (omega arith) (omega arith)) (simp (bytes_4 c (omega arith), w, x, y, z) there)

-- a byte as a range
only : {b : ℕ} {s t : List ℕ} → byte b s t → range b b s t
only {b} e = (b, omega arith, omega arith, e)

-- escapes
from-short : {b v : ℕ} {s m t : List ℕ} → Short b v → byte 0x5C s m → byte b m t → Spelling s t
from-short {b} {v} x d e =
    record {
      bytes = 0x5C ∷ b ∷ [];
      units = v ∷ [];
      is = names.escaped x;
      there = cc;
    }

-- a hex digit, and its value
record Digit (s t : List ℕ) : Type 0 where
  byte : ℕ
  value : ℕ
  is : Hex byte value
  there : s ≡ byte ∷ t

digit : {n : ℕ} {s t : List ℕ} (b : ℕ) (value : ℕ → ℕ) → ((u : ℕ) → u < n → Hex (b + u) (value u)) → (c : ℕ) → b ≤ c → c < b + n → s ≡ c ∷ t → Digit s t
digit {n} {s} {t} b value f c h k e =
    let same : c ≡ b + (c - b) = omega arith in
    record {
      byte = b + (c - b);
      value = value (c - b);
      is = f (c - b) (omega arith);
      there = e ∙ ap {B = List ℕ} (λ x. x ∷ t) same;
    }

from-hex : {s t : List ℕ} → HEXDIG s t → Digit s t
from-hex (inl (c, h, k, e)) = digit {n = 10} 0x30 (λ u. u) (λ u x. names.digit x) c h (omega arith) e
from-hex (inr (inl (c, h, k, e))) = digit {n = 6} 0x41 (λ u. 10 + u) (λ u x. names.upper x) c h (omega arith) e
from-hex (inr (inr (c, h, k, e))) = digit {n = 6} 0x61 (λ u. 10 + u) (λ u x. names.lower x) c h (omega arith) e

from-code : {s m n a b c t : List ℕ} → byte 0x5C s m → byte 0x75 m n → Digit n a → Digit a b → Digit b c → Digit c t → Spelling s t
from-code d e p q r s =
    record {
      bytes = 0x5C ∷ 0x75 ∷ p.byte ∷ q.byte ∷ r.byte ∷ s.byte ∷ [];
      units = (p.value * 4096 + q.value * 256 + r.value * 16 + s.value) ∷ [];
      is = names.code p.is q.is r.is s.is;
      there = cc;
    }

from-escaped : {s m t : List ℕ} → byte 0x5C s m → escaped m t → Spelling s t
from-escaped e (inl x) = from-short names.quotation-mark e x
from-escaped e (inr (inl x)) = from-short names.reverse-solidus e x
from-escaped e (inr (inr (inl x))) = from-short names.solidus e x
from-escaped e (inr (inr (inr (inl x)))) = from-short names.backspace e x
from-escaped e (inr (inr (inr (inr (inl x))))) = from-short names.form-feed e x
from-escaped e (inr (inr (inr (inr (inr (inl x)))))) = from-short names.line-feed e x
from-escaped e (inr (inr (inr (inr (inr (inr (inl x))))))) = from-short names.carriage-return e x
from-escaped e (inr (inr (inr (inr (inr (inr (inr (inl x)))))))) = from-short names.tab e x
from-escaped e (inr (inr (inr (inr (inr (inr (inr (inr (m, x, (a, p, (b, q, (c, r, s)))))))))))) =
    from-code e x (from-hex p) (from-hex q) (from-hex r) (from-hex s)

-- a character by the rules is spelt so
pub char-spelt : {s t : List ℕ} → char s t → Spelling s t
unfolding char
char-spelt (inl (inl (b, h, k, e))) = from-1 b h (omega arith) (omega arith) (omega arith) e
char-spelt (inl (inr (inl (b, h, k, e)))) = from-1 b (omega arith) (omega arith) (omega arith) (omega arith) e
char-spelt (inl (inr (inr (inl (b, h, k, e))))) = from-1 b (omega arith) (omega arith) (omega arith) (omega arith) e
char-spelt (inl (inr (inr (inr (inl (m, x, y)))))) = from-2 x y
char-spelt (inl (inr (inr (inr (inr (inl (inl (m, x, (n, y, z))))))))) = from-3 (omega arith) (only x) y z
char-spelt (inl (inr (inr (inr (inr (inl (inr (inl (m, x, (n, y, z)))))))))) = from-3 (omega arith) x y z
char-spelt (inl (inr (inr (inr (inr (inl (inr (inr (inl (m, x, (n, y, z))))))))))) = from-3 (omega arith) (only x) y z
char-spelt (inl (inr (inr (inr (inr (inl (inr (inr (inr (m, x, (n, y, z))))))))))) = from-3 (omega arith) x y z
char-spelt (inl (inr (inr (inr (inr (inr (inl (m, x, (n, y, (o, z, w)))))))))) = from-4 (omega arith) (only x) y z w
char-spelt (inl (inr (inr (inr (inr (inr (inr (inl (m, x, (n, y, (o, z, w))))))))))) = from-4 (omega arith) x y z w
char-spelt (inl (inr (inr (inr (inr (inr (inr (inr (m, x, (n, y, (o, z, w))))))))))) = from-4 (omega arith) (only x) y z w
char-spelt (inr (m, e, x)) = from-escaped e x

-- ---- strings

-- characters at the head of s, with t behind them
record Spellings (s t : List ℕ) : Type 0 where
  bytes : List ℕ
  units : List ℕ
  are : Chars bytes units
  there : s ≡ bytes ++ t

one_more : {s m t : List ℕ} → Spelling s m → Spellings m t → Spellings s t
one_more {s} {m} {t} x y =
    record {
      bytes = x.bytes ++ y.bytes;
      units = x.units ++ y.units;
      are = names.more x.is y.are;
      there = rw append_assoc (cc);
    }

many-spelt : {s t : List ℕ} → many char s t → Spellings s t
many-spelt done = record { bytes = []; units = []; are = names.none; there = refl }
many-spelt (more x r) = one_more (char-spelt x) (many-spelt r)

-- a string by the rules is spelt, with some code units
pub string-spelt : {s t : List ℕ} → string s t → (us : List ℕ) × spelt us s t
unfolding string
string-spelt {s} {t} (m, e, (n, x, f)) =
    let c : Spellings m n = many-spelt x in
    let there : s ≡ 0x22 ∷ (c.bytes ++ (0x22 ∷ t)) = cc in
    (c.units, quoted c.are there)

chars : {x us : List ℕ} (t : List ℕ) → Chars x us → many char (x ++ t) t
chars t names.none = done
chars t (names.more {w = w} {x = x} c r) = rw (append_assoc w x t) (more (a-char (x ++ t) c) (chars t r))

-- and what is spelt is a string by the rules
pub spelt-string : {us s t : List ℕ} → spelt us s t → string s t
unfolding string
spelt-string {t = t} (quoted {x = x} c e) = (x ++ (0x22 ∷ t), e, (0x22 ∷ t, chars (0x22 ∷ t) c, refl))
