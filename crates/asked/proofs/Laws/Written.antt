-- The texts that are written for values are strings and numbers of RFC 8259, and each string is spelt with its characters.
-- Assumes nothing.
use mathlib.Core.Bool.{Bool, true, false, ◌&&◌, ◌||◌, not}
use mathlib.Core.List.{List, [], ◌∷◌, ◌++◌, append_assoc}
use mathlib.Core.Logic.{inl, inr, ⊎_elim}
use mathlib.Core.Path.{◌≡◌, refl, sym, ap, subst}
use Prim.Native.Nat.{ℕ, zero, suc, ◌+◌, ◌-◌, ◌*◌, ◌/◌, ◌%◌, ◌^◌, ◌≤◌, ◌<◌}
use native.Mathlib.Omega.{arith}
use borrow.Author.Tests.{lt-ltb, le-leb, ne_eqb}
use lib.Dec.{T, eqb, leb, leb→le, T_not}
use lib.IntN.{ℤ, pos, nat_abs}
use lib.ListN.{get_or}
use Rattle.digits.proofs.Laws.Decimal.{decimal-small, no-leading-zero}
use Rattle.digits.proofs.Laws.Hex.{digit-figure, digit-letter}
use Rattle.digits.proofs.Laws.Bytes.{bytes-head, bytes-tail}
use Rattle.digits.proofs.Laws.Tests.{T_and, T_true}
use Rattle.digits.specs.Paper.Ascii.{ascii}
use Rattle.digits.specs.Paper.Bytes.{Bytes}
use Rattle.digits.specs.Paper.Decimal.{decimal}
use Rattle.digits.specs.Paper.Hex.{hex_digit, hex_byte, hex_bytes}
use Rattle.layouts.proofs.Laws.ByteRuns.{one_of_all}
use Rattle.layouts.proofs.Laws.HexDigits.{hex-all}
use Rattle.layouts.proofs.Laws.HomiqFields.{decimal-figures}
use Rattle.layouts.specs.Paper.Chars.{all, is_hex}
use Rattle.layouts.specs.Work.Homiq.{is_figure}
use Rattle.numbers.proofs.Laws.Text.{one-and-fraction}
use Rattle.numbers.specs.Paper.Text.{below_zero, sign, last_digits, fraction, text_of, text}
use Rattle.json_values.proofs.Laws.Spelt as json
use Rattle.json_values.specs.Paper.Json.{escaped, each_escaped, quoted}
use Rattle.jsontext.proofs.Laws.Chars.{less, equal}
use Rattle.jsontext.proofs.Laws.Spelt.{bytes-1}
use Rattle.jsontext.specs.Paper.Abnf.{many, done, more}
use Rattle.jsontext.specs.Paper.Json.{DIGIT, int, number}
use Rattle.jsontext.specs.Paper.Names.{utf8, utf16, Unescaped, Short, Hex, Char, Chars, spelt}
use Rattle.asked.proofs.Laws.Numerals.{whole-text}

-- ---- tests of each element

all_append : (f : ℕ → Bool) (s t : List ℕ) → T (all f s) → T (all f t) → T (all f (s ++ t))
unfolding all
all_append f [] t a b = b
all_append f (x ∷ s) t a b = let q = T_and (f x) (all f s) a in rw (T_true (f x) q.0) (all_append f s t q.1 b)

all_in : (f g : ℕ → Bool) → ((c : ℕ) → T (f c) → T (g c)) → (s : List ℕ) → T (all f s) → T (all g s)
unfolding all
all_in f g h [] a = tt
all_in f g h (x ∷ s) a = let q = T_and (f x) (all f s) a in rw (T_true (g x) (h x q.0)) (all_in f g h s q.1)

-- ---- characters that stand for themselves

-- printable, and neither a quotation mark nor `\`
unfoldable pub is_itself : ℕ → Bool
is_itself c = (leb 0x20 c && leb c 0x7E) && not (eqb c 34 || eqb c 92)

-- what the test says
record Itself (c : ℕ) : Type 0 where
  low : 0x20 ≤ c
  high : c ≤ 0x7E
  no-quote : (c ≡ 34) → ⊥
  no-escape : (c ≡ 92) → ⊥

itself-is : (c : ℕ) → T (is_itself c) → Itself c
unfolding is_itself
itself-is c t =
    let a = T_and (leb 0x20 c && leb c 0x7E) (not (eqb c 34 || eqb c 92)) t in
    let b = T_and (leb 0x20 c) (leb c 0x7E) a.0 in
    record {
      low = leb→le 0x20 c b.0;
      high = leb→le c 0x7E b.1;
      no-quote = λ e. T_not (eqb c 34 || eqb c 92) a.1 (rw e tt);
      no-escape = λ e. T_not (eqb c 34 || eqb c 92) a.1 (rw e tt);
    }

pub itself-byte : (c : ℕ) → T (is_itself c) → c < 256
itself-byte c t = omega (arith, (itself-is c t).high)

itself-char : {c : ℕ} → Itself c → Char (c ∷ []) (c ∷ [])
unfolding utf16
itself-char {c} i =
    let low : c < 0x80 = omega (arith, i.high) in
    let a : utf8 c ≡ c ∷ [] = bytes-1 c low in
    let b : utf16 c ≡ c ∷ [] = simp (lt-ltb c 0x10000 (omega arith)) in
    subst (λ (l : List ℕ). Char l (c ∷ [])) a (subst (Char (utf8 c)) b (Char.unescaped plain))
  where
    plain : Unescaped c
    plain = record { low = i.low; high = omega (arith, i.high); no-quote = i.no-quote; no-escape = i.no-escape; no_surrogate = λ h. omega (arith, h.0, i.high) }

pub themselves : (s : List ℕ) → T (all is_itself s) → Chars s s
unfolding all
themselves [] a = Chars.none
themselves (c ∷ s) a = let q = T_and (is_itself c) (all is_itself s) a in Chars.more (itself-char (itself-is c q.0)) (themselves s q.1)

-- figures, hex digits, and the texts of numbers
figure-itself : (c : ℕ) → T (is_figure c) → T (is_itself c)
unfolding is_figure is_itself
figure-itself c t =
    let q = T_and (leb 48 c) (leb c 57) t in
    let h = leb→le 48 c q.0 in
    let k = leb→le c 57 q.1 in
    simp (le-leb 0x20 c (omega arith), le-leb c 0x7E (omega arith), ne_eqb c 34 (λ e. omega arith), ne_eqb c 92 (λ e. omega arith)) tt

hex-itself : (c : ℕ) → T (is_hex c) → T (is_itself c)
unfolding is_hex all is_itself
hex-itself c t = one_of_all is_itself (ascii "0123456789ABCDEF") c tt t

pub hex-themselves : (p : List ℕ) → Bytes p → T (all is_itself (hex_bytes p))
hex-themselves p b = all_in is_hex is_itself hex-itself (hex_bytes p) (hex-all p b)

sign-itself : (m : Bool) → T (all is_itself (sign m))
unfolding all is_itself
sign-itself true = tt
sign-itself false = tt

last-figures : (k n : ℕ) → T (all is_figure (last_digits k n))
unfolding all
last-figures k n = let t = rw (one-and-fraction k n) at (decimal-figures (10 ^ k + n % 10 ^ k)) in (T_and (is_figure 49) (all is_figure (last_digits k n)) t).1

fraction-itself : (d n : ℕ) → T (all is_itself (fraction d n))
unfolding all is_itself
fraction-itself zero n = tt
fraction-itself (suc d) n = all_in is_figure is_itself figure-itself (last_digits (suc d) n) (last-figures (suc d) n)

pub text-themselves : (z : ℤ) (d : ℕ) → T (all is_itself (text z d))
unfolding text_of
text-themselves z d =
    let n : ℕ = nat_abs z / 10 ^ d in
    all_append is_itself (sign (below_zero z)) (decimal n ++ fraction d (nat_abs z)) (sign-itself (below_zero z))
    (all_append is_itself (decimal n) (fraction d (nat_abs z)) (all_in is_figure is_itself figure-itself (decimal n) (decimal-figures n)) (fraction-itself d (nat_abs z)))

-- ---- escapes

hex-digit : (v : ℕ) → v < 16 → Hex (hex_digit v) v
hex-digit v h =
    ⊎_elim (λ k. subst (λ (x : ℕ). Hex x v) (digit-figure v k) (Hex.digit k))
    (λ k. let a : 0x41 + (v - 10) ≡ hex_digit v = omega (arith, digit-letter v k h) in
    let b : 10 + (v - 10) ≡ v = omega arith in
    subst (λ (x : ℕ). Hex x v) a (subst (Hex (0x41 + (v - 10))) b (Hex.upper {v = v - 10} (omega arith)))) (less v 10)

-- `\u00` and two digits
code-char : (b : ℕ) → b < 256 → Char (ascii "\\u00" ++ hex_byte b) (b ∷ [])
unfolding hex_byte
code-char b h =
    let e : 0 * 4096 + 0 * 256 + b / 16 * 16 + b % 16 ≡ b = omega arith in
    let c : Char (ascii "\\u00" ++ hex_byte b) ((0 * 4096 + 0 * 256 + b / 16 * 16 + b % 16) ∷ []) =
    Char.code (Hex.digit {v = 0} (omega arith)) (Hex.digit {v = 0} (omega arith)) (hex-digit (b / 16) (omega arith)) (hex-digit (b % 16) (omega arith)) in
    subst (λ (n : ℕ). Char (ascii "\\u00" ++ hex_byte b) (n ∷ [])) e c

-- each byte as it is escaped is a character, and that byte
escaped-char : (b : ℕ) → b < 256 → Char (escaped b) (b ∷ [])
escaped-char b h =
    ⊎_elim (λ e. so (json.quote b e) e (Char.escaped Short.quotation-mark))
    (λ p. ⊎_elim (λ e. so (json.backslash b e) e (Char.escaped Short.reverse-solidus))
    (λ q. ⊎_elim (λ k. so (json.low b p q k) refl (code-char b h))
    (λ k. ⊎_elim (λ l. so (json.plain b p q k (omega arith)) refl (itself-char (record { low = k; high = omega arith; no-quote = p; no-escape = q })))
    (λ l. so (json.high b p q k (omega arith)) refl (code-char b h)) (less b 0x7F)) (less b 0x20)) (equal b 92)) (equal b 34)
  where
    so : {x : List ℕ} {c : ℕ} → x ≡ escaped b → b ≡ c → Char x (c ∷ []) → Char (escaped b) (b ∷ [])
    so {x} e f c = subst (λ (l : List ℕ). Char l (b ∷ [])) e (subst (λ (n : ℕ). Char x (n ∷ [])) (sym f) c)

pub escapes : (p : List ℕ) → Bytes p → Chars (each_escaped p) p
unfolding each_escaped
escapes [] b = Chars.none
escapes (c ∷ p) b = Chars.more (escaped-char c (bytes-head b)) (escapes p (bytes-tail b))

-- ---- strings

-- what stands between quotation marks, whatever is behind
pub between : {x us : List ℕ} (t : List ℕ) → Chars x us → spelt us (quoted x ++ t) t
between {x} t c = spelt.quoted c (ap (λ (l : List ℕ). 34 ∷ l) (append_assoc x (34 ∷ []) t))

-- ---- numbers

figures : (s t : List ℕ) → T (all is_figure s) → many DIGIT (s ++ t) t
unfolding all is_figure
figures [] t a = done
figures (c ∷ s) t a =
    let q = T_and (is_figure c) (all is_figure s) a in
    let d = T_and (leb 48 c) (leb c 57) q.0 in
    more (c, leb→le 48 c d.0, leb→le c 57 d.1, refl) (figures s t q.1)

-- a digit that is not zero, and others
more-int : (c : ℕ) (s t : List ℕ) → T (all is_figure (c ∷ s)) → 48 < c → int (c ∷ (s ++ t)) t
unfolding all is_figure
more-int c s t a h =
    let q = T_and (is_figure c) (all is_figure s) a in
    let d = T_and (leb 48 c) (leb c 57) q.0 in
    inr (s ++ t, (c, omega arith, leb→le c 57 d.1, refl), figures s t q.1)

int-text : (n : ℕ) (t : List ℕ) → int (decimal n ++ t) t
int-text zero t = inl (rw (decimal-small 0 (omega arith)))
int-text (suc n) t = by (decimal (suc n)) (decimal-figures (suc n)) (no-leading-zero (suc n) (omega arith))
  where
    by : (s : List ℕ) → T (all is_figure s) → 48 < get_or s 0 0 → int (s ++ t) t
    by [] a h = absurd (omega arith)
    by (c ∷ s) a h = more-int c s t a h

pub decimal-text : (n : ℕ) → decimal n ≡ text (pos n) 0
decimal-text n = sym (whole-text false n)

-- A NUMBER AS IT IS WRITTEN IS ONE OF JSON, whatever is behind
pub number-text : (z : ℤ) (t : List ℕ) → number (text z 0 ++ t) t
number-text z t = rw (whole-text (below_zero z) (nat_abs z)) (by (below_zero z) (nat_abs z))
  where
    by : (m : Bool) (n : ℕ) → number (sign m ++ decimal n ++ t) t
    by true n = (decimal n ++ t, inl refl, (t, int-text n t, (t, inr refl, inr refl)))
    by false n = (decimal n ++ t, inr refl, (t, int-text n t, (t, inr refl, inr refl)))
