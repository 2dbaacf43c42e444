-- Values end where they end: from two values, each with what stands behind it in a line, that are the same characters, it follows that the
-- values are the same, and what stands behind them.
-- Assumes nothing.
use mathlib.Core.Bool.{Bool, true, false, cond, ◌&&◌, ◌||◌}
use mathlib.Core.List.{List, [], ◌∷◌, ◌++◌, append_assoc, append_cancel_left}
use mathlib.Core.Path.{◌≡◌, refl, sym, ap, ap₂, ◌∙◌, subst}
use Prim.Native.Nat.{ℕ, suc, ◌/◌, ◌%◌, ◌≤◌, ◌<◌}
use native.Mathlib.Omega.{arith}
use lib.Dec.{T, eqb, leb, ltb, leb→le}
use lib.IntN.{ℤ, nat_abs}
use lib.ListN.{length, get_or}
use borrow.Author.Tests.{eqb-true, eqb-false}
use Rattle.digits.specs.Paper.Ascii.{ascii}
use Rattle.digits.specs.Paper.Bytes.{Bytes}
use Rattle.digits.specs.Paper.Decimal.{decimal}
use Rattle.digits.specs.Paper.Hex.{hex_digit, hex_byte, hex_bytes}
use Rattle.digits.proofs.Laws.Bytes.{bytes-head, bytes-tail}
use Rattle.digits.proofs.Laws.Decimal.{decimal-inj, chars-digits}
use Rattle.digits.proofs.Laws.Hex.{byte-inj, hex-inj}
use Rattle.digits.proofs.Laws.Table.{at}
use Rattle.digits.proofs.Laws.Tests.{T_and}
use Rattle.numbers.specs.Paper.Single.{fits_single}
use Rattle.numbers.specs.Paper.Text.{below_zero, sign, text_of, text}
use Rattle.numbers.proofs.Theorems.Text.{one_number}
use Rattle.json_values.specs.Paper.Json.{quoted, hex, escaped, each_escaped, chars, number, truth, Member, ◌∶◌, further, object, reading}

-- ---- characters of a range, up to one outside it

record Within (low high c : ℕ) : Type 0 where
  from : low ≤ c
  to : c ≤ high

-- each character is in the range
data All (low high : ℕ) : List ℕ → Type 0 where
  none : All low high []
  more : {c : ℕ} {s : List ℕ} → Within low high c → All low high s → All low high (c ∷ s)

-- the first is not
data Stops (low high : ℕ) : List ℕ → Type 0 where
  stops : {c : ℕ} {s : List ℕ} → (Within low high c → ⊥) → Stops low high (c ∷ s)

no_stop : {low high c : ℕ} {s t : List ℕ} → Within low high c → Stops low high t → t ≡ c ∷ s → ⊥
no_stop {low} {high} {c} w (stops {c = x} f) e = let d : x ≡ c = cc in f (subst (Within low high) (sym d) w)

run : {low high : ℕ} (a b s t : List ℕ) → All low high a → All low high b → Stops low high s → Stops low high t → a ++ s ≡ b ++ t → (a ≡ b) × (s ≡ t)
run [] [] s t p q f g e = (refl, e)
run [] (y ∷ b) s t p (more w q) f g e = absurd (no_stop w f e)
run (x ∷ a) [] s t (more w p) q f g e = absurd (no_stop w g (sym e))
run (x ∷ a) (y ∷ b) s t (more w p) (more v q) f g e =
    let h : a ++ s ≡ b ++ t = cc in
    let k : x ≡ y = cc in
    let r = run a b s t p q f g h in
    (rw k (ap (λ (l : List ℕ). y ∷ l) r.0), r.1)

all_append : {low high : ℕ} (a b : List ℕ) → All low high a → All low high b → All low high (a ++ b)
all_append [] b p q = q
all_append (x ∷ a) b (more w p) q = more w (all_append a b p q)

all-by : {low high : ℕ} (s : List ℕ) → ((i : ℕ) → i < length s → Within low high (get_or s i 0)) → All low high s
all-by [] f = none
all-by (x ∷ s) f = more (f 0 (omega arith)) (all-by s (λ i h. f (suc i) (omega arith)))

-- ---- what stands behind a value: `,` or `}`

pub data Ends : List ℕ → Type 0 where
  comma : {s : List ℕ} → Ends (44 ∷ s)
  brace : {s : List ℕ} → Ends (125 ∷ s)

pub ends-further : (ms : List Member) (s : List ℕ) → Ends (further ms ++ s)
unfolding further
ends-further [] s = brace
ends-further (m ∷ ms) s = comma

-- values of A, spelt by f, that end where they end; those of which P holds
pub record Token {A : Type 0} (P : A → Type 0) (f : A → List ℕ) : Type 0 where
  pub same : (x y : A) (s t : List ℕ) → P x → P y → Ends s → Ends t → f x ++ s ≡ f y ++ t → (x ≡ y) × (s ≡ t)

-- ---- numbers

-- from `-` to `9`: neither `,` nor `}`
stops-number : {s : List ℕ} → Ends s → Stops 45 57 s
stops-number comma = stops (λ (w : Within 45 57 44). omega arith)
stops-number brace = stops (λ (w : Within 45 57 125). omega arith)

all-decimal : (n : ℕ) → All 45 57 (decimal n)
all-decimal n = all-by (decimal n) (λ i h. let d = chars-digits n i h in record { from = omega (arith, d.0); to = d.1 })

pub number-token : Token (λ (n : ℕ). Unit) number
number-token =
    record {
      same = λ x y s t p q f g e.
          let r = run (decimal x) (decimal y) s t (all-decimal x) (all-decimal y) (stops-number f) (stops-number g) e in
          (decimal-inj x y r.0, r.1);
    }

all-sign : (m : Bool) → All 45 57 (sign m)
all-sign true = more {c = 45} (record { from = omega arith; to = omega arith }) none
all-sign false = none

all-text : (z : ℤ) → All 45 57 (text z 0)
unfolding text_of
all-text z = all_append (sign (below_zero z)) (decimal (nat_abs z / 1) ++ []) (all-sign (below_zero z)) (all_append (decimal (nat_abs z / 1)) [] (all-decimal (nat_abs z / 1)) none)

-- ---- strings

-- no character of it is `"`
unfoldable pub unquoted : List ℕ → Bool
unquoted [] = true
unquoted (c ∷ s) = leb 35 c && (leb c 255 && unquoted s)

all-unquoted : (s : List ℕ) → T (unquoted s) → All 35 255 s
unfolding unquoted
all-unquoted [] h = none
all-unquoted (c ∷ s) h =
    let a = T_and (leb 35 c) _ h in
    let b = T_and (leb c 255) _ a.1 in
    more (record { from = leb→le 35 c a.0; to = leb→le c 255 b.0 }) (all-unquoted s b.1)

stops-quote : (s : List ℕ) → Stops 35 255 (34 ∷ s)
stops-quote s = stops (λ (w : Within 35 255 34). omega arith)

-- a string's characters and its closing quote, with what stands behind it
opened : (a s : List ℕ) → quoted a ++ s ≡ 34 ∷ (a ++ (34 ∷ s))
opened a s = ap (λ (l : List ℕ). 34 ∷ l) (append_assoc a (34 ∷ []) s)

between : (a b s t : List ℕ) → quoted a ++ s ≡ quoted b ++ t → a ++ (34 ∷ s) ≡ b ++ (34 ∷ t)
between a b s t e = let f = sym (opened a s) ∙ e ∙ opened b t in cc

quote-run : (a b s t : List ℕ) → All 35 255 a → All 35 255 b → quoted a ++ s ≡ quoted b ++ t → (a ≡ b) × (s ≡ t)
quote-run a b s t p q e =
    let r = run a b (34 ∷ s) (34 ∷ t) p q (stops-quote s) (stops-quote t) (between a b s t e) in
    let f = r.1 in
    (r.0, cc)

pub quoted-token : Token (λ (a : List ℕ). T (unquoted a)) quoted
quoted-token = record { same = λ a b s t p q f g e. quote-run a b s t (all-unquoted a p) (all-unquoted b q) e }

-- the table's rule: so are all digits
in-quotes : ℕ → ℕ → Bool
in-quotes v c = leb 35 c && leb c 255

digit-in : (v : ℕ) → v < 16 → Within 35 255 (hex_digit v)
unfolding hex_digit in-quotes
digit-in v h =
    let r = T_and (leb 35 (hex_digit v)) (leb (hex_digit v) 255) (at in-quotes (ascii "0123456789ABCDEF") tt v h) in
    record { from = leb→le 35 (hex_digit v) r.0; to = leb→le (hex_digit v) 255 r.1 }

all-hex : (s : List ℕ) → Bytes s → All 35 255 (hex_bytes s)
unfolding hex_bytes hex_byte
all-hex [] h = none
all-hex (b ∷ s) h =
    let k = bytes-head h in
    more (digit-in (b / 16) (omega arith)) (more (digit-in (b % 16) (omega arith)) (all-hex s (bytes-tail h)))

pub hex-token : Token Bytes hex
hex-token =
    record {
      same = λ a b s t p q f g e.
          let r = quote-run (hex_bytes a) (hex_bytes b) s t (all-hex a p) (all-hex b q) e in
          (hex-inj a b p q r.0, r.1);
    }

-- what a byte is escaped as
data Escape (b : ℕ) : List ℕ → Type 0 where
  slash : (b ≡ 117 → ⊥) → Escape b (92 ∷ b ∷ [])
  code : Escape b (92 ∷ 117 ∷ 48 ∷ 48 ∷ hex_byte b)
  plain : (b ≡ 34 → ⊥) → (b ≡ 92 → ⊥) → Escape b (b ∷ [])

escape-of : (b : ℕ) → Escape b (escaped b)
unfolding escaped hex_byte
escape-of b = go (eqb b 34) (eqb b 92) (ltb b 0x20 || ltb 0x7E b) refl refl
  where
    go : (p q r : Bool) → eqb b 34 ≡ p → eqb b 92 ≡ q → Escape b (cond (p || q) (ascii "\\" ++ (b ∷ [])) (cond r (ascii "\\u00" ++ hex_byte b) (b ∷ [])))
    go true q r e f = slash (λ h. omega (arith, eqb-true b 34 e))
    go false true r e f = slash (λ h. omega (arith, eqb-true b 92 f))
    go false false true e f = code
    go false false false e f = plain (eqb-false b 34 e) (eqb-false b 92 f)

no-close : (b : ℕ) {l s : List ℕ} (u : List ℕ) → Escape b l → 34 ∷ s ≡ l ++ u → ⊥
no-close b u (slash f) e = let z : ◌≡◌ {A = ℕ} 34 92 = cc in omega arith
no-close b u code e = let z : ◌≡◌ {A = ℕ} 34 92 = cc in omega arith
no-close b u (plain f g) e = let z : b ≡ 34 = cc in f z

one-escape : (x y : ℕ) {k l : List ℕ} (u v : List ℕ) → x < 256 → y < 256 → Escape x k → Escape y l → k ++ u ≡ l ++ v → (x ≡ y) × (u ≡ v)
unfolding hex_byte
one-escape x y u v h k (slash f) (slash g) e = (cc, cc)
one-escape x y u v h k (slash f) code e = let z : x ≡ 117 = cc in absurd (f z)
one-escape x y u v h k (slash f) (plain g i) e = let z : y ≡ 92 = cc in absurd (i z)
one-escape x y u v h k code (slash g) e = let z : y ≡ 117 = cc in absurd (g z)
one-escape x y u v h k code code e =
    let a : hex_digit (x / 16) ≡ hex_digit (y / 16) = cc in
    let b : hex_digit (x % 16) ≡ hex_digit (y % 16) = cc in
    (byte-inj x y h k (rw (a, b)), cc)
one-escape x y u v h k code (plain g i) e = let z : y ≡ 92 = cc in absurd (i z)
one-escape x y u v h k (plain f i) (slash g) e = let z : x ≡ 92 = cc in absurd (i z)
one-escape x y u v h k (plain f i) code e = let z : x ≡ 92 = cc in absurd (i z)
one-escape x y u v h k (plain f i) (plain g j) e = (cc, cc)

escapes : (a b s t : List ℕ) → Bytes a → Bytes b → each_escaped a ++ (34 ∷ s) ≡ each_escaped b ++ (34 ∷ t) → (a ≡ b) × (s ≡ t)
unfolding each_escaped
escapes [] [] s t p q e = (refl, cc)
escapes [] (y ∷ b) s t p q e = absurd (no-close y _ (escape-of y) (e ∙ append_assoc (escaped y) (each_escaped b) (34 ∷ t)))
escapes (x ∷ a) [] s t p q e = absurd (no-close x _ (escape-of x) (sym e ∙ append_assoc (escaped x) (each_escaped a) (34 ∷ s)))
escapes (x ∷ a) (y ∷ b) s t p q e =
    let f = sym (append_assoc (escaped x) (each_escaped a) (34 ∷ s)) ∙ e ∙ append_assoc (escaped y) (each_escaped b) (34 ∷ t) in
    let r = one-escape x y _ _ (bytes-head p) (bytes-head q) (escape-of x) (escape-of y) f in
    let l = escapes a b s t (bytes-tail p) (bytes-tail q) r.1 in
    (ap₂ (λ (c : ℕ) (k : List ℕ). c ∷ k) r.0 l.0, l.1)

pub chars-token : Token Bytes chars
chars-token = record { same = λ a b s t p q f g e. escapes a b s t p q (between (each_escaped a) (each_escaped b) s t e) }

-- ---- true and false

pub truth-token : Token (λ (b : Bool). Unit) truth
truth-token = record { same = go }
  where
    go : (x y : Bool) (s t : List ℕ) → Unit {0} → Unit {0} → Ends s → Ends t → truth x ++ s ≡ truth y ++ t → (x ≡ y) × (s ≡ t)
    go true true s t p q f g e = (refl, cc)
    go true false s t p q f g e = let z : ◌≡◌ {A = ℕ} 116 102 = cc in absurd (omega arith)
    go false true s t p q f g e = let z : ◌≡◌ {A = ℕ} 116 102 = cc in absurd (omega arith)
    go false false s t p q f g e = (refl, cc)

-- ---- objects

-- a member, with what stands behind it
regroup : (a b c s : List ℕ) → a ++ (58 ∷ b) ++ c ++ s ≡ a ++ (58 ∷ (b ++ (c ++ s)))
regroup a b c s = simp append_assoc

further-split : (m : Member) (ms : List Member) (s : List ℕ) → further (m ∷ ms) ++ s ≡ 44 ∷ (quoted m.name ++ (58 ∷ (m.value ++ (further ms ++ s))))
unfolding further
further-split m ms s = ap (λ (l : List ℕ). 44 ∷ l) (regroup (quoted m.name) m.value (further ms) s)

object-split : (m : Member) (ms : List Member) (s : List ℕ) → object (m ∷ ms) ++ s ≡ 123 ∷ (quoted m.name ++ (58 ∷ (m.value ++ (further ms ++ s))))
unfolding object
object-split m ms s = ap (λ (l : List ℕ). 123 ∷ l) (regroup (quoted m.name) m.value (further ms) s)

-- two members of one name, whose values are spelt by f
module _ {A : Type 0} {P : A → Type 0} {f : A → List ℕ} (k : Token P f) (n : List ℕ) (x y : A) (px : P x) (py : P y) (ms ns : List Member) (s t : List ℕ) where
  after-name : (c : ℕ) → c ∷ (quoted n ++ (58 ∷ (f x ++ (further ms ++ s)))) ≡ c ∷ (quoted n ++ (58 ∷ (f y ++ (further ns ++ t))))
      → (x ≡ y) × (further ms ++ s ≡ further ns ++ t)
  after-name c e =
      let g : quoted n ++ (58 ∷ (f x ++ (further ms ++ s))) ≡ quoted n ++ (58 ∷ (f y ++ (further ns ++ t))) = cc in
      let h = append_cancel_left (quoted n) _ _ g in
      let i : f x ++ (further ms ++ s) ≡ f y ++ (further ns ++ t) = cc in
      k.same x y _ _ px py (ends-further ms s) (ends-further ns t) i

  pub next-member : further (n ∶ f x ∷ ms) ++ s ≡ further (n ∶ f y ∷ ns) ++ t → (x ≡ y) × (further ms ++ s ≡ further ns ++ t)
  next-member e = after-name 44 (sym (further-split (n ∶ f x) ms s) ∙ e ∙ further-split (n ∶ f y) ns t)

  pub first_member : object (n ∶ f x ∷ ms) ++ s ≡ object (n ∶ f y ∷ ns) ++ t → (x ≡ y) × (further ms ++ s ≡ further ns ++ t)
  first_member e = after-name 123 (sym (object-split (n ∶ f x) ms s) ∙ e ∙ object-split (n ∶ f y) ns t)

-- ---- readings

raw-token : Token (λ (z : ℤ). Unit) (λ z. text z 0)
raw-token =
    record {
      same = λ x y s t p q f g e.
          let r = run (text x 0) (text y 0) s t (all-text x) (all-text y) (stops-number f) (stops-number g) e in
          ((one_number x y 0 0 r.0).0, r.1);
    }

-- the members behind `raw`
rest : ℤ → ℕ → List Member
rest z d = ascii "dec" ∶ number d ∷ ascii "text" ∶ quoted (text z d) ∷ ascii "f32" ∶ truth (fits_single z) ∷ []

pub reading-token : (d : ℕ) → Token (λ (z : ℤ). Unit) (λ z. reading z d)
unfolding reading rest
reading-token d =
    record {
      same = λ x y s t p q f g e.
          let h : x ≡ y = (first_member raw-token (ascii "raw") x y tt tt (rest x d) (rest y d) s t e).0 in
          (h, append_cancel_left (reading y d) s t (ap (λ (z : ℤ). reading z d ++ s) (sym h) ∙ e));
    }
