-- Each value as it is written is a value of RFC 8259, and spells its field.
-- Assumes nothing.
use mathlib.Core.Bool.{Bool, true, false}
use mathlib.Core.List.{List, [], ◌∷◌, ◌++◌, append-nil}
use mathlib.Core.Logic.{inl, inr}
use mathlib.Core.Path.{refl, sym, subst}
use Prim.Native.Nat.{ℕ, suc, ◌+◌, ◌*◌, ◌^◌, ◌≤◌, ◌<◌}
use native.Mathlib.Omega.{arith}
use lib.Dec.{T}
use lib.IntN.{ℤ, pos, nat_abs}
use lib.ListN.{length}
use Rattle.digits.proofs.Laws.Decimal.{length-decimal}
use Rattle.digits.specs.Paper.Ascii.{ascii}
use Rattle.digits.specs.Paper.Bytes.{Bytes}
use Rattle.digits.specs.Paper.Hex.{hex_bytes}
use Rattle.layouts.proofs.Laws.ByteRuns.{bytes-by}
use Rattle.layouts.specs.Paper.Chars.{all}
use Rattle.numbers.proofs.Laws.Text.{text-short}
use Rattle.numbers.specs.Paper.Raw.{most_decimals}
use Rattle.numbers.specs.Paper.Single.{fits_single}
use Rattle.numbers.specs.Paper.Text.{below_zero, text}
use Rattle.json_values.proofs.Laws.Sizes.{length-quoted, length-hex, length-chars, length-truth, length-reading}
use Rattle.json_values.specs.Paper.Json as json
use Rattle.jsontext.proofs.Laws.Bare.{Shown, number-first, number-ended}
use Rattle.jsontext.proofs.Laws.Spelt.{spelt-string}
use Rattle.jsontext.specs.Paper.Json.{number, string, value_with}
use Rattle.jsontext.specs.Paper.Members.{IsString}
use Rattle.jsontext.specs.Paper.Names.{Chars, spelt, object_once, most_bytes}
use Rattle.shapes.specs.Paper.Fields.{Named, ◌∶◌, Plain, whole, hex, chars, truth}
use Rattle.asked.specs.Paper.Field.{SpellsPlain, as-whole, as-hex, as-chars, as-truth}
use Rattle.shapes.specs.Paper.Fields.{plain, reading}
use Rattle.asked.specs.Paper.Field.{Spells, as_plain, as-reading}
use Rattle.asked.specs.Work.Rows.{same_text}
use Rattle.asked.proofs.Laws.Objects.{Writes, Written, none, and, called, is_other, are_once, shown_by, object-shown, object-value, object_of_lem, once_by}
use Rattle.asked.proofs.Laws.Written.{is_itself, itself-byte, themselves, hex-themselves, text-themselves, escapes, between, decimal-text, number-text}

-- ---- among the values

module _ (d : ℕ) where
  a-number : (s t : List ℕ) → number s t → value_with object_once (suc d) s t
  unfolding value_with
  a-number s t x = inr (inr (inr (inr (inr (inl x)))))

  a-string : (s t : List ℕ) → string s t → value_with object_once (suc d) s t
  unfolding value_with
  a-string s t x = inr (inr (inr (inr (inr (inr x)))))

  a-truth : (b : Bool) (t : List ℕ) → value_with object_once (suc d) (json.truth b ++ t) t
  unfolding value_with
  a-truth true t = inr (inr (inl refl))
  a-truth false t = inl refl

-- ---- numbers

number-shown : (v : List ℕ) → number v [] → Shown v []
number-shown v x =
    let i = number-first v [] x in
    record { b = i.b; u = i.u; first = i.is; visible = omega (arith, i.above); ended = number-ended v [] x }

pub whole-written : (d : ℕ) (z : ℤ) (k : ℕ) → length (text z 0) ≤ k → Writes SpellsPlain (suc d) (text z 0) (whole z) k
whole-written d z k h =
    record {
      derives = λ t. a-number d (text z 0 ++ t) t (number-text z t);
      shown = number-shown (text z 0) (subst (λ (l : List ℕ). number l []) (append-nil (text z 0)) (number-text z []));
      spells = as-whole refl;
      short = h;
    }

pub number-written : (d k : ℕ) {n : ℕ} → n < 10 ^ suc k → Writes SpellsPlain (suc d) (json.number n) (whole (pos n)) (suc k)
number-written d k {n} h =
    subst (λ (l : List ℕ). Writes SpellsPlain (suc d) l (whole (pos n)) (suc k)) (sym (decimal-text n))
    (whole-written d (pos n) (suc k) (subst (λ (l : List ℕ). length l ≤ suc k) (decimal-text n) (length-decimal k n h)))

-- ---- strings

is-string : {x us : List ℕ} → Chars x us → Bytes us → length (json.quoted x) ≤ most_bytes → IsString (json.quoted x) us
is-string {x} {us} c b h = record { short = h; string = subst (λ (l : List ℕ). spelt us l []) (append-nil (json.quoted x)) (between [] c); bytes = b }

string-written : (d : ℕ) {x us : List ℕ} {p : Plain} {k : ℕ} → Chars x us → SpellsPlain (json.quoted x) p → length (json.quoted x) ≤ k
    → Writes SpellsPlain (suc d) (json.quoted x) p k
string-written d {x} c s h =
    record {
      derives = λ t. a-string d (json.quoted x ++ t) t (spelt-string (between t c));
      shown = shown_by 34 x 34 (omega arith) (omega arith);
      spells = s;
      short = h;
    }

themselves-bytes : (s : List ℕ) → T (all is_itself s) → Bytes s
themselves-bytes = bytes-by is_itself itself-byte

pub hex-written : (d m : ℕ) {p : List ℕ} → Bytes p → length p ≤ m → m ≤ 4000 → Writes SpellsPlain (suc d) (json.hex p) (hex p) (m * 2 + 2)
hex-written d m {p} b h k =
    let i = hex-themselves p b in
    let c = themselves (hex_bytes p) i in
    let l : length (json.hex p) ≤ m * 2 + 2 = omega (arith, length-hex p) in
    string-written d c (as-hex b (is-string c (themselves-bytes (hex_bytes p) i) (omega arith))) l

-- characters, however they are spelt
pub spelt-written : (d m : ℕ) {x us : List ℕ} → Chars x us → Bytes us → length x ≤ m → m ≤ 8000
    → Writes SpellsPlain (suc d) (json.quoted x) (chars us) (m + 2)
spelt-written d m {x} c b h k =
    let l : length (json.quoted x) ≤ m + 2 = omega (arith, length-quoted x) in
    string-written d c (as-chars (is-string c b (omega arith))) l

pub chars-written : (d m : ℕ) {p : List ℕ} → Bytes p → length p ≤ m → m ≤ 1024 → Writes SpellsPlain (suc d) (json.chars p) (chars p) (6 * m + 2)
chars-written d m {p} b h k =
    let l : length (json.each_escaped p) ≤ 6 * m = omega (arith, length-chars p, length-quoted (json.each_escaped p)) in
    spelt-written d (6 * m) (escapes p b) b l (omega arith)

-- characters that stand for themselves, without escapes
pub itself-written : (d m : ℕ) {s : List ℕ} → T (all is_itself s) → length s ≤ m → m ≤ 8000 → Writes SpellsPlain (suc d) (json.quoted s) (chars s) (m + 2)
itself-written d m {s} i h k = spelt-written d m (themselves s i) (themselves-bytes s i) h k

-- ---- true or false

truth-shown : (b : Bool) → Shown (json.truth b) []
truth-shown true = shown_by 116 (ascii "ru") 101 (omega arith) (omega arith)
truth-shown false = shown_by 102 (ascii "als") 101 (omega arith) (omega arith)

pub truth-written : (d : ℕ) (b : Bool) → Writes SpellsPlain (suc d) (json.truth b) (truth b) 5
truth-written d b = record { derives = a-truth d b; shown = truth-shown b; spells = as-truth refl; short = length-truth b }

-- ---- fields

pub field : {d : ℕ} {v : List ℕ} {p : Plain} {k : ℕ} → Writes SpellsPlain d v p k → Writes Spells d v (plain p) k
field w = record { derives = w.derives; shown = w.shown; spells = as_plain w.spells; short = w.short }

-- the four members of a reading
abbrev parts : ℤ → ℕ → List (Named Plain)
parts z n = ascii "raw" ∶ whole z ∷ ascii "dec" ∶ whole (pos n) ∷ ascii "text" ∶ chars (text z n) ∷ ascii "f32" ∶ truth (fits_single z) ∷ []

module _ (z : ℤ) (n : ℕ) (small : nat_abs z < 2 ^ 32) (few : n ≤ most_decimals) where
  parts-written : (d : ℕ) → Written SpellsPlain (suc d)
      (json.◌∶◌ (ascii "raw") (text z 0) ∷ json.◌∶◌ (ascii "dec") (json.number n) ∷ json.◌∶◌ (ascii "text") (json.quoted (text z n))
      ∷ json.◌∶◌ (ascii "f32") (json.truth (fits_single z)) ∷ [])
      (parts z n) 61
  unfolding all is_itself
  parts-written d =
      and tt (whole-written d z 12 (text-short (below_zero z) (nat_abs z) 0 small (omega arith)))
      (and tt (number-written d 0 {n = n} (omega arith))
      (and tt (itself-written d 12 (text-themselves z n) (text-short (below_zero z) (nat_abs z) n small few) (omega arith))
      (and tt (truth-written d (fits_single z)) none)))

  -- A READING AS IT IS WRITTEN
  pub reading-written : (d : ℕ) → Writes Spells (suc (suc d)) (json.reading z n) (reading z n) 62
  unfolding json.reading called are_once is_other same_text
  reading-written d =
      record {
        derives = object-value (parts-written d) (once_by (called (parts z n)) tt);
        shown = object-shown _;
        spells = as-reading (record { f32 = fits_single z; agrees = λ r. refl; object = object_of_lem (parts-written 14) (omega arith) tt });
        short = length-reading z n small few;
      }
