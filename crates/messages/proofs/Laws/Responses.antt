-- What the code for Nest's responses answers: signed numbers as the machine makes them, tests, and the causes of a refusal.
-- Assumes nothing.
use mathlib.Core.Bool.{Bool, true, false, cond, ◌&&◌, true≢false}
use mathlib.Core.List.{List, [], append-nil}
use mathlib.Core.Path.{◌≡◌, refl, sym, ap, ◌∙◌, subst}
use Prim.Native.Nat.{ℕ, suc, ◌-◌, ◌≤◌, ◌<◌}
use native.Mathlib.Omega.{arith}
use lib.Dec.{eqb, ltb, lit<}
use Rattle.std.proofs.lemmas.Int.{of_z-to_z}
use lib.IntN.{ℤ, pos, negsuc}
use lib.ListN.{length}
use borrow.Author.Tests.{eqb-true, eq-eqb}
use mir.Syntax.{w16}
use mir.Val.{SFits, sel, to_z, of_z}
use mir.ValLaws.{to_z-of_z}
use Rattle.digits.specs.Paper.Bytes.{Bytes}
use Rattle.digits.specs.Paper.Read.{Decides, holds, fails}
use Rattle.digits.specs.Paper.Refusals.{answers, refuses}
use Rattle.digits.specs.declared.refusal.Refusal.TheVariants.{OutOfLimits}
use Rattle.layouts.proofs.Laws.Heads.{starts-append}
use Rattle.layouts.specs.Work.Heads.{starts}
use Rattle.numbers.proofs.Laws.Values.{In, lower, upper}
use Rattle.std.specs.Prelude.{Ok, Err}
use Rattle.numbers.specs.Paper.Panel.{ClimatePair}
use Rattle.numbers.specs.declared.panel.Climate.{Climate as Counts}
use Rattle.messages.specs.Paper.Panel.{PairCause, other, ShowsPair, VoltsCause, short, ReadsVolts}
use Rattle.messages.specs.Paper.Table.{u16_at, v_in, v_op, v_bat}
use Rattle.messages.specs.Work.Look.{of_twos, signed_at, is_climate}
use Rattle.messages.specs.declared.nest.Response.{Response}
use Rattle.messages.specs.declared.nest.Response.TheVariants.{Climate}
use Rattle.messages.proofs.Laws.Choices.{both_true}
use Rattle.messages.proofs.Laws.Fives.{five, none}
use Rattle.messages.proofs.Laws.NestRows.{of-twos, is_word}
use Rattle.messages.proofs.Laws.Words.{word_lt}

-- ---- signed numbers

in-fits : {z : ℤ} → In 2 true z → SFits w16 z
in-fits (lower h) = record { sfits = omega arith }
in-fits (upper h) = record { sfits = omega arith }

-- the machine keeps the number that stands there
pub signed_back : (i : ℕ) (p : List ℕ) → Bytes p → to_z w16 (of_z w16 (signed_at i p)) ≡ signed_at i p
signed_back i p b = to_z-of_z w16 (signed_at i p) (in-fits (of-twos (u16_at i p) (word_lt i p b)).0)

-- the bits of a number, read as signed and kept
pub signed-is : (n : ℕ) → n < 65536 → to_z w16 (of_z w16 (to_z w16 n)) ≡ of_twos n
signed-is n h = ap (to_z w16) (of_z-to_z w16 n h) ∙ go (ltb n 32768)
  where
    go : (b : Bool) → sel b (pos n) (negsuc (65536 - suc n)) ≡ cond b (pos n) (negsuc (65535 - n))
    go true = refl
    go false = let e : 65536 - suc n ≡ 65535 - n = omega arith in ap negsuc e

-- ---- tests

pub climate-four : (i : ℕ) (p : List ℕ) → is_climate i p ≡ true → length p ≡ 4
unfolding is_climate
climate-four i p t = eqb-true (length p) 4 (both_true (eqb i 0x0002) (eqb (length p) 4) t).1

all-starts : (w : List ℕ) → starts w w ≡ true
all-starts w = ap (starts w) (sym (append-nil w)) ∙ starts-append w []

-- a test for one word, by its length and its characters
pub word_test : (w p : List ℕ) {t : Bool} → Decides (p ≡ w) t → t ≡ (eqb (length p) (length w) && starts w p)
word_test w p (holds e) = sym (ap (λ (s : List ℕ). eqb (length s) (length w) && starts w s) e ∙ rw (eq-eqb (length w) (length w) refl) (all-starts w))
word_test w p (fails f) = go (eqb (length p) (length w) && starts w p) refl
  where
    go : (t : Bool) → (eqb (length p) (length w) && starts w p) ≡ t → false ≡ t
    go true e = let q = both_true (eqb (length p) (length w)) (starts w p) e in absurd (f (sym (is_word w p (eqb-true (length p) (length w) q.0) q.1)))
    go false e = refl

-- ---- the causes of a refusal

pair-only : {e : Response} (k : ℕ) → eqb k 5 ≡ false → PairCause e k → ⊥
pair-only k f (other g) = true≢false f

volts-only : {p : List ℕ} (k : ℕ) → eqb k 5 ≡ false → VoltsCause p k → ⊥
volts-only k f (short h) = true≢false f

-- the machine kept the temperature that is shown
pub pair-shown : {e : Response} (v : Counts) (t : ℤ) (h : ℕ) → e ≡ Climate t h → SFits w16 t
    → ClimatePair (to_z w16 (of_z w16 t)) (pos h) v.temperature v.humidity → ShowsPair e (Ok v)
pair-shown v t h is f p =
    answers (none pair-only (climate-right is))
    (record {
      temperature = t;
      humidity = h;
      is = is;
      pair = subst (λ (z : ℤ). ClimatePair z (pos h) v.temperature v.humidity) (to_z-of_z w16 t f) p;
    })
  where
    climate-right : {e : Response} → e ≡ Climate t h → PairCause e 5 → ⊥
    climate-right is (other f) = f t h is

-- any other message is refused
pub pair-refused : {e : Response} → ((t : ℤ) (h : ℕ) → e ≡ Climate t h → ⊥) → ShowsPair e (Err OutOfLimits)
pair-refused n = refuses (lit< tt) (five pair-only (other n))

pub volts-refused : {p : List ℕ} → length p < 16 → ReadsVolts p (Err OutOfLimits)
volts-refused h = refuses (lit< tt) (five volts-only (short h))

pub volts-read : {p : List ℕ} {x y z : ℕ} → 16 ≤ length p → x ≡ v_in p → y ≡ v_op p → z ≡ v_bat p → ReadsVolts p (Ok (record { vin = x; vop = y; vbat = z }))
volts-read {p} {x} {y} {z} h e f g = answers {v = record { v_in = x; v_op = y; v_bat = z }} (none volts-only (long h)) (rw (e, f, g))
  where
    long : {p : List ℕ} → 16 ≤ length p → VoltsCause p 5 → ⊥
    long h (short k) = omega arith
