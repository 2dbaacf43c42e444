-- Numbers in a range, and how a whole number is read.
-- Assumes nothing.
use mathlib.Core.Bool.{true, false}
use mathlib.Core.List.{List}
use mathlib.Core.Path.{◌≡◌, refl, sym, ◌∙◌}
use Prim.Native.Nat.{ℕ, ◌<◌}
use native.Mathlib.Nat.{le_trans}
use native.Mathlib.Omega.{arith}
use lib.Dec.{T, lit<, leb→le, le→leb}
use lib.IntN.{ℤ, pos, negsuc}
use lib.Signed.{le_z}
use mir.Syntax.{w64}
use mir.Val.{SFits}
use Rattle.std.specs.Prelude.{Result, Ok, Err}
use Rattle.digits.proofs.Laws.Reads.{answered}
use Rattle.digits.proofs.Laws.Refusals.{some_number}
use Rattle.digits.proofs.Laws.Tests.{untold}
use Rattle.digits.specs.Paper.Read.{Decides, holds}
use Rattle.digits.specs.Paper.Read as read
use Rattle.digits.specs.declared.refusal.Refusal.{Refusal}
use Rattle.numbers.proofs.Laws.Reader.{text-inj}
use Rattle.numbers.proofs.Laws.Signs.{back, read_back, raw-fits}
use Rattle.numbers.specs.Paper.Answers.{ReadsText}
use Rattle.numbers.specs.Paper.Raw.{Between, Raw}
use Rattle.numbers.specs.Paper.Text.{text, Number, InLimits}
use Rattle.numbers.specs.declared.text.Reading.{Reading}
use Rattle.shapes.specs.Paper.Fields.{whole, plain, Field}
use Rattle.asked.specs.Paper.Field.{Spells, as_plain, as-whole}
use Rattle.shapes.specs.Paper.Shapes.{number, IsOf, a-number}
use Rattle.asked.specs.Work.Got.{Within, SpellsWhole, Reads, between, mapped}
use Rattle.asked.specs.Work.Got as got
use Rattle.asked.specs.declared.values.Reason.{Reason}
use Rattle.asked.specs.declared.values.Reason.TheVariants.{Large, NoValue}

-- ---- ranges

le-steps : (a b c : ℤ) → T (le_z a b) → T (le_z b c) → T (le_z a c)
le-steps (pos a) (pos b) (pos c) h k = le→leb a c (le_trans (leb→le a b h) (leb→le b c k))
le-steps (pos a) (pos b) (negsuc c) h k = k
le-steps (pos a) (negsuc b) c h k = absurd h
le-steps (negsuc a) (pos b) (pos c) h k = tt
le-steps (negsuc a) (pos b) (negsuc c) h k = absurd k
le-steps (negsuc a) (negsuc b) (pos c) h k = tt
le-steps (negsuc a) (negsuc b) (negsuc c) h k = le→leb c a (le_trans (leb→le c b k) (leb→le b a h))

-- a range within a range
pub nested : {low high least most z : ℤ} → Between low high least → Between low high most → Between least most z → Between low high z
nested {low} {high} {least} {most} {z} x y b =
    record { low = record { le = le-steps low least z x.low.le b.low.le }; high = record { le = le-steps z most high b.high.le y.high.le } }

module _ {raw least most : ℤ} where
  pub out_of : Decides (Between least most raw) false → Within raw least most (Err Large)
  out_of d = got.outside (untold d refl)

  pub in-range : Decides (Between least most raw) true → back raw ≡ raw → Within raw least most (Ok (back raw))
  in-range (holds b) e = rw e (got.Within.is b)

  -- as the machine reads the numbers back
  pub read-within : {r : Result ℤ Reason} → SFits w64 raw → SFits w64 least → SFits w64 most
      → Within (back raw) (back least) (back most) r → Within raw least most r
  read-within f g h w = rw (read_back raw f, read_back least g, read_back most h) at w

-- a raw number is read back
pub raw-back : {z : ℤ} → Raw z → back z ≡ z
raw-back {z} r = read_back z (raw-fits z r)

-- ---- a whole number

-- a text that was read, or not, as a number within 01's limits
none_read : {t : List ℕ} {k : ℕ} {v : Number} → 0 < k
    → read.Reads (record { raw = pos 0; decimals = 0 }) InLimits (λ n. text n.raw n.decimals) 7 t k v → (n : Number) → InLimits n → text n.raw n.decimals ≡ t → ⊥
none_read h (read.is l e) = absurd (omega arith)
none_read h (read.none f) = f

module _ {v : List ℕ} {n : Reading} (a : ReadsText v (Ok n)) where
  pub read_number : text n.raw n.decimals ≡ v
  read_number = (answered (lit< tt) a refl).1

  pub read-raw : Raw n.raw
  read-raw = (answered (lit< tt) a refl).0.in-range

pub not-read : {v : List ℕ} (why : Refusal) → ReadsText v (Err why) → (z : ℤ) → Raw z → text z 0 ≡ v → ⊥
not-read why a z w = none_read (some_number why) a (record { raw = z; decimals = 0 }) (record { in-range = w; few = omega arith })

-- the number that a whole field is
whole_of : {v : List ℕ} {g : Field} → IsOf number g → Spells v g → SpellsWhole v
whole_of (a-number {z = z}) (as_plain (as-whole e)) = (z, e)

module _ {v : List ℕ} {least most : ℤ} where
  pub has-point : (z : ℤ) (d : ℕ) → text z d ≡ v → (d ≡ 0 → ⊥) → Reads v number (between least most) (Err NoValue)
  has-point z d e n = got.Reads.none (λ g o s. let (y, x) = whole_of o s in n (text-inj z y d 0 (e ∙ x)).1)

  pub in-or-out : {z : ℤ} (d : ℕ) {r : Result ℤ Reason} → text z d ≡ v → d ≡ 0 → Within z least most r
      → Reads v number (between least most) (mapped (λ y. plain (whole y)) r)
  in-or-out d e n (got.Within.is b) = got.Reads.is a-number (as_plain (as-whole (sym (rw n at e)))) b
  in-or-out {z} d e n (got.outside f) = got.Reads.large (a-number {z = z}) (as_plain (as-whole (sym (rw n at e)))) f

  pub is-large : Raw least → Raw most → ((z : ℤ) → Raw z → text z 0 ≡ v → ⊥) → SpellsWhole v → Reads v number (between least most) (Err Large)
  is-large x y n (z, e) = got.Reads.large (a-number {z = z}) (as_plain (as-whole e)) (λ b. n z (nested x y b) (sym e))

  pub no_number : (SpellsWhole v → ⊥) → Reads v number (between least most) (Err NoValue)
  no_number n = got.Reads.none (λ g o s. n (whole_of o s))
