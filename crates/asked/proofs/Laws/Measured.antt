-- A reading as its four members, and what `reading` answers of them.
-- Assumes nothing.
use mathlib.Core.Bool.{Bool}
use mathlib.Core.List.{List}
use mathlib.Core.Path.{◌≡◌, sym, ap, subst, ◌∙◌}
use Prim.Native.Nat.{ℕ, ◌≤◌}
use lib.IntN.{ℤ, pos, neg_ℤ}
use Rattle.std.specs.Prelude.{Result, Err}
use Rattle.digits.specs.Paper.Ascii.{ascii}
use Rattle.digits.specs.Paper.Read.{Decides, holds, fails}
use Rattle.numbers.proofs.Laws.Signs.{back}
use Rattle.numbers.specs.Paper.Raw.{Raw}
use Rattle.numbers.specs.Paper.Single.{fits_single}
use Rattle.numbers.specs.Paper.Text.{text}
use Rattle.jsontext.specs.Paper.Members.{IsString}
use Rattle.shapes.specs.Paper.Fields.{◌∶◌, Plain, whole, chars, truth}
use Rattle.asked.specs.Paper.Field.{Has, none, and, SpellsPlain, as-whole, as-chars}
use Rattle.shapes.specs.Paper.Fields.{Field, plain, reading}
use Rattle.asked.specs.Paper.Field.{SpellsReading, Spells, as_plain, as-reading}
use Rattle.shapes.specs.Paper.Shapes.{number, bool, measured, IsOf, a-number, a-bool, a-reading}
use Rattle.asked.specs.Work.Got.{Limit, between, any, Reads, ReadsIn, ValueIn, slot, Within, FourMembers, pointed, mapped, beyond_of}
use Rattle.asked.specs.Work.Got as got
use Rattle.asked.specs.declared.values.Reason.{Reason}
use Rattle.asked.specs.declared.values.Reason.TheVariants.{Large, NoValue}
use Rattle.asked.proofs.Laws.Lift.{head-has, tail-has, in-value, value_in, one_in}
use Rattle.asked.proofs.Laws.Numbers.{nested, raw-back}
use Rattle.asked.proofs.Laws.Points.{pointed-text}

-- ---- its members

abbrev pub Raws : List ℕ → ℤ → Type 0
Raws v z = Has Spells v (ascii "raw" ∶ plain (whole z))

abbrev pub Decs : List ℕ → ℕ → Type 0
Decs v d = Has Spells v (ascii "dec" ∶ plain (whole (pos d)))

abbrev pub Texts : List ℕ → List ℕ → Type 0
Texts v t = Has Spells v (ascii "text" ∶ plain (chars t))

abbrev pub Singles : List ℕ → Bool → Type 0
Singles v b = Has Spells v (ascii "f32" ∶ plain (truth b))

pub record Parts (v : List ℕ) (z : ℤ) (d : ℕ) : Type 0 where
  pub four : FourMembers v
  pub raw : Raws v z
  pub dec : Decs v d
  pub text : Texts v (text z d)
  pub f32 : Bool
  pub single : Singles v f32
  pub agrees : Raw z → f32 ≡ fits_single z

to-spells : {s n : List ℕ} {p : Plain} → Has SpellsPlain s (n ∶ p) → Has Spells s (n ∶ plain p)
to-spells h = record { members = h.members; object = h.object; member = h.member; first = h.first; spelt = as_plain h.spelt }

from-spells : {s n : List ℕ} {p : Plain} → Has Spells s (n ∶ plain p) → Has SpellsPlain s (n ∶ p)
from-spells {p = p} h = record { members = h.members; object = h.object; member = h.member; first = h.first; spelt = plain_of h.spelt }
  where
    plain_of : {v : List ℕ} → Spells v (plain p) → SpellsPlain v p
    plain_of (as_plain x) = x

to-parts : {v : List ℕ} {z : ℤ} {d : ℕ} → SpellsReading v z d → Parts v z d
to-parts x =
    let e = x.object.each in
    record {
      four = record { grammar = x.object.grammar; four = x.object.many };
      raw = to-spells (head-has e);
      dec = to-spells (head-has (tail-has e));
      text = to-spells (head-has (tail-has (tail-has e)));
      f32 = x.f32;
      single = to-spells (head-has (tail-has (tail-has (tail-has e))));
      agrees = x.agrees;
    }

from_parts : {v : List ℕ} {z : ℤ} {d : ℕ} → Parts v z d → SpellsReading v z d
from_parts p =
    record {
      f32 = p.f32;
      agrees = p.agrees;
      object =
          record {
            grammar = p.four.grammar;
            many = p.four.four;
            each = and (from-spells p.raw) (and (from-spells p.dec) (and (from-spells p.text) (and (from-spells p.single) none)));
          };
    }

-- ---- what is answered

module _ {v : List ℕ} {d : ℕ} {limit : Limit} where
  none_so : ((z : ℤ) → Parts v z d → ⊥) → Reads v (measured d) limit (Err NoValue)
  none_so n = got.Reads.none (λ g o s. by o s)
    where
      by : {g : Field} → IsOf (measured d) g → Spells v g → ⊥
      by (a-reading {z = z}) (as-reading x) = n z (to-parts x)

  pub not-four : (FourMembers v → ⊥) → Reads v (measured d) limit (Err NoValue)
  not-four n = none_so (λ z p. n p.four)

  pub not-dec : (Decs v d → ⊥) → Reads v (measured d) limit (Err NoValue)
  not-dec n = none_so (λ z p. n p.dec)

  pub not-single : {why : Reason} → ReadsIn v (slot (ascii "f32") bool any) (Err why) → Reads v (measured d) limit (Err why)
  not-single (got.ReadsIn.large o h l) = absurd (l tt)
  not-single (got.ReadsIn.none n) = none_so (λ z p. n _ a-bool p.single)

  pub not-raw : {m : Limit} → ReadsIn v (slot (ascii "raw") number m) (Err NoValue) → Reads v (measured d) limit (Err NoValue)
  not-raw (got.ReadsIn.none n) = none_so (λ z p. n _ a-number p.raw)

-- with its number, another member that is not so
one-raw : {v : List ℕ} {y z : ℤ} → Raws v y → Raws v z → y ≡ z
one-raw h k = cc (one_in a-number a-number h k)

module _ {v : List ℕ} {d : ℕ} {limit : Limit} {z : ℤ} (h : Raws v z) where
  pub not-text-so : {t : List ℕ} → ValueIn v (ascii "text") t → (IsString t (text z d) → ⊥) → Reads v (measured d) limit (Err NoValue)
  not-text-so {t} w n =
      none_so
      (λ y p. let e : y ≡ z = one-raw p.raw h in
      n (subst (λ (x : ℤ). IsString t (text x d)) e (string-of (value_in w p.text))))
    where
      string-of : {cs : List ℕ} → Spells t (plain (chars cs)) → IsString t cs
      string-of (as_plain (as-chars x)) = x

  -- where the machine reads the number back
  module _ (r : Raw z) where
    pub not-text : {t : List ℕ} → ValueIn v (ascii "text") t → (IsString t (text (back z) d) → ⊥) → Reads v (measured d) limit (Err NoValue)
    not-text {t} w n = not-text-so w (λ s. n (subst (λ (x : ℤ). IsString t (text x d)) (sym (raw-back r)) s))

    pub not-fits : {b : Bool} → Singles v b → (b ≡ fits_single (back z) → ⊥) → Reads v (measured d) limit (Err NoValue)
    not-fits {b} k n =
        none_so
        (λ y p. let e : y ≡ z = one-raw p.raw h in
        let s : p.f32 ≡ b = cc (one_in a-bool a-bool p.single k) in
        n (sym s ∙ p.agrees (subst Raw (sym e) r) ∙ ap fits_single (e ∙ sym (raw-back r))))

-- all members that agree
pub all-agree : {v t : List ℕ} {d : ℕ} {z : ℤ} {b : Bool} → Raws v z → Raw z → FourMembers v → Decs v d → Singles v b → b ≡ fits_single (back z)
    → ValueIn v (ascii "text") t → IsString t (text (back z) d) → Parts v z d
all-agree {t = t} {d = d} {b = b} h r m n k e w s =
    record {
      four = m;
      raw = h;
      dec = n;
      text = in-value w (as_plain (as-chars (subst (λ (x : ℤ). IsString t (text x d)) (raw-back r) s)));
      f32 = b;
      single = k;
      agrees = λ q. e ∙ ap fits_single (raw-back r);
    }

-- a raw number that is read, and one that is none of 01's
abbrev pub RawIn : List ℕ → Result Field Reason → Type 0
RawIn v r = ReadsIn v (slot (ascii "raw") number (between (neg_ℤ (pos 2147483648)) (pos 4294967295))) r

record Beyond (v : List ℕ) : Type 0 where
  z : ℤ
  raw : Raws v z
  large : Raw z → ⊥

far-raw : {v : List ℕ} → RawIn v (Err Large) → Beyond v
far-raw (got.ReadsIn.large (a-number {z = z}) h l) = record { z = z; raw = h; large = l }

module _ {v : List ℕ} {d : ℕ} {least most : ℤ} where
  pub whole-so : {z : ℤ} {r : Result ℤ Reason} → Parts v z d → Within z least most r → Reads v (measured d) (between least most) (mapped (λ y. reading y d) r)
  whole-so p (got.Within.is b) = got.Reads.is a-reading (as-reading (from_parts p)) b
  whole-so {z} p (got.outside n) = got.Reads.large (a-reading {z = z}) (as-reading (from_parts p)) n

  pub beyond-so : {t w : List ℕ} {a b : Bool} {why : Reason} → Raw least → Raw most → d ≤ 3 → FourMembers v → Decs v d → Singles v b
      → RawIn v (Err Large) → ValueIn v (ascii "text") t → ValueIn v (ascii "raw") w → Decides (IsString t (pointed d w)) a → why ≡ beyond_of a
      → Reads v (measured d) (between least most) (Err why)
  beyond-so {t = t} {w = w} {a = a} {b = b} x y few m n s r i j c e = rw e (by (far-raw r))
    where
      whole_of : {z : ℤ} → Spells w (plain (whole z)) → w ≡ text z 0
      whole_of (as_plain (as-whole e)) = e

      so : {a : Bool} (k : Beyond v) → Decides (IsString t (text k.z d)) a → Reads v (measured d) (between least most) (Err (beyond_of a))
      so k (holds q) =
          got.Reads.large (a-reading {z = k.z})
          (as-reading
          (from_parts (record { four = m; raw = k.raw; dec = n; text = in-value i (as_plain (as-chars q)); f32 = b; single = s; agrees = λ h. absurd (k.large h) })))
          (λ b. k.large (nested x y b))
      so k (fails q) = not-text-so k.raw i q

      by : Beyond v → Reads v (measured d) (between least most) (Err (beyond_of a))
      by k =
          let e : pointed d w ≡ text k.z d = ap (pointed d) (whole_of (value_in j k.raw)) ∙ pointed-text k.z d k.large few in
          so k (subst (λ (l : List ℕ). Decides (IsString t l) a) e c)
