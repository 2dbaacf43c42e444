-- The first line of a text: the first test that it fails, or its row.
-- Assumes nothing.
use mathlib.Core.Path.{◌≡◌, refl, sym, ap, ap₂, ◌∙◌}
use mathlib.Core.Bool.{Bool, true, false}
use mathlib.Core.List.{List, [], ◌∷◌, ◌++◌}
use Prim.Native.Nat.{ℕ, suc, ◌+◌, ◌*◌, ◌≤◌, ◌<◌}
use native.Mathlib.Omega.{arith}
use lib.ListN.{length, drop}
use Rattle.std.specs.Prelude.{Option, Some, None}
use Rattle.std.proofs.lemmas.Option.{none-some}
use Rattle.digits.specs.Paper.Decimal.{decimal, decimal_in, enough}
use Rattle.digits.specs.Paper.LowFirst.{Width, one, two, four, SixteenBits}
use Rattle.digits.specs.Paper.Refusals.{First, clear, here, after}
use Rattle.digits.proofs.Laws.Decimal.{decimal-inj}
use Rattle.sheet.specs.Paper.Sheet.{Row, type_name, comma, LF, fields, InLimits, most_rows}
use Rattle.sheet.specs.Paper.Map.{type_number, type_byte}
use Rattle.sheet.specs.Paper.Fault.{behind, count, line, first_field, second_field, third_field, Fails, tests}
use Rattle.sheet.specs.Paper.Fault as paper
use Rattle.sheet.specs.Work.Lines.{NumberBelow, TypeNumbered, FieldsSay, no_register, no-type, no-decimals, LineSays, LineFails, no-form, has-form, Passes}
use Rattle.sheet.specs.Work.Lines as work
use Rattle.sheet.proofs.Laws.Chars.{up-drop, up-all, up_split, up-some}
use Rattle.sheet.proofs.Laws.Rows.{fields-are}

-- ---- fields

pub number-some : {most n : ℕ} {s : List ℕ} {o : Option ℕ} → NumberBelow most s o → o ≡ Some n → (n < most) × (decimal n ≡ s)
number-some {most} {n} {s} (work.is {n = m} h e) f = let g : m ≡ n = cc in (omega arith, ap decimal (sym g) ∙ e)
number-some (work.none g) f = absurd (none-some _ f)

pub number-none : {most : ℕ} {s : List ℕ} {o : Option ℕ} → NumberBelow most s o → o ≡ None → (m : ℕ) → m < most → decimal m ≡ s → ⊥
number-none (work.is h e) f = absurd (none-some _ (sym f))
number-none (work.none g) f = g

pub type-small : {w : ℕ} (signed : Bool) → Width w → type_number w signed ≤ 5
unfolding type_number
type-small false one = omega arith
type-small false two = omega arith
type-small false four = omega arith
type-small true one = omega arith
type-small true two = omega arith
type-small true four = omega arith

pub record Named (name : List ℕ) (number : ℕ) : Type 0 where
  pub width : ℕ
  pub signed : Bool
  pub known : Width width
  pub spelt : type_name width signed ≡ name
  pub is : number ≡ type_number width signed
  pub few : number ≤ 5

pub type-some : {name : List ℕ} {n : ℕ} {o : Option ℕ} → TypeNumbered name o → o ≡ Some n → Named name n
type-some {n = n} (work.is {w} signed k e) f =
    let g : n ≡ type_number w signed = cc in
    record { width = w; signed = signed; known = k; spelt = e; is = g; few = omega (arith, type-small signed k) }
type-some (work.none g) f = absurd (none-some _ f)

pub type-none : {name : List ℕ} {o : Option ℕ} → TypeNumbered name o → o ≡ None → (w : ℕ) (signed : Bool) → Width w → type_name w signed ≡ name → ⊥
type-none (work.is {w} signed k e) f = absurd (none-some _ (sym f))
type-none (work.none g) f = g

-- three fields that are right
pub fields-right : {a b c : List ℕ} {n t d byte : ℕ} → n < 65536 → decimal n ≡ a → Named b t → d < 4 → decimal d ≡ c
    → byte ≡ 1 + 4 * t + d → FieldsSay a b c n byte
unfolding type_byte
fields-right {n = n} {t = t} {d = d} h a k l c e =
    record {
      row = record { register = n; is = record { width = k.width; signed = k.signed; decimals = d } };
      limits = record { register = h; width = k.known; decimals = omega arith };
      first = a;
      second = k.spelt;
      third = c;
      register-is = refl;
      byte-is = e ∙ ap (λ (x : ℕ). 1 + 4 * x + d) k.is;
    }

-- ---- a line

module _ (l : List ℕ) (two-commas : count comma l ≡ 2) where
  before : (l ≡ first_field l ++ comma ∷ behind comma l) × (count comma l ≡ suc (count comma (behind comma l)))
  before = up_split comma l (up-some comma l (omega arith))

  between : (behind comma l ≡ second_field l ++ comma ∷ third_field l) × (count comma (behind comma l) ≡ suc (count comma (third_field l)))
  between = up_split comma (behind comma l) (up-some comma (behind comma l) (omega (arith, before.1)))

  pub of_fields : l ≡ first_field l ++ comma ∷ (second_field l ++ comma ∷ third_field l)
  of_fields = before.0 ∙ ap (λ (x : List ℕ). first_field l ++ comma ∷ x) between.0

pub record RowIs (l : List ℕ) (register byte : ℕ) : Type 0 where
  pub row : Row
  pub limits : InLimits row
  pub written : fields row ≡ l
  pub form : count comma l ≡ 2
  pub first : decimal row.register ≡ first_field l
  pub second : type_name row.is.width row.is.signed ≡ second_field l
  pub third : decimal row.is.decimals ≡ third_field l
  pub register-is : register ≡ row.register
  pub byte-is : byte ≡ type_byte row.is

pub row_of : {l : List ℕ} {register byte size : ℕ} → LineSays l register byte size → RowIs l register byte
row_of {l} x =
    let f = x.fields in
    record {
      row = f.row;
      limits = f.limits;
      written = fields-are f.row ∙ ap₂ (λ (x y : List ℕ). x ++ comma ∷ y) f.first (ap₂ (λ (x y : List ℕ). x ++ comma ∷ y) f.second f.third) ∙ sym (of_fields l x.form);
      form = x.form;
      first = f.first;
      second = f.second;
      third = f.third;
      register-is = f.register-is;
      byte-is = f.byte-is;
    }

-- ---- the tests, in their order

module _ {least number : ℕ} {s : List ℕ} where
  no-1 : count comma (line s) ≡ 2 → Fails least number s 1 → ⊥
  no-1 e (paper.form f) = f e

  no-2 : {n : ℕ} → SixteenBits n → decimal n ≡ first_field (line s) → Fails least number s 2 → ⊥
  no-2 {n} h e (paper.register f) = f n h e

  no-3 : {w : ℕ} (signed : Bool) → Width w → type_name w signed ≡ second_field (line s) → Fails least number s 3 → ⊥
  no-3 {w} signed k e (paper.type f) = f w signed k e

  no-4 : {d : ℕ} → d ≤ 3 → decimal d ≡ third_field (line s) → Fails least number s 4 → ⊥
  no-4 {d} h e (paper.decimals f) = f d h e

  no-5 : {n : ℕ} → decimal n ≡ first_field (line s) → least ≤ n → Fails least number s 5 → ⊥
  no-5 {n} e h (paper.not-rising {n = m} f k) = omega (arith, decimal-inj m n (f ∙ sym e))

  no-6 : number ≤ most_rows → Fails least number s 6 → ⊥
  no-6 h (paper.over-500 k) = omega arith

  no-7 : 0 < count LF s → Fails least number s 7 → ⊥
  no-7 h (paper.no-last-LF f) = f h

  pub failing : {t : ℕ} → LineFails (line s) t → First (Fails least number s) tests t
  failing (no-form f) = here (paper.form f)
  failing (has-form e (no_register f)) = after (no-1 e) (here (paper.register f))
  failing (has-form e (no-type h a f)) = after (no-1 e) (after (no-2 h a) (here (paper.type f)))
  failing (has-form e (no-decimals h a signed w b f)) =
      after (no-1 e) (after (no-2 h a) (after (no-3 signed w b) (here (paper.decimals (λ d k. f d (omega arith))))))

  module _ {register byte : ℕ} (r : RowIs (line s) register byte) where
    four-passed : {t : ℕ} → First (Fails least number s) (5 ∷ 6 ∷ 7 ∷ []) t → First (Fails least number s) tests t
    four-passed f =
        after (no-1 r.form) (after (no-2 r.limits.register r.first) (after (no-3 r.row.is.signed r.limits.width r.second) (after (no-4 r.limits.decimals r.third) f)))

    rises : least ≤ register → Fails least number s 5 → ⊥
    rises h = no-5 r.first (omega (arith, r.register-is))

    pub at_5 : register < least → First (Fails least number s) tests 5
    at_5 h = four-passed (here (paper.not-rising r.first (omega (arith, r.register-is))))

    pub at-6 : least ≤ register → most_rows < number → First (Fails least number s) tests 6
    at-6 h k = four-passed (after (rises h) (here (paper.over-500 k)))

    pub at_7 : least ≤ register → number ≤ most_rows → length s ≤ length (line s) → First (Fails least number s) tests 7
    at_7 h k e = four-passed (after (rises h) (after (no-6 k) (here (paper.no-last-LF (λ p. omega (arith, up-all LF s e))))))

    -- it passes all
    pub all-passed : least ≤ register → number ≤ most_rows → length (line s) < length s
        → First (Fails least number s) tests 0 × Passes least number s register byte (length (line s) + 1)
    all-passed h k l =
        let e : length (line s) + 1 ≡ suc (length (line s)) = omega arith in
        let x = up_split LF s l in (
          four-passed (after (rises h) (after (no-6 k) (after (no-7 (omega (arith, x.1))) clear))),
          record {
            row = r.row;
            limits = r.limits;
            rising = omega (arith, r.register-is);
            few = k;
            written = x.0 ∙ ap₂ (λ (a b : List ℕ). a ++ LF ∷ b) (sym r.written) (sym (up-drop LF s) ∙ ap (λ (n : ℕ). drop n s) (sym e));
            size_is = e ∙ ap (λ (a : List ℕ). suc (length a)) (sym r.written);
            register-is = r.register-is;
            byte-is = r.byte-is;
          },
        )

-- ---- the six names

module _ {name : List ℕ} where
  pub is-u8 : name ≡ 117 ∷ 56 ∷ [] → TypeNumbered name (Some 0)
  unfolding type_name type_number decimal decimal_in enough
  is-u8 e = work.is false one (sym e)

  pub is-s8 : name ≡ 115 ∷ 56 ∷ [] → TypeNumbered name (Some 1)
  unfolding type_name type_number decimal decimal_in enough
  is-s8 e = work.is true one (sym e)

  pub is-u16 : name ≡ 117 ∷ 49 ∷ 54 ∷ [] → TypeNumbered name (Some 2)
  unfolding type_name type_number decimal decimal_in enough
  is-u16 e = work.is false two (sym e)

  pub is-s16 : name ≡ 115 ∷ 49 ∷ 54 ∷ [] → TypeNumbered name (Some 3)
  unfolding type_name type_number decimal decimal_in enough
  is-s16 e = work.is true two (sym e)

  pub is-u32 : name ≡ 117 ∷ 51 ∷ 50 ∷ [] → TypeNumbered name (Some 4)
  unfolding type_name type_number decimal decimal_in enough
  is-u32 e = work.is false four (sym e)

  pub is-s32 : name ≡ 115 ∷ 51 ∷ 50 ∷ [] → TypeNumbered name (Some 5)
  unfolding type_name type_number decimal decimal_in enough
  is-s32 e = work.is true four (sym e)

  module _ (u8 : name ≡ 117 ∷ 56 ∷ [] → ⊥) (s8 : name ≡ 115 ∷ 56 ∷ [] → ⊥) (u16 : name ≡ 117 ∷ 49 ∷ 54 ∷ [] → ⊥)
      (s16 : name ≡ 115 ∷ 49 ∷ 54 ∷ [] → ⊥) (u32 : name ≡ 117 ∷ 51 ∷ 50 ∷ [] → ⊥) (s32 : name ≡ 115 ∷ 51 ∷ 50 ∷ [] → ⊥) where
    other : (w : ℕ) (signed : Bool) → Width w → type_name w signed ≡ name → ⊥
    unfolding type_name decimal decimal_in enough
    other w false one e = u8 (sym e)
    other w true one e = s8 (sym e)
    other w false two e = u16 (sym e)
    other w true two e = s16 (sym e)
    other w false four e = u32 (sym e)
    other w true four e = s32 (sym e)

    pub is_none : TypeNumbered name None
    is_none = work.none other
