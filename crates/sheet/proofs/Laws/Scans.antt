-- The lines of a text, one after the other: its rows, and its first fault.
-- Assumes nothing.
use mathlib.Core.Path.{◌≡◌, refl, sym, ap, ap₂, ◌∙◌, subst}
use mathlib.Core.List.{List, [], ◌∷◌, ◌++◌}
use Prim.Native.Nat.{ℕ, suc, ◌+◌, ◌≤◌, ◌<◌}
use native.Mathlib.Omega.{arith}
use lib.ListN.{length, drop, length-append}
use Rattle.digits.specs.Paper.Decimal.{decimal}
use Rattle.digits.specs.Paper.Refusals.{First}
use Rattle.digits.proofs.Laws.Decimal.{decimal-inj}
use Rattle.digits.proofs.Laws.Refusals.{cause-at}
use Rattle.sheet.specs.Paper.Sheet.{Row, comma, LF, fields, sheet, InLimits, Rising, done, next, most_rows, Sheet}
use Rattle.sheet.specs.Paper.Fault.{behind, count, line, first_field, Fails, tests, FirstFault, no_line, here as fault-here, later}
use Rattle.sheet.specs.Paper.Fault as paper
use Rattle.sheet.specs.Paper.Answers.{test_number}
use Rattle.sheet.specs.declared.faults.Test.{Test}
use Rattle.sheet.specs.declared.faults.Test.TheVariants.{Form, Register, TypeName, Decimals, NotRising, Over500, NoLastLF}
use Rattle.sheet.specs.Work.Lines.{Passes, RowsFrom, Scanning, HasLines, HasFault}
use Rattle.sheet.proofs.Laws.Chars.{count-append, count-one}
use Rattle.sheet.proofs.Laws.Carried as carried
use Rattle.sheet.proofs.Laws.Rows.{fields-inj, line_of, first_of, second-of, third_of, two-commas}

-- ---- rows

pub rows-nil : {least number : ℕ} → number ≤ suc most_rows → RowsFrom least number [] []
unfolding sheet
rows-nil h = record { written = refl; rising = done; few = omega arith }

pub sheet-cons : (r : Row) (rows : List Row) → sheet (r ∷ rows) ≡ fields r ++ LF ∷ sheet rows
unfolding sheet
sheet-cons r rows = refl

-- a text that has a row begins with its line
pub record Begins (least number : ℕ) (s : List ℕ) (r : Row) (rows : List Row) : Type 0 where
  pub limits : InLimits r
  pub rising : least ≤ r.register
  pub few : number ≤ most_rows
  pub line-is : line s ≡ fields r
  pub written : s ≡ fields r ++ LF ∷ behind LF s
  pub others : RowsFrom (suc r.register) (suc number) (behind LF s) rows

pub begins : {least number : ℕ} {s : List ℕ} {r : Row} {rows : List Row} → RowsFrom least number s (r ∷ rows) → Begins least number s r rows
begins {least} {number} {s} {r} {rows} w = go w.rising
  where
    e : s ≡ fields r ++ LF ∷ sheet rows
    e = sym w.written ∙ sheet-cons r rows

    k : (line s ≡ fields r) × (behind LF s ≡ sheet rows)
    k = line_of r s (sheet rows) e

    go : Rising least (r ∷ rows) → Begins least number s r rows
    go (next l h t) =
        record {
          limits = l;
          rising = h;
          few = omega (arith, w.few);
          line-is = k.0;
          written = e ∙ ap (λ (x : List ℕ). fields r ++ LF ∷ x) (sym k.1);
          others = record { written = sym k.1; rising = t; few = omega (arith, w.few) };
        }

-- its line passes every test
pub passes-each : {least number : ℕ} {s : List ℕ} {r : Row} {rows : List Row} → Begins least number s r rows → (k : ℕ) → Fails least number s k → ⊥
passes-each {r = r} b k (paper.form f) = f (ap (count comma) b.line-is ∙ two-commas r)
passes-each {r = r} b k (paper.register f) = f r.register b.limits.register (sym (ap first_field b.line-is ∙ (first_of r).0))
passes-each {r = r} b k (paper.type f) = f r.is.width r.is.signed b.limits.width (sym (ap paper.second_field b.line-is ∙ second-of r))
passes-each {r = r} b k (paper.decimals f) = f r.is.decimals b.limits.decimals (sym (ap paper.third_field b.line-is ∙ third_of r))
passes-each {r = r} b k (paper.not-rising {n = n} e h) =
    omega (arith, b.rising, decimal-inj n r.register (e ∙ ap first_field b.line-is ∙ (first_of r).0))
passes-each b k (paper.over-500 h) = omega (arith, b.few)
passes-each {s = s} {r = r} b k (paper.no-last-LF f) =
    f (omega (arith, ap (count LF) b.written, count-append LF (fields r) (LF ∷ behind LF s), count-one LF (behind LF s)))

-- a text whose first line fails a test has no rows
pub no_rows : {least number t : ℕ} {s : List ℕ} → 0 < length s → First (Fails least number s) tests t → 0 < t
    → (rows : List Row) → RowsFrom least number s rows → ⊥
unfolding sheet
no_rows {s = s} p f h [] w = omega (arith, ap length w.written)
no_rows {t = t} p f h (r ∷ rows) w = passes-each (begins w) t (cause-at f h)

-- ---- a line that passes all tests

module _ {least number : ℕ} {s : List ℕ} {register byte size : ℕ} (p : Passes least number s register byte size) where
  rest-is : (line s ≡ fields p.row) × (behind LF s ≡ drop size s)
  rest-is = line_of p.row s (drop size s) p.written

  pub put_on : (rows : List Row) → RowsFrom (register + 1) (number + 1) (drop size s) rows → RowsFrom least number s (p.row ∷ rows)
  put_on rows w =
      let e : register + 1 ≡ suc p.row.register = omega (arith, p.register-is) in
      record {
        written = sheet-cons p.row rows ∙ ap (λ (x : List ℕ). fields p.row ++ LF ∷ x) w.written ∙ sym p.written;
        rising = next p.limits p.rising (subst (λ (n : ℕ). Rising n rows) e w.rising);
        few = omega (arith, w.few);
      }

  pub take-off : 0 < length s → (rows : List Row) → RowsFrom least number s rows
      → (others : List Row) × RowsFrom (register + 1) (number + 1) (drop size s) others × (rows ≡ p.row ∷ others)
  unfolding sheet
  take-off h [] w = absurd (omega (arith, ap length w.written))
  take-off h (r ∷ rows) w =
      let b = begins w in
      let e : r ≡ p.row = fields-inj r p.row (sym b.line-is ∙ rest-is.0) in
      let f : suc r.register ≡ register + 1 = omega (arith, p.register-is, ap (λ (x : Row). x.register) e) in (
        rows,
        record {
          written = b.others.written ∙ rest-is.1;
          rising = subst (λ (n : ℕ). Rising n rows) f b.others.rising;
          few = omega (arith, b.others.few);
        },
        ap (λ (x : Row). x ∷ rows) e,
      )

  pub first_field_lem : decimal register ≡ first_field (line s)
  first_field_lem = ap decimal p.register-is ∙ sym (ap first_field rest-is.0 ∙ (first_of p.row).0)

  pub behind-is : behind LF s ≡ drop size s
  behind-is = rest-is.1

  pub size-most : size ≤ length s
  size-most =
      omega (arith, p.size_is, ap length p.written, length-append (fields p.row) (LF ∷ drop size s))

-- ---- the loop

pub scan-start : (text : List ℕ) → Scanning text text 0 1
scan-start text =
    record {
      some = omega arith;
      few = omega arith;
      low = omega arith;
      fault = λ l t f. f;
      rows = carried.start;
    }

module _ {text left : List ℕ} {least number : ℕ} (g : Scanning text left least number) (h : 0 < length left) where
  pub scan-fails : {test : ℕ} → First (Fails least number left) tests test → 0 < test → HasFault text number test
  scan-fails {test} f p =
      record {
        fault = g.fault number test (fault-here h p f);
        no-sheet = λ rows w. let r = g.rows.back rows w in no_rows h f p r.0 r.1;
      }

  pub scan-next : {register byte size : ℕ} → First (Fails least number left) tests 0 → Passes least number left register byte size
      → Scanning text (drop size left) (register + 1) (number + 1)
  scan-next {register} {byte} {size} c p =
      let f : register + 1 ≡ suc register = omega arith in
      let k : number + 1 ≡ suc number = omega arith in
      record {
        some = omega arith;
        few = omega (arith, p.few);
        low = omega (arith, p.register-is, p.limits.register);
        fault = λ line t x.
            g.fault line t
            (later {n = register} h c (first_field_lem p)
            (subst (λ (y : List ℕ). FirstFault (suc register) (suc number) y line t) (sym (behind-is p))
            (subst (λ (y : ℕ). FirstFault y (suc number) (drop size left) line t) f
            (subst (λ (y : ℕ). FirstFault (register + 1) y (drop size left) line t) k x))));
        rows = carried.step p.row (put_on p) (λ xs w. let o = take-off p h xs w in (o.0, o.1)) g.rows;
      }

pub scan-end : {text : List ℕ} (left : List ℕ) {least number n : ℕ} → Scanning text left least number → length left ≡ 0 → 1 + n ≡ number → HasLines text n
scan-end [] g h m =
    let w = g.rows.forth [] (rows-nil g.few) in
    record { fault = g.fault 0 0 no_line; rows = w.0; are = w.1; count = omega (arith, w.2) }
scan-end (x ∷ left) g h m = absurd (omega arith)

-- a line that passes has some bytes, and its size is within the text
pub line-inside : {least number : ℕ} {s : List ℕ} {register byte size : ℕ} → Passes least number s register byte size → (size ≤ length s) × (0 < size)
line-inside p = (size-most p, omega (arith, p.size_is))

pub some-test : (t : Test) → 0 < test_number t
some-test Form = omega arith
some-test Register = omega arith
some-test TypeName = omega arith
some-test Decimals = omega arith
some-test NotRising = omega arith
some-test Over500 = omega arith
some-test NoLastLF = omega arith

-- ---- the whole text

pub is-sheet : {text : List ℕ} {rows : List Row} → RowsFrom 0 1 text rows → Sheet text rows
is-sheet w = record { written = w.written; rising = w.rising; few = omega (arith, w.few) }

pub of-sheet : {text : List ℕ} {rows : List Row} → Sheet text rows → RowsFrom 0 1 text rows
of-sheet w = record { written = w.written; rising = w.rising; few = omega (arith, w.few) }

-- ---- NO TWO LISTS OF ROWS WRITE THE SAME TEXT

pub sheet-some : (r : Row) (rows : List Row) → sheet (r ∷ rows) ≡ [] → ⊥
sheet-some r rows e =
    omega (arith, length-append (fields r) (LF ∷ sheet rows), ap length (sym (sheet-cons r rows) ∙ e))

pub sheet-inj : (p q : List Row) → sheet p ≡ sheet q → p ≡ q
unfolding sheet
sheet-inj [] [] e = refl
sheet-inj [] (r ∷ q) e = absurd (sheet-some r q (sym e))
sheet-inj (r ∷ p) [] e = absurd (sheet-some r p e)
sheet-inj (r ∷ p) (t ∷ q) e =
    let a = line_of r (sheet (r ∷ p)) (sheet p) (sheet-cons r p) in
    let b = line_of t (sheet (t ∷ q)) (sheet q) (sheet-cons t q) in
    ap₂ (λ (x : Row) (y : List Row). x ∷ y) (fields-inj r t (sym a.0 ∙ ap line e ∙ b.0))
    (sheet-inj p q (sym a.1 ∙ ap (behind LF) e ∙ b.1))

pub one-sheet : {text : List ℕ} {p q : List Row} → Sheet text p → Sheet text q → p ≡ q
one-sheet {p = p} {q = q} v w = sheet-inj p q (v.written ∙ sym w.written)
