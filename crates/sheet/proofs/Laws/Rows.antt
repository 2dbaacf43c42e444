-- A row's line: it has no LF, two commas and three fields; and no two rows within limits have the same.
-- Assumes nothing.
use mathlib.Core.Path.{◌≡◌, refl, sym, ap, ap₂, ◌∙◌}
use mathlib.Core.Bool.{Bool, true, false}
use mathlib.Core.List.{List, [], ◌∷◌, ◌++◌}
use Prim.Native.Nat.{ℕ, ◌*◌, ◌^◌, ◌≤◌, ◌<◌}
use native.Mathlib.Omega.{arith}
use lib.Dec.{lit<}
use lib.ListN.{length, length-append}
use Rattle.digits.specs.Paper.Decimal.{decimal}
use Rattle.digits.specs.Paper.LowFirst.{Width, one, two, four}
use Rattle.digits.proofs.Laws.Decimal.{decimal-inj, length-decimal}
use Rattle.sheet.specs.Paper.Sheet.{RegisterType, Row, letter, type_name, comma, LF, fields, InLimits}
use Rattle.sheet.specs.Paper.Fault.{up_to, behind, count, line, first_field, second_field, third_field}
use Rattle.sheet.proofs.Laws.Chars.{up-later, count-append, count-one, at_first, count-decimal}

-- ---- names

pub name-count : (c w : ℕ) (signed : Bool) → c < 48 → count c (type_name w signed) ≡ 0
unfolding type_name
name-count c w false h = (up-later c 117 (decimal (8 * w)) (λ e. omega arith)).2 ∙ count-decimal c (8 * w) h
name-count c w true h = (up-later c 115 (decimal (8 * w)) (λ e. omega arith)).2 ∙ count-decimal c (8 * w) h

head : List ℕ → ℕ
head [] = 0
head (x ∷ s) = x

tail : List ℕ → List ℕ
tail [] = []
tail (x ∷ s) = s

pub name-inj : (v w : ℕ) (s t : Bool) → type_name v s ≡ type_name w t → (v ≡ w) × (s ≡ t)
unfolding type_name head tail
name-inj v w s t e = (omega (arith, decimal-inj (8 * v) (8 * w) (ap tail e)), same s t (ap head e))
  where
    same : (s t : Bool) → letter s ≡ letter t → s ≡ t
    same false false e = refl
    same false true e = absurd (omega arith)
    same true false e = absurd (omega arith)
    same true true e = refl

pub name-length : {w : ℕ} (signed : Bool) → Width w → length (type_name w signed) ≤ 3
unfolding type_name
name-length {w} s k = omega (arith, length-decimal 1 (8 * w) (small k))
  where
    small : {w : ℕ} → Width w → 8 * w < 10 ^ 2
    small one = lit< tt
    small two = lit< tt
    small four = lit< tt

-- ---- lines

module _ (r : Row) where
  pub fields-are : fields r ≡ decimal r.register ++ comma ∷ (type_name r.is.width r.is.signed ++ comma ∷ decimal r.is.decimals)
  unfolding fields
  fields-are = refl

  pub no-LF : count LF (fields r) ≡ 0
  unfolding fields
  no-LF =
      let a = count-append LF (decimal r.register) (comma ∷ (type_name r.is.width r.is.signed ++ comma ∷ decimal r.is.decimals)) in
      let b = (up-later LF comma (type_name r.is.width r.is.signed ++ comma ∷ decimal r.is.decimals) (λ e. omega arith)).2 in
      let d = count-append LF (type_name r.is.width r.is.signed) (comma ∷ decimal r.is.decimals) in
      let f = (up-later LF comma (decimal r.is.decimals) (λ e. omega arith)).2 in
      omega (arith, a, b, d, f, count-decimal LF r.register (lit< tt), name-count LF r.is.width r.is.signed (lit< tt), count-decimal LF r.is.decimals (lit< tt))

  pub first_of : (first_field (fields r) ≡ decimal r.register)
      × (behind comma (fields r) ≡ type_name r.is.width r.is.signed ++ comma ∷ decimal r.is.decimals)
  unfolding fields
  first_of = at_first comma (decimal r.register) (type_name r.is.width r.is.signed ++ comma ∷ decimal r.is.decimals) (count-decimal comma r.register (lit< tt))

  others : (up_to comma (type_name r.is.width r.is.signed ++ comma ∷ decimal r.is.decimals) ≡ type_name r.is.width r.is.signed)
      × (behind comma (type_name r.is.width r.is.signed ++ comma ∷ decimal r.is.decimals) ≡ decimal r.is.decimals)
  others = at_first comma (type_name r.is.width r.is.signed) (decimal r.is.decimals) (name-count comma r.is.width r.is.signed (lit< tt))

  pub second-of : second_field (fields r) ≡ type_name r.is.width r.is.signed
  second-of = ap (up_to comma) first_of.1 ∙ others.0

  pub third_of : third_field (fields r) ≡ decimal r.is.decimals
  third_of = ap (behind comma) first_of.1 ∙ others.1

  pub two-commas : count comma (fields r) ≡ 2
  unfolding fields
  two-commas =
      let a = count-append comma (decimal r.register) (comma ∷ (type_name r.is.width r.is.signed ++ comma ∷ decimal r.is.decimals)) in
      let b = count-one comma (type_name r.is.width r.is.signed ++ comma ∷ decimal r.is.decimals) in
      let d = count-append comma (type_name r.is.width r.is.signed) (comma ∷ decimal r.is.decimals) in
      let f = count-one comma (decimal r.is.decimals) in
      omega (arith, a, b, d, f, count-decimal comma r.register (lit< tt), name-count comma r.is.width r.is.signed (lit< tt), count-decimal comma r.is.decimals (lit< tt))

  -- the line of a text that begins with the row
  pub line_of : (s t : List ℕ) → s ≡ fields r ++ LF ∷ t → (line s ≡ fields r) × (behind LF s ≡ t)
  line_of s t e = let k = at_first LF (fields r) t no-LF in (ap line e ∙ k.0, ap (behind LF) e ∙ k.1)

  -- "5 digits, 3 characters, 1 digit", two commas and LF
  pub fields-length : InLimits r → length (fields r) ≤ 11
  unfolding fields
  fields-length h =
      let a = length-append (decimal r.register) (comma ∷ (type_name r.is.width r.is.signed ++ comma ∷ decimal r.is.decimals)) in
      let b = length-append (type_name r.is.width r.is.signed) (comma ∷ decimal r.is.decimals) in
      omega (arith, a, b, length-decimal 4 r.register (omega (arith, h.register)), name-length r.is.signed h.width, length-decimal 0 r.is.decimals (omega (arith, h.decimals)))

-- NO TWO ROWS HAVE THE SAME LINE
pub fields-inj : (q r : Row) → fields q ≡ fields r → q ≡ r
fields-inj q r e =
    let a : q.register ≡ r.register = decimal-inj q.register r.register (sym (first_of q).0 ∙ ap first_field e ∙ (first_of r).0) in
    let b = name-inj q.is.width r.is.width q.is.signed r.is.signed (sym (second-of q) ∙ ap second_field e ∙ second-of r) in
    let d : q.is.decimals ≡ r.is.decimals = decimal-inj q.is.decimals r.is.decimals (sym (third_of q) ∙ ap third_field e ∙ third_of r) in
    made a (typed b.0 b.1 d)
  where
    typed : {u v : RegisterType} → u.width ≡ v.width → u.signed ≡ v.signed → u.decimals ≡ v.decimals → u ≡ v
    typed {u} {v} a b d =
        ap (λ (x : ℕ). record { width = x; signed = u.signed; decimals = u.decimals }) a
        ∙ ap₂ (λ (x : Bool) (y : ℕ). record { width = v.width; signed = x; decimals = y }) b d

    made : {u v : Row} → u.register ≡ v.register → u.is ≡ v.is → u ≡ v
    made a b = ap₂ (λ (x : ℕ) (y : RegisterType). record { register = x; is = y }) a b
