-- What the code of `is_payload` finds: five fields with their `;` and then one character, which is a TYPE, are a payload, and nothing else is.
-- Assumes nothing.
use mathlib.Core.Bool.{Bool, true, false}
use mathlib.Core.List.{List, [], ◌∷◌, ◌++◌, append_assoc}
use mathlib.Core.Path.{◌≡◌, refl, sym, ◌∙◌, ap, subst}
use Prim.Native.Nat.{ℕ, ◌+◌, ◌<◌}
use native.Mathlib.Omega.{arith}
use lib.Dec.{T}
use lib.ListN.{length, get_or, length-append}
use lib.Seq.{get_or_at}
use Rattle.std.specs.Prelude.{Some}
use Rattle.digits.specs.Paper.Ascii.{ascii}
use Rattle.digits.specs.Paper.Bytes.{part}
use Rattle.digits.specs.Paper.Decimal.{decimal}
use Rattle.digits.specs.Paper.Read.{Decides, holds, fails}
use Rattle.layouts.specs.Paper.Chars.{one_of}
use Rattle.layouts.specs.Paper.Homiq.{last_id, Limits, payload}
use Rattle.layouts.specs.Paper.Made.{Wire, closed, homiq_of, Payload}
use Rattle.layouts.specs.Work.Homiq.{field_len, number_len, five_within, five_len}
use Rattle.layouts.specs.Work.Heads.{Ends, and_then}
use Rattle.layouts.proofs.Laws.Heads.{Right, Head, Then, join, glue, then-right, then-some, then-none, then-stops}
use Rattle.layouts.proofs.Laws.HomiqFields.{Fielded, NumberField, field-right, number-right}
use Rattle.layouts.proofs.Laws.Made.{homiq-fit}

-- ---- CMD to ID, each with its `;`

abbrev five_of : Wire → List ℕ
five_of w = (w.cmd ++ ascii ";") ++ (w.val ++ ascii ";") ++ (w.src ++ ascii ";") ++ (w.dst ++ ascii ";") ++ (decimal w.id ++ ascii ";")

abbrev Five : List ℕ → Type 0
Five = Then (Then (Then (Then (Fielded 8) (λ _. Fielded 16)) (λ _. Fielded 4)) (λ _. Fielded 4)) (λ _. NumberField last_id)

five-right : Right Five five_len
unfolding five_within
five-right =
    then-right (then-right (then-right (then-right (field-right 8) (λ w a. field-right 16)) (λ w a. field-right 4)) (λ w a. field-right 4))
    (λ w a. number-right last_id (omega arith))

-- the first two of them, the first three, and the first four; none of the five are found where these are not
abbrev pub two_len : List ℕ → ℕ
two_len = and_then (field_len 8) (λ _. field_len 16)

abbrev pub three_len : List ℕ → ℕ
three_len = and_then two_len (λ _. field_len 4)

abbrev pub four_len : List ℕ → ℕ
four_len = and_then three_len (λ _. field_len 4)

-- .. at any highest ID
module _ (last : ℕ) (p : List ℕ) where
  pub without-five : four_len p ≡ 0 → five_within last p ≡ 0
  unfolding five_within
  without-five z = then-stops four_len (number_len last) z

  pub without-four : three_len p ≡ 0 → five_within last p ≡ 0
  without-four z = without-five (then-stops three_len (field_len 4) z)

  pub without-three : two_len p ≡ 0 → five_within last p ≡ 0
  without-three z = without-four (then-stops two_len (field_len 4) z)

  pub without-two : field_len 8 p ≡ 0 → five_within last p ≡ 0
  without-two z = without-three (then-stops (field_len 8) (field_len 16) z)

  -- where the code found them
  module _ {a : ℕ} (one : Ends (field_len 8) p (Some a)) where
    pub no-val : field_len 16 (part a (length p) p) ≡ 0 → five_within last p ≡ 0
    no-val z = without-three (then-none (field_len 8) (field_len 16) one z)

    module _ {b : ℕ} (two : Ends (field_len 16) (part a (length p) p) (Some b)) where
      at-two : Ends two_len p (Some (a + b))
      at-two = then-some (field_len 8) (field_len 16) one two

      pub no-src : field_len 4 (part (a + b) (length p) p) ≡ 0 → five_within last p ≡ 0
      no-src z = without-four (then-none two_len (field_len 4) at-two z)

      module _ {c : ℕ} (three : Ends (field_len 4) (part (a + b) (length p) p) (Some c)) where
        at-three : Ends three_len p (Some (a + b + c))
        at-three = then-some two_len (field_len 4) at-two three

        pub no-dst : field_len 4 (part (a + b + c) (length p) p) ≡ 0 → five_within last p ≡ 0
        no-dst z = without-five (then-none three_len (field_len 4) at-three z)

        module _ {d : ℕ} (four : Ends (field_len 4) (part (a + b + c) (length p) p) (Some d)) where
          at-four : Ends four_len p (Some (a + b + c + d))
          at-four = then-some three_len (field_len 4) at-three four

          pub no-id : number_len last (part (a + b + c + d) (length p) p) ≡ 0 → five_within last p ≡ 0
          unfolding five_within
          no-id z = then-none four_len (number_len last) at-four z

          pub five-there : {e : ℕ} → Ends (number_len last) (part (a + b + c + d) (length p) p) (Some e) → Ends (five_within last) p (Some (a + b + c + d + e))
          unfolding five_within
          five-there five = then-some four_len (number_len last) at-four five

-- ---- a payload: those, and TYPE

payload-five : (w : Wire) → payload (homiq_of w) ≡ five_of w ++ (w.type ∷ [])
payload-five w = closing (ascii ";") w.cmd w.val w.src w.dst (decimal w.id) (w.type ∷ [])
  where
    closing : (z a b c d e t : List ℕ)
        → a ++ z ++ b ++ z ++ c ++ z ++ d ++ z ++ e ++ z ++ t ≡ (a ++ z) ++ (b ++ z) ++ (c ++ z) ++ (d ++ z) ++ (e ++ z) ++ t
    closing z a b c d e t = simp append_assoc

five-payload : (u : List ℕ) (t : ℕ) → Five u → T (one_of (ascii "sa") t) → (w : Wire) × Payload (u ++ (t ∷ [])) w
five-payload u t r₅ type =
    let r₄ = r₅.first in
    let r₃ = r₄.first in
    let r₂ = r₃.first in
    let w : Wire =
    record { cmd = r₂.first.word; val = r₂.second.word; src = r₃.second.word; dst = r₄.second.word; id = r₅.second.value; type = t }
    in
    let l : Limits (closed w 0) =
    record {
      cmd = r₂.first.field;
      val = r₂.second.field;
      src = r₃.second.field;
      dst = r₄.second.field;
      id = r₅.second.most;
      type = type;
      crc = omega arith;
    }
    in
    let e : u ≡ five_of w =
    glue r₅.joins (glue r₄.joins (glue r₃.joins (glue r₂.joins r₂.first.ends r₂.second.ends) r₃.second.ends) r₄.second.ends)
    r₅.second.ends
    in
    (w, record { limits = homiq-fit w 0 l; laid = ap (λ (v : List ℕ). v ++ (t ∷ [])) e ∙ sym (payload-five w) })

payload-fields : (w : Wire) → Limits (homiq_of w) → Five (five_of w)
payload-fields w l =
    let f₁ : List ℕ = w.cmd ++ ascii ";" in
    let f₂ : List ℕ = f₁ ++ (w.val ++ ascii ";") in
    let f₃ : List ℕ = f₂ ++ (w.src ++ ascii ";") in
    let f₄ : List ℕ = f₃ ++ (w.dst ++ ascii ";") in
    join f₄ (decimal w.id ++ ascii ";")
    (join f₃ (w.dst ++ ascii ";")
    (join f₂ (w.src ++ ascii ";")
    (join f₁ (w.val ++ ascii ";")
    (record { word = w.cmd; field = l.cmd; ends = refl })
    (record { word = w.val; field = l.val; ends = refl }))
    (record { word = w.src; field = l.src; ends = refl }))
    (record { word = w.dst; field = l.dst; ends = refl }))
    (record { value = w.id; most = l.id; ends = refl })

-- ---- the test

abbrev IsPayload : List ℕ → Type 0
IsPayload p = (w : Wire) × Payload p w

-- the end of the five fields is the place of the last character, and that is a TYPE
record Ended (p : List ℕ) (last : ℕ) : Type 0 where
  some : 0 < last
  all : length p ≡ last + 1
  type : T (one_of (ascii "sa") (get_or p last 0))

module _ (p : List ℕ) (last : ℕ) (is : last ≡ five_len p) where
  payload-ends : IsPayload p → Ended p last
  payload-ends (w, q) =
      let five = payload-fields w q.limits in
      let laid : p ≡ five_of w ++ (w.type ∷ []) = q.laid ∙ payload-five w in
      let e : last ≡ length (five_of w) = is ∙ ap five_len laid ∙ five-right.complete five (w.type ∷ []) in
      let t : get_or p last 0 ≡ w.type = ap (λ (u : List ℕ). get_or u last 0) laid ∙ get_or_at (five_of w) w.type [] 0 last (sym e) in
      record {
        some = omega (arith, five-right.some five);
        all = omega (arith, ap length laid, length-append (five_of w) (w.type ∷ []));
        type = rw t q.limits.type;
      }

  one_more : 0 < last → length p ≡ last + 1 → T (one_of (ascii "sa") (get_or p last 0)) → IsPayload p
  one_more some all type = go h.rest h.splits (omega (arith, ap length h.splits, length-append h.word h.rest, h.size))
    where
      h : Head Five p (five_len p)
      h = five-right.sound p (omega arith)

      go : (r : List ℕ) → p ≡ h.word ++ r → length r ≡ 1 → IsPayload p
      go [] e l = absurd (omega arith)
      go (t ∷ []) e l =
          let k : get_or p last 0 ≡ t = ap (λ (u : List ℕ). get_or u last 0) e ∙ get_or_at h.word t [] 0 last (sym (is ∙ h.size)) in
          subst IsPayload (sym e) (five-payload h.word t h.is (subst (λ (c : ℕ). T (one_of (ascii "sa") c)) k type))
      go (t ∷ s ∷ r) e l = absurd (omega arith)

  pub longer : (length p ≡ last + 1 → ⊥) → Decides (IsPayload p) false
  longer f = fails (λ q. f (payload-ends q).all)

  -- r is the answer to the test of the last character
  pub by-type : 0 < last → length p ≡ last + 1 → (r : Bool) → r ≡ one_of (ascii "sa") (get_or p last 0) → Decides (IsPayload p) r
  by-type some all true e = holds (one_more some all (rw (sym e) tt))
  by-type some all false e = fails (λ q. rw (sym e) at (payload-ends q).type)

pub without-fields : (p : List ℕ) → five_len p ≡ 0 → Decides (IsPayload p) false
without-fields p e = fails (λ q. omega (arith, (payload-ends p _ refl q).some, e))
