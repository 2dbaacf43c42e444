-- `homiq_form_len` finds what is laid out as a Homiq frame, and only that; `homiq_pair` has its CRC, and the one that is worked out.
-- Assumes nothing.
use mathlib.Core.Bool.{Bool, true, false, ◌||◌, cond}
use mathlib.Core.List.{List, [], ◌∷◌, ◌++◌, append_assoc, append-nil}
use mathlib.Core.Path.{◌≡◌, refl, sym, ◌∙◌, ap, ap₂}
use Prim.Native.Nat.{ℕ, ◌+◌, ◌-◌, ◌≤◌, ◌<◌}
use native.Mathlib.Omega.{arith}
use lib.Dec.{T, eqb}
use lib.ListN.{length, get_or, take, drop, length-append, drop_of_length-le}
use lib.Seq.{drop-append_seam, take_at, append_snoc}
use borrow.Author.Tests.{eqb-true}
use Rattle.digits.proofs.Laws.Parts.{next}
use Rattle.digits.proofs.Laws.Tests.{T_and}
use Rattle.digits.specs.Paper.Ascii.{ascii}
use Rattle.digits.specs.Paper.Bytes.{part}
use Rattle.digits.specs.Paper.Decimal.{decimal}
use Rattle.checks.proofs.Laws.Feed.{feed-lt, feed-append, feed-nil}
use Rattle.checks.specs.Paper.Buses.{homiq_crc}
use Rattle.checks.specs.Paper.Check.{feed, check}
use Rattle.layouts.specs.Paper.Chars.{one_of, all, CR, LF}
use Rattle.layouts.specs.Paper.Homiq.{Homiq, field_char, last_id, Limits, payload, joined, homiq, without_separators}
use Rattle.layouts.specs.Paper.Layout.{bytes_of, Form}
use Rattle.layouts.specs.Work.Homiq.{number_in, head_len, homiq_form_len, homiq_pair, homiq_to, homiq_recogniser}
use Rattle.layouts.specs.declared.Compared.{Compared}
use Rattle.layouts.proofs.Laws.Buses.{Bus, one-pair, same-pair}
use Rattle.layouts.proofs.Laws.Heads.{Right, Then, join, glue, starts?, word-right, then-right, same-right}
use Rattle.layouts.proofs.Laws.HomiqFields.{Fielded, NumberField, Typed, field-right, number-right, type-right, number_read, char-bounds, decimal-chars}

-- ---- the head: `<;` and the six fields, each with its `;`

abbrev pub front_of : Homiq → List ℕ
front_of m =
    ascii "<;" ++ (m.cmd ++ ascii ";") ++ (m.val ++ ascii ";") ++ (m.src ++ ascii ";") ++ (m.dst ++ ascii ";") ++ (decimal m.id ++ ascii ";")
    ++ (m.type ∷ ascii ";")

pub record Fronted (w : List ℕ) : Type 0 where
  pub fields : Homiq
  pub limits : Limits fields
  pub laid : w ≡ front_of fields

abbrev Nested : List ℕ → Type 0
Nested =
    Then (Then (Then (Then (Then (Then (λ u. u ≡ ascii "<;") (λ _. Fielded 8)) (λ _. Fielded 16)) (λ _. Fielded 4)) (λ _. Fielded 4)) (λ _. NumberField last_id))
    (λ _. Typed)

nested-right : Right Nested head_len
unfolding head_len
nested-right =
    then-right (then-right (then-right (then-right (then-right (then-right (word-right (ascii "<;") (omega arith))
    (λ w a. field-right 8)) (λ w a. field-right 16)) (λ w a. field-right 4)) (λ w a. field-right 4)) (λ w a. number-right last_id (omega arith)))
    (λ w a. type-right)

to_front : (w : List ℕ) → Nested w → Fronted w
to_front w r₆ =
    let r₅ = r₆.first in
    let r₄ = r₅.first in
    let r₃ = r₄.first in
    let r₂ = r₃.first in
    let r₁ = r₂.first in
    record {
      fields =
          record {
            cmd = r₁.second.word;
            val = r₂.second.word;
            src = r₃.second.word;
            dst = r₄.second.word;
            id = r₅.second.value;
            type = r₆.second.type;
            crc = 0;
          };
      limits =
          record {
            cmd = r₁.second.field;
            val = r₂.second.field;
            src = r₃.second.field;
            dst = r₄.second.field;
            id = r₅.second.most;
            type = r₆.second.is;
            crc = omega arith;
          };
      laid =
          glue r₆.joins
          (glue r₅.joins (glue r₄.joins (glue r₃.joins (glue r₂.joins (glue r₁.joins r₁.first r₁.second.ends) r₂.second.ends) r₃.second.ends) r₄.second.ends) r₅.second.ends)
          r₆.second.ends;
    }

from_front : (w : List ℕ) → Fronted w → Nested w
from_front w r =
    let m = r.fields in
    let l = r.limits in
    let f₁ : List ℕ = ascii "<;" ++ (m.cmd ++ ascii ";") in
    let f₂ : List ℕ = f₁ ++ (m.val ++ ascii ";") in
    let f₃ : List ℕ = f₂ ++ (m.src ++ ascii ";") in
    let f₄ : List ℕ = f₃ ++ (m.dst ++ ascii ";") in
    let f₅ : List ℕ = f₄ ++ (decimal m.id ++ ascii ";") in
    rw r.laid
    (join f₅ (m.type ∷ ascii ";")
    (join f₄ (decimal m.id ++ ascii ";")
    (join f₃ (m.dst ++ ascii ";")
    (join f₂ (m.src ++ ascii ";")
    (join f₁ (m.val ++ ascii ";")
    (join (ascii "<;") (m.cmd ++ ascii ";") refl
    (record { word = m.cmd; field = l.cmd; ends = refl }))
    (record { word = m.val; field = l.val; ends = refl }))
    (record { word = m.src; field = l.src; ends = refl }))
    (record { word = m.dst; field = l.dst; ends = refl }))
    (record { value = m.id; most = l.id; ends = refl }))
    (record { type = m.type; is = l.type; ends = refl }))

pub head-right : Right Fronted head_len
head-right = same-right to_front from_front nested-right

-- ---- the whole

-- the last bytes
abbrev pub closing : List ℕ
closing = ascii ">" ++ (CR ∷ LF ∷ [])

regroup : (o z g a b c d e t x y : List ℕ)
    → (o ++ (a ++ z ++ b ++ z ++ c ++ z ++ d ++ z ++ e ++ z ++ t)) ++ (z ++ x ++ (z ++ g) ++ y)
    ≡ o ++ (a ++ z) ++ (b ++ z) ++ (c ++ z) ++ (d ++ z) ++ (e ++ z) ++ (t ++ z) ++ ((x ++ z) ++ (g ++ y))
regroup o z g a b c d e t x y = simp append_assoc

-- a frame's bytes: the head, the CRC with its `;`, the end
pub front-homiq : (m : Homiq) → bytes_of homiq m ≡ front_of m ++ ((decimal m.crc ++ ascii ";") ++ closing)
front-homiq m =
    regroup (ascii "<;") (ascii ";") (ascii ">") m.cmd m.val m.src m.dst (decimal m.id) (m.type ∷ []) (decimal m.crc) (CR ∷ LF ∷ [])

-- and the head: `<;`, the payload, `;`
front-payload : (m : Homiq) → front_of m ≡ ascii "<;" ++ (payload m ++ ascii ";")
front-payload m = shorter (ascii "<;") (ascii ";") m.cmd m.val m.src m.dst (decimal m.id) (m.type ∷ [])
  where
    shorter : (o z a b c d e t : List ℕ)
        → o ++ (a ++ z) ++ (b ++ z) ++ (c ++ z) ++ (d ++ z) ++ (e ++ z) ++ (t ++ z) ≡ o ++ ((a ++ z ++ b ++ z ++ c ++ z ++ d ++ z ++ e ++ z ++ t) ++ z)
    shorter o z a b c d e t = simp append_assoc

abbrev Whole : List ℕ → Type 0
Whole = Then (Then Fronted (λ _. NumberField 255)) (λ _ u. u ≡ closing)

whole-right : Right Whole homiq_form_len
unfolding homiq_form_len
whole-right = then-right (then-right head-right (λ w a. number-right 255 (omega arith))) (λ w a. word-right closing (omega arith))

to-form : (f : List ℕ) → Whole f → Form homiq f
to-form f r =
    let h = r.first.first in
    let n = r.first.second in
    let m = h.fields in
    let l = h.limits in
    let k : Homiq = record { cmd = m.cmd; val = m.val; src = m.src; dst = m.dst; id = m.id; type = m.type; crc = n.value } in
    record {
      fields = k;
      limits = record { cmd = l.cmd; val = l.val; src = l.src; dst = l.dst; id = l.id; type = l.type; crc = n.most };
      laid =
          glue r.joins (glue r.first.joins h.laid n.ends) r.second
          ∙ append_assoc (front_of k) (decimal n.value ++ ascii ";") closing ∙ sym (front-homiq k);
    }

from-form : (f : List ℕ) → Form homiq f → Whole f
from-form f r =
    let m = r.fields in
    let d : List ℕ = decimal m.crc ++ ascii ";" in
    let e : f ≡ front_of m ++ d ++ closing = r.laid ∙ front-homiq m ∙ sym (append_assoc (front_of m) d closing) in
    rw e
    (join (front_of m ++ d) closing
    (join (front_of m) d
    (record { fields = m; limits = r.limits; laid = refl })
    (record { value = m.crc; most = r.limits.crc; ends = refl }))
    refl)

pub form-right : Right (Form homiq) homiq_form_len
form-right = same-right to-form from-form whole-right

-- ---- the fields without their separators

without-separators-cons : (x : ℕ) (s : List ℕ) → without_separators (x ∷ s) ≡ without_separators (x ∷ []) ++ without_separators s
unfolding without_separators
without-separators-cons x s = go (eqb x 59)
  where
    go : (b : Bool) → cond b (without_separators s) (x ∷ without_separators s) ≡ cond b [] (x ∷ []) ++ without_separators s
    go true = refl
    go false = refl

without-separators-append : (a b : List ℕ) → without_separators (a ++ b) ≡ without_separators a ++ without_separators b
unfolding without_separators
without-separators-append [] b = refl
without-separators-append (x ∷ a) b =
    without-separators-cons x (a ++ b) ∙ ap (λ (l : List ℕ). without_separators (x ∷ []) ++ l) (without-separators-append a b)
    ∙ sym (ap (λ (l : List ℕ). l ++ without_separators b) (without-separators-cons x a) ∙ append_assoc (without_separators (x ∷ [])) (without_separators a) (without_separators b))

-- the loop over s: v is the state of the CRC, and what is left of s makes the whole of it
pub record Summing (s : List ℕ) (v i : ℕ) : Type 0 where
  pub within : i ≤ length s
  pub fits : v < 256
  pub rest : feed homiq_crc v (without_separators (drop i s)) ≡ check homiq_crc (without_separators s)

pub summing_start : (s : List ℕ) (v : ℕ) → v ≡ homiq_crc.start → Summing s v 0
summing_start s v e = record { within = omega arith; fits = omega arith; rest = rw e }

pub summing-next : {s : List ℕ} {v i : ℕ} (n : ℕ) → Summing s v i → i < length s → n ≡ feed homiq_crc v (without_separators (get_or s i 0 ∷ [])) → Summing s n (i + 1)
summing-next {s} {v} {i} n l h e =
    let x = get_or s i 0 in
    let r : List ℕ = drop (i + 1) s in
    record {
      within = omega arith;
      fits = rw e (feed-lt homiq_crc v (without_separators (x ∷ [])));
      rest =
          ap (λ (k : ℕ). feed homiq_crc k (without_separators r)) e ∙ sym (feed-append homiq_crc v (without_separators (x ∷ [])) (without_separators r))
          ∙ ap (feed homiq_crc v) (sym (without-separators-cons x r)) ∙ ap (λ (u : List ℕ). feed homiq_crc v (without_separators u)) (sym (next s i h)) ∙ l.rest;
    }

pub summing-end : {s : List ℕ} {v i : ℕ} → Summing s v i → length s ≤ i → v ≡ check homiq_crc (without_separators s)
unfolding without_separators
summing-end {s} {v} {i} l h =
    sym (ap (λ (u : List ℕ). feed homiq_crc v (without_separators u)) (drop_of_length-le s h) ∙ feed-nil homiq_crc v l.fits) ∙ l.rest

without-separators-field : (w : List ℕ) → T (all field_char w) → without_separators w ≡ w
unfolding without_separators all
without-separators-field [] h = refl
without-separators-field (x ∷ w) h =
    let q = T_and (field_char x) (all field_char w) h in
    rw (char-bounds x q.0).1 (ap (λ (l : List ℕ). x ∷ l) (without-separators-field w q.1))

pub without-separators-closed : (w : List ℕ) → T (all field_char w) → without_separators (w ++ ascii ";") ≡ w
unfolding without_separators
without-separators-closed w h = without-separators-append w (ascii ";") ∙ rw (without-separators-field w h) (append-nil w)

pub type-chars : (t : ℕ) → T (one_of (ascii "sa") t) → T (all field_char (t ∷ []))
unfolding one_of all field_char
type-chars t h = go (eqb t 115) refl (eqb t 97) refl h
  where
    go : (a : Bool) → eqb t 115 ≡ a → (b : Bool) → eqb t 97 ≡ b → T (a || (b || false)) → T (all field_char (t ∷ []))
    go true p b q h = let e : t ≡ 115 = eqb-true _ _ p in rw e tt
    go false p true q h = let e : t ≡ 97 = eqb-true _ _ q in rw e tt
    go false p false q h = absurd h

six-kept : (a b c d e t : List ℕ) → without_separators (a ++ b ++ c ++ d ++ e ++ t) ≡ without_separators a ++ without_separators b ++ without_separators c ++ without_separators d ++ without_separators e ++ without_separators t
six-kept a b c d e t = simp without-separators-append

front_kept : (m : Homiq) → Limits m → without_separators (drop 2 (front_of m)) ≡ joined m
front_kept m l =
    six-kept (m.cmd ++ ascii ";") (m.val ++ ascii ";") (m.src ++ ascii ";") (m.dst ++ ascii ";") (decimal m.id ++ ascii ";") (m.type ∷ ascii ";")
    ∙ rw (
      without-separators-closed m.cmd l.cmd.chars,
      without-separators-closed m.val l.val.chars,
      without-separators-closed m.src l.src.chars,
      without-separators-closed m.dst l.dst.chars,
      without-separators-closed (decimal m.id) (decimal-chars m.id),
      without-separators-closed (m.type ∷ []) (type-chars m.type l.type),
    )

-- the payload too, whose last field has no separator behind it
pub payload-without-separators : (m : Homiq) → Limits m → without_separators (payload m) ≡ joined m
unfolding without_separators
payload-without-separators m l =
    sym (append-nil (without_separators (payload m))) ∙ sym (without-separators-append (payload m) (ascii ";")) ∙ ap (λ (u : List ℕ). without_separators (drop 2 u)) (sym (front-payload m)) ∙ front_kept m l

-- ---- what stands where in a list that starts with a frame's bytes

module _ (m : Homiq) (l : Limits m) (s t : List ℕ) (laid : s ≡ front_of m ++ ((decimal m.crc ++ ascii ";") ++ t)) where
  pub front_length : head_len s ≡ length (front_of m)
  front_length = ap head_len laid ∙ head-right.complete (record { fields = m; limits = l; laid = refl }) ((decimal m.crc ++ ascii ";") ++ t)

  behind-front : drop (head_len s) s ≡ decimal m.crc ++ 59 ∷ t
  behind-front =
      ap₂ (λ (n : ℕ) (u : List ℕ). drop n u) front_length laid ∙ drop-append_seam (front_of m) ((decimal m.crc ++ ascii ";") ++ t)
      ∙ append_snoc (decimal m.crc) 59 t

  -- the CRC
  front-number : number_in (drop (head_len s) s) ≡ m.crc
  front-number = let h = l.crc in ap number_in behind-front ∙ number_read m.crc (omega arith) t

  -- what it covers
  pub front-covered : without_separators (part 2 (head_len s) s) ≡ joined m
  front-covered =
      let two : List ℕ = drop 2 (front_of m) in
      let e : length two ≡ head_len s - 2 = omega (arith, front_length) in
      ap (λ (u : List ℕ). without_separators (take (head_len s - 2) (drop 2 u))) laid
      ∙ ap without_separators (take_at two ((decimal m.crc ++ ascii ";") ++ t) (head_len s - 2) e) ∙ front_kept m l

-- ---- the bus

module _ (w : List ℕ) (r : Form homiq w) where
  pub form-laid : w ≡ front_of r.fields ++ ((decimal r.fields.crc ++ ascii ";") ++ closing)
  form-laid = r.laid ∙ front-homiq r.fields

  pub form-head : head_len w ≡ length (front_of r.fields)
  form-head = front_length r.fields r.limits w closing form-laid

  pub form-pair : homiq_pair w ≡ record { found = r.fields.crc; expected = check homiq_crc (joined r.fields) }
  unfolding homiq_pair
  form-pair =
      same-pair (front-number r.fields r.limits w closing form-laid)
      (ap (check homiq_crc) (front-covered r.fields r.limits w closing form-laid))

-- THE BUS HOMIQ
pub homiq-bus : Bus homiq homiq_recogniser
unfolding homiq_to
homiq-bus =
    record {
      forms = form-right;
      compares = λ w r. ap (λ (c : Compared). c ∷ []) (sym (form-pair w r));
      few = λ w. one-pair (homiq_pair w);
      begins = λ w r. refl;
      ends = λ w r. let e = ap length (front-payload r.fields) in let h = form-head w r in omega (arith, length-append (payload r.fields) (ascii ";"));
      begun? = λ s. starts? (ascii "<;") s;
      long? = λ s. yes tt;
      laid-begun = λ m l t. refl;
      laid-long = λ m l t. tt;
    }
