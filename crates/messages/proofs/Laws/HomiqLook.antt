-- What the reader of Homiq's messages answers: fields found in a payload, commands and values tested.
-- Assumes nothing.
use mathlib.Core.Bool.{Bool, true, false, cond, ◌&&◌, ◌||◌}
use mathlib.Core.List.{List, [], ◌∷◌, ◌++◌}
use mathlib.Core.Path.{◌≡◌, refl, sym, ◌∙◌, ap, ap₂, subst}
use Prim.Native.Nat.{ℕ, zero, suc, ◌+◌, ◌-◌, ◌≤◌}
use native.Mathlib.Decide.{dec_le}
use native.Mathlib.Omega.{arith}
use borrow.Author.Tests.{eq-eqb, ne_eqb}
use Rattle.std.specs.Prelude.{Option, Some, None, nat_eq, position}
use Rattle.std.specs.List.{position_or_len, list_any}
use Rattle.std.proofs.lemmas.List.Recursion.{is_position_or_len}
use Rattle.std.proofs.lemmas.List.Quantifiers.{position-Some}
use Rattle.std.proofs.lemmas.Bool.{eqb-true, eqb-false, ltb-false, leb-true, le-leb}
use lib.Dec.{eqb, leb}
use denote.Ref.{Bor}
use lib.ListN.{length, get_or, take, drop, drop_of_length-le, length-drop}
use lib.Seq.{drop-append_seam, drop-drop}
use Rattle.digits.proofs.Laws.Decimal.{decimal-inj}
use Rattle.digits.proofs.Laws.Handed.{same_ends}
use Rattle.digits.proofs.Laws.Parts.{part-rest}
use Rattle.digits.proofs.Unique.{test}
use Rattle.digits.specs.Paper.Ascii.{ascii}
use Rattle.digits.specs.Paper.Bytes.{part}
use Rattle.digits.specs.Paper.Decimal.{decimal}
use Rattle.digits.specs.Paper.Part.{Ends, IsPart}
use Rattle.digits.specs.Paper.Read.{Decides}
use Rattle.layouts.specs.Paper.Chars.{one_of}
use Rattle.messages.specs.Paper.Homiq.{up_to, past, field_at, fields_from, field_ends}
use Rattle.messages.specs.Paper.Table.{MarkedNumber, Letter}
use Rattle.messages.specs.Work.Homiq.{same, is_marked_number, is_letter, which_of}
use Rattle.messages.specs.declared.homiq.Homiq.TheVariants.{Output, Input, Shutter, Beat, Other}
use Rattle.messages.proofs.Laws.HomiqTests.{same-tells, numbered-tells, letter-tells}
use Rattle.messages.proofs.Laws.Telling.{both-tell, unequal, tells}

-- ---- where a field ends

-- as many characters as stand before the first `;`
field-place : (s : List ℕ) → length (up_to s) ≡ position_or_len (λ x. nat_eq x 59) s
unfolding up_to
field-place = is_position_or_len (λ s. length (up_to s)) (λ x. nat_eq x 59) refl step
  where
    step : (x : ℕ) (s : List ℕ) → length (up_to (x ∷ s)) ≡ cond (nat_eq x 59) 0 (1 + length (up_to s))
    step x s = go (nat_eq x 59)
      where
        go : (b : Bool) → length (cond b [] (x ∷ up_to s)) ≡ cond b 0 (1 + length (up_to s))
        go true = refl
        go false = omega arith

up_to-short : (s : List ℕ) → length (up_to s) ≤ length s
unfolding up_to
up_to-short [] = omega arith
up_to-short (x ∷ s) = go (eqb x 59) (up_to-short s)
  where
    go : (b : Bool) → length (up_to s) ≤ length s → length (cond b [] (x ∷ up_to s)) ≤ suc (length s)
    go true h = omega arith
    go false h = omega arith

found-some : {k n : ℕ} (b : Bool) → cond b (Some k) None ≡ Some n → k ≡ n
found-some true e = cc
found-some false e = cc

found-none : (k : ℕ) (b : Bool) → cond b (Some k) None ≡ None → b ≡ false
found-none k true e = cc
found-none k false e = refl

module _ (s : List ℕ) (from : ℕ) (h : from ≤ length s) {r : Option ℕ} (search_is : r ≡ position (λ x. nat_eq x 59) (drop from s)) where
  pub end-found : {n : ℕ} → r ≡ Some n → (from + n ≡ from + length (up_to (drop from s))) × (from + n ≤ length s)
  end-found {n} e =
      let p = sym search_is ∙ e in
      let k : length (up_to (drop from s)) ≡ n = field-place (drop from s) ∙ found-some _ p in
      (omega arith, omega (arith, (position-Some (λ x. nat_eq x 59) (drop from s) n 0 p).0, length-drop from s))

  pub end-none : r ≡ None → (length s ≡ from + length (up_to (drop from s))) × (length s ≤ length s)
  end-none e =
      let t = drop from s in
      let k : length t ≤ length (up_to t) = rw (field-place t) (ltb-false _ _ (found-none _ _ (sym search_is ∙ e))) in
      (omega (arith, k, up_to-short t, length-drop from s), omega arith)

-- ---- a field, and what is behind it

field-front : (s : List ℕ) → take (length (up_to s)) s ≡ up_to s
unfolding up_to
field-front [] = refl
field-front (x ∷ s) = go (eqb x 59) (field-front s)
  where
    go : (b : Bool) → take (length (up_to s)) s ≡ up_to s → take (length (cond b [] (x ∷ up_to s))) (x ∷ s) ≡ cond b [] (x ∷ up_to s)
    go true e = refl
    go false e = ap (λ (l : List ℕ). x ∷ l) e

pub past-field : (s : List ℕ) → past s ≡ drop (suc (length (up_to s))) s
unfolding past up_to
past-field [] = refl
past-field (x ∷ s) = go (eqb x 59) (past-field s)
  where
    go : (b : Bool) → past s ≡ drop (suc (length (up_to s))) s → cond b s (past s) ≡ drop (suc (length (cond b [] (x ∷ up_to s)))) (x ∷ s)
    go true e = refl
    go false e = e

-- there is none behind the last
rest-none : (n : ℕ) → fields_from n [] ≡ []
unfolding fields_from past
rest-none zero = refl
rest-none (suc n) = rest-none n

-- a field stands at the front of what is left
field-first : (n : ℕ) (s : List ℕ) → field_at n s ≡ up_to (fields_from n s)
unfolding field_at fields_from
field-first zero s = refl
field-first (suc n) s = field-first n (past s)

-- and what is left stands at the end
left-place : (n : ℕ) (s : List ℕ) → (i : ℕ) × (fields_from n s ≡ drop i s)
unfolding fields_from
left-place zero s = (0, refl)
left-place (suc n) s =
    let e = left-place n (past s) in
    let m = suc (length (up_to s)) in
    (m + e.0, e.1 ∙ ap (drop e.0) (past-field s) ∙ drop-drop e.0 m s)

at-end : (i : ℕ) (s : List ℕ) → drop (length s - length (drop i s)) s ≡ drop i s
at-end i s = go (dec_le i (length s))
  where
    go : Dec (i ≤ length s) → drop (length s - length (drop i s)) s ≡ drop i s
    go (yes h) = let e : length s - length (drop i s) ≡ i = omega (arith, length-drop i s) in ap (λ (j : ℕ). drop j s) e
    go (no h) =
        let l : length s ≤ i = omega arith in
        let k : length s ≤ length s - length (drop i s) = omega (arith, length-drop i s) in
        drop_of_length-le s k ∙ sym (drop_of_length-le s l)

left_is : (n : ℕ) (s : List ℕ) → drop (length s - length (fields_from n s)) s ≡ fields_from n s
left_is n s =
    let e = left-place n s in
    ap (λ (t : List ℕ). drop (length s - length t) s) e.1 ∙ at-end e.0 s ∙ sym e.1

-- the field's bytes are those between its ends
pub field-bytes : (n : ℕ) {s r : Bor (List ℕ)} → IsPart s (field_ends n s.now) r → r.now ≡ field_at n s.now
field-bytes n {s} i = i.bytes ∙ between n s.now
  where
    between : (n : ℕ) (s : List ℕ) → part (field_ends n s).from (field_ends n s).to s ≡ field_at n s
    between n s =
        let from = length s - length (fields_from n s) in
        let e : from + length (field_at n s) - from ≡ length (field_at n s) = omega arith in
        ap (λ (j : ℕ). take j (drop from s)) e ∙ ap (take (length (field_at n s))) (left_is n s)
        ∙ ap (λ (t : List ℕ). take (length t) (fields_from n s)) (field-first n s) ∙ field-front (fields_from n s) ∙ sym (field-first n s)

-- the loop over the fields: one begins at a place and ends at another, and so many are to be passed
module _ (s : List ℕ) (from end left : ℕ) (is : end ≡ from + length (up_to (drop from s))) where
  pub field_next : {n : ℕ} → left ≡ suc n → fields_from n (drop (end + 1) s) ≡ fields_from left (drop from s)
  unfolding fields_from
  field_next {n} h =
      let e : end + 1 ≡ from + suc (length (up_to (drop from s))) = omega arith in
      rw h
      (ap (fields_from n)
      (ap (λ (i : ℕ). drop i s) e ∙ sym (drop-drop (suc (length (up_to (drop from s)))) from s) ∙ sym (past-field (drop from s))))

  module _ (number : ℕ) (found : fields_from left (drop from s) ≡ fields_from number s) where
    -- it ends where the list does: nothing is left
    pub field_out : {n : ℕ} → left ≡ suc n → length s ≡ end → ◌≡◌ {A = Ends} (record { from = end; to = end }) (field_ends number s)
    unfolding up_to
    field_out {n} h k =
        let l : length s ≤ end + 1 = omega arith in
        let e : fields_from number s ≡ [] = sym found ∙ sym (field_next h) ∙ ap (fields_from n) (drop_of_length-le s l) ∙ rest-none n in
        let none : field_at number s ≡ [] = field-first number s ∙ ap up_to e in
        let x : length (fields_from number s) ≡ 0 = ap length e in
        let y : length (field_at number s) ≡ 0 = ap length none in
        same_ends (omega arith) (omega arith)

    -- none is to be passed
    pub field_is : left ≤ 0 → from ≤ length s → ◌≡◌ {A = Ends} (record { from = from; to = end }) (field_ends number s)
    unfolding fields_from
    field_is h k =
        let z : left ≡ 0 = omega arith in
        let e : drop from s ≡ fields_from number s = subst (λ (n : ℕ). fields_from n (drop from s) ≡ fields_from number s) z found in
        let x : length (drop from s) ≡ length (fields_from number s) = ap length e in
        let y : length (up_to (drop from s)) ≡ length (field_at number s) = ap (λ (t : List ℕ). length (up_to t)) e ∙ sym (ap length (field-first number s)) in
        same_ends (omega (arith, length-drop from s)) (omega (arith, length-drop from s))

-- ---- a mark and a number

pub numbered-digits : {mark : List ℕ} {most : ℕ} {cmd : List ℕ} (q : MarkedNumber mark most cmd) → decimal q.number ≡ part (length mark) (length cmd) cmd
numbered-digits {mark} {cmd = cmd} q = sym (part-rest (length mark) cmd ∙ ap (drop (length mark)) q.is ∙ drop-append_seam mark (decimal q.number))

-- a command that begins with the mark, and behind it the digits of n
pub numbered-by : {mark : List ℕ} {most : ℕ} (n : ℕ) {cmd : List ℕ} → cmd ≡ mark ++ drop (length mark) cmd → decimal n ≡ part (length mark) (length cmd) cmd
    → Decides (MarkedNumber mark most cmd) (leb n most)
numbered-by {mark} {most} n {cmd} m d =
    tells (leb n most)
    (λ e. record { number = n; few = leb-true n most e; is = m ∙ ap (λ (l : List ℕ). mark ++ l) (sym (d ∙ part-rest (length mark) cmd)) })
    (λ q. le-leb n most (subst (λ (k : ℕ). k ≤ most) (decimal-inj q.number n (numbered-digits q ∙ sym d)) q.few))

-- ---- one character

pub letter-one : {letters val : List ℕ} → Letter letters val → length val ≡ 1
letter-one r = ap length r.is

eqb-sym : (x y : ℕ) → eqb x y ≡ eqb y x
eqb-sym x y = go (eqb x y) refl
  where
    go : (b : Bool) → eqb x y ≡ b → b ≡ eqb y x
    go true e = sym (eq-eqb y x (sym (eqb-true x y e)))
    go false e = sym (ne_eqb y x (λ h. eqb-false x y e (sym h)))

letters-any : (letters : List ℕ) (x : ℕ) → list_any (λ y. nat_eq y x) letters ≡ one_of letters x
unfolding one_of
letters-any [] x = refl
letters-any (y ∷ l) x = ap₂ (λ (a b : Bool). a || b) (eqb-sym y x) (letters-any l x)

-- no character, or more than one
pub no-letter : {letters val : List ℕ} → (length val ≡ 1 → ⊥) → Decides (Letter letters val) (nat_eq (length val) 1)
no-letter {letters} {val} n = unequal (length val) 1 n letter-one

letter-by : (letters val : List ℕ) {b : Bool} → length val ≡ 1 → b ≡ one_of letters (get_or val 0 0) → Decides (Letter letters val) b
unfolding is_letter
letter-by letters val {b} l e =
    let t : is_letter letters val ≡ b = rw (eq-eqb (length val) 1 l) (sym e) in
    subst (Decides (Letter letters val)) t (letter-tells letters val)

pub letter-among : (letters val : List ℕ) {b : Bool} → length val ≡ 1 → b ≡ list_any (λ y. nat_eq y (get_or val 0 0)) letters → Decides (Letter letters val) b
letter-among letters val l e = letter-by letters val l (e ∙ letters-any letters (get_or val 0 0))

-- ---- the message of a command and a value, from the answers of the four tests

module _ (cmd val : List ℕ) where
  output-test : {a : Bool} → Decides (MarkedNumber (ascii "O.") 9 cmd × Letter (ascii "01") val) a → (is_marked_number (ascii "O.") 9 cmd && is_letter (ascii "01") val) ≡ a
  output-test t = test (both-tell (numbered-tells (ascii "O.") 9 cmd) (letter-tells (ascii "01") val)) t

  input-test : {a : Bool} → Decides (MarkedNumber (ascii "I.") 15 cmd × Letter (ascii "01") val) a → (is_marked_number (ascii "I.") 15 cmd && is_letter (ascii "01") val) ≡ a
  input-test t = test (both-tell (numbered-tells (ascii "I.") 15 cmd) (letter-tells (ascii "01") val)) t

  shutter-test : {a : Bool} → Decides ((cmd ≡ ascii "UD") × Letter (ascii "uds") val) a → (same (ascii "UD") cmd && is_letter (ascii "uds") val) ≡ a
  shutter-test t = test (both-tell (same-tells (ascii "UD") cmd) (letter-tells (ascii "uds") val)) t

  beat-test : {a : Bool} → Decides ((cmd ≡ ascii "HB") × Letter (ascii "1") val) a → (same (ascii "HB") cmd && is_letter (ascii "1") val) ≡ a
  beat-test t = test (both-tell (same-tells (ascii "HB") cmd) (letter-tells (ascii "1") val)) t

  module _ {a : Bool} (p : Decides (MarkedNumber (ascii "O.") 9 cmd × Letter (ascii "01") val) a) where
    pub look-output : a ≡ true → Output ≡ which_of cmd val
    unfolding which_of
    look-output e = rw (output-test p, e)

    module _ {b : Bool} (q : Decides (MarkedNumber (ascii "I.") 15 cmd × Letter (ascii "01") val) b) (e : a ≡ false) where
      pub look-input : b ≡ true → Input ≡ which_of cmd val
      unfolding which_of
      look-input f = rw (output-test p, input-test q, e, f)

      module _ {c : Bool} (r : Decides ((cmd ≡ ascii "UD") × Letter (ascii "uds") val) c) (f : b ≡ false) where
        pub look-shutter : c ≡ true → Shutter ≡ which_of cmd val
        unfolding which_of
        look-shutter g = rw (output-test p, input-test q, shutter-test r, e, f, g)

        module _ {d : Bool} (s : Decides ((cmd ≡ ascii "HB") × Letter (ascii "1") val) d) (g : c ≡ false) where
          pub look-beat : d ≡ true → Beat ≡ which_of cmd val
          unfolding which_of
          look-beat h = rw (output-test p, input-test q, shutter-test r, beat-test s, e, f, g, h)

          pub look-rest : d ≡ false → Other ≡ which_of cmd val
          unfolding which_of
          look-rest h = rw (output-test p, input-test q, shutter-test r, beat-test s, e, f, g, h)
