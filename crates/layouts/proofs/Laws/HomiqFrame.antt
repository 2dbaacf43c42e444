-- What the code of `frame` finds: the head, the CRC and the end, where they stand, and what it compares.
-- Assumes nothing.
use mathlib.Core.List.{List, [], ◌∷◌, ◌++◌, append_assoc}
use mathlib.Core.Path.{◌≡◌, refl, sym, ◌∙◌, ap, subst}
use mathlib.Core.Bool.{true}
use Prim.Native.Nat.{ℕ, zero, suc, ◌+◌, ◌-◌, ◌≤◌, ◌<◌}
use native.Mathlib.Omega.{arith}
use lib.ListN.{length, take, drop, take-append-drop}
use lib.Seq.{append_snoc, drop-drop}
use Rattle.std.specs.Prelude.{Option, Some, None}
use Rattle.std.specs.Option.{option_or}
use Rattle.digits.proofs.Laws.Parts.{part-rest}
use Rattle.digits.specs.Paper.Ascii.{ascii}
use Rattle.digits.specs.Paper.Bytes.{part}
use Rattle.digits.specs.Paper.Decimal.{decimal}
use Rattle.checks.specs.Paper.Buses.{homiq_crc}
use Rattle.checks.specs.Paper.Check.{check}
use Rattle.layouts.specs.Paper.Homiq.{last_id, joined, homiq, without_separators}
use Rattle.layouts.specs.Paper.Layout.{Form}
use Rattle.layouts.specs.Work.Heads.{Lasts, Ends, starts, word_len, on, onward, and_then, or_else}
use Rattle.layouts.specs.Work.Homiq.{field_len, number_in, number_len, type_len, head_len, five_within, five_len, homiq_form_len, homiq_pair, homiq_to}
use Rattle.layouts.specs.declared.Compared.{Compared}
use Rattle.layouts.proofs.Laws.Buses.{same-pair}
use Rattle.layouts.proofs.Laws.Heads.{taken, inside, back-of, on_both, on_none, then-some, then-none, then-stops, or-first, or-second, word-there}
use Rattle.layouts.proofs.Laws.Homiq.{head-right, front_of, closing, form-right, form-laid, form-head, form-pair, front_length, front-covered}
use Rattle.layouts.proofs.Laws.HomiqPayload.{two_len, three_len, four_len}
use Rattle.layouts.proofs.Laws.HomiqFields.{number_read}

-- ---- the head: `<;`, the five fields of a payload, and TYPE

-- a place behind a place
on_assoc : (i a x : ℕ) → 0 < i → 0 < a → on (i + a) x ≡ on i (on a x)
on_assoc i a zero p q = on_none (i + a) ∙ sym (ap (on i) (on_none a) ∙ on_none i)
on_assoc i a (suc x) p q =
    on_both (i + a) (suc x) (omega arith) (omega arith) ∙ omega arith
    ∙ sym (ap (on i) (on_both a (suc x) q (omega arith)) ∙ on_both i (a + suc x) p (omega arith))

onward-on : (f : List ℕ → ℕ) (s : List ℕ) (i a : ℕ) → 0 < i → onward f s (on i a) ≡ on i (onward f (drop i s) a)
unfolding on
onward-on f s zero a p = absurd (omega arith)
onward-on f s (suc i) zero p = refl
onward-on f s (suc i) (suc a) p =
    ap (λ (u : List ℕ). on (suc i + suc a) (f u)) (sym (drop-drop (suc a) (suc i) s))
    ∙ on_assoc (suc i) (suc a) (f (drop (suc a) (drop (suc i) s))) (omega arith) (omega arith)

behind-then : (h g f : List ℕ → ℕ) (s : List ℕ) → h s ≡ on 2 (g (drop 2 s)) → and_then h (λ _. f) s ≡ on 2 (and_then g (λ _. f) (drop 2 s))
behind-then h g f s e = ap (onward f s) e ∙ onward-on f s 2 (g (drop 2 s)) (omega arith)

-- `<;` and the first field, the first two, and so on; at last `<;` and the five
abbrev before_two : List ℕ → ℕ
before_two = and_then (word_len (ascii "<;")) (λ _. field_len 8)

abbrev before_three : List ℕ → ℕ
before_three = and_then before_two (λ _. field_len 16)

abbrev before_four : List ℕ → ℕ
before_four = and_then before_three (λ _. field_len 4)

abbrev before_five : List ℕ → ℕ
before_five = and_then before_four (λ _. field_len 4)

abbrev before_type : List ℕ → ℕ
before_type = and_then before_five (λ _. number_len last_id)

module _ (s : List ℕ) (mark : starts (ascii "<;") s ≡ true) where
  before-type : before_type s ≡ on 2 (five_len (drop 2 s))
  unfolding five_within
  before-type =
      behind-then before_five four_len (number_len last_id) s
      (behind-then before_four three_len (field_len 4) s
      (behind-then before_three two_len (field_len 4) s
      (behind-then before_two (field_len 8) (field_len 16) s
      (ap (onward (field_len 8) s) (word-there (ascii "<;") s mark)))))

  pub no-five : five_len (part 2 (length s) s) ≡ 0 → head_len s ≡ 0
  unfolding head_len
  no-five z =
      then-stops before_type type_len
      (before-type ∙ ap (on 2) (ap five_len (sym (part-rest 2 s)) ∙ z) ∙ on_none 2)

  -- TYPE behind the five: one word or the other
  module _ {k : ℕ} (is : Ends five_len (part 2 (length s) s) (Some k)) where
    type_at : head_len s ≡ or_else (onward (word_len (ascii "s;")) s (2 + k)) (onward (word_len (ascii "a;")) s (2 + k))
    unfolding head_len type_len
    type_at =
        let e : before_type s ≡ 2 + k =
        before-type ∙ ap (on 2) (ap five_len (sym (part-rest 2 s)) ∙ sym is.0) ∙ on_both 2 k (omega arith) is.1
        in
        rw e (either (word_len (ascii "s;") (drop (2 + k) s)) (word_len (ascii "a;") (drop (2 + k) s)))
      where
        either : (m n : ℕ) → on (2 + k) (or_else m n) ≡ or_else (on (2 + k) m) (on (2 + k) n)
        either zero n = rw (on_none (2 + k))
        either (suc m) n = sym (or-first _ _ (omega (arith, on_both (2 + k) (suc m) (omega arith) (omega arith))))

    pub head-there : (a b : Option ℕ) {r : Option ℕ} → Lasts (onward (word_len (ascii "s;")) s (2 + k)) a → Lasts (onward (word_len (ascii "a;")) s (2 + k)) b
        → r ≡ option_or a b → Ends head_len s r
    head-there a b la lb e = subst (Ends head_len s) (sym e) (go a b la lb)
      where
        there : {n : ℕ} → n ≡ head_len s → 0 < n → Ends head_len s (Some n)
        there q p = (q, p, rw q (inside head-right s))

        go : (a b : Option ℕ) → Lasts (onward (word_len (ascii "s;")) s (2 + k)) a → Lasts (onward (word_len (ascii "a;")) s (2 + k)) b → Ends head_len s (option_or a b)
        go (Some n) b la lb = there (la.0 ∙ sym (type_at ∙ or-first _ _ (omega (arith, la)))) la.1
        go None (Some n) la lb = there (lb.0 ∙ sym (type_at ∙ or-second _ _ la)) lb.1
        go None None la lb = type_at ∙ or-second _ _ la ∙ lb

-- ---- what the code finds: the head, the CRC with its `;`, and the end

abbrev claimed_len : List ℕ → ℕ
claimed_len = and_then head_len (λ _. number_len 255)

pub no-head : (s : List ℕ) → head_len s ≡ 0 → homiq_form_len s ≡ 0
unfolding homiq_form_len
no-head s z = then-stops claimed_len (word_len closing) (then-stops head_len (number_len 255) z)

module _ (s : List ℕ) {before : ℕ} (head : Ends head_len s (Some before)) where
  pub no-claim : number_len 255 (part before (length s) s) ≡ 0 → homiq_form_len s ≡ 0
  unfolding homiq_form_len
  no-claim z = then-stops claimed_len (word_len closing) (then-none head_len (number_len 255) head z)

  module _ {k : ℕ} (claim : Ends (number_len 255) (part before (length s) s) (Some k)) where
    pub behind : Ends claimed_len s (Some (before + k))
    behind = then-some head_len (number_len 255) head claim

    pub no-end : onward (word_len closing) s (before + k) ≡ 0 → homiq_form_len s ≡ 0
    unfolding homiq_form_len
    no-end z = subst (λ (i : ℕ). onward (word_len closing) s i ≡ 0) behind.0 z

    pub form-ends : {n : ℕ} → Lasts (onward (word_len closing) s (before + k)) (Some n) → Ends homiq_form_len s (Some n)
    unfolding homiq_form_len
    form-ends {n} is =
        let e : n ≡ homiq_form_len s = subst (λ (i : ℕ). n ≡ onward (word_len closing) s i) behind.0 is.0 in
        (e, is.1, rw e (inside form-right s))

-- what stands at the head of s where all of it is found: the head up to a place, and the CRC there
pub record Found (s : List ℕ) (before n : ℕ) : Type 0 where
  pub form : Form homiq (take n s)
  pub head : head_len (take n s) ≡ before
  pub two : 2 ≤ before
  pub claims : number_in (drop before s) ≡ form.fields.crc
  pub covered : without_separators (part 2 before s) ≡ joined form.fields

pub frame_found : (s : List ℕ) {before n : ℕ} → Ends head_len s (Some before) → Ends homiq_form_len s (Some n) → Found s before n
frame_found s {before} {n} head is =
    made (subst (λ (k : ℕ). Form homiq (take k s)) (sym is.0) (taken form-right s (omega (arith, is))))
  where
    three : (a b c d : List ℕ) → (a ++ (b ++ c)) ++ d ≡ a ++ (b ++ (c ++ d))
    three a b c d = simp append_assoc

    made : Form homiq (take n s) → Found s before n
    made r =
        let m = r.fields in
        let l = r.limits in
        let d : List ℕ = decimal m.crc ++ ascii ";" in
        let t : List ℕ = closing ++ drop n s in
        let laid : s ≡ front_of m ++ (d ++ t) =
        sym (take-append-drop n s) ∙ ap (λ (u : List ℕ). u ++ drop n s) (form-laid (take n s) r) ∙ three (front_of m) d closing (drop n s)
        in
        let e : before ≡ length (front_of m) = head.0 ∙ front_length m l s t laid in
        let k : drop before s ≡ d ++ t = back-of s (front_of m) (d ++ t) before laid e in
        record {
          form = r;
          head = form-head (take n s) r ∙ sym e;
          two = omega arith;
          claims = ap number_in (k ∙ append_snoc (decimal m.crc) 59 t) ∙ number_read m.crc (omega (arith, l.crc)) t;
          covered = ap (λ (i : ℕ). without_separators (part 2 i s)) head.0 ∙ front-covered m l s t laid;
        }

module _ {s : List ℕ} {before n : ℕ} (f : Found s before n) where
  -- what the code compares are the values of the definition
  pub pair-there : {x v : ℕ} → x ≡ check homiq_crc (without_separators (part 2 before s)) → v ≡ number_in (drop before s)
      → homiq_pair (take n s) ∷ [] ≡ record { found = v; expected = x } ∷ []
  pair-there ex ev =
      ap (λ (c : Compared). c ∷ [])
      (form-pair (take n s) f.form ∙ same-pair (sym (ev ∙ f.claims)) (sym (ex ∙ ap (check homiq_crc) f.covered)))

  pub payload-end : before - 1 ≡ homiq_to (take n s)
  unfolding homiq_to
  payload-end = ap (λ (k : ℕ). k - 1) (sym f.head)
