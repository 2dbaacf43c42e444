-- Nikobus: its recogniser finds what is laid out as a link, a press or a tail, and only that; its pairs are the values of a link's
-- checks; no two fields have the same bytes; and what the code finds on its way is that.
-- Assumes nothing.
use mathlib.Core.Bool.{Bool, true, false, ◌&&◌, cond, and-true}
use mathlib.Core.List.{List, [], ◌∷◌, ◌++◌, append_assoc}
use mathlib.Core.Path.{◌≡◌, refl, sym, ◌∙◌, ap, ap₂, subst}
use Prim.Native.Nat.{ℕ, zero, suc, ◌+◌, ◌-◌, ◌*◌, ◌/◌, ◌%◌, ◌≤◌, ◌<◌}
use native.Mathlib.Decide.{dec_le, dec_lt}
use native.Mathlib.Nat.{add-sub_cancel_left}
use native.Mathlib.Omega.{arith}
use lib.Dec.{T, eqb, ltb, eqb→eq, leb→le}
use lib.ListN.{length, get_or, take, drop, length-append, length-drop, take-append-drop}
use lib.Seq.{get_or-drop, take_all, take_at, take-append_seam, take-take, drop_at, length-take-le}
use borrow.Author.Tests.{eq-eqb, ne_eqb, le-leb, lt-ltb, ltb-true}
use Rattle.digits.proofs.Laws.Bytes.{bytes_take, bytes_drop, bytes-append, bytes-cons, bytes-nil}
use Rattle.digits.proofs.Laws.Hex.{length-hex, hex-append, hex-inj, byte-inj, word-inj, word_of}
use Rattle.digits.proofs.Laws.Parts.{next, length_part, part_at, part-front, part-middle, take-ats}
use Rattle.digits.proofs.Laws.Tests.{T_true}
use Rattle.digits.specs.Paper.Ascii.{ascii}
use Rattle.digits.specs.Paper.Bytes.{Bytes, part}
use Rattle.digits.specs.Paper.Hex.{hex_digit, hex_byte, hex_bytes, hex_word}
use Rattle.checks.specs.Paper.Buses.{nikobus_crc16, nikobus_crc8}
use Rattle.checks.specs.Paper.Check.{check}
use Rattle.layouts.specs.Paper.Chars.{all, is_hex, CR}
use Rattle.layouts.specs.Paper.Layout.{StartsWith, bytes_of, payload_from, payload_to, Form}
use Rattle.layouts.specs.Paper.Nikobus.{Nikobus, link, press, tail, Limits, link-limits, press-limits, tail-limits, link_checked, compared, Begun, link-begun, press-begun, tail-begun, Long, link-long, press-long, tail-long, nikobus}
use Rattle.layouts.specs.Work.Heads.{only_if, starts, word_len, run_len, on, onward}
use Rattle.layouts.specs.Work.Nikobus.{hex_pair, digits_len, ll_of, link_head_len, link_form_len, press_len, tail_len, nikobus_form_len, hex_four, pair16, pair8, nikobus_pairs, nikobus_from, nikobus_to, nikobus_recogniser, bytes_of as bytes_in}
use Rattle.layouts.specs.declared.Compared.{Compared}
use Rattle.layouts.proofs.Laws.Buses.{Bus, Few, no-pair, two-pairs, same-pair}
use Rattle.layouts.proofs.Laws.Heads.{Head, Right, Then, Or, left, right, Run, join, glue, only-test, only-eq, only_yes, starts-splits, starts-append, starts_with, with-splits, with-starts, not-starts, starts?, mark-at, no_word, word-right, word-there, run-right, then-right, or_right, same-right, on_both, on_none, or-first, taken, inside}
use Rattle.layouts.proofs.Laws.Runs.{all_take}
use Rattle.layouts.proofs.Laws.HexDigits.{digit-hex, hex-at, length-byte, length-word, pair-byte, pair_lt, byte_pair, bytes-hex, hex-all, hex-bytes, length-bytes, bytes-bytes}

-- ---- `$`, LL

-- what stands at the head where LL is there
pub record LlThere (s : List ℕ) : Type 0 where
  pub size : 3 ≤ length s
  pub mark : get_or s 0 0 ≡ 36
  pub high : T (is_hex (get_or s 1 0))
  pub low : T (is_hex (get_or s 2 0))
  pub least : 12 ≤ hex_pair (get_or s 1 0) (get_or s 2 0)
  pub even : hex_pair (get_or s 1 0) (get_or s 2 0) % 2 ≡ 0

-- what is read, and what is written
ll-is : (s : List ℕ) → LlThere s → ll_of s ≡ hex_pair (get_or s 1 0) (get_or s 2 0)
unfolding ll_of
ll-is [] r = absurd (omega (arith, r.size))
ll-is (x ∷ []) r = absurd (omega (arith, r.size))
ll-is (x ∷ y ∷ []) r = absurd (omega (arith, r.size))
ll-is (x ∷ y ∷ z ∷ s) r =
    let ll = hex_pair y z in
    let b : hex_byte ll ≡ y ∷ z ∷ [] = byte_pair y z r.high r.low in
    let m : x ≡ 36 = r.mark in
    let e : starts (36 ∷ hex_byte ll) (x ∷ y ∷ z ∷ s) ≡ true = rw (b, m) (starts-append (36 ∷ y ∷ z ∷ []) s) in
    only_yes _ _ e ∙ only_yes _ _ (le-leb 12 ll r.least) ∙ only_yes _ _ (eq-eqb _ 0 r.even)

ll-made : (ll : ℕ) (t : List ℕ) → 12 ≤ ll → ll % 2 ≡ 0 → ll < 256 → LlThere ((36 ∷ hex_byte ll) ++ t)
unfolding hex_byte
ll-made ll t a b c =
    let e : hex_pair (hex_digit (ll / 16)) (hex_digit (ll % 16)) ≡ ll = pair-byte ll c in
    record {
      size = omega arith;
      mark = refl;
      high = digit-hex (ll / 16) (omega arith);
      low = digit-hex (ll % 16) (omega arith);
      least = rw e a;
      even = rw e b;
    }

-- what is written is read
ll-read : (ll : ℕ) (t : List ℕ) → 12 ≤ ll → ll % 2 ≡ 0 → ll < 256 → ll_of ((36 ∷ hex_byte ll) ++ t) ≡ ll
unfolding hex_byte
ll-read ll t a b c = ll-is ((36 ∷ hex_byte ll) ++ t) (ll-made ll t a b c) ∙ pair-byte ll c

-- `$` and an LL that there may be
record LinkHead (u : List ℕ) : Type 0 where
  ll : ℕ
  low : 12 ≤ ll
  even : ll % 2 ≡ 0
  byte : ll < 256
  layout : u ≡ 36 ∷ hex_byte ll

ll-head : {u : List ℕ} (r : LinkHead u) → ll_of u ≡ r.ll
unfolding hex_byte
ll-head r = rw r.layout (ll-read r.ll [] r.low r.even r.byte)

ll-sound : (s : List ℕ) (n : ℕ) → n ≡ 3 → 0 < ll_of s → Head LinkHead s n
unfolding ll_of
ll-sound s n l h₀ =
    let ll = hex_pair (get_or s 1 0) (get_or s 2 0) in
    let h₁ = rw (only-eq _ _ h₀) at h₀ in
    let h₂ = rw (only-eq _ _ h₁) at h₁ in
    let e = starts-splits (36 ∷ hex_byte ll) s (only-test _ _ h₀) in
    record {
      word = 36 ∷ hex_byte ll;
      rest = drop (length (36 ∷ hex_byte ll)) s;
      splits = e;
      is =
          record {
            ll = ll;
            low = leb→le _ _ (only-test _ _ h₁);
            even = eqb→eq _ _ (only-test _ _ h₂);
            byte = pair_lt (get_or s 1 0) (get_or s 2 0);
            layout = refl;
          };
      size = l ∙ omega (arith, length-byte ll);
    }

link-head-right : Right LinkHead link_head_len
unfolding link_head_len
link-head-right = record { some = some; sound = sound; complete = complete }
  where
    some : {u : List ℕ} → LinkHead u → 0 < length u
    some r = rw r.layout (omega arith)

    sound : (s : List ℕ) → 0 < link_head_len s → Head LinkHead s (link_head_len s)
    sound s h = ll-sound s _ (only-eq _ _ h) (ltb-true _ _ (T_true _ (only-test _ _ h)))

    complete : {u : List ℕ} → LinkHead u → (t : List ℕ) → link_head_len (u ++ t) ≡ length u
    complete r t =
        let ll = r.ll in
        let low = r.low in
        let e : ll_of ((36 ∷ hex_byte ll) ++ t) ≡ ll = ll-read ll t r.low r.even r.byte in
        rw r.layout (rw e (only_yes _ _ (lt-ltb 0 ll (omega arith)) ∙ omega (arith, length-byte ll)))

-- ---- a link: all the digits behind LL are one run, those of the payload's bytes, of two of CRC16 and of one of CRC8

record LinkForm (w : List ℕ) : Type 0 where
  payload : List ℕ
  crc16 : ℕ
  crc8 : ℕ
  limits : Limits (link payload crc16 crc8)
  laid : w ≡ bytes_of nikobus (link payload crc16 crc8)

abbrev Linked : List ℕ → Type 0
Linked = Then (Then LinkHead (λ w. Run is_hex (ll_of w - 4))) (λ _ u. u ≡ CR ∷ [])

regroup : (a b c d e : List ℕ) → (a ++ (b ++ (c ++ d))) ++ e ≡ (a ++ b) ++ ((c ++ d) ++ e)
regroup a b c d e = simp append_assoc

-- three bytes, one by one
three : (q : List ℕ) → length q ≡ 3 → q ≡ get_or q 0 0 ∷ get_or q 1 0 ∷ get_or q 2 0 ∷ []
three q l = sym (take_all 3 q (omega arith)) ∙ take-ats q 3 0 (omega arith)

-- the digits of n + 3 bytes
record Cut (n : ℕ) (d : List ℕ) : Type 0 where
  bytes : List ℕ
  crc16 : ℕ
  crc8 : ℕ
  size : length bytes ≡ n
  are : Bytes bytes
  word : crc16 < 65536
  byte : crc8 < 256
  joins : d ≡ hex_bytes bytes ++ (hex_word crc16 ++ hex_byte crc8)

ends : (x y z : ℕ) → y < 256 → hex_bytes (x ∷ y ∷ z ∷ []) ≡ hex_word (x * 256 + y) ++ hex_byte z
unfolding hex_bytes hex_byte
ends x y z h = rw (word_of x y h)

cut : (n : ℕ) (d : List ℕ) → length d ≡ n * 2 + 6 → T (all is_hex d) → Cut n d
cut n d l h =
    let q = bytes_in d in
    let k : length q ≡ n + 3 = length-bytes (n + 3) d (omega arith) in
    let b : Bytes q = bytes-bytes d in
    let z = drop n q in
    record {
      bytes = take n q;
      crc16 = get_or z 0 0 * 256 + get_or z 1 0;
      crc8 = get_or z 2 0;
      size = length-take-le n q (omega arith);
      are = bytes_take n q b;
      word = omega (arith, (bytes_drop n q b).each 0, (bytes_drop n q b).each 1);
      byte = (bytes_drop n q b).each 2;
      joins =
          sym (hex-bytes (n + 3) d (omega arith) h) ∙ ap hex_bytes (sym (take-append-drop n q)) ∙ hex-append (take n q) z
          ∙ ap (λ (l : List ℕ). hex_bytes (take n q) ++ l)
          (ap hex_bytes (three z (omega (arith, length-drop n q))) ∙ ends (get_or z 0 0) (get_or z 1 0) (get_or z 2 0) ((bytes_drop n q b).each 1));
    }

to-link : (w : List ℕ) → Linked w → LinkForm w
to-link w r =
    let q = r.first in
    let h = q.first in
    let ll = h.ll in
    let low = h.low in
    let even = h.even in
    let byte = h.byte in
    let n = (ll - 10) / 2 in
    let e : ll_of q.front ≡ ll = ll-head h in
    let k = cut n q.back (q.second.size ∙ rw e (omega arith)) q.second.each in
    let size = k.size in
    let x : ll ≡ length k.bytes * 2 + 10 = omega arith in
    record {
      payload = k.bytes;
      crc16 = k.crc16;
      crc8 = k.crc8;
      limits = link-limits {p = k.bytes} (omega arith) (omega arith) k.are k.word k.byte;
      laid =
          glue r.joins (glue q.joins (h.layout ∙ ap (λ (y : ℕ). 36 ∷ hex_byte y) x) k.joins) r.second
          ∙ regroup (36 ∷ hex_byte (length k.bytes * 2 + 10)) (hex_bytes k.bytes) (hex_word k.crc16) (hex_byte k.crc8) (CR ∷ []);
    }

-- all the digits of a link are the digits of bytes
digits-bytes : (p : List ℕ) (x y : ℕ) → hex_bytes p ++ (hex_word x ++ hex_byte y) ≡ hex_bytes (p ++ (x / 256 ∷ x % 256 ∷ y ∷ []))
unfolding hex_bytes hex_byte hex_word
digits-bytes p x y = sym (hex-append p (x / 256 ∷ x % 256 ∷ y ∷ []))

link-run : (p : List ℕ) (x y : ℕ) → Bytes p → x < 65536 → y < 256 → Run is_hex (length p * 2 + 6) (hex_bytes p ++ (hex_word x ++ hex_byte y))
link-run p x y b hx hy =
    let t : Bytes (x / 256 ∷ x % 256 ∷ y ∷ []) = bytes-cons (omega arith) (bytes-cons (omega arith) (bytes-cons hy bytes-nil)) in
    let q = p ++ (x / 256 ∷ x % 256 ∷ y ∷ []) in
    rw (digits-bytes p x y)
    (record {
      size = length-hex q ∙ omega (arith, length-append p (x / 256 ∷ x % 256 ∷ y ∷ []));
      each = hex-all q (bytes-append p (x / 256 ∷ x % 256 ∷ y ∷ []) b t);
    })

from-limits : (w p : List ℕ) (x y : ℕ) → Limits (link p x y) → w ≡ bytes_of nikobus (link p x y) → Linked w
from-limits w p x y (link-limits some short b hx hy) e =
    let ll = length p * 2 + 10 in
    let d = hex_bytes p ++ (hex_word x ++ hex_byte y) in
    let h : LinkHead (36 ∷ hex_byte ll) = record { ll = ll; low = omega arith; even = omega arith; byte = omega arith; layout = refl } in
    let k : length p * 2 + 6 ≡ ll_of (36 ∷ hex_byte ll) - 4 = omega (arith, ll-head h) in
    rw (e ∙ sym (regroup (36 ∷ hex_byte ll) (hex_bytes p) (hex_word x) (hex_byte y) (CR ∷ [])))
    (join ((36 ∷ hex_byte ll) ++ d) (CR ∷ []) (join (36 ∷ hex_byte ll) d h (subst (λ (n : ℕ). Run is_hex n d) k (link-run p x y b hx hy))) refl)

from-link : (w : List ℕ) → LinkForm w → Linked w
from-link w r = from-limits w r.payload r.crc16 r.crc8 r.limits r.laid

link-form-right : Right LinkForm link_form_len
unfolding link_form_len
link-form-right =
    same-right to-link from-link
    (then-right
    (then-right link-head-right (λ w a. run-right is_hex (ll_of w - 4) (let e = ll-head a in let l = a.low in omega arith)))
    (λ w a. word-right (CR ∷ []) (omega arith)))

-- ---- a press and a tail

record PressForm (w : List ℕ) : Type 0 where
  digits : List ℕ
  limits : Limits (press digits)
  laid : w ≡ bytes_of nikobus (press digits)

abbrev Pressed : List ℕ → Type 0
Pressed = Then (Then (λ u. u ≡ ascii "#N") (λ _. Run is_hex 6)) (λ _ u. u ≡ CR ∷ [])

to-press : (w : List ℕ) → Pressed w → PressForm w
to-press w r =
    let q = r.first in
    record {
      digits = q.back;
      limits = press-limits q.second.size q.second.each;
      laid = glue r.joins (glue q.joins q.first refl) r.second;
    }

from-press : (w : List ℕ) → PressForm w → Pressed w
from-press w r = go r.digits r.limits r.laid
  where
    go : (d : List ℕ) → Limits (press d) → w ≡ bytes_of nikobus (press d) → Pressed w
    go d (press-limits six hex) e = rw e (join (ascii "#N" ++ d) (CR ∷ []) (join (ascii "#N") d refl (record { size = six; each = hex })) refl)

press-right : Right PressForm press_len
unfolding press_len
press-right =
    same-right to-press from-press
    (then-right (then-right (word-right (ascii "#N") (omega arith)) (λ w a. run-right is_hex 6 (omega arith)))
    (λ w a. word-right (CR ∷ []) (omega arith)))

abbrev TailForm : List ℕ → Type 0
TailForm w = w ≡ bytes_of nikobus tail

tail-right : Right TailForm tail_len
unfolding tail_len
tail-right = word-right (bytes_of nikobus tail) (omega arith)

-- ---- one of the three, by the first character

-- no link where another character than `$` stands first, no press and no tail where another than `#` does
no-link : (s : List ℕ) → (get_or s 0 0 ≡ 36 → ⊥) → link_form_len s ≡ 0
unfolding link_form_len link_head_len ll_of starts only_if on
no-link [] h = refl
no-link (x ∷ s) h = simp (ne_eqb x 36 h)

no-press : (s : List ℕ) → (get_or s 0 0 ≡ 35 → ⊥) → press_len s ≡ 0
unfolding press_len word_len starts only_if on
no-press [] h = refl
no-press (x ∷ s) h = simp (ne_eqb x 35 h)

no-tail : (s : List ℕ) → (get_or s 0 0 ≡ 35 → ⊥) → tail_len s ≡ 0
unfolding tail_len word_len starts only_if
no-tail [] h = refl
no-tail (x ∷ s) h = simp (ne_eqb x 35 h)

-- nor where another of its characters stands in its place
no-tail-at : (s : List ℕ) (i : ℕ) → i < 4 → (get_or s i 0 ≡ get_or (bytes_of nikobus tail) i 0 → ⊥) → tail_len s ≡ 0
unfolding tail_len
no-tail-at s i h f = no_word (bytes_of nikobus tail) s i h f

no-press-at : (s : List ℕ) → (get_or s 1 0 ≡ 78 → ⊥) → press_len s ≡ 0
unfolding press_len on
no-press-at s f = let z : word_len (ascii "#N") s ≡ 0 = no_word (ascii "#N") s 1 (omega arith) f in rw z

to-form : (w : List ℕ) → Or LinkForm (Or PressForm TailForm) w → Form nikobus w
to-form w (left a) = record { fields = link a.payload a.crc16 a.crc8; limits = a.limits; laid = a.laid }
to-form w (right (left a)) = record { fields = press a.digits; limits = a.limits; laid = a.laid }
to-form w (right (right e)) = record { fields = tail; limits = tail-limits; laid = e }

from-form : (w : List ℕ) → Form nikobus w → Or LinkForm (Or PressForm TailForm) w
from-form w r = go r.fields r.limits r.laid
  where
    go : (m : Nikobus) → Limits m → w ≡ bytes_of nikobus m → Or LinkForm (Or PressForm TailForm) w
    go (link p x y) l e = left (record { payload = p; crc16 = x; crc8 = y; limits = l; laid = e })
    go (press d) l e = right (left (record { digits = d; limits = l; laid = e }))
    go tail l e = right (right e)

no-link-there : (w t : List ℕ) → Or PressForm TailForm w → link_form_len (w ++ t) ≡ 0
no-link-there w t (left a) = rw a.laid (no-link _ (λ e. omega arith))
no-link-there w t (right e) = rw e (no-link _ (λ k. omega arith))

no-press-there : (w t : List ℕ) → TailForm w → press_len (w ++ t) ≡ 0
unfolding press_len word_len starts only_if on
no-press-there w t e = rw e

-- THE RECOGNISER FINDS WHAT IS LAID OUT SO, AND ONLY THAT
form-right : Right (Form nikobus) nikobus_form_len
unfolding nikobus_form_len
form-right = same-right to-form from-form (or_right link-form-right (or_right press-right tail-right no-press-there) no-link-there)

-- ---- the parts of a link

-- a link is as long as LL says
pub link-size : (p : List ℕ) (x y : ℕ) → length (bytes_of nikobus (link p x y)) ≡ length p * 2 + 10
unfolding hex_byte hex_word
link-size p x y = omega (arith, length-append (hex_bytes p) (hex_word x ++ hex_byte y ++ (CR ∷ [])), length-hex p)

last-two : (a c d e : List ℕ) → a ++ ((c ++ d) ++ e) ≡ (a ++ c) ++ (d ++ e)
last-two a c d e = simp append_assoc

module _ (p : List ℕ) (x y : ℕ) where
  abbrev whole : List ℕ
  whole = bytes_of nikobus (link p x y)

  front : List ℕ
  front = 36 ∷ hex_byte (length p * 2 + 10) ++ hex_bytes p

  length_front : length front ≡ length whole - 7
  unfolding front hex_byte
  length_front = omega (arith, length-hex p, link-size p x y)

  payload-part : part 3 (length whole - 7) whole ≡ hex_bytes p
  payload-part =
      let b : List ℕ = 36 ∷ hex_byte (length p * 2 + 10) in
      let e : List ℕ = hex_word x ++ hex_byte y ++ (CR ∷ []) in
      ap (part 3 (length whole - 7)) (append_assoc b (hex_bytes p) e)
      ∙ part-middle b (hex_bytes p) e 3 (length whole - 7) (omega (arith, length-byte (length p * 2 + 10))) (omega (arith, length-hex p, link-size p x y))

  behind-part : drop (length whole - 7) whole ≡ hex_word x ++ (hex_byte y ++ (CR ∷ []))
  unfolding front
  behind-part =
      drop_at front (hex_word x ++ hex_byte y ++ (CR ∷ [])) (length whole - 7) length_front ∙ append_assoc (hex_word x) (hex_byte y) (CR ∷ [])

  length-checked : length (link_checked p x) ≡ length whole - 3
  unfolding hex_byte hex_word
  length-checked = omega (arith, length-append (hex_bytes p) (hex_word x), length-hex p, link-size p x y)

  checked-part : take (length whole - 3) whole ≡ link_checked p x
  unfolding front
  checked-part =
      ap (take (length whole - 3)) (last-two front (hex_word x) (hex_byte y) (CR ∷ []))
      ∙ take_at (link_checked p x) (hex_byte y ++ (CR ∷ [])) (length whole - 3) length-checked

  last-part : drop (length whole - 3) whole ≡ hex_byte y ++ (CR ∷ [])
  unfolding front
  last-part =
      ap (drop (length whole - 3)) (last-two front (hex_word x) (hex_byte y) (CR ∷ []))
      ∙ drop_at (link_checked p x) (hex_byte y ++ (CR ∷ [])) (length whole - 3) length-checked

  -- ---- its check values

  found16 : x < 65536 → hex_four whole (length whole - 7) ≡ x
  unfolding hex_word hex_byte
  found16 h =
      let k = length whole - 7 in
      let at : (i : ℕ) → get_or whole (k + i) 0 ≡ get_or (hex_word x ++ (hex_byte y ++ (CR ∷ []))) i 0 =
      λ i. sym (get_or-drop k whole i 0) ∙ ap (λ (u : List ℕ). get_or u i 0) behind-part in
      let none : k ≡ k + 0 = omega arith in
      let zeroth : get_or whole k 0 ≡ get_or whole (k + 0) 0 = ap (λ (i : ℕ). get_or whole i 0) none in
      let high : hex_pair (get_or whole k 0) (get_or whole (k + 1) 0) ≡ x / 256 = ap₂ hex_pair (zeroth ∙ at 0) (at 1) ∙ pair-byte (x / 256) (omega arith) in
      let low : hex_pair (get_or whole (k + 2) 0) (get_or whole (k + 3) 0) ≡ x % 256 = ap₂ hex_pair (at 2) (at 3) ∙ pair-byte (x % 256) (omega arith) in
      ap₂ (λ (i j : ℕ). i * 256 + j) high low ∙ omega arith

  found8 : y < 256 → hex_pair (get_or whole (length whole - 3) 0) (get_or whole (length whole - 3 + 1) 0) ≡ y
  unfolding hex_byte
  found8 h =
      let k = length whole - 3 in
      let at : (i : ℕ) → get_or whole (k + i) 0 ≡ get_or (hex_byte y ++ (CR ∷ [])) i 0 =
      λ i. sym (get_or-drop k whole i 0) ∙ ap (λ (u : List ℕ). get_or u i 0) last-part in
      let none : k ≡ k + 0 = omega arith in
      let zeroth : get_or whole k 0 ≡ get_or whole (k + 0) 0 = ap (λ (i : ℕ). get_or whole i 0) none in
      ap₂ hex_pair (zeroth ∙ at 0) (at 1) ∙ pair-byte y h

  link-pairs : Limits (link p x y) → compared (link p x y) ≡ pair16 whole ∷ pair8 whole ∷ []
  unfolding pair16 pair8
  link-pairs (link-limits some short b hx hy) =
      ap₂ (λ (c d : Compared). c ∷ d ∷ [])
      (same-pair (sym (found16 hx)) (ap (check nikobus_crc16) (sym (ap bytes_in payload-part ∙ bytes-hex p b))))
      (same-pair (sym (found8 hy)) (ap (check nikobus_crc8) (sym checked-part)))

-- ---- what the pairs and the places are

compares : (w : List ℕ) (m : Nikobus) → Limits m → w ≡ bytes_of nikobus m → compared m ≡ nikobus_pairs w
unfolding nikobus_pairs starts
compares w (link p x y) l e = rw e (link-pairs p x y l)
compares w (press d) l e = rw e
compares w tail l e = rw e

few : (w : List ℕ) → Few (nikobus_pairs w)
unfolding nikobus_pairs
few w = go (starts (ascii "$") w)
  where
    go : (b : Bool) → Few (cond b (pair16 w ∷ pair8 w ∷ []) [])
    go true = two-pairs (pair16 w) (pair8 w)
    go false = no-pair

begins : (w : List ℕ) (m : Nikobus) → w ≡ bytes_of nikobus m → payload_from nikobus m ≡ nikobus_from w
unfolding nikobus_from starts hex_byte
begins w (link p x y) e = rw e
begins w (press d) e = rw e
begins w tail e = rw e

finishes : (w : List ℕ) (m : Nikobus) → Limits m → w ≡ bytes_of nikobus m → payload_to nikobus m ≡ nikobus_to w
unfolding nikobus_to starts
finishes w (link p x y) l e = rw e (omega (arith, length-byte (length p * 2 + 10), length-hex p, link-size p x y))
finishes w (press d) (press-limits six hex) e = rw e (omega arith)
finishes w tail l e = rw e

-- ---- the start mark and the length

begun? : (s : List ℕ) → Dec (Begun s)
begun? s = go (starts? (ascii "$") s) (starts? (ascii "#N") s) (starts? (ascii "#E1") s)
  where
    go : Dec (StartsWith (ascii "$") s) → Dec (StartsWith (ascii "#N") s) → Dec (StartsWith (ascii "#E1") s) → Dec (Begun s)
    go (yes a) b c = yes (link-begun a)
    go (no f) (yes b) c = yes (press-begun b)
    go (no f) (no g) (yes c) = yes (tail-begun c)
    go (no f) (no g) (no h) = no (λ b. never f g h b)
      where
        never : (StartsWith (ascii "$") s → ⊥) → (StartsWith (ascii "#N") s → ⊥) → (StartsWith (ascii "#E1") s → ⊥) → Begun s → ⊥
        never f g h (link-begun a) = f a
        never f g h (press-begun b) = g b
        never f g h (tail-begun c) = h c

-- no other mark than the three
pub no-mark : (s : List ℕ) → starts (ascii "$") s ≡ false → starts (ascii "#N") s ≡ false → starts (ascii "#E1") s ≡ false → Begun s → ⊥
no-mark s f g h (link-begun a) = not-starts (ascii "$") s f a
no-mark s f g h (press-begun b) = not-starts (ascii "#N") s g b
no-mark s f g h (tail-begun c) = not-starts (ascii "#E1") s h c

-- LL, where it is allowed
module _ (s : List ℕ) where
  ll-starts : (ll : ℕ) → 12 ≤ ll → ll % 2 ≡ 0 → ll < 256 → StartsWith (36 ∷ hex_byte ll) s → ll_of s ≡ ll
  ll-starts ll a b c e = ap ll_of (with-splits (36 ∷ hex_byte ll) s e) ∙ ll-read ll (drop (length (36 ∷ hex_byte ll)) s) a b c

  pub ll-long : 0 < ll_of s → ll_of s ≤ length s → Long s
  ll-long k h =
      let a = ll-sound s 3 refl k in
      let r = a.is in
      let ll = r.ll in
      let low = r.low in
      let even = r.even in
      let byte = r.byte in
      let splits : s ≡ (36 ∷ hex_byte ll) ++ a.rest = a.splits ∙ ap (λ (u : List ℕ). u ++ a.rest) r.layout in
      let st : StartsWith (36 ∷ hex_byte ll) s = ap (take (length (36 ∷ hex_byte ll))) splits ∙ take-append_seam (36 ∷ hex_byte ll) a.rest in
      link-long {LL = ll} even low (omega arith) st (subst (λ (n : ℕ). n ≤ length s) (ll-starts ll low even byte st) h)

  pub long-ll : StartsWith (ascii "$") s → Long s → (0 < ll_of s) × (ll_of s ≤ length s)
  unfolding hex_byte
  long-ll m (link-long {LL = ll} even least most st h) =
      let e : ll_of s ≡ ll = ll-starts ll least even (omega (arith, most)) st in
      (omega (arith, e, least), omega (arith, e, h))
  long-ll m (press-long st h) = absurd (omega (arith, mark-at (ascii "$") s m 0 (omega arith), mark-at (ascii "#N") s st 0 (omega arith)))
  long-ll m (tail-long st h) = absurd (omega (arith, mark-at (ascii "$") s m 0 (omega arith), mark-at (ascii "#E1") s st 0 (omega arith)))

  pub long-press : StartsWith (ascii "#N") s → Long s → 9 ≤ length s
  unfolding hex_byte
  long-press m (link-long {LL = ll} even least most st h) = absurd (omega (arith, mark-at (ascii "#N") s m 0 (omega arith), mark-at (36 ∷ hex_byte ll) s st 0 (omega arith)))
  long-press m (press-long st h) = h
  long-press m (tail-long st h) = absurd (omega (arith, mark-at (ascii "#N") s m 1 (omega arith), mark-at (ascii "#E1") s st 1 (omega arith)))

  pub long-tail : StartsWith (ascii "#E1") s → Long s → 4 ≤ length s
  unfolding hex_byte
  long-tail m (link-long {LL = ll} even least most st h) = absurd (omega (arith, mark-at (ascii "#E1") s m 0 (omega arith), mark-at (36 ∷ hex_byte ll) s st 0 (omega arith)))
  long-tail m (press-long st h) = absurd (omega (arith, mark-at (ascii "#E1") s m 1 (omega arith), mark-at (ascii "#N") s st 1 (omega arith)))
  long-tail m (tail-long st h) = h

  long? : Dec (Long s)
  long? = go (starts? (ascii "$") s) (starts? (ascii "#N") s) (starts? (ascii "#E1") s)
    where
      of-link : StartsWith (ascii "$") s → Dec (0 < ll_of s) → Dec (ll_of s ≤ length s) → Dec (Long s)
      of-link m (yes k) (yes h) = yes (ll-long k h)
      of-link m (no f) h = no (λ l. f (long-ll m l).0)
      of-link m (yes k) (no f) = no (λ l. f (long-ll m l).1)

      of-press : StartsWith (ascii "#N") s → Dec (9 ≤ length s) → Dec (Long s)
      of-press m (yes h) = yes (press-long m h)
      of-press m (no f) = no (λ l. f (long-press m l))

      of-tail : StartsWith (ascii "#E1") s → Dec (4 ≤ length s) → Dec (Long s)
      of-tail m (yes h) = yes (tail-long m h)
      of-tail m (no f) = no (λ l. f (long-tail m l))

      never : (StartsWith (ascii "$") s → ⊥) → (StartsWith (ascii "#N") s → ⊥) → (StartsWith (ascii "#E1") s → ⊥) → Long s → ⊥
      never f g h (link-long {LL = ll} even least most st k) =
          f (ap (take 1) (with-splits (ascii "$" ++ hex_byte ll) s st))
      never f g h (press-long st k) = g st
      never f g h (tail-long st k) = h st

      go : Dec (StartsWith (ascii "$") s) → Dec (StartsWith (ascii "#N") s) → Dec (StartsWith (ascii "#E1") s) → Dec (Long s)
      go (yes m) b c = of-link m (dec_lt 0 (ll_of s)) (dec_le (ll_of s) (length s))
      go (no f) (yes m) c = of-press m (dec_le 9 (length s))
      go (no f) (no g) (yes m) = of-tail m (dec_le 4 (length s))
      go (no f) (no g) (no h) = no (never f g h)

-- what is laid out so has both, whatever follows
laid-begun : (m : Nikobus) (t : List ℕ) → Begun (bytes_of nikobus m ++ t)
laid-begun (link p x y) t = link-begun refl
laid-begun (press d) t = press-begun refl
laid-begun tail t = tail-begun refl

laid-long : (m : Nikobus) → Limits m → (t : List ℕ) → Long (bytes_of nikobus m ++ t)
unfolding hex_byte
laid-long (link p x y) (link-limits some short b hx hy) t =
    link-long {LL = length p * 2 + 10} (omega arith) (omega arith) (omega arith) refl
    (omega (arith, length-append (bytes_of nikobus (link p x y)) t, link-size p x y))
laid-long (press d) (press-limits six hex) t =
    press-long refl (omega (arith, length-append (bytes_of nikobus (press d)) t, length-append d (CR ∷ []), six))
laid-long tail l t = tail-long refl (omega arith)

-- THE BUS: all that its frames have in common with those of the others
pub nikobus-bus : Bus nikobus nikobus_recogniser
nikobus-bus =
    record {
      forms = form-right;
      compares = λ w r. compares w r.fields r.limits r.laid;
      few = few;
      begins = λ w r. begins w r.fields r.laid;
      ends = λ w r. finishes w r.fields r.limits r.laid;
      begun? = begun?;
      long? = long?;
      laid-begun = λ m l t. laid-begun m t;
      laid-long = laid-long;
    }

-- ---- no two fields have the same bytes

-- lists that differ at a place
different : (i : ℕ) {u v : List ℕ} → (get_or u i 0 ≡ get_or v i 0 → ⊥) → u ≡ v → ⊥
different i f e = f (ap (λ (l : List ℕ). get_or l i 0) e)

link-one : (p q : List ℕ) (x y u v : ℕ) → Limits (link p x y) → Limits (link q u v)
    → bytes_of nikobus (link p x y) ≡ bytes_of nikobus (link q u v) → link p x y ≡ link q u v
link-one p q x y u v (link-limits _ _ bp hx hy) (link-limits _ _ bq hu hv) e =
    let a : hex_bytes p ≡ hex_bytes q = sym (payload-part p x y) ∙ ap (λ (w : List ℕ). part 3 (length w - 7) w) e ∙ payload-part q u v in
    let b : hex_word x ++ (hex_byte y ++ (CR ∷ [])) ≡ hex_word u ++ (hex_byte v ++ (CR ∷ [])) =
    sym (behind-part p x y) ∙ ap (λ (w : List ℕ). drop (length w - 7) w) e ∙ behind-part q u v
    in
    let c : hex_byte y ++ (CR ∷ []) ≡ hex_byte v ++ (CR ∷ []) =
    sym (last-part p x y) ∙ ap (λ (w : List ℕ). drop (length w - 3) w) e ∙ last-part q u v
    in
    let ep = hex-inj p q bp bq a in
    let ex = word-inj x u hx hu (sym (take_at (hex_word x) _ 4 (length-word x)) ∙ ap (take 4) b ∙ take_at (hex_word u) _ 4 (length-word u)) in
    let ey = byte-inj y v hy hv (sym (take_at (hex_byte y) _ 2 (length-byte y)) ∙ ap (take 2) c ∙ take_at (hex_byte v) _ 2 (length-byte v)) in
    rw (ep, ex, ey)

press-one : (c d : List ℕ) → Limits (press c) → Limits (press d) → bytes_of nikobus (press c) ≡ bytes_of nikobus (press d) → press c ≡ press d
press-one c d (press-limits k _) (press-limits l _) e =
    ap press (sym (take_at c (CR ∷ []) 6 k) ∙ ap (λ (w : List ℕ). take 6 (drop 2 w)) e ∙ take_at d (CR ∷ []) 6 l)

-- NO TWO FIELDS WITHIN THE LIMITS HAVE THE SAME BYTES
pub nikobus-one : (m n : Nikobus) → Limits m → Limits n → bytes_of nikobus m ≡ bytes_of nikobus n → m ≡ n
nikobus-one (link p x y) (link q u v) k l e = link-one p q x y u v k l e
nikobus-one (link p x y) (press d) k l e = absurd (different 0 (λ q. omega arith) e)
nikobus-one (link p x y) tail k l e = absurd (different 0 (λ q. omega arith) e)
nikobus-one (press d) (link p x y) k l e = absurd (different 0 (λ q. omega arith) e)
nikobus-one (press c) (press d) k l e = press-one c d k l e
nikobus-one (press d) tail k l e = absurd (different 1 (λ q. omega arith) e)
nikobus-one tail (link p x y) k l e = absurd (different 0 (λ q. omega arith) e)
nikobus-one tail (press d) k l e = absurd (different 1 (λ q. omega arith) e)
nikobus-one tail tail k l e = refl

-- ---- what the code finds: LL

pub ll-whole : (s : List ℕ) (n : ℕ) → 3 ≤ length s → get_or s 0 0 ≡ 36 → T (is_hex (get_or s 1 0)) → T (is_hex (get_or s 2 0))
    → n ≡ hex_pair (get_or s 1 0) (get_or s 2 0) → 12 ≤ n → n % 2 ≡ 0 → n ≡ ll_of s
ll-whole s n z m h l e a b =
    e ∙ sym (ll-is s (record { size = z; mark = m; high = h; low = l; least = rw e at a; even = rw e at b }))

ll-there : (s : List ℕ) → 0 < ll_of s → LlThere s
ll-there s k =
    let h = ll-sound s 3 refl k in
    let r = h.is in
    subst LlThere (sym (h.splits ∙ ap (λ (w : List ℕ). w ++ h.rest) r.layout)) (ll-made r.ll h.rest r.low r.even r.byte)

-- where one of these fails there is no LL
pub no-ll : (s : List ℕ) → (LlThere s → ⊥) → ll_of s ≡ 0
no-ll s f = go (ll_of s) refl
  where
    go : (n : ℕ) → ll_of s ≡ n → n ≡ 0
    go zero e = refl
    go (suc n) e = absurd (f (ll-there s (omega (arith, e))))

ll-least : (s : List ℕ) → 0 < ll_of s → 12 ≤ ll_of s
ll-least s k = let r = ll-there s k in omega (arith, r.least, ll-is s r)

-- ---- .. a link's form

ll-take : (s : List ℕ) → ll_of (take 3 s) ≡ ll_of s
unfolding ll_of starts hex_byte
ll-take [] = refl
ll-take (x ∷ []) = refl
ll-take (x ∷ y ∷ []) = refl
ll-take (x ∷ y ∷ z ∷ s) = refl

-- k digits at a place, and CR behind them
pub digits-cr : (s : List ℕ) (at k : ℕ) (r : Bool) → 0 < at → 0 < k → at + k < length s
    → r ≡ (all is_hex (part at (at + k) s) && eqb (get_or s (at + k) 0) CR) → onward (word_len (CR ∷ [])) s (onward (digits_len k) s at) ≡ only_if r (at + k + 1)
unfolding run_len word_len starts only_if on
digits-cr s at k r some more h e =
    let d : digits_len k (drop at s) ≡ only_if (all is_hex (take k (drop at s))) k =
    only_yes _ _ (le-leb k (length (drop at s)) (omega (arith, h, length-drop at s)))
    in
    rw d (go (all is_hex (take k (drop at s))) (e ∙ ap (λ (i : ℕ). all is_hex (take i (drop at s)) && eqb (get_or s (at + k) 0) CR) (add-sub_cancel_left at k)))
  where
    cr : word_len (CR ∷ []) (drop (at + k) s) ≡ only_if (eqb (get_or s (at + k) 0) CR) 1
    cr = rw (next s (at + k) h) (ap (λ (b : Bool). only_if b 1) (and-true _))

    end : (b : Bool) → on (at + k) (only_if b 1) ≡ only_if b (at + k + 1)
    end true = on_both (at + k) 1 (omega arith) (omega arith)
    end false = on_none (at + k)

    go : (b : Bool) → r ≡ (b && eqb (get_or s (at + k) 0) CR) → onward (word_len (CR ∷ [])) s (on at (only_if b k)) ≡ only_if r (at + k + 1)
    go true f = rw (on_both at k some more) (ap (on (at + k)) cr ∙ end _ ∙ ap (λ (b : Bool). only_if b (at + k + 1)) (sym f))
    go false f = rw (on_none at) (ap (λ (b : Bool). only_if b (at + k + 1)) (sym f))

module _ (s : List ℕ) (n : ℕ) (is : (n ≡ ll_of s) × (0 < n)) where
  pub ll-twelve : 12 ≤ n
  ll-twelve = omega (arith, is, ll-least s (omega (arith, is)))

  pub ll-three : 3 ≤ length s
  ll-three = (ll-there s (omega (arith, is))).size

  form-whole : (end r : ℕ) → end ≡ onward (digits_len (n - 4)) s 3 → r ≡ onward (word_len (CR ∷ [])) s end → r ≡ link_form_len s
  unfolding link_form_len link_head_len
  form-whole end r ee er =
      let h : only_if (ltb 0 (ll_of s)) 3 ≡ 3 = only_yes _ _ (lt-ltb 0 (ll_of s) (omega (arith, is))) in
      er ∙ rw (ee, is.0, h, ll-take s)

  -- the digits of a link of n bytes, and CR
  pub form-digits : (r : Bool) → n ≤ length s → r ≡ (all is_hex (part 3 (n - 1) s) && eqb (get_or s (n - 1) 0) CR) → link_form_len s ≡ only_if r n
  form-digits r h e =
      let l = ll-twelve in
      let p : 3 + (n - 4) ≡ n - 1 = omega arith in
      let q : 3 + (n - 4) + 1 ≡ n = omega arith in
      sym (form-whole _ _ refl refl) ∙ digits-cr s 3 (n - 4) r (omega arith) (omega arith) (omega arith) (rw p e) ∙ ap (only_if r) q

-- ---- .. a link

link-long-bytes : (w : List ℕ) → LinkForm w → 10 ≤ length w
link-long-bytes w r = rw r.laid (omega (arith, link-size r.payload r.crc16 r.crc8))

-- all its characters between LL and CR are digits
link-hex : (w : List ℕ) → LinkForm w → T (all is_hex (part 3 (length w - 1) w))
link-hex w r = go r.payload r.crc16 r.crc8 r.limits r.laid
  where
    go : (p : List ℕ) (x y : ℕ) → Limits (link p x y) → w ≡ bytes_of nikobus (link p x y) → T (all is_hex (part 3 (length w - 1) w))
    go p x y (link-limits _ _ b hx hy) e =
        let head : List ℕ = 36 ∷ hex_byte (length p * 2 + 10) in
        let digits : List ℕ = hex_bytes p ++ (hex_word x ++ hex_byte y) in
        let run = link-run p x y b hx hy in
        let m : part 3 (length w - 1) w ≡ digits =
        ap (λ (u : List ℕ). part 3 (length u - 1) u) (e ∙ sym (regroup head (hex_bytes p) (hex_word x) (hex_byte y) (CR ∷ [])) ∙ append_assoc head digits (CR ∷ []))
        ∙ part-middle head digits (CR ∷ []) 3 (length (head ++ (digits ++ (CR ∷ []))) - 1) (omega (arith, length-byte (length p * 2 + 10)))
        (omega (arith, length-append head (digits ++ (CR ∷ [])), length-append digits (CR ∷ []), length-byte (length p * 2 + 10)))
        in
        subst (λ (l : List ℕ). T (all is_hex l)) (sym m) run.each

module _ (s : List ℕ) (n : ℕ) (is : n ≡ link_form_len s) where
  pub form-inside : n ≤ length s
  form-inside = rw is (inside link-form-right s)

  module _ (some : 0 < n) where
    form-there : LinkForm (take n s)
    form-there = subst (λ (k : ℕ). LinkForm (take k s)) (sym is) (taken link-form-right s (omega (arith, is)))

    part-there : LinkForm (part 0 n s)
    part-there = subst LinkForm (sym (part-front n s)) form-there

    pub form-long : 10 ≤ length (part 0 n s)
    form-long = link-long-bytes (part 0 n s) part-there

    pub form-ten : 10 ≤ n
    form-ten = omega (arith, form-long, ap length (part-front n s), length-take-le n s form-inside)

    pub form-hex : T (all is_hex (part 3 (length (part 0 n s) - 1) (part 0 n s)))
    form-hex = link-hex (part 0 n s) part-there

    pub link-found : n ≡ nikobus_form_len s
    unfolding nikobus_form_len
    link-found = is ∙ sym (or-first _ _ (omega (arith, is)))

    -- the values that the code compares, and the payload's places
    pub pairs-there : {c d : Compared} → c ≡ pair16 (part 0 n s) → d ≡ pair8 (part 0 n s) → nikobus_pairs (take n s) ≡ c ∷ d ∷ []
    unfolding nikobus_pairs starts
    pairs-there {c} {d} e f =
        let two : List Compared = pair16 (take n s) ∷ pair8 (take n s) ∷ [] in
        ap (λ (u : List ℕ). cond (starts (ascii "$") u) two []) form-there.laid
        ∙ ap₂ (λ (a b : Compared). a ∷ b ∷ []) (sym (e ∙ ap pair16 (part-front n s))) (sym (f ∙ ap pair8 (part-front n s)))

    pub link-from : 3 ≡ nikobus_from (take n s)
    unfolding nikobus_from starts
    link-from = rw form-there.laid

    pub link-to : n - 7 ≡ nikobus_to (take n s)
    unfolding nikobus_to starts
    link-to = ap (λ (k : ℕ). k - 7) (sym (length-take-le n s form-inside)) ∙ rw form-there.laid

-- ---- .. a press

press-whole : (s : List ℕ) (a b r : ℕ) → a ≡ word_len (ascii "#N") s → b ≡ onward (digits_len 6) s a → r ≡ onward (word_len (CR ∷ [])) s b → r ≡ press_len s
unfolding press_len
press-whole s a b r ea eb er = rw (er, eb, ea)

-- ---- .. and which of the three, by the start mark

module _ (s : List ℕ) (mark : starts (ascii "$") s ≡ true) where
  dollar : StartsWith (ascii "$") s
  dollar = starts_with (ascii "$") s mark

  pub dollar-begun : Begun s
  dollar-begun = link-begun dollar

  pub no-ll-short : ll_of s ≡ 0 → Long s → ⊥
  no-ll-short z l = omega (arith, z, (long-ll s dollar l).0)

  module _ (n : ℕ) (is : (n ≡ ll_of s) × (0 < n)) where
    pub ll-short : length s < n → Long s → ⊥
    ll-short h l = omega (arith, h, is, (long-ll s dollar l).1)

    pub ll-enough : n ≤ length s → Long s
    ll-enough h = ll-long s (omega (arith, is)) (omega (arith, h, is))

  pub no-link-found : link_form_len s ≡ 0 → nikobus_form_len s ≡ 0
  unfolding nikobus_form_len
  no-link-found z =
      let first = mark-at (ascii "$") s dollar 0 (omega arith) in
      rw (z, no-press s (λ x. omega (arith, x, first)), no-tail s (λ x. omega (arith, x, first)))

module _ (s : List ℕ) (mark : starts (ascii "#N") s ≡ true) where
  hash : StartsWith (ascii "#N") s
  hash = starts_with (ascii "#N") s mark

  pub hash-begun : Begun s
  hash-begun = press-begun hash

  pub hash-short : length s < 9 → Long s → ⊥
  hash-short h l = omega (arith, h, long-press s hash l)

  pub hash-long : 9 ≤ length s → Long s
  hash-long h = press-long hash h

  not-link : link_form_len s ≡ 0
  not-link = no-link s (λ x. omega (arith, x, mark-at (ascii "#N") s hash 0 (omega arith)))

  module _ (h : 9 ≤ length s) (r : Bool) (e : r ≡ (all is_hex (part 2 8 s) && eqb (get_or s 8 0) CR)) where
    press-is : only_if r 9 ≡ press_len s
    press-is = sym (digits-cr s 2 6 r (omega arith) (omega arith) (omega arith) e) ∙ press-whole s 2 _ _ (sym (word-there (ascii "#N") s mark)) refl refl

    pub no-press-found : r ≡ false → nikobus_form_len s ≡ 0
    unfolding nikobus_form_len only_if
    no-press-found f =
        let second = mark-at (ascii "#N") s hash 1 (omega arith) in
        rw (not-link, sym press-is ∙ ap (λ (b : Bool). only_if b 9) f, no-tail-at s 1 (omega arith) (λ x. omega (arith, x, second)))

    module _ (t : r ≡ true) where
      press-nine : 9 ≡ press_len s
      unfolding only_if
      press-nine = ap (λ (b : Bool). only_if b 9) (sym t) ∙ press-is

      pub press-found : 9 ≡ nikobus_form_len s
      unfolding nikobus_form_len
      press-found = press-nine ∙ rw not-link (sym (or-first _ _ (omega (arith, press-nine))))

      press-laid : (d : List ℕ) × (take 9 s ≡ bytes_of nikobus (press d))
      press-laid =
          let f = taken press-right s (omega (arith, press-nine)) in
          (f.digits, ap (λ (i : ℕ). take i s) press-nine ∙ f.laid)

      pub press-pairs : nikobus_pairs (take 9 s) ≡ []
      unfolding nikobus_pairs starts
      press-pairs = rw press-laid.1

      pub press-from : 2 ≡ nikobus_from (take 9 s)
      unfolding nikobus_from starts
      press-from = rw press-laid.1

      pub press-to : 8 ≡ nikobus_to (take 9 s)
      unfolding nikobus_to starts
      press-to = rw press-laid.1

module _ (s : List ℕ) (mark : starts (ascii "#E1") s ≡ true) where
  ended : StartsWith (ascii "#E1") s
  ended = starts_with (ascii "#E1") s mark

  pub ended-begun : Begun s
  ended-begun = tail-begun ended

  pub ended-short : length s < 4 → Long s → ⊥
  ended-short h l = omega (arith, h, long-tail s ended l)

  pub ended-long : 4 ≤ length s → Long s
  ended-long h = tail-long ended h

  only-tail : nikobus_form_len s ≡ tail_len s
  unfolding nikobus_form_len
  only-tail =
      let first = mark-at (ascii "#E1") s ended 0 (omega arith) in
      let second = mark-at (ascii "#E1") s ended 1 (omega arith) in
      rw (no-link s (λ x. omega (arith, x, first)), no-press-at s (λ x. omega (arith, x, second)))

  pub no-tail-found : (get_or s 3 0 ≡ CR → ⊥) → nikobus_form_len s ≡ 0
  no-tail-found f = only-tail ∙ no-tail-at s 3 (omega arith) f

  module _ (h : 4 ≤ length s) (e : get_or s 3 0 ≡ CR) where
    tail-laid : take 4 s ≡ bytes_of nikobus tail
    tail-laid =
        take-ats s 4 0 h
        ∙ rw (mark-at (ascii "#E1") s ended 0 (omega arith), mark-at (ascii "#E1") s ended 1 (omega arith), mark-at (ascii "#E1") s ended 2 (omega arith), e)

    pub tail-found : 4 ≡ nikobus_form_len s
    unfolding tail_len
    tail-found = sym (only-tail ∙ word-there (bytes_of nikobus tail) s (with-starts (bytes_of nikobus tail) s tail-laid))

    pub tail-pairs : nikobus_pairs (take 4 s) ≡ []
    unfolding nikobus_pairs starts
    tail-pairs = rw tail-laid

    pub tail_from : 4 ≡ nikobus_from (take 4 s)
    unfolding nikobus_from starts
    tail_from = rw tail-laid

    pub tail-to : 4 ≡ nikobus_to (take 4 s)
    unfolding nikobus_to starts
    tail-to = rw tail-laid

-- ---- what the code compares

pub compared-sixteen : (w : List ℕ) (x y : ℕ) → x ≡ hex_four w (length w - 7) → y ≡ check nikobus_crc16 (bytes_in (part 3 (length w - 7) w))
    → ◌≡◌ {A = Compared} (record { found = x; expected = y }) (pair16 w)
unfolding pair16
compared-sixteen w x y e f = same-pair e f

pub compared-eight : (w : List ℕ) (x y : ℕ) → x ≡ hex_pair (get_or w (length w - 3) 0) (get_or w (length w - 3 + 1) 0)
    → y ≡ check nikobus_crc8 (part 0 (length w - 3) w) → ◌≡◌ {A = Compared} (record { found = x; expected = y }) (pair8 w)
unfolding pair8
compared-eight w x y e f = same-pair e (f ∙ ap (check nikobus_crc8) (part-front (length w - 3) w))

-- the characters before the last are digits
pub hex-there : (w : List ℕ) (i : ℕ) → T (all is_hex (part 3 (length w - 1) w)) → 3 ≤ i → i < length w - 1 → T (is_hex (get_or w i 0))
hex-there w i h low high =
    let n : 3 + (i - 3) ≡ i = omega arith in
    let few : i - 3 < (length w - 1) - 3 = omega arith in
    subst (λ (c : ℕ). T (is_hex c)) (part_at 3 (length w - 1) w (i - 3) few ∙ ap (λ (j : ℕ). get_or w j 0) n)
    (hex-at (part 3 (length w - 1) w) (i - 3) (omega (arith, length_part 3 (length w - 1) w (omega arith) (omega arith))) h)

pub hex-front : (w : List ℕ) → 10 ≤ length w → T (all is_hex (part 3 (length w - 1) w)) → T (all is_hex (part 3 (length w - 7) w))
hex-front w l h =
    subst (λ (u : List ℕ). T (all is_hex u)) (take-take ((length w - 7) - 3) ((length w - 1) - 3) (drop 3 w) (omega arith))
    (all_take is_hex ((length w - 7) - 3) (part 3 (length w - 1) w) h)
