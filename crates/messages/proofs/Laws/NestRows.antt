-- The rows of kinds 2 and 3: what is found for a content has that content; each message is found for its own, or one above it is; and
-- its content makes a frame.
-- Assumes nothing.
use mathlib.Core.Bool.{true}
use mathlib.Core.List.{List, [], ◌++◌, append-nil}
use mathlib.Core.Logic.{inl, inr}
use mathlib.Core.Path.{◌≡◌, refl, sym, ap, ap₂, ◌∙◌, subst}
use Prim.Native.Nat.{ℕ, suc, ◌-◌, ◌≤◌, ◌<◌}
use native.Mathlib.Omega.{arith}
use lib.Dec.{T, ltb, lit<}
use lib.IntN.{ℤ, negsuc}
use lib.ListN.{length, length-append}
use borrow.Author.Tests.{eqb-true, leb-true, ltb-true, ltb-false, lt-ltb, le-ltb, le-leb}
use Rattle.digits.proofs.Laws.Bytes.{bytes-nil, bytes-cons, bytes-append}
use Rattle.digits.proofs.Laws.LowFirst.{length-low, bytes_low}
use Rattle.digits.specs.Paper.Ascii.{ascii}
use Rattle.digits.specs.Paper.Bytes.{Bytes, part}
use Rattle.digits.specs.Paper.LowFirst.{two, low_byte_first}
use Rattle.layouts.proofs.Laws.ByteRuns.{one-of-bytes}
use Rattle.layouts.proofs.Laws.Heads.{starts-same}
use Rattle.layouts.proofs.Laws.Made.{nest-fit}
use Rattle.layouts.specs.Paper.Chars.{all, one_of}
use Rattle.layouts.specs.Paper.Made.{nest_of}
use Rattle.layouts.specs.Paper.Nest as nests
use Rattle.layouts.specs.Work.Heads.{starts, is_byte}
use Rattle.numbers.proofs.Laws.Values.{In, lower, upper, size, held_in, in_held, twos-lt}
use Rattle.numbers.specs.Paper.ByteValues.{twos, value_bytes}
use Rattle.messages.specs.Paper.Content.{Content}
use Rattle.messages.specs.Paper.Content as content
use Rattle.messages.specs.Work.Content.{Fit}
use Rattle.messages.specs.Paper.Message.{command, climate, state, break, end, text, response}
use Rattle.messages.specs.Paper.Table.{content_of, BytesBetween, text_ids, Limits, u16_at}
use Rattle.messages.specs.Work.Look.{of_twos, signed_at, is_climate, is_state, is_break, is_end, look_response, look}
use Rattle.messages.proofs.Laws.Choices.{by-test, both_true, by_length}
use Rattle.messages.proofs.Laws.Rows.{ReadsTo, Found}
use Rattle.messages.proofs.Laws.Words.{word_lt, word_bytes, word_at}

-- ---- two's complement

-- each number of 16 bits stands for one that two bytes hold
pub of-twos : (n : ℕ) → n < 65536 → In 2 true (of_twos n) × (twos 2 (of_twos n) ≡ n)
of-twos n h =
    by-test (λ z. In 2 true z × (twos 2 z ≡ n)) (ltb n 32768)
    (λ e. let k = ltb-true n 32768 e in (lower {n = n} (omega arith), refl))
    (λ e. let k = ltb-false n 32768 e in (upper {n = 65535 - n} (omega arith), omega arith))

pub twos_back : {z : ℤ} → In 2 true z → of_twos (twos 2 z) ≡ z
twos_back (lower {n} h) = simp (lt-ltb n 32768 (omega arith))
twos_back (upper {n} h) =
    let e : 65535 - (65536 - suc n) ≡ n = omega arith in
    simp (le-ltb (65536 - suc n) 32768 (omega arith)) (ap negsuc e)

-- ---- what is found has the content

-- a list that starts with a word of its own length is that word
pub is_word : (w s : List ℕ) → length s ≡ length w → starts w s ≡ true → w ≡ s
is_word w s l e =
    starts-same w s [] (sym l) (subst (λ (t : List ℕ). T (starts w t)) (sym (append-nil s)) (subst T (sym e) tt))

-- a response whose message has this id and payload
abbrev answered : ℕ → List ℕ → Content
answered i p = content.response i p

module _ (i : ℕ) (p : List ℕ) (b : BytesBetween 0 1024 p) where
  climate-row : is_climate i p ≡ true → ReadsTo (answered i p) (climate (signed_at 0 p) (u16_at 2 p))
  unfolding content_of is_climate
  climate-row t =
      let q = both_true _ _ t in
      let l = eqb-true (length p) 4 q.1 in
      let w = of-twos (u16_at 0 p) (word_lt 0 p b.bytes) in
      let all : part 0 2 p ++ part 2 4 p ≡ p = by_length 4 (λ p. part 0 2 p ++ part 2 4 p ≡ p) (λ t. refl) p l in
      record {
        same =
            ap₂ answered (sym (eqb-true i 0x0002 q.0))
            (ap₂ (λ (s t : List ℕ). s ++ t) (ap (low_byte_first 2) w.1 ∙ word_bytes 0 p b.bytes (omega arith)) (word_bytes 2 p b.bytes (omega arith)) ∙ all);
        limits = (in_held (size two) w.0, word_lt 2 p b.bytes);
      }

  state-row : is_state i p ≡ true → ReadsTo (answered i p) (state p)
  unfolding content_of is_state
  state-row t =
      let q = both_true _ _ t in
      record {
        same = ap (λ (k : ℕ). answered k p) (sym (eqb-true i 0x000B q.0));
        limits = record { enough = leb-true 16 (length p) q.1; short = b.short; bytes = b.bytes };
      }

  break-row : is_break i p ≡ true → ReadsTo (answered i p) break
  unfolding content_of is_break
  break-row t =
      let q = both_true _ _ t in
      let r = both_true _ _ q.1 in
      record { same = ap₂ answered (sym (eqb-true i 0x0001 q.0)) (is_word (ascii "BRK") p (eqb-true (length p) 3 r.0) r.1); limits = tt }

  end_row : is_end i p ≡ true → ReadsTo (answered i p) end
  unfolding content_of is_end
  end_row t =
      let q = both_true _ _ t in
      record { same = ap₂ answered (sym (eqb-true i 0x002F q.0)) (by_length 0 (λ s. [] ≡ s) (λ t. refl) p (eqb-true (length p) 0 q.1)); limits = tt }

  nest-reads : i < 65536 → ReadsTo (answered i p) (look_response i p)
  unfolding look_response content_of
  nest-reads h =
      by-test (ReadsTo (answered i p)) (is_climate i p) climate-row
      (λ _. by-test (ReadsTo (answered i p)) (is_state i p) state-row
      (λ _. by-test (ReadsTo (answered i p)) (is_break i p) break-row
      (λ _. by-test (ReadsTo (answered i p)) (is_end i p) end_row
      (λ _. by-test (ReadsTo (answered i p)) (one_of text_ids i) (λ e. record { same = refl; limits = (rw e tt, b) })
      (λ _. record { same = refl; limits = (h, b) })))))

-- a payload within the layout's limits
sized : (i : ℕ) (p : List ℕ) → nests.Limits (nest_of i p) → BytesBetween 0 1024 p
sized i p l = record { enough = omega arith; short = l.short; bytes = l.bytes }

pub response-reads : (i : ℕ) (p : List ℕ) → nests.Limits (nest_of i p) → ReadsTo (answered i p) (look_response i p)
response-reads i p l = nest-reads i p (sized i p l) l.id

pub command-reads : (i : ℕ) (p : List ℕ) → nests.Limits (nest_of i p) → ReadsTo (content.command i p) (command i p)
unfolding content_of
command-reads i p l = record { same = refl; limits = (l.id, sized i p l) }

-- ---- found again

pub climate-found : (t : ℤ) (h : ℕ) → Limits (climate t h) → look (content_of (climate t h)) ≡ climate t h
unfolding look content_of look_response low_byte_first is_climate
climate-found t h l =
    let i = held_in (size two) true t l.0 in
    ap₂ climate (ap of_twos (word_at [] (low_byte_first 2 h) (twos 2 t) (twos-lt (size two) i)) ∙ twos_back i) (word_at (value_bytes 2 t) [] h l.1)

pub state-found : (p : List ℕ) → Limits (state p) → look (content_of (state p)) ≡ state p
unfolding look content_of look_response is_climate is_state
state-found p l = simp (le-leb 16 (length p) l.enough)

pub break-found : look (content_of break) ≡ break
unfolding look content_of look_response is_climate is_state is_break starts
break-found = refl

pub end-found : look (content_of end) ≡ end
unfolding look content_of look_response is_climate is_state is_break is_end
end-found = refl

pub text-found : (i : ℕ) (p : List ℕ) → Limits (text i p) → Found (text i p) (look (content_of (text i p)))
unfolding look content_of look_response
text-found i p l =
    by-test (Found (text i p)) (is_climate i p) (λ _. inr (lit< tt))
    (λ _. by-test (Found (text i p)) (is_state i p) (λ _. inr (lit< tt))
    (λ _. by-test (Found (text i p)) (is_break i p) (λ _. inr (lit< tt))
    (λ _. by-test (Found (text i p)) (is_end i p) (λ _. inr (lit< tt))
    (λ _. by-test (Found (text i p)) (one_of text_ids i) (λ _. inl refl)
    (λ e. absurd (rw e at l.0))))))

pub response-found : (i : ℕ) (p : List ℕ) → Limits (response i p) → Found (response i p) (look (content_of (response i p)))
unfolding look content_of look_response
response-found i p l =
    by-test (Found (response i p)) (is_climate i p) (λ _. inr (lit< tt))
    (λ _. by-test (Found (response i p)) (is_state i p) (λ _. inr (lit< tt))
    (λ _. by-test (Found (response i p)) (is_break i p) (λ _. inr (lit< tt))
    (λ _. by-test (Found (response i p)) (is_end i p) (λ _. inr (lit< tt))
    (λ _. by-test (Found (response i p)) (one_of text_ids i) (λ _. inr (lit< tt))
    (λ _. inl refl)))))

-- ---- a frame

answer-passing : (i : ℕ) (p : List ℕ) → i < 65536 → length p ≤ 1024 → Bytes p → Fit (answered i p)
answer-passing i p h short bytes = nest-fit i p h short bytes

pub command-fit : (i : ℕ) (p : List ℕ) → Limits (command i p) → Fit (content_of (command i p))
unfolding content_of
command-fit i p l = nest-fit i p l.0 l.1.short l.1.bytes

pub climate-fit : (t : ℤ) (h : ℕ) → Limits (climate t h) → Fit (content_of (climate t h))
unfolding content_of
climate-fit t h l =
    let n : length (value_bytes 2 t ++ low_byte_first 2 h) ≡ 4 = simp (length-append, length-low) in
    answer-passing 0x0002 _ (lit< tt) (omega arith) (bytes-append (value_bytes 2 t) (low_byte_first 2 h) (bytes_low 2 (twos 2 t)) (bytes_low 2 h))

pub state-fit : (p : List ℕ) → Limits (state p) → Fit (content_of (state p))
unfolding content_of
state-fit p l = answer-passing 0x000B p (lit< tt) l.short l.bytes

pub break-fit : Fit (content_of break)
unfolding content_of
break-fit = answer-passing 0x0001 (ascii "BRK") (lit< tt) (omega arith) (bytes-cons (lit< tt) (bytes-cons (lit< tt) (bytes-cons (lit< tt) bytes-nil)))

pub end-fit : Fit (content_of end)
unfolding content_of
end-fit = answer-passing 0x002F [] (lit< tt) (omega arith) bytes-nil

pub text-fit : (i : ℕ) (p : List ℕ) → Limits (text i p) → Fit (content_of (text i p))
unfolding content_of all is_byte
text-fit i p l = let k : i < 256 = one-of-bytes text_ids i tt l.0 in answer-passing i p (omega arith) l.1.short l.1.bytes

pub response-fit : (i : ℕ) (p : List ℕ) → Limits (response i p) → Fit (content_of (response i p))
unfolding content_of
response-fit i p l = answer-passing i p l.0 l.1.short l.1.bytes
