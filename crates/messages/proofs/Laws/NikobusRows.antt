-- The rows of kind 1: what is found for a content has that content; each message is found for its own, or one above it is; and its
-- content makes a frame.
-- Assumes nothing.
use mathlib.Core.Bool.{Bool, true, false, cond, ◌||◌}
use mathlib.Core.List.{List, [], ◌∷◌, ◌++◌}
use mathlib.Core.Logic.{inl, inr, ⊎_elim}
use mathlib.Core.Path.{◌≡◌, refl, sym, ap, ap₂, ◌∙◌}
use Prim.Native.Nat.{ℕ, ◌≤◌, ◌<◌}
use native.Mathlib.Omega.{arith}
use lib.Dec.{eqb, lit<}
use lib.ListN.{length, get_or, length-append}
use borrow.Author.Tests.{eqb-true}
use Rattle.digits.proofs.Laws.Bytes.{bytes-nil, bytes-cons, bytes-append, bytes-part}
use Rattle.digits.proofs.Laws.LowFirst.{length-low, bytes_low}
use Rattle.digits.proofs.Laws.Parts.{length_part, ats}
use Rattle.digits.specs.Paper.Bytes.{Bytes, part}
use Rattle.digits.specs.Paper.LowFirst.{low_byte_first}
use Rattle.layouts.proofs.Laws.Made.{link-fit}
use Rattle.layouts.specs.Paper.Nikobus.{link-limits, press-limits, tail-limits}
use Rattle.messages.specs.Paper.Content.{Content}
use Rattle.messages.specs.Paper.Content as content
use Rattle.messages.specs.Work.Content.{Fit}
use Rattle.messages.specs.Paper.Message.{read, set, answer, press, tail, link}
use Rattle.messages.specs.Paper.Table.{code_of, content_of, Group, SixBytes, BytesBetween, Limits, u16_at}
use Rattle.messages.specs.Work.Look.{is_read, is_set, group_of, look_link, look}
use Rattle.messages.proofs.Laws.Choices.{by-test, both_true, by_length}
use Rattle.messages.proofs.Laws.Rows.{ReadsTo, Found}
use Rattle.messages.proofs.Laws.Words.{word_lt, word_bytes, word_at}

-- ---- what is found has the content

-- two codes for the groups
codes : (x a b : ℕ) → (eqb x a || eqb x b) ≡ true → code_of a b (group_of a x) ≡ x
codes x a b t = go (eqb x a) refl t
  where
    go : (u : Bool) → eqb x a ≡ u → (u || eqb x b) ≡ true → code_of a b (cond u 1 2) ≡ x
    go true e t = sym (eqb-true x a e)
    go false e t = sym (eqb-true x b t)

group : (t : Bool) → Group (cond t 1 2)
group true = inl refl
group false = inr refl

-- a link whose message has this payload
abbrev linked : List ℕ → Content
linked p = content.link p

module _ (p : List ℕ) (b : Bytes p) where
  six-part : 9 ≤ length p → SixBytes (part 3 9 p)
  six-part h = record { six = length_part 3 9 p (omega arith) h; bytes = bytes-part 3 9 p b }

  read-row : is_read p ≡ true → ReadsTo (linked p) (read (group_of 0x12 (get_or p 0 0)) (u16_at 1 p))
  unfolding content_of is_read
  read-row t =
      let q = both_true _ _ t in
      let l = eqb-true (length p) 3 q.0 in
      let all : get_or p 0 0 ∷ part 1 3 p ≡ p = by_length 3 (λ p. get_or p 0 0 ∷ part 1 3 p ≡ p) (λ t. refl) p l in
      record {
        same = ap linked (ap₂ (λ (x : ℕ) (s : List ℕ). x ∷ s) (codes (get_or p 0 0) 0x12 0x17 q.1) (word_bytes 1 p b (omega arith)) ∙ all);
        limits = (group (eqb (get_or p 0 0) 0x12), word_lt 1 p b);
      }

  set-row : is_set p ≡ true → ReadsTo (linked p) (set (group_of 0x15 (get_or p 0 0)) (u16_at 1 p) (part 3 9 p))
  unfolding content_of is_set
  set-row t =
      let q = both_true _ _ t in
      let r = both_true _ _ q.1 in
      let l = eqb-true (length p) 10 q.0 in
      let all : get_or p 0 0 ∷ (part 1 3 p ++ part 3 9 p ++ (get_or p 9 0 ∷ [])) ≡ p =
      by_length 10 (λ p. get_or p 0 0 ∷ (part 1 3 p ++ part 3 9 p ++ (get_or p 9 0 ∷ [])) ≡ p) (λ t. refl) p l in
      let last : 0xFF ≡ get_or p 9 0 = sym (eqb-true (get_or p 9 0) 0xFF r.0) in
      record {
        same =
            ap linked
            (ap₂ (λ (x : ℕ) (s : List ℕ). x ∷ (s ++ part 3 9 p ++ (0xFF ∷ []))) (codes (get_or p 0 0) 0x15 0x16 r.1) (word_bytes 1 p b (omega arith))
            ∙ ap (λ (x : ℕ). get_or p 0 0 ∷ (part 1 3 p ++ part 3 9 p ++ (x ∷ []))) last ∙ all);
        limits = (group (eqb (get_or p 0 0) 0x15), word_lt 1 p b, six-part (omega arith));
      }

  answer-row : eqb (length p) 9 ≡ true → ReadsTo (linked p) (answer (u16_at 0 p) (get_or p 2 0) (part 3 9 p))
  unfolding content_of
  answer-row t =
      let l = eqb-true (length p) 9 t in
      let all : part 0 2 p ++ (get_or p 2 0 ∷ part 3 9 p) ≡ p = by_length 9 (λ p. part 0 2 p ++ (get_or p 2 0 ∷ part 3 9 p) ≡ p) (λ t. refl) p l in
      record {
        same = ap linked (ap (λ (s : List ℕ). s ++ (get_or p 2 0 ∷ part 3 9 p)) (word_bytes 0 p b (omega arith)) ∙ all);
        limits = (word_lt 0 p b, b.each 2, six-part (omega arith));
      }

  link-reads : BytesBetween 1 122 p → ReadsTo (linked p) (look_link p)
  unfolding look_link content_of
  link-reads f =
      by-test (ReadsTo (linked p)) (is_read p) read-row
      (λ _. by-test (ReadsTo (linked p)) (is_set p) set-row
      (λ _. by-test (ReadsTo (linked p)) (eqb (length p) 9) answer-row
      (λ _. record { same = refl; limits = f })))

pub linked-reads : (p : List ℕ) → Fit (linked p) → ReadsTo (linked p) (look_link p)
linked-reads p (link-limits some short bytes _ _) = link-reads p bytes (record { enough = some; short = short; bytes = bytes })

-- ---- found again

by-group : (g : ℕ) (P : ℕ → Type 0) → P 1 → P 2 → Group g → P g
by-group g P a b k = ⊎_elim {C = P g} (λ e. rw e a) (λ e. rw e b) k

pub read_found : (g a : ℕ) → Limits (read g a) → look (content_of (read g a)) ≡ read g a
unfolding look content_of look_link low_byte_first is_read is_set
read_found g a h =
    by-group g (λ g. look (content_of (read g a)) ≡ read g a)
    (ap (read 1) (word_at (0x12 ∷ []) [] a h.1)) (ap (read 2) (word_at (0x17 ∷ []) [] a h.1)) h.0

pub set_found : (g a : ℕ) (out : List ℕ) → Limits (set g a out) → look (content_of (set g a out)) ≡ set g a out
unfolding look content_of look_link low_byte_first is_read is_set
set_found g a out h =
    by_length 6 (λ o. look (content_of (set g a o)) ≡ set g a o)
    (λ t. by-group g (λ g. look (content_of (set g a (ats t 0 6))) ≡ set g a (ats t 0 6))
    (ap (λ (n : ℕ). set 1 n (ats t 0 6)) (word_at (0x15 ∷ []) [] a h.1))
    (ap (λ (n : ℕ). set 2 n (ats t 0 6)) (word_at (0x16 ∷ []) [] a h.1)) h.0)
    out h.2.six

pub answer-found : (a third : ℕ) (out : List ℕ) → Limits (answer a third out) → look (content_of (answer a third out)) ≡ answer a third out
unfolding look content_of look_link low_byte_first is_read is_set
answer-found a third out h =
    by_length 6 (λ o. look (content_of (answer a third o)) ≡ answer a third o)
    (λ t. ap (λ (n : ℕ). answer n third (ats t 0 6)) (word_at [] [] a h.0)) out h.2.six

pub link-found : (p : List ℕ) → Limits (link p) → Found (link p) (look (content_of (link p)))
unfolding look content_of look_link
link-found p h =
    by-test (Found (link p)) (is_read p) (λ _. inr (lit< tt))
    (λ _. by-test (Found (link p)) (is_set p) (λ _. inr (lit< tt))
    (λ _. by-test (Found (link p)) (eqb (length p) 9) (λ _. inr (lit< tt))
    (λ _. inl refl)))

-- ---- a frame

link-passing : (p : List ℕ) → 1 ≤ length p → length p ≤ 122 → Bytes p → Fit (linked p)
link-passing p some short bytes = link-fit p some short bytes

code_lt : (t : Bool) (a b : ℕ) → a < 256 → b < 256 → cond t a b < 256
code_lt true a b h k = h
code_lt false a b h k = k

pub read-fit : (g a : ℕ) → Limits (read g a) → Fit (content_of (read g a))
unfolding content_of
read-fit g a h =
    link-passing _ (omega arith) (omega (arith, length-low 2 a)) (bytes-cons (code_lt (eqb g 1) 0x12 0x17 (lit< tt) (lit< tt)) (bytes_low 2 a))

pub set-fit : (g a : ℕ) (out : List ℕ) → Limits (set g a out) → Fit (content_of (set g a out))
unfolding content_of
set-fit g a out h =
    let l : length (low_byte_first 2 a ++ out ++ (0xFF ∷ [])) ≡ 9 = simp (length-append, length-low) (omega (arith, h.2.six)) in
    link-passing _ (omega arith) (omega arith)
    (bytes-cons (code_lt (eqb g 1) 0x15 0x16 (lit< tt) (lit< tt))
    (bytes-append (low_byte_first 2 a ++ out) (0xFF ∷ []) (bytes-append (low_byte_first 2 a) out (bytes_low 2 a) h.2.bytes) (bytes-cons (lit< tt) bytes-nil)))

pub answer-fit : (a third : ℕ) (out : List ℕ) → Limits (answer a third out) → Fit (content_of (answer a third out))
unfolding content_of
answer-fit a third out h =
    let l : length (low_byte_first 2 a ++ (third ∷ out)) ≡ 9 = simp (length-append, length-low) (omega (arith, h.2.six)) in
    link-passing _ (omega arith) (omega arith) (bytes-append (low_byte_first 2 a) (third ∷ out) (bytes_low 2 a) (bytes-cons h.1 h.2.bytes))

pub press-fit : (d : List ℕ) → Limits (press d) → Fit (content_of (press d))
unfolding content_of
press-fit d h = press-limits h.0 h.1

pub tail-fit : Fit (content_of tail)
unfolding content_of
tail-fit = tail-limits

pub link-message-fit : (p : List ℕ) → Limits (link p) → Fit (content_of (link p))
unfolding content_of
link-message-fit p h = link-passing p h.enough h.short h.bytes
