-- The rows of Nibe: what `look_nibe` finds has the content that it was given; each row's message is found again; its content makes a frame.
-- Assumes nothing.
use mathlib.Core.Bool.{Bool, true, false, cond, ◌||◌, false≢true}
use mathlib.Core.List.{List, [], ◌∷◌, ◌++◌}
use mathlib.Core.Logic.{inl, inr}
use mathlib.Core.Path.{◌≡◌, refl, sym, ◌∙◌, ap, subst}
use Prim.Native.Nat.{ℕ, zero, suc, ◌+◌, ◌-◌, ◌≤◌, ◌<◌}
use native.Mathlib.Omega.{arith}
use borrow.Author.Tests.{eqb-true, leb-true}
use lib.Dec.{T, eqb, lit<, lit≤}
use lib.ListN.{length, get_or, take, drop, length-append, length-drop, take-append-drop}
use lib.Seq.{drop_at, take_all}
use Rattle.digits.proofs.Laws.Bytes.{bytes-nil, bytes-cons, bytes-append, bytes_drop}
use Rattle.digits.proofs.Laws.LowFirst.{width-most, length-low, bytes_low, value_low, low_value_lem, value-lt}
use Rattle.digits.specs.Paper.Bytes.{Bytes}
use Rattle.digits.specs.Paper.LowFirst.{Width, one, two, four, Held, low_byte_first}
use Rattle.digits.specs.Paper.LowFirst.{low_value}
use Rattle.layouts.proofs.Laws.Made.{nibe-fit}
use Rattle.layouts.specs.Paper.Chars.{one_of}
use Rattle.layouts.specs.Paper.Made.{nibe_of}
use Rattle.layouts.specs.Paper.Nibe as nibes
use Rattle.layouts.specs.Paper.Nibe.{commands}
use Rattle.messages.specs.Paper.Content as content
use Rattle.messages.specs.Work.Content.{Fit}
use Rattle.messages.specs.Paper.Message.{Message, ask, reply, put, done, nibe}
use Rattle.messages.specs.Paper.Table.{valued, content_of, Limits, u16_at}
use Rattle.messages.specs.Work.Look.{is_ask, is_valued, is_done, look_nibe, look}
use Rattle.messages.proofs.Laws.Choices.{by-test, both_true}
use Rattle.messages.proofs.Laws.Rows.{ReadsTo, Found}
use Rattle.messages.proofs.Laws.Words.{word_lt, word_bytes, word_at}

-- ---- a register and a value of so many bytes

-- what the test of the length says
pub sizes : (n : ℕ) → (eqb n 3 || (eqb n 4 || eqb n 6)) ≡ true → (2 ≤ n) × Width (n - 2)
sizes n e = go (eqb n 3) refl (eqb n 4) refl (eqb n 6) refl e
  where
    put_in : (k : ℕ) → n ≡ k → (2 ≤ k) × Width (k - 2) → (2 ≤ n) × Width (n - 2)
    put_in k e p = subst (λ (j : ℕ). (2 ≤ j) × Width (j - 2)) (sym e) p

    go : (a : Bool) → eqb n 3 ≡ a → (b : Bool) → eqb n 4 ≡ b → (c : Bool) → eqb n 6 ≡ c → (a || (b || c)) ≡ true → (2 ≤ n) × Width (n - 2)
    go true p b q c r e = put_in 3 (eqb-true n 3 p) (lit≤ tt, one)
    go false p true q c r e = put_in 4 (eqb-true n 4 q) (lit≤ tt, two)
    go false p false q true r e = put_in 6 (eqb-true n 6 r) (lit≤ tt, four)
    go false p false q false r e = absurd (false≢true e)

sized : (w : ℕ) → Width w → (eqb (2 + w) 3 || (eqb (2 + w) 4 || eqb (2 + w) 6)) ≡ true
sized _ one = refl
sized _ two = refl
sized _ four = refl

valued_bytes : (d : List ℕ) → Bytes d → 2 ≤ length d → valued (u16_at 0 d) (length d - 2) (low_value (drop 2 d)) ≡ d
valued_bytes d b h =
    ap (λ (l : List ℕ). l ++ low_byte_first (length d - 2) (low_value (drop 2 d))) (word_bytes 0 d b h)
    ∙ ap (λ (n : ℕ). take 2 d ++ low_byte_first n (low_value (drop 2 d))) (sym (length-drop 2 d))
    ∙ ap (λ (l : List ℕ). take 2 d ++ l) (low_value_lem (drop 2 d) (bytes_drop 2 d b)) ∙ take-append-drop 2 d

valued-limits : (d : List ℕ) → Bytes d → Width (length d - 2) → (u16_at 0 d < 65536) × Held (length d - 2) (low_value (drop 2 d))
valued-limits d b k =
    (word_lt 0 d b, record { known = k; below = value-lt (length d - 2) (drop 2 d) (bytes_drop 2 d b) (omega (arith, length-drop 2 d)) })

valued-length : (r w v : ℕ) → length (valued r w v) ≡ 2 + w
valued-length r w v = rw (length-append (low_byte_first 2 r) (low_byte_first w v), length-low 2 r, length-low w v)

-- ---- what is found has the content that was given

-- a bit as a byte
bit : (n : ℕ) → n ≤ 1 → cond (eqb n 1) 1 0 ≡ n
bit zero h = refl
bit (suc zero) h = refl
bit (suc (suc n)) h = absurd (omega arith)

one_byte : (s : List ℕ) → length s ≡ 1 → get_or s 0 0 ∷ [] ≡ s
one_byte [] e = absurd (omega arith)
one_byte (x ∷ []) e = refl
one_byte (x ∷ y ∷ s) e = absurd (omega arith)

module _ (c : ℕ) (d : List ℕ) (f : nibes.Limits (nibe_of c d)) where
  b : Bytes d
  b = f.bytes

  -- the same command and data
  made : (c₀ : ℕ) (d₀ : List ℕ) → c₀ ≡ c → d₀ ≡ d → content.nibe c₀ d₀ ≡ content.nibe c d
  made c₀ d₀ p q = rw (p, q)

  ask-row : is_ask c d ≡ true → ReadsTo (content.nibe c d) (ask (u16_at 0 d))
  unfolding content_of is_ask
  ask-row t =
      let q = both_true (eqb c 0x69) _ t in
      let l : length d ≡ 2 = eqb-true _ 2 q.1 in
      let e : low_byte_first 2 (u16_at 0 d) ≡ d = word_bytes 0 d b (omega arith) ∙ take_all 2 d (omega arith) in
      record { same = made _ _ (sym (eqb-true c 0x69 q.0)) e; limits = word_lt 0 d b }

  -- a reply and a put differ in the command
  valued_row : (want : ℕ) (make : ℕ → ℕ → ℕ → Message) → ((r w v : ℕ) → content_of (make r w v) ≡ content.nibe want (valued r w v))
      → ((r w v : ℕ) → (r < 65536) × Held w v → Limits (make r w v)) → is_valued want c d ≡ true
      → ReadsTo (content.nibe c d) (make (u16_at 0 d) (length d - 2) (low_value (drop 2 d)))
  unfolding is_valued
  valued_row want make are within t =
      let q = both_true (eqb c want) _ t in
      let v = sizes (length d) q.1 in
      record {
        same = are _ _ _ ∙ made want _ (sym (eqb-true c want q.0)) (valued_bytes d b v.0);
        limits = within _ _ _ (valued-limits d b v.1);
      }

  done-row : is_done c d ≡ true → ReadsTo (content.nibe c d) (done (eqb (get_or d 0 0) 1))
  unfolding content_of is_done
  done-row t =
      let q = both_true (eqb c 0x6C) _ t in
      let r = both_true (eqb (length d) 1) _ q.1 in
      let e : cond (eqb (get_or d 0 0) 1) 1 0 ≡ get_or d 0 0 = bit _ (leb-true _ 1 r.1) in
      record {
        same =
            made 0x6C _ (sym (eqb-true c 0x6C q.0))
            (ap (λ (n : ℕ). n ∷ []) e ∙ one_byte d (eqb-true _ 1 r.0));
        limits = tt;
      }

  nibe-row : ReadsTo (content.nibe c d) (nibe c d)
  unfolding content_of
  nibe-row =
      record {
        same = made _ _ refl refl;
        limits = (f.command, record { enough = omega arith; short = f.short; bytes = f.bytes });
      }

pub nibe-reads : (c : ℕ) (d : List ℕ) → nibes.Limits (nibe_of c d) → ReadsTo (content.nibe c d) (look_nibe c d)
unfolding look_nibe content_of
nibe-reads c d f =
    by-test (ReadsTo (content.nibe c d)) (is_ask c d) (ask-row c d f)
    (λ _. by-test (ReadsTo (content.nibe c d)) (is_valued 0x6A c d) (valued_row c d f 0x6A reply (λ r w v. refl) (λ r w v l. l))
    (λ _. by-test (ReadsTo (content.nibe c d)) (is_valued 0x6B c d) (valued_row c d f 0x6B put (λ r w v. refl) (λ r w v l. l))
    (λ _. by-test (ReadsTo (content.nibe c d)) (is_done c d) (done-row c d f)
    (λ _. nibe-row c d f))))

-- ---- each row's message is found again

pub ask-found : (r : ℕ) → Limits (ask r) → look (content_of (ask r)) ≡ ask r
unfolding look content_of look_nibe is_ask low_byte_first
ask-found r h = ap ask (word_at [] [] r h)

valued_found : (make : ℕ → ℕ → ℕ → Message) (other : Message) (r w v : ℕ) → (r < 65536) × Held w v
    → cond (eqb (length (valued r w v)) 3 || (eqb (length (valued r w v)) 4 || eqb (length (valued r w v)) 6))
    (make (u16_at 0 (valued r w v)) (length (valued r w v) - 2) (low_value (drop 2 (valued r w v)))) other
    ≡ make r w v
valued_found make other r w v h =
    let n : (2 + w) - 2 ≡ w = omega arith in
    let e : u16_at 0 (valued r w v) ≡ r = word_at [] (low_byte_first w v) r h.0 in
    rw (
      valued-length r w v,
      sized w h.1.known,
      e,
      n,
      drop_at (low_byte_first 2 r) (low_byte_first w v) 2 (length-low 2 r),
      value_low w v h.1.below,
    )

pub reply-found : (r w v : ℕ) → Limits (reply r w v) → look (content_of (reply r w v)) ≡ reply r w v
unfolding look content_of look_nibe is_ask is_valued
reply-found r w v h = valued_found reply _ r w v h

pub put-found : (r w v : ℕ) → Limits (put r w v) → look (content_of (put r w v)) ≡ put r w v
unfolding look content_of look_nibe is_ask is_valued
put-found r w v h = valued_found put _ r w v h

pub done-found : (ok : Bool) → look (content_of (done ok)) ≡ done ok
unfolding look content_of look_nibe is_ask is_valued is_done
done-found true = refl
done-found false = refl

-- or a message above it
pub nibe-found : (c : ℕ) (d : List ℕ) → Limits (nibe c d) → Found (nibe c d) (look (content_of (nibe c d)))
unfolding look content_of look_nibe
nibe-found c d l =
    by-test (Found (nibe c d)) (is_ask c d) (λ _. inr (lit< tt))
    (λ _. by-test (Found (nibe c d)) (is_valued 0x6A c d) (λ _. inr (lit< tt))
    (λ _. by-test (Found (nibe c d)) (is_valued 0x6B c d) (λ _. inr (lit< tt))
    (λ _. by-test (Found (nibe c d)) (is_done c d) (λ _. inr (lit< tt))
    (λ _. inl refl))))

-- ---- the content of each makes a frame

made-fit : (c : ℕ) (d : List ℕ) → T (one_of commands c) → length d ≤ 255 → Bytes d → Fit (content.nibe c d)
made-fit c d o s b = nibe-fit c d o s b

pub ask-fit : (r : ℕ) → Limits (ask r) → Fit (content_of (ask r))
unfolding content_of one_of
ask-fit r l = made-fit 0x69 (low_byte_first 2 r) tt (omega (arith, length-low 2 r)) (bytes_low 2 r)

valued-fit : (c r w v : ℕ) → T (one_of commands c) → (r < 65536) × Held w v → Fit (content.nibe c (valued r w v))
valued-fit c r w v o l =
    made-fit c (valued r w v) o (omega (arith, valued-length r w v, width-most l.1.known))
    (bytes-append (low_byte_first 2 r) (low_byte_first w v) (bytes_low 2 r) (bytes_low w v))

pub reply-fit : (r w v : ℕ) → Limits (reply r w v) → Fit (content_of (reply r w v))
unfolding content_of one_of
reply-fit r w v l = valued-fit 0x6A r w v tt l

pub put_fit : (r w v : ℕ) → Limits (put r w v) → Fit (content_of (put r w v))
unfolding content_of one_of
put_fit r w v l = valued-fit 0x6B r w v tt l

pub done-fit : (ok : Bool) → Fit (content_of (done ok))
unfolding content_of one_of
done-fit ok = made-fit 0x6C (cond ok 1 0 ∷ []) tt (lit≤ tt) (bytes-cons (small ok) bytes-nil)
  where
    small : (t : Bool) → cond t 1 0 < 256
    small true = lit< tt
    small false = lit< tt

pub nibe-message-fit : (c : ℕ) (d : List ℕ) → Limits (nibe c d) → Fit (content_of (nibe c d))
unfolding content_of
nibe-message-fit c d l = made-fit c d l.0 l.1.short l.1.bytes
