-- A kind that no byte holds is refused like kind 0: the causes before the kind's, which is 2, do not depend on the kind.
-- Assumes nothing.
use mathlib.Core.Bool.{Bool, true, false, ◌&&◌, ◌||◌}
use mathlib.Core.List.{List, [], ◌∷◌}
use mathlib.Core.Path.{◌≡◌, refl, ap₂}
use Prim.Native.Nat.{ℕ, ◌≤◌, ◌<◌}
use native.Mathlib.Omega.{arith}
use borrow.Author.Tests.{ne_eqb, ltb-true}
use lib.Dec.{T, eqb, ltb, lit<}
use Rattle.digits.specs.Paper.Part.{Ends, zero_ends}
use Rattle.digits.specs.Paper.Refusals.{refusal_order, First, here, after, Answers, answers, refuses}
use Rattle.puts.specs.Paper.Right.{WroteRight, wrote, refused}
use Rattle.layouts.specs.Paper.Chars.{one_of, all}
use Rattle.frames.specs.Paper.Kinds.{known, known_kinds}
use Rattle.frames.specs.Paper.Search.{Hit, zero_hit, SearchCause, Leftmost}
use Rattle.frames.specs.Paper.OneFrame.{OneFrameCause, OneFrame}
use Rattle.frames.specs.Paper.Why.{WhyCause}
use Rattle.host.specs.Paper.Kind.{KindByte, held, beyond}
use Rattle.host.specs.Paper.Why.{Judgement, zero_judgement, JudgementAt}

-- ---- the byte of a kind

abbrev below : ℕ → Bool
below n = ltb n 256

one_more : {k : ℕ} (n : ℕ) (l : List ℕ) → 256 ≤ k → (b : Bool) → below n ≡ b → T (b && all below l) → (T (all below l) → one_of l k ≡ false)
    → (eqb k n || one_of l k) ≡ false
one_more {k} n l h true e t rest =
    let ne : k ≡ n → ⊥ = λ q. omega (arith, q, ltb-true n 256 e) in ap₂ (λ (a b : Bool). a || b) (ne_eqb k n ne) (rest t)
one_more n l h false e t rest = absurd t

-- what is larger than a byte is none of the numbers that bytes hold
larger : {k : ℕ} → 256 ≤ k → (l : List ℕ) → T (all below l) → one_of l k ≡ false
unfolding one_of all
larger h [] t = refl
larger h (n ∷ l) t = one_more n l h (below n) refl t (larger h l)

-- bytes hold all known kinds, and 0 is none of them
not_known : {k : ℕ} → 256 ≤ k → known k ≡ false
unfolding known one_of all
not_known h = larger h known_kinds tt

zero-not-known : known 0 ≡ false
unfolding known one_of
zero-not-known = refl

-- ---- a call with a kind

module _ (Cause : ℕ → ℕ → Type 0) (no_kind : (k : ℕ) → known k ≡ false → Cause k 2) (eight : (j k : ℕ) → Cause j 8 → Cause k 8) where
  -- two kinds that are not known have the same first cause
  first_alike : {j k no : ℕ} → known j ≡ false → known k ≡ false → First (Cause j) refusal_order no → (0 < no) × First (Cause k) refusal_order no
  first_alike {j} {k} u v (here c) = (lit< tt, here (eight j k c))
  first_alike {j} {k} u v (after n (here c)) = (lit< tt, after (λ d. n (eight k j d)) (here (no_kind k v)))
  first_alike {j} {k} u v (after n (after m f)) = absurd (m (no_kind j u))

  -- what is answered for the byte is right for the kind
  pub answers-alike : {A : Type 0} {zeros : A} (Right : ℕ → A → Type 0) {j k n : ℕ} {v : A} → KindByte k j
      → Answers zeros (Cause j) (Right j) n v → Answers zeros (Cause k) (Right k) n v
  answers-alike Right (held h) a = a
  answers-alike Right (beyond h) (answers f r) = absurd (omega (arith, (first_alike zero-not-known (not_known h) f).0))
  answers-alike Right (beyond h) (refuses p f) = refuses p (first_alike zero-not-known (not_known h) f).1

  -- and what is written
  pub wrote-alike : (Right : ℕ → List ℕ → Type 0) {room later : List ℕ} {j k no n : ℕ} → KindByte k j
      → WroteRight (Cause j) (Right j) room no n later → WroteRight (Cause k) (Right k) room no n later
  wrote-alike Right (held h) a = a
  wrote-alike Right (beyond h) (wrote f r) = absurd (omega (arith, (first_alike zero-not-known (not_known h) f).0))
  wrote-alike Right (beyond h) (refused p f) = refused p (first_alike zero-not-known (not_known h) f).1

-- ---- the calls

pub search-alike : {j k place n : ℕ} {s : List ℕ} {v : Hit} → KindByte k j → Answers zero_hit (SearchCause j s place) (Leftmost j s place) n v
    → Answers zero_hit (SearchCause k s place) (Leftmost k s place) n v
search-alike {place = place} {s = s} =
    answers-alike (λ k. SearchCause k s place) (λ k e. SearchCause.no_kind e) (λ j k c. elim c [ ]) (λ k. Leftmost k s place)

pub whole-alike : {j k n : ℕ} {s : List ℕ} {v : Ends} → KindByte k j → Answers zero_ends (OneFrameCause j s) (OneFrame j s) n v
    → Answers zero_ends (OneFrameCause k s) (OneFrame k s) n v
whole-alike {s = s} = answers-alike (λ k. OneFrameCause k s) (λ k e. OneFrameCause.no_kind e) (λ j k c. elim c [ ]) (λ k. OneFrame k s)

pub why-alike : {j k place n : ℕ} {s : List ℕ} {v : Judgement} → KindByte k j
    → Answers zero_judgement (WhyCause j s place) (JudgementAt j s place) n v
    → Answers zero_judgement (WhyCause k s place) (JudgementAt k s place) n v
why-alike {place = place} {s = s} =
    answers-alike (λ k. WhyCause k s place) (λ k e. WhyCause.no_kind e) (λ j k c. elim c [ ]) (λ k. JudgementAt k s place)
