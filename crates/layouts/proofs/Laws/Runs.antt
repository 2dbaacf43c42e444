-- One step of each loop over a list, at an index; and the run of elements at the head of a list.
-- Assumes nothing.
use mathlib.Core.Bool.{Bool, true, false, ◌&&◌, and-true, and_assoc, cond}
use mathlib.Core.List.{List, [], ◌∷◌, ◌++◌}
use mathlib.Core.Path.{◌≡◌, refl, sym}
use Prim.Native.Nat.{ℕ, zero, suc, ◌+◌, ◌≤◌, ◌<◌}
use native.Mathlib.Nat.{add-sub_cancel_left}
use native.Mathlib.Omega.{arith}
use lib.Dec.{T}
use lib.ListN.{length, get_or, drop, take, drop_of_length-le, length-take}
use lib.Seq.{take-take, drop-drop}
use borrow.Author.Tests.{eq-eqb, ne_eqb}
use Rattle.digits.specs.Paper.Bytes.{part}
use Rattle.digits.proofs.Laws.Parts.{next}
use Rattle.digits.proofs.Laws.Tests.{T_and, T_true}
use Rattle.layouts.specs.Paper.Chars.{one_of, all}
use Rattle.layouts.specs.Work.Heads.{leading}

-- the run of elements at the head: i of them passed
module _ (f : ℕ → Bool) (s : List ℕ) (i : ℕ) where
  pub leading-stop : i < length s → f (get_or s i 0) ≡ false → i ≡ i + leading f (drop i s)
  unfolding leading
  leading-stop h e = rw (next s i, e) (omega arith)

  pub leading_step : i < length s → f (get_or s i 0) ≡ true → i + 1 + leading f (drop (i + 1) s) ≡ i + leading f (drop i s)
  unfolding leading
  leading_step h e = rw (next s i, e) (omega arith)

  pub leading_end : length s ≤ i → i ≡ i + leading f (drop i s)
  unfolding leading
  leading_end h = rw (drop_of_length-le s h) (omega arith)

-- all elements: those up to one of them, and those from there on
all-parts : (f : ℕ → Bool) (k : ℕ) (s : List ℕ) → all f s ≡ (all f (take k s) && all f (drop k s))
unfolding all
all-parts f zero s = refl
all-parts f (suc k) [] = refl
all-parts f (suc k) (x ∷ s) = rw (all-parts f k s) (sym (and_assoc (f x) _ _))

-- the first of them is not one
pub first-stop : (f : ℕ → Bool) (s : List ℕ) → 0 < length s → f (get_or s 0 0) ≡ false → false ≡ all f s
unfolding all
first-stop f [] h e = absurd (omega arith)
first-stop f (x ∷ s) h e = rw e

-- all elements behind the first i, and a block of k of them
module _ (f : ℕ → Bool) (s : List ℕ) (i k : ℕ) where
  all_blocks : all f (drop i s) ≡ (all f (part i (i + k) s) && all f (drop (i + k) s))
  all_blocks = rw (add-sub_cancel_left i k, sym (drop-drop k i s)) (all-parts f k (drop i s))

  pub block-stop : all f (part i (i + k) s) ≡ false → false ≡ all f (drop i s)
  block-stop e = rw (all_blocks, e)

  pub block-step : all f (part i (i + k) s) ≡ true → all f (drop (i + k) s) ≡ all f (drop i s)
  block-step e = rw (all_blocks, e)

-- all elements, where b tells of the first i
module _ (f : ℕ → Bool) (s : List ℕ) (i : ℕ) (b : Bool) where
  pub all-step : {x : Bool} → i < length s → x ≡ f (get_or s i 0) → (b && x && all f (drop (i + 1) s)) ≡ (b && all f (drop i s))
  unfolding all
  all-step h e = rw (next s i h, e) (and_assoc b _ _)

  pub all_end : length s ≤ i → b ≡ (b && all f (drop i s))
  unfolding all
  all_end h = rw (drop_of_length-le s h) (sym (and-true b))

module _ (x : ℕ) (s : List ℕ) (i : ℕ) where
  pub one_hit : i < length s → x ≡ get_or s i 0 → true ≡ one_of (drop i s) x
  unfolding one_of
  one_hit h e = rw (next s i, eq-eqb _ _ e)

  pub one-miss : i < length s → (x ≡ get_or s i 0 → ⊥) → one_of (drop (i + 1) s) x ≡ one_of (drop i s) x
  unfolding one_of
  one-miss h e = rw (next s i, ne_eqb _ _ e)

  pub one_end : length s ≤ i → false ≡ one_of (drop i s) x
  unfolding one_of
  one_end h = rw (drop_of_length-le s h)

-- ---- the run at the head

pub leading_le : (f : ℕ → Bool) (s : List ℕ) → leading f s ≤ length s
unfolding leading
leading_le f [] = omega arith
leading_le f (x ∷ s) = go (f x) (leading_le f s)
  where
    go : (b : Bool) → leading f s ≤ length s → cond b (suc (leading f s)) 0 ≤ suc (length s)
    go true h = omega arith
    go false h = omega arith

pub leading-all : (f : ℕ → Bool) (s : List ℕ) → T (all f (take (leading f s) s))
unfolding leading all
leading-all f [] = tt
leading-all f (x ∷ s) = go (f x) refl (leading-all f s)
  where
    go : (b : Bool) → f x ≡ b → T (all f (take (leading f s) s)) → T (all f (take (cond b (suc (leading f s)) 0) (x ∷ s)))
    go true e h = rw e h
    go false e h = tt

-- the run within the first k elements
module _ (f : ℕ → Bool) (k : ℕ) (s : List ℕ) where
  pub leading-most : (leading f (take k s) ≤ k) × (leading f (take k s) ≤ length s)
  leading-most = let l = leading_le f (take k s) in let m = length-take k s in (omega arith, omega arith)

  pub leading-front : T (all f (take (leading f (take k s)) s))
  leading-front = let t = leading-all f (take k s) in rw (take-take (leading f (take k s)) k s leading-most.0) at t

-- a word and then an element that f does not hold of, within the first k
pub leading-word : (f : ℕ → Bool) (w : List ℕ) (x : ℕ) (t : List ℕ) (k : ℕ) → T (all f w) → f x ≡ false → length w < k
    → leading f (take k (w ++ x ∷ t)) ≡ length w
unfolding leading all
leading-word f w x t zero a e h = absurd (omega arith)
leading-word f [] x t (suc k) a e h = rw e
leading-word f (y ∷ w) x t (suc k) a e h =
    let q = T_and (f y) (all f w) a in
    rw (T_true (f y) q.0, leading-word f w x t k q.1 e (omega arith))

-- f holds of each element, one by one
pub all-by : (f : ℕ → Bool) (s : List ℕ) → ((i : ℕ) → i < length s → f (get_or s i 0) ≡ true) → T (all f s)
unfolding all
all-by f [] h = tt
all-by f (x ∷ s) h = rw (h 0 (omega arith)) (all-by f s (λ i k. h (suc i) (omega arith)))

pub all-at : (f : ℕ → Bool) (s : List ℕ) (i : ℕ) → T (all f s) → i < length s → T (f (get_or s i 0))
unfolding all
all-at f [] i a h = absurd (omega arith)
all-at f (x ∷ s) zero a h = (T_and (f x) (all f s) a).0
all-at f (x ∷ s) (suc i) a h = all-at f s i (T_and (f x) (all f s) a).1 (omega arith)

-- what holds of all holds of the first
pub all_take : (f : ℕ → Bool) (k : ℕ) (s : List ℕ) → T (all f s) → T (all f (take k s))
unfolding all
all_take f zero s t = tt
all_take f (suc k) [] t = tt
all_take f (suc k) (x ∷ s) t = let q = T_and (f x) (all f s) t in rw (T_true (f x) q.0) (all_take f k s q.1)
