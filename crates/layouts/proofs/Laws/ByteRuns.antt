-- Runs of bytes: what the recognisers ask of each element is what it is to be a byte.
-- Assumes nothing.
use mathlib.Core.Bool.{Bool, true, false, ◌||◌}
use mathlib.Core.List.{List, [], ◌∷◌}
use mathlib.Core.Path.{◌≡◌, refl}
use Prim.Native.Nat.{ℕ, ◌≤◌, ◌<◌}
use lib.Dec.{T, eqb, ltb→lt, eqb→eq}
use lib.ListN.{length, take}
use borrow.Author.Tests.{lt-ltb, le-leb, lt-leb}
use Rattle.digits.proofs.Laws.Bytes.{bytes-nil, bytes-cons, bytes-head, bytes-tail, bytes_take}
use Rattle.digits.proofs.Laws.Tests.{T_and}
use Rattle.digits.specs.Paper.Bytes.{Bytes}
use Rattle.layouts.specs.Paper.Chars.{all, one_of}
use Rattle.layouts.specs.Work.Heads.{only_if, is_byte, run_len, bytes_len}

pub all-bytes : (s : List ℕ) → Bytes s → all is_byte s ≡ true
unfolding all is_byte
all-bytes [] h = refl
all-bytes (x ∷ s) h = rw (lt-ltb x 256 (bytes-head h)) (all-bytes s (bytes-tail h))

-- elements that pass a test that only bytes pass
pub bytes-by : (f : ℕ → Bool) → ((x : ℕ) → T (f x) → x < 256) → (s : List ℕ) → T (all f s) → Bytes s
unfolding all
bytes-by f h [] t = bytes-nil
bytes-by f h (x ∷ s) t = let q = T_and (f x) (all f s) t in bytes-cons (h x q.0) (bytes-by f h s q.1)

pub bytes-all : (s : List ℕ) → T (all is_byte s) → Bytes s
unfolding is_byte
bytes-all = bytes-by is_byte (λ x t. ltb→lt x 256 t)

-- what holds of all of some elements holds of one of them
pub one_of_all : (f : ℕ → Bool) (l : List ℕ) (x : ℕ) → T (all f l) → T (one_of l x) → T (f x)
unfolding all one_of
one_of_all f [] x a o = absurd o
one_of_all f (y ∷ l) x a o =
    let q = T_and (f y) (all f l) a in
    go (eqb x y) refl o q.0 (λ k. one_of_all f l x q.1 k)
  where
    go : (b : Bool) → eqb x y ≡ b → T (b || one_of l x) → T (f y) → (T (one_of l x) → T (f x)) → T (f x)
    go true e k h rest = let d : x ≡ y = eqb→eq x y (rw e tt) in rw d h
    go false e k h rest = rest k

pub one-of-bytes : (l : List ℕ) (x : ℕ) → T (all is_byte l) → T (one_of l x) → x < 256
unfolding is_byte
one-of-bytes l x a o = ltb→lt x 256 (one_of_all is_byte l x a o)

-- what the code answers, which reads bytes: so many where there are so many
module _ (k : ℕ) (s : List ℕ) where
  pub bytes-short : length s < k → 0 ≡ bytes_len k s
  unfolding run_len only_if
  bytes-short h = simp (lt-leb k (length s) h)

  pub bytes-there : Bytes s → k ≤ length s → k ≡ bytes_len k s
  unfolding run_len only_if
  bytes-there b h = simp (le-leb k (length s) h, all-bytes (take k s) (bytes_take k s b))
