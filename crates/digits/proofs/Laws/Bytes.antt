-- Bytes: of a list, of its parts, and of two lists.
-- Assumes nothing.
use Prim.Native.Nat.{ℕ, zero, suc, ◌+◌, ◌-◌, ◌<◌}
use mathlib.Core.List.{List, [], ◌∷◌, ◌++◌}
use lib.Dec.{lit<}
use lib.ListN.{get_or, take, drop}
use lib.Seq.{get_or-drop}
use Rattle.digits.specs.Paper.Bytes.{Bytes, part}

pub bytes-nil : Bytes []
bytes-nil = record { each = λ i. lit< tt }

pub bytes-cons : {b : ℕ} {s : List ℕ} → b < 256 → Bytes s → Bytes (b ∷ s)
bytes-cons {b} {s} h k = record { each = go }
  where
    go : (i : ℕ) → get_or (b ∷ s) i 0 < 256
    go zero = h
    go (suc i) = k.each i

pub bytes-head : {b : ℕ} {s : List ℕ} → Bytes (b ∷ s) → b < 256
bytes-head k = k.each 0

pub bytes-tail : {b : ℕ} {s : List ℕ} → Bytes (b ∷ s) → Bytes s
bytes-tail k = record { each = λ i. k.each (suc i) }

pub bytes-append : (s t : List ℕ) → Bytes s → Bytes t → Bytes (s ++ t)
bytes-append [] t h k = k
bytes-append (b ∷ s) t h k = bytes-cons (bytes-head h) (bytes-append s t (bytes-tail h) k)

pub bytes_take : (n : ℕ) (s : List ℕ) → Bytes s → Bytes (take n s)
bytes_take zero s h = bytes-nil
bytes_take (suc n) [] h = bytes-nil
bytes_take (suc n) (b ∷ s) h = bytes-cons (bytes-head h) (bytes_take n s (bytes-tail h))

pub bytes_drop : (n : ℕ) (s : List ℕ) → Bytes s → Bytes (drop n s)
bytes_drop n s h = record { each = λ i. rw get_or-drop (h.each (n + i)) }

pub bytes-part : (a e : ℕ) (s : List ℕ) → Bytes s → Bytes (part a e s)
bytes-part a e s h = bytes_take (e - a) (drop a s) (bytes_drop a s h)
