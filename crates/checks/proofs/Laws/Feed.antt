-- Check values of bytes: bytes after bytes, a byte, and a loop over bytes. At every check.
-- Assumes nothing.
use mathlib.Core.Bool.{Bool}
use mathlib.Core.List.{List, [], ◌∷◌, ◌++◌, append-nil, append_assoc}
use mathlib.Core.Path.{◌≡◌, refl, sym, ap, ◌∙◌}
use Prim.Native.Nat.{ℕ, suc, ◌+◌, ◌-◌, ◌^◌, ◌≤◌, ◌<◌}
use native.Mathlib.Numerals.{add-one}
use native.Mathlib.Omega.{arith}
use lib.ListN.{length, get_or, drop, drop_of_length-le}
use lib.Seq.{drop-cons}
use Rattle.checks.specs.Paper.Bits.{BitOrder, bits, of_bits, bits_of_bytes}
use Rattle.checks.specs.Paper.Check.{Check, mix, shift, run, held, poly_bits, feed, check}
use Rattle.checks.proofs.Laws.Register.{shifts, length_run, run-append, run-shifts}
use Rattle.checks.proofs.Laws.Numbers.{length-bits, number-bits, bits-number, number_lt}

-- ---- bytes after bytes

bits-append : (o : BitOrder) (a b : List ℕ) → bits_of_bytes o (a ++ b) ≡ bits_of_bytes o a ++ bits_of_bytes o b
unfolding bits_of_bytes
bits-append o [] b = refl
bits-append o (x ∷ a) b = cc (bits-append o a b, append_assoc (bits o 8 x) (bits_of_bytes o a) (bits_of_bytes o b))

length-held : (c : Check) (v : ℕ) (u : List Bool) → length (run (poly_bits c) (held c v) u) ≡ c.width
length-held c v u = length_run (poly_bits c) (held c v) u ∙ length-bits c.order c.width v

-- the register after the bytes
pub held-feed : (c : Check) (v : ℕ) (s : List ℕ) → held c (feed c v s) ≡ run (poly_bits c) (held c v) (bits_of_bytes c.order s)
unfolding feed
held-feed c v s = bits-number c.order c.width _ (length-held c v (bits_of_bytes c.order s))

-- THE STATE FITS, at every check and start.
pub feed-lt : (c : Check) (v : ℕ) (s : List ℕ) → feed c v s < 2 ^ c.width
unfolding feed
feed-lt c v s = number_lt c.order c.width _ (length-held c v (bits_of_bytes c.order s))

pub check-lt : (c : Check) (s : List ℕ) → check c s < 2 ^ c.width
check-lt c s = feed-lt c c.start s

-- FEEDING IN PIECES IS FEEDING THE WHOLE.
pub feed-append : (c : Check) (v : ℕ) (a b : List ℕ) → feed c v (a ++ b) ≡ feed c (feed c v a) b
unfolding feed
feed-append c v a b =
    ap (of_bits c.order)
    (ap (run (poly_bits c) (held c v)) (bits-append c.order a b)
    ∙ run-append (poly_bits c) (held c v) (bits_of_bytes c.order a) (bits_of_bytes c.order b)
    ∙ ap (λ (r : List Bool). run (poly_bits c) r (bits_of_bytes c.order b)) (sym (held-feed c v a)))

pub feed-nil : (c : Check) (v : ℕ) → v < 2 ^ c.width → feed c v [] ≡ v
unfolding feed bits_of_bytes
feed-nil c v h = number-bits c.order c.width v h

-- ---- a byte: it is laid at the head of the register, which is shifted by eight places

pub feed-byte : (c : Check) (v b r : ℕ) → 8 ≤ c.width → r < 2 ^ c.width
    → held c r ≡ shifts (poly_bits c) 8 (mix (held c v) (bits c.order 8 b)) → r ≡ feed c v (b ∷ [])
unfolding feed bits_of_bytes
feed-byte c v b r hw hr e =
    let o : BitOrder = c.order in
    let n : length (bits o 8 b) ≡ 8 = length-bits o 8 b in
    sym (number-bits o c.width r hr)
    ∙ ap (of_bits o)
    (e ∙ ap (λ (k : ℕ). shifts (poly_bits c) k (mix (held c v) (bits o 8 b))) (sym n)
    ∙ sym (run-shifts (poly_bits c) (held c v) (bits o 8 b) (omega (arith, length-bits o c.width v)))
    ∙ ap (run (poly_bits c) (held c v)) (sym (append-nil (bits o 8 b))))

-- a loop over the places: what is left of the eight leads from the register of r to where all eight lead from the byte's
pub record Shifting (c : Check) (v b r k : ℕ) : Type 0 where
  pub steps : k ≤ 8
  pub fits : r < 2 ^ c.width
  pub same : shifts (poly_bits c) (8 - k) (held c r) ≡ shifts (poly_bits c) 8 (mix (held c v) (bits c.order 8 b))

pub shifting-start : {c : Check} {v b r : ℕ} → r < 2 ^ c.width → held c r ≡ mix (held c v) (bits c.order 8 b) → Shifting c v b r 0
shifting-start {c} h e = record { steps = omega arith; fits = h; same = ap (shifts (poly_bits c) 8) e }

pub shifting-next : {c : Check} {v b r k : ℕ} (n : ℕ) → Shifting c v b r k → k < 8 → n < 2 ^ c.width
    → held c n ≡ shift (poly_bits c) (held c r) → Shifting c v b n (k + 1)
shifting-next {c} {v} {b} {r} {k} n l h f e =
    let m : 8 - k ≡ suc (8 - (k + 1)) = omega arith in
    record {
      steps = omega arith;
      fits = f;
      same =
          ap (shifts (poly_bits c) (8 - (k + 1))) e ∙ sym (ap (λ (j : ℕ). shifts (poly_bits c) j (held c r)) m) ∙ l.same;
    }

pub shifting-end : {c : Check} {v b r k : ℕ} → Shifting c v b r k → 8 ≤ k → 8 ≤ c.width → r ≡ feed c v (b ∷ [])
shifting-end {c} {v} {b} {r} {k} l h w =
    let m : 8 - k ≡ 0 = omega arith in
    feed-byte c v b r w l.fits (sym (ap (λ (j : ℕ). shifts (poly_bits c) j (held c r)) m) ∙ l.same)

-- ---- a loop over the bytes of s, from the state v: at i, what is left leads from the state r to where the whole leads

pub record Left (c : Check) (v : ℕ) (s : List ℕ) (r i : ℕ) : Type 0 where
  pub inside : i ≤ length s
  pub fits : r < 2 ^ c.width
  pub same : feed c r (drop i s) ≡ feed c v s

pub left-start : {c : Check} {v : ℕ} {s : List ℕ} → v < 2 ^ c.width → Left c v s v 0
left-start h = record { inside = omega arith; fits = h; same = refl }

pub left-next : {c : Check} {v : ℕ} {s : List ℕ} {r i : ℕ} (n : ℕ) → Left c v s r i → i < length s
    → n ≡ feed c r (get_or s i 0 ∷ []) → Left c v s n (i + 1)
left-next {c} {v} {s} {r} {i} n l h e =
    record {
      inside = omega arith;
      fits = rw e (feed-lt c r (get_or s i 0 ∷ []));
      same =
          cc (e, add-one i, feed-append c r (get_or s i 0 ∷ []) (drop (suc i) s), drop-cons s i 0 h, l.same);
    }

pub left_end : {c : Check} {v : ℕ} {s : List ℕ} {r i : ℕ} → Left c v s r i → length s ≤ i → r ≡ feed c v s
left_end {c} {v} {s} {r} {i} l h = cc (feed-nil c r l.fits, drop_of_length-le s h, l.same)
