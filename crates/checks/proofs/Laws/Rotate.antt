-- With the polynomial x^w + 1 a shift moves the register round: the bit that leaves comes in at the end. So w shifts change nothing,
-- and the check of 8 bits is the exclusive or of the bytes.
-- Assumes nothing.
use mathlib.Core.Bool.{Bool, true, false}
use mathlib.Core.List.{List, [], ◌∷◌, ◌++◌, append-nil, append_assoc}
use mathlib.Core.Path.{◌≡◌, refl, sym, ap, ◌∙◌}
use Prim.Native.Nat.{ℕ, suc, ◌+◌, ◌<◌}
use native.Mathlib.Omega.{arith}
use lib.Bits.{bit_xor, xor_lt}
use lib.ListN.{length, length-append, replicate, length-replicate}
use Rattle.digits.specs.Paper.Bytes.{Bytes}
use Rattle.digits.proofs.Laws.Bytes.{bytes-head, bytes-tail}
use Rattle.digits.specs.Paper.Bits.{lows}
use Rattle.checks.specs.Paper.Bits.{high_bit_first, bits}
use Rattle.checks.specs.Paper.Check.{mix, shift, poly_bits, feed, check}
use Rattle.checks.specs.Paper.Buses.{nibe_xor}
use Rattle.checks.specs.Paper.Xor.{xor_from, xor_of}
use Rattle.checks.proofs.Laws.Register.{length-mix, mix-append, mix-zeros, shifts}
use Rattle.checks.proofs.Laws.Numbers.{length-bits, bits-xor}
use Rattle.checks.proofs.Laws.Feed.{feed-append, feed-byte, feed-nil}

-- x^(n+1) + 1, less its highest term
abbrev round : ℕ → List Bool
round n = replicate n false ++ (true ∷ [])

shift-round : (n : ℕ) (k : Bool) (t : List Bool) → length t ≡ n → shift (round n) (k ∷ t) ≡ t ++ (k ∷ [])
shift-round n false t h = refl
shift-round n true t h =
    mix-append t (replicate n false) (false ∷ []) (true ∷ []) (h ∙ sym (length-replicate n false)) ∙ rw mix-zeros

shifts_round : (n : ℕ) (a b : List Bool) → length a + length b ≡ suc n → shifts (round n) (length a) (a ++ b) ≡ b ++ a
shifts_round n [] b h = sym (append-nil b)
shifts_round n (k ∷ a) b h =
    ap (shifts (round n) (length a))
    (shift-round n k (a ++ b) (omega (arith, length-append a b)) ∙ append_assoc a b (k ∷ []))
    ∙ shifts_round n a (b ++ (k ∷ [])) (omega (arith, length-append b (k ∷ [])))
    ∙ append_assoc b (k ∷ []) a

all-round : (n : ℕ) (s : List Bool) → length s ≡ suc n → shifts (round n) (suc n) s ≡ s
all-round n s h = cc (h, append-nil s, shifts_round n s [] (omega arith))

all-8 : (s : List Bool) → length s ≡ 8 → shifts (poly_bits nibe_xor) 8 s ≡ s
unfolding poly_bits bits lows
all-8 s h = all-round 7 s h

-- a byte
pub feed-xor : (v b : ℕ) → v < 256 → b < 256 → bit_xor v b ≡ feed nibe_xor v (b ∷ [])
feed-xor v b hv hb =
    let x = bits high_bit_first 8 v in
    let y = bits high_bit_first 8 b in
    feed-byte nibe_xor v b (bit_xor v b) (omega arith) (xor_lt 8 v b hv hb)
    (bits-xor high_bit_first 8 v b ∙ sym (all-8 (mix x y) (length-mix x y ∙ length-bits high_bit_first 8 v)))

feed-xors : (v : ℕ) (s : List ℕ) → v < 256 → Bytes s → feed nibe_xor v s ≡ xor_from v s
unfolding xor_from
feed-xors v [] hv hs = feed-nil nibe_xor v hv
feed-xors v (b ∷ s) hv hs =
    cc (
      feed-append nibe_xor v (b ∷ []) s,
      feed-xor v b hv (bytes-head hs),
      feed-xors (bit_xor v b) s (xor_lt 8 v b hv (bytes-head hs)) (bytes-tail hs),
    )

-- NIBE'S CHECK IS THE XOR OF THE BYTES.
pub xor-law : (s : List ℕ) → Bytes s → check nibe_xor s ≡ xor_of s
xor-law s h = feed-xors 0 s (omega arith) h
