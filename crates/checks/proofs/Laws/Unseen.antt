-- One place more than the burst theorem allows: a difference that is the polynomial itself, with its highest term, is never seen.
-- Assumes nothing.
use mathlib.Core.Bool.{Bool, true, false, not}
use mathlib.Core.List.{List, [], ◌∷◌, ◌++◌}
use mathlib.Core.Path.{◌≡◌, refl, sym, ap, ◌∙◌}
use Prim.Native.Nat.{ℕ, suc, ◌+◌, ◌≤◌, ◌<◌}
use native.Mathlib.Nat.{le_of_suc-le-suc, lt_of_not-le}
use native.Mathlib.Omega.{arith}
use lib.ListN.{length, get_or, take, replicate, length-replicate, get_or-eq_default}
use lib.Seq.{get_or-take}
use Rattle.digits.specs.Paper.Bits.{lows}
use Rattle.checks.specs.Paper.Bits.{high_bit_first, bits, of_bits, bits_of_bytes}
use Rattle.checks.specs.Paper.Check.{mix, shift, run, held, poly_bits, feed, check}
use Rattle.checks.specs.Paper.Buses.{nest_crc}
use Rattle.checks.specs.Paper.Stretch.{FitIn}
use Rattle.checks.proofs.Laws.Register.{mix-zeros, mix-twice, shifts, run-append, run-shifts, length-next, length_run}
use Rattle.checks.proofs.Laws.Numbers.{length-bits}
use Rattle.checks.proofs.Laws.Feed.{feed-append}

-- ---- registers

-- the bit that leaves, turned round, adds the polynomial or takes it away
turned : (p t : List Bool) (k : Bool) → shift p (not k ∷ t) ≡ mix (shift p (k ∷ t)) p
turned p t false = refl
turned p t true = sym (mix-twice (t ++ (false ∷ [])) p)

turned-head : (p s : List Bool) → 0 < length s → shift p (mix s (true ∷ [])) ≡ mix (shift p (mix s (false ∷ []))) p
turned-head p [] h = absurd (omega arith)
turned-head p (false ∷ t) h = turned p t false
turned-head p (true ∷ t) h = turned p t true

-- THE POLYNOMIAL, WITH ITS HIGHEST TERM, IS NEVER SEEN: from every register it leads to where as many zeros lead. At every width.
pub unseen : (p s : List Bool) → 0 < length s → length p ≤ length s → run p s (true ∷ p) ≡ run p s (false ∷ replicate (length p) false)
unseen p s h k =
    let z : List Bool = replicate (length p) false in
    let s₀ : List Bool = shift p (mix s (false ∷ [])) in
    let l₀ : length s₀ ≡ length s = length-next p s false in
    let s₁ : List Bool = shift p (mix s (true ∷ [])) in
    let l₁ : length s₁ ≡ length s = length-next p s true in
    let lz : length z ≡ length p = length-replicate (length p) false in
    run-shifts p s₁ p (omega arith)
    ∙ ap (shifts p (length p)) (ap (λ (r : List Bool). mix r p) (turned-head p s h) ∙ mix-twice s₀ p)
    ∙ sym (run-shifts p s₀ z (omega arith) ∙ ap (λ (n : ℕ). shifts p n (mix s₀ z)) lz ∙ ap (shifts p (length p)) (mix-zeros s₀ (length p)))

-- ---- where differences lie

-- bits that agree before the place k, and end n places behind it, differ only within a stretch of n
pub fit-between : (k n : ℕ) (u v : List Bool) → take k u ≡ take k v → length u ≤ k + n → length v ≤ k + n → FitIn n u v
unfolding FitIn
fit-between k n u v e hu hv first last d f =
    let from : k ≤ first =
    le_of_suc-le-suc
    (lt_of_not-le
    (λ (h : suc first ≤ k). d
    (sym (get_or-take k u first false h) ∙ ap (λ (x : List Bool). get_or x first false) e ∙ get_or-take k v first false h))) in
    let to : last < k + n =
    lt_of_not-le
    (λ (h : k + n ≤ last).
    let a : length u ≤ last = omega arith in
    let b : length v ≤ last = omega arith in
    f (get_or-eq_default u false a ∙ sym (get_or-eq_default v false b))) in
    omega arith

-- ---- 01, known point (l): "Nest payloads `00 00 00` and `01 10 21`, same id, have one CRC: 17 bits is beyond demand 3"

abbrev zeros : List ℕ
zeros = 0x00 ∷ 0x00 ∷ 0x00 ∷ []

abbrev poly : List ℕ
poly = 0x01 ∷ 0x10 ∷ 0x21 ∷ []

-- their bits: seven zeros, and then the polynomial with its highest term in the place of zeros
abbrev seven : List Bool
seven = replicate 7 false

zeros-bits : bits_of_bytes high_bit_first zeros ≡ seven ++ (false ∷ replicate (length (poly_bits nest_crc)) false)
unfolding bits_of_bytes bits lows poly_bits
zeros-bits = refl

poly-bits : bits_of_bytes high_bit_first poly ≡ seven ++ (true ∷ poly_bits nest_crc)
unfolding bits_of_bytes bits lows poly_bits
poly-bits = refl

-- they differ only within a stretch of 17
pub fit-in-17 : FitIn 17 (bits_of_bytes high_bit_first zeros) (bits_of_bytes high_bit_first poly)
unfolding bits_of_bytes bits lows
fit-in-17 = fit-between 7 17 (bits_of_bytes high_bit_first zeros) (bits_of_bytes high_bit_first poly) refl (omega arith) (omega arith)

poly-length : length (poly_bits nest_crc) ≡ 16
unfolding poly_bits
poly-length = length-bits high_bit_first 16 0x1021

same-state : (v : ℕ) → feed nest_crc v zeros ≡ feed nest_crc v poly
unfolding feed
same-state v =
    let p : List Bool = poly_bits nest_crc in
    let s : List Bool = run p (held nest_crc v) seven in
    let l : length s ≡ 16 = length_run p (held nest_crc v) seven ∙ length-bits high_bit_first 16 v in
    let m : length p ≡ 16 = poly-length in
    ap (of_bits high_bit_first)
    (ap (run p (held nest_crc v)) zeros-bits ∙ run-append p (held nest_crc v) seven (false ∷ replicate (length p) false)
    ∙ sym (unseen p s (omega arith) (omega arith))
    ∙ sym (ap (run p (held nest_crc v)) poly-bits ∙ run-append p (held nest_crc v) seven (true ∷ p)))

-- whatever id and length stand before them
pub nest-sharp : (head : List ℕ) → check nest_crc (head ++ zeros) ≡ check nest_crc (head ++ poly)
nest-sharp head =
    feed-append nest_crc 0 head zeros ∙ same-state (feed nest_crc 0 head) ∙ sym (feed-append nest_crc 0 head poly)
