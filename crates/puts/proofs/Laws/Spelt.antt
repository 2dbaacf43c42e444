-- Bytes that are spelt one by one: a turn of a loop, and two hex digits each.
-- Assumes nothing.
use mathlib.Core.Path.{◌≡◌, refl, sym, ap, ◌∙◌}
use mathlib.Core.List.{List, [], ◌∷◌, ◌++◌}
use Prim.Native.Nat.{ℕ, suc, ◌+◌, ◌*◌, ◌≤◌, ◌<◌}
use native.Mathlib.Numerals.{add-one}
use native.Mathlib.Omega.{arith}
use lib.ListN.{length, take, drop, get_or, set}
use lib.Seq.{sets, take-suc}
use Rattle.digits.specs.Paper.Hex.{hex_byte, hex_bytes}
use Rattle.digits.proofs.Laws.Hex.{length-hex, hex-append}
use Rattle.digits.proofs.Laws.Parts.{next}
use Rattle.puts.specs.Paper.Put.{Put, largest_place}
use Rattle.puts.proofs.Laws.Puts.{◌then◌, puts-as}

-- what is spelt of bytes with one more behind them
pub hex-last : (s : List ℕ) (b : ℕ) → hex_bytes (s ++ (b ∷ [])) ≡ hex_bytes s ++ hex_byte b
unfolding hex_bytes hex_byte
hex-last s b = hex-append s (b ∷ [])

-- a loop's turn over the bytes of s, each of which is spelt by f and all of them by g
pub turn : {r t u : List ℕ} {a b c : ℕ} (f : ℕ → List ℕ) (g : List ℕ → List ℕ) → ((s : List ℕ) (b : ℕ) → g (s ++ (b ∷ [])) ≡ g s ++ f b)
    → (s : List ℕ) (i : ℕ) → i < length s → Put r t a b (g (take i s)) → Put t u b c (f (get_or s i 0)) → Put r u a c (g (take (i + 1) s))
turn f g largest_place s i h p q =
    puts-as (sym (ap (λ (j : ℕ). g (take j s)) (add-one i) ∙ ap g (take-suc s i 0 h) ∙ largest_place (take i s) (get_or s i 0))) (p then q)

-- a loop's turn that stores the two digits of a byte of s, where what is left makes the whole
pub two-stored : (s room two : List ℕ) (a i : ℕ) {whole : List ℕ} → i < length s → two ≡ hex_byte (get_or s i 0) → sets room (a + 2 * i) (hex_bytes (drop i s)) ≡ whole
    → sets (set (set room (a + 2 * i) (get_or two 0 0)) (a + 2 * i + 1) (get_or two 1 0)) (a + 2 * (i + 1)) (hex_bytes (drop (i + 1) s)) ≡ whole
unfolding hex_bytes hex_byte
two-stored s room two a i h e w =
    let rest : List ℕ = hex_bytes (drop (i + 1) s) in
    let x : ℕ = get_or two 0 0 in
    let y : ℕ = get_or two 1 0 in
    let f : a + 2 * i + 1 ≡ suc (a + 2 * i) = omega arith in
    let g : a + 2 * (i + 1) ≡ suc (suc (a + 2 * i)) = omega arith in
    let v : x ∷ y ∷ rest ≡ hex_bytes (drop i s) = ap (λ (t : List ℕ). get_or t 0 0 ∷ get_or t 1 0 ∷ rest) e ∙ ap hex_bytes (sym (next s i h)) in
    ap (λ (j : ℕ). sets (set (set room (a + 2 * i) x) j y) (a + 2 * (i + 1)) rest) f
    ∙ ap (λ (j : ℕ). sets (set (set room (a + 2 * i) x) (suc (a + 2 * i)) y) j rest) g
    ∙ ap (sets room (a + 2 * i)) v
    ∙ w

-- the digits of bytes, in a room that has a place for them
pub put-hex : (r s : List ℕ) (a : ℕ) → length r ≤ largest_place → a + 2 * length s ≤ length r → Put r (sets r a (hex_bytes s)) a (a + 2 * length s) (hex_bytes s)
put-hex r s a l h = record { slice = l; room-is = refl; behind = omega (arith, length-hex s) }
