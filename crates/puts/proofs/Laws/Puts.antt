-- Writers one after the other.
-- Assumes nothing.
use mathlib.Core.Path.{◌≡◌, refl, sym, ap, ◌∙◌, subst}
use mathlib.Core.Bool.{Bool, true, false}
use mathlib.Core.List.{List, [], ◌∷◌, ◌++◌}
use Prim.Native.Nat.{ℕ, suc, ◌+◌, min, ◌≤◌, ◌<◌}
use native.Mathlib.Numerals.{add-one}
use native.Mathlib.Omega.{arith}
use lib.Dec.{leb}
use lib.ListN.{length, take, drop, get_or, set, length-append}
use lib.Seq.{sets, take_at, take-suc, set_out, length-sets}
use borrow.Author.Tests.{leb-true, leb-false}
use Rattle.digits.proofs.Laws.Parts.{next}
use Rattle.digits.proofs.Laws.Stores.{sets-append, sets-front}
use Rattle.puts.specs.Paper.Put.{Put, largest_place}

-- no bytes
pub none : (r : List ℕ) (a : ℕ) → length r ≤ largest_place → a ≤ largest_place → Put r r a a []
none r a h k = record { slice = h; room-is = refl; behind = omega arith }

-- a room stays as long as it was
pub put-length : {r s bs : List ℕ} {a b : ℕ} → Put r s a b bs → length s ≡ length r
put-length {r} {s} {bs} {a} p = ap length p.room-is ∙ length-sets r a bs

-- stores behind the end do nothing
sets-out : (vs l : List ℕ) (i : ℕ) → length l ≤ i → sets l i vs ≡ l
sets-out [] l i h = refl
sets-out (v ∷ vs) l i h = ap (λ (x : List ℕ). sets x (suc i) vs) (set_out l i v h) ∙ sets-out vs l (suc i) (omega arith)

-- a second run where the first ends, or at the largest place where that is behind it
joined : (us vs l : List ℕ) (a b : ℕ) → length l ≤ largest_place → b ≡ min (a + length us) largest_place → sets (sets l a us) b vs ≡ sets l a (us ++ vs)
joined us vs l a b h e = go (leb (a + length us) largest_place) refl
  where
    go : (t : Bool) → leb (a + length us) largest_place ≡ t → sets (sets l a us) b vs ≡ sets l a (us ++ vs)
    go true c =
        let q : a + length us ≤ largest_place = leb-true (a + length us) largest_place c in
        let f : b ≡ a + length us = omega arith in
        ap (λ (x : ℕ). sets (sets l a us) x vs) f ∙ sets-append us vs l a
    go false c =
        let q : largest_place < a + length us = leb-false (a + length us) largest_place c in
        let g : length (sets l a us) ≤ b = omega (arith, length-sets l a us) in
        let k : length (sets l a us) ≤ a + length us = omega (arith, length-sets l a us) in
        sets-out vs (sets l a us) b g ∙ sym (sets-out vs (sets l a us) (a + length us) k) ∙ sets-append us vs l a

-- one writer, and then another from where it ended
infixr 20 ◌then◌
pub ◌then◌ : {r s t : List ℕ} {a b c : ℕ} {us vs : List ℕ} → Put r s a b us → Put s t b c vs → Put r t a c (us ++ vs)
◌then◌ {r} {s} {t} {a} {b} {c} {us} {vs} p q =
    let n = length-append us vs in
    let e : b ≡ min (a + length us) largest_place = p.behind in
    let f : c ≡ min (b + length vs) largest_place = q.behind in
    record {
      slice = p.slice;
      room-is = q.room-is ∙ ap (λ (x : List ℕ). sets x b vs) p.room-is ∙ joined us vs r a b p.slice e;
      behind = omega arith;
    }

pub puts-as : {r s : List ℕ} {a b : ℕ} {us vs : List ℕ} → us ≡ vs → Put r s a b us → Put r s a b vs
puts-as {r} {s} {a} {b} e p = subst (λ (x : List ℕ). Put r s a b x) e p

-- a byte that the room has a place for, and one that it has none for
pub within : (r : List ℕ) (a b : ℕ) → length r ≤ largest_place → a < length r → Put r (set r a b) a (a + 1) (b ∷ [])
within r a b l h = record { slice = l; room-is = refl; behind = omega arith }

pub beyond : (r : List ℕ) (a b n : ℕ) → length r ≤ largest_place → length r ≤ a → n ≡ min (a + 1) largest_place → Put r r a n (b ∷ [])
beyond r a b n l h e = record { slice = l; room-is = sym (set_out r a b h); behind = omega arith }

-- a loop's turn over the bytes of s
pub step : {r t u : List ℕ} {a b c : ℕ} (s : List ℕ) (i : ℕ) → i < length s
    → Put r t a b (take i s) → Put t u b c (get_or s i 0 ∷ []) → Put r u a c (take (i + 1) s)
step s i h p q = puts-as (sym (ap (λ (j : ℕ). take j s) (add-one i) ∙ take-suc s i 0 h)) (p then q)

-- a loop's turn over the bytes of s, where what is left makes the whole
pub stored : (s room : List ℕ) (a i : ℕ) {whole : List ℕ} → i < length s → sets room (a + i) (drop i s) ≡ whole
    → sets (set room (a + i) (get_or s i 0)) (a + (i + 1)) (drop (i + 1) s) ≡ whole
stored s room a i h e =
    let l : List ℕ = set room (a + i) (get_or s i 0) in
    let f : a + (i + 1) ≡ suc (a + i) = omega arith in
    ap (λ (j : ℕ). sets l j (drop (i + 1) s)) f ∙ ap (sets room (a + i)) (sym (next s i h)) ∙ e

-- bytes that the room has a place for
pub put_all : (r s : List ℕ) (a : ℕ) → length r ≤ largest_place → a + length s ≤ length r → Put r (sets r a s) a (a + length s) s
put_all r s a l h = record { slice = l; room-is = refl; behind = omega arith }

-- bytes at the front of a room that has room for them: how many, the room, and its front
module _ {r s bs : List ℕ} {n : ℕ} (p : Put r s 0 n bs) (l : length bs ≤ length r) where
  pub front-count : n ≡ length bs
  front-count = omega (arith, p.behind, p.slice)

  pub front-room : s ≡ bs ++ drop (length bs) r
  front-room = p.room-is ∙ sets-front bs r l

  pub front_bytes : take n s ≡ bs
  front_bytes = ap (take n) front-room ∙ take_at bs (drop (length bs) r) n (sym front-count)
