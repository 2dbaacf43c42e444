-- Bursts: two runs of bits that differ only within a stretch that is no longer than the register end in two registers.
-- At every width, every polynomial whose constant term is 1, and every register to start from; then the same of bytes.
-- Assumes nothing.
use mathlib.Core.Bool.{Bool, true, false, ◌&&◌, Bool-discrete, and-eq-true_iff, true≢false, false≢true}
use mathlib.Core.List.{List, [], ◌∷◌, ◌++◌, Memᴰ}
use mathlib.Core.Path.{◌≡◌, refl, sym, ap, ◌∙◌}
use Prim.Native.Nat.{ℕ, suc, ◌+◌, ◌*◌, ◌≤◌, ◌<◌}
use native.Mathlib.Omega.{arith}
use lib.ListN.{length, get_or, take, drop, length-append, length-take, length-drop, take-append-drop}
use lib.Seq.{ext_get_or, get_or-drop, take_at, drop_at}
use Rattle.digits.specs.Paper.Bytes.{Bytes}
use Rattle.digits.proofs.Laws.Bytes.{bytes-head, bytes-tail}
use Rattle.digits.specs.Paper.Bits.{lows}
use Rattle.checks.specs.Paper.Bits.{BitOrder, bits, bits_of_bytes}
use Rattle.checks.specs.Paper.Check.{Check, run, held, poly_bits, feed, check}
use Rattle.checks.specs.Paper.Buses.{checks}
use Rattle.checks.specs.Paper.Stretch.{FitIn, Burst}
use Rattle.checks.specs.Work.Terms.{last_set}
use Rattle.checks.proofs.Laws.Register.{next, length-next, length_run, run-append, run-inj, run-window}
use Rattle.checks.proofs.Laws.Numbers.{length-bits, number-bits}
use Rattle.checks.proofs.Laws.Feed.{held-feed}

-- a bit is another's or it is not, so what is not unequal is equal
stable : (x y : Bool) → ¬ (¬ (x ≡ y)) → x ≡ y
stable x y h = elim (Bool-discrete x y) [ yes e ↦ e | no n ↦ absurd (h n) ]

-- what fits in a stretch still does without the first bits
later : (x y : Bool) (u v : List Bool) (n : ℕ) → FitIn n (x ∷ u) (y ∷ v) → FitIn n u v
unfolding FitIn
later x y u v n w i j a b = let h : suc j < suc i + n = w (suc i) (suc j) a b in omega arith

-- q has the polynomial's terms but the constant one, which is 1
module _ (q : List Bool) where
  -- the first difference is at the head: all others are within n places of it
  from-head : (s u v : List Bool) (n : ℕ) → length s ≡ suc (length q) → length u ≡ length v → n ≤ length s
      → FitIn n u v → ¬ (get_or u 0 false ≡ get_or v 0 false)
      → run (q ++ (true ∷ [])) s u ≡ run (q ++ (true ∷ [])) s v → u ≡ v
  unfolding FitIn
  from-head s u v n hs l hn w d e =
      let p : List Bool = q ++ (true ∷ []) in
      let rest : drop n u ≡ drop n v =
      ext_get_or false (drop n u) (drop n v) (simp length-drop (omega arith))
      (λ i h. get_or-drop n u i false
      ∙ stable (get_or u (n + i) false) (get_or v (n + i) false)
      (λ g. let far : n + i < 0 + n = w 0 (n + i) d g in omega arith)
      ∙ sym (get_or-drop n v i false)) in
      let split : (x : List Bool) → run p s x ≡ run p (run p s (take n x)) (drop n x) =
      λ x. ap (run p s) (sym (take-append-drop n x)) ∙ run-append p s (take n x) (drop n x) in
      let reached : run p s (take n u) ≡ run p s (take n v) =
      run-inj q (run p s (take n u)) (run p s (take n v)) (drop n u)
      (length_run p s (take n u) ∙ hs) (length_run p s (take n v) ∙ hs)
      (sym (split u) ∙ e ∙ split v ∙ ap (run p (run p s (take n v))) (sym rest)) in
      let front : take n u ≡ take n v =
      run-window q s (take n u) (take n v) hs (simp length-take (omega arith)) (omega (arith, length-take n u)) reached in
      cc (take-append-drop n u, front, rest, take-append-drop n v)

  in_order : (s u v : List Bool) (n : ℕ) → length s ≡ suc (length q) → length u ≡ length v → n ≤ length s
      → FitIn n u v → run (q ++ (true ∷ [])) s u ≡ run (q ++ (true ∷ [])) s v → u ≡ v
  in_order s [] [] n hs l hn w e = refl
  in_order s [] (y ∷ v) n hs l hn w e = absurd (omega arith)
  in_order s (x ∷ u) [] n hs l hn w e = absurd (omega arith)
  in_order s (false ∷ u) (false ∷ v) n hs l hn w e =
      cc (in_order (next (q ++ (true ∷ [])) s false) u v n (length-next _ s false ∙ hs) (omega arith)
      (omega (arith, length-next (q ++ (true ∷ [])) s false)) (later false false u v n w) e)
  in_order s (true ∷ u) (true ∷ v) n hs l hn w e =
      cc (in_order (next (q ++ (true ∷ [])) s true) u v n (length-next _ s true ∙ hs) (omega arith)
      (omega (arith, length-next (q ++ (true ∷ [])) s true)) (later true true u v n w) e)
  in_order s (false ∷ u) (true ∷ v) n hs l hn w e = from-head s (false ∷ u) (true ∷ v) n hs l hn w false≢true e
  in_order s (true ∷ u) (false ∷ v) n hs l hn w e = from-head s (true ∷ u) (false ∷ v) n hs l hn w true≢false e

ends : (p : List Bool) → last_set p ≡ true → (q : List Bool) × (p ≡ q ++ (true ∷ []))
ends [] h = absurd (false≢true h)
ends (b ∷ []) h = ([], cc)
ends (b ∷ d ∷ bs) h = let r = ends (d ∷ bs) h in (b ∷ r.0, cc r.1)

-- THE BURST THEOREM. p is as wide as the register and its last bit is set. Two runs of bits, as long as each other, that differ
-- only within a stretch of n places, n no more than the width, lead from one register to one register only where they are the same.
pub burst : (p s u v : List Bool) (n : ℕ) → length p ≡ length s → last_set p ≡ true → length u ≡ length v → n ≤ length s
    → FitIn n u v → run p s u ≡ run p s v → u ≡ v
burst p s u v n hp last l hn w e =
    let r = ends p last in
    in_order r.0 s u v n (omega (arith, ap length r.1, length-append r.0 (true ∷ []))) l hn w (rw r.1 at e)

-- ---- bytes

bytes-length : (o : BitOrder) (a : List ℕ) → length (bits_of_bytes o a) ≡ length a * 8
unfolding bits_of_bytes
bytes-length o [] = refl
bytes-length o (x ∷ a) =
    omega (arith, length-append (bits o 8 x) (bits_of_bytes o a), length-bits o 8 x, bytes-length o a)

-- bytes are the same where their bits are
bytes_eq : (o : BitOrder) (a b : List ℕ) → length a ≡ length b → Bytes a → Bytes b → bits_of_bytes o a ≡ bits_of_bytes o b → a ≡ b
unfolding bits_of_bytes
bytes_eq o [] [] l ha hb e = refl
bytes_eq o [] (y ∷ b) l ha hb e = absurd (omega arith)
bytes_eq o (x ∷ a) [] l ha hb e = absurd (omega arith)
bytes_eq o (x ∷ a) (y ∷ b) l ha hb e =
    let first : bits o 8 x ≡ bits o 8 y =
    sym (take_at (bits o 8 x) (bits_of_bytes o a) 8 (length-bits o 8 x)) ∙ ap (take 8) e
    ∙ take_at (bits o 8 y) (bits_of_bytes o b) 8 (length-bits o 8 y) in
    let rest : bits_of_bytes o a ≡ bits_of_bytes o b =
    sym (drop_at (bits o 8 x) (bits_of_bytes o a) 8 (length-bits o 8 x)) ∙ ap (drop 8) e
    ∙ drop_at (bits o 8 y) (bits_of_bytes o b) 8 (length-bits o 8 y) in
    cc (
      number-bits o 8 x (bytes-head ha),
      first,
      number-bits o 8 y (bytes-head hb),
      bytes_eq o a b (omega arith) (bytes-tail ha) (bytes-tail hb) rest,
    )

-- A BURST IN BYTES IS FOUND. Of a check whose polynomial has the constant term 1, from any state: as many bytes, whose bits in the
-- check's order differ only within a stretch no longer than the check is wide, lead to the same state only where they are the same.
pub burst-bytes : (c : Check) → last_set (poly_bits c) ≡ true → (v : ℕ) (a b : List ℕ) → Bytes a → Bytes b → length a ≡ length b
    → Burst c a b → feed c v a ≡ feed c v b → a ≡ b
unfolding poly_bits
burst-bytes c last v a b ha hb l w e =
    let o : BitOrder = c.order in
    bytes_eq o a b l ha hb
    (burst (poly_bits c) (held c v) (bits_of_bytes o a) (bits_of_bytes o b) c.width
    (length-bits o c.width c.poly ∙ sym (length-bits o c.width v)) last
    (omega (arith, bytes-length o a, bytes-length o b)) (omega (arith, length-bits o c.width v)) w
    (sym (held-feed c v a) ∙ ap (held c) e ∙ held-feed c v b))

-- ---- the checks of the buses

-- each has the constant term 1
abbrev last_set_all : List Check → Bool
last_set_all [] = true
last_set_all (c ∷ l) = last_set (poly_bits c) && last_set_all l

last-set-of : (c : Check) (l : List Check) → Memᴰ c l → last_set_all l ≡ true → last_set (poly_bits c) ≡ true
last-set-of c [] m h = elim m [ ]
last-set-of c (d ∷ l) (Memᴰ.head e) h = rw e ((and-eq-true_iff (last_set (poly_bits d)) (last_set_all l)).0 h).0
last-set-of c (d ∷ l) (Memᴰ.tail m) h = last-set-of c l m ((and-eq-true_iff (last_set (poly_bits d)) (last_set_all l)).0 h).1

checks-last-set : last_set_all checks ≡ true
unfolding poly_bits bits lows
checks-last-set = refl

-- EVERY CHECK OF THE BUSES FINDS ITS BURSTS: as many bytes that differ only within a stretch as long as the check is wide have
-- another check value.
pub found : (c : Check) → Memᴰ c checks → (a b : List ℕ) → Bytes a → Bytes b → length a ≡ length b
    → Burst c a b → check c a ≡ check c b → a ≡ b
found c m a b ha hb l w e = burst-bytes c (last-set-of c checks m checks-last-set) c.start a b ha hb l w e
