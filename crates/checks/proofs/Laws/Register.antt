-- Laws of the register: of `mix`, `shift` and `run`, at every width and polynomial.
-- Assumes nothing.
use mathlib.Core.Bool.{Bool, true, false, cond}
use mathlib.Core.List.{List, [], ◌∷◌, ◌++◌}
use mathlib.Core.Path.{◌≡◌, refl, sym, ap, ◌∙◌}
use Prim.Native.Nat.{ℕ, zero, suc, ◌≤◌}
use native.Mathlib.Omega.{arith}
use native.Mathlib.Numerals.{add-one}
use lib.ListN.{length, length-append, replicate}
use Rattle.checks.specs.Paper.Check.{xor, mix, shift, run}

-- ---- xor

xor-swap : (a b c : Bool) → xor (xor a b) c ≡ xor (xor a c) b
xor-swap false false false = refl
xor-swap false false true = refl
xor-swap false true false = refl
xor-swap false true true = refl
xor-swap true false false = refl
xor-swap true false true = refl
xor-swap true true false = refl
xor-swap true true true = refl

xor-cancel : (a b c : Bool) → xor a b ≡ xor a c → b ≡ c
xor-cancel false b c e = e
xor-cancel true false false e = refl
xor-cancel true false true e = sym e
xor-cancel true true false e = sym e
xor-cancel true true true e = refl

xor-cancel-right : (a b c : Bool) → xor a c ≡ xor b c → a ≡ b
xor-cancel-right false false c e = refl
xor-cancel-right true true c e = refl
xor-cancel-right false true false e = e
xor-cancel-right false true true e = sym e
xor-cancel-right true false false e = e
xor-cancel-right true false true e = sym e

xor-twice : (a b : Bool) → xor (xor a b) b ≡ a
xor-twice false false = refl
xor-twice false true = refl
xor-twice true false = refl
xor-twice true true = refl

-- ---- mix

pub length-mix : (xs ys : List Bool) → length (mix xs ys) ≡ length xs
length-mix xs [] = refl
length-mix [] (y ∷ ys) = refl
length-mix (x ∷ xs) (y ∷ ys) = ap suc (length-mix xs ys)

mix-swap : (a b c : List Bool) → mix (mix a b) c ≡ mix (mix a c) b
mix-swap a [] c = refl
mix-swap a (y ∷ b) [] = refl
mix-swap [] (y ∷ b) (z ∷ c) = refl
mix-swap (x ∷ a) (y ∷ b) (z ∷ c) = cc (xor-swap x y z, mix-swap a b c)

-- as long a list is added to the first part alone
pub mix-append : (a b c d : List Bool) → length a ≡ length b → mix (a ++ c) (b ++ d) ≡ mix a b ++ mix c d
mix-append [] [] c d h = refl
mix-append [] (y ∷ b) c d h = absurd (omega arith)
mix-append (x ∷ a) [] c d h = absurd (omega arith)
mix-append (x ∷ a) (y ∷ b) c d h = cc (mix-append a b c d (omega arith))

mix-front : (a b c : List Bool) → length b ≤ length a → mix (a ++ c) b ≡ mix a b ++ c
mix-front a [] c h = refl
mix-front [] (y ∷ b) c h = absurd (omega arith)
mix-front (x ∷ a) (y ∷ b) c h = cc (mix-front a b c (omega arith))

-- a 0 at the end of what is added adds nothing
pub mix-zero : (a b : List Bool) → mix a (b ++ (false ∷ [])) ≡ mix a b
mix-zero [] [] = refl
mix-zero (false ∷ a) [] = refl
mix-zero (true ∷ a) [] = refl
mix-zero [] (y ∷ b) = refl
mix-zero (x ∷ a) (y ∷ b) = cc (mix-zero a b)

-- nor do zeros
pub mix-zeros : (t : List Bool) (n : ℕ) → mix t (replicate n false) ≡ t
mix-zeros t zero = refl
mix-zeros [] (suc n) = refl
mix-zeros (false ∷ t) (suc n) = cc (mix-zeros t n)
mix-zeros (true ∷ t) (suc n) = cc (mix-zeros t n)

-- added twice, bits are as before
pub mix-twice : (a b : List Bool) → mix (mix a b) b ≡ a
mix-twice a [] = refl
mix-twice [] (y ∷ b) = refl
mix-twice (x ∷ a) (y ∷ b) = cc (xor-twice x y, mix-twice a b)

mix-cancel : (a b c : List Bool) → length b ≡ length c → length b ≤ length a → mix a b ≡ mix a c → b ≡ c
mix-cancel a [] [] l h e = refl
mix-cancel a [] (z ∷ c) l h e = absurd (omega arith)
mix-cancel a (y ∷ b) [] l h e = absurd (omega arith)
mix-cancel [] (y ∷ b) (z ∷ c) l h e = absurd (omega arith)
mix-cancel (x ∷ a) (y ∷ b) (z ∷ c) l h e =
    cc (xor-cancel x y z (cc), mix-cancel a b c (omega arith) (omega arith) (cc))

mix-cancel-right : (a b c : List Bool) → mix a c ≡ mix b c → a ≡ b
mix-cancel-right a b [] e = e
mix-cancel-right [] [] (z ∷ c) e = refl
mix-cancel-right [] (y ∷ b) (z ∷ c) e = cc
mix-cancel-right (x ∷ a) [] (z ∷ c) e = cc
mix-cancel-right (x ∷ a) (y ∷ b) (z ∷ c) e = cc (xor-cancel-right x y z (cc), mix-cancel-right a b c (cc))

-- ---- the last bit

snoc-eq : (a b : List Bool) (x y : Bool) → a ++ (x ∷ []) ≡ b ++ (y ∷ []) → (a ≡ b) × (x ≡ y)
snoc-eq [] [] x y e = (refl, cc)
snoc-eq [] (d ∷ b) x y e = absurd (omega (arith, ap length e, length-append b (y ∷ [])))
snoc-eq (d ∷ a) [] x y e = absurd (omega (arith, ap length e, length-append a (x ∷ [])))
snoc-eq (d ∷ a) (f ∷ b) x y e =
    let r : (a ≡ b) × (x ≡ y) = snoc-eq a b x y (cc) in
    (cc r.0, r.1)

-- ---- shift

length_shift : (p s : List Bool) → length (shift p s) ≡ length s
length_shift p [] = refl
length_shift p (false ∷ t) = length-append t (false ∷ []) ∙ add-one (length t)
length_shift p (true ∷ t) = length-mix (t ++ (false ∷ [])) p ∙ length-append t (false ∷ []) ∙ add-one (length t)

-- bits that do not reach the end are added before the shift or after it
shift-mix : (p t bs : List Bool) (k : Bool) → length bs ≤ length t → mix (shift p (k ∷ t)) bs ≡ shift p (k ∷ mix t bs)
shift-mix p t bs false h = mix-front t bs (false ∷ []) h
shift-mix p t bs true h = mix-swap (t ++ (false ∷ [])) p bs ∙ rw (mix-front t bs)

-- the polynomial's last bit, its constant term, is set: so a shift loses nothing
shifted : (q t : List Bool) → length t ≡ length q → (k : Bool)
    → shift (q ++ (true ∷ [])) (k ∷ t) ≡ cond k (mix t q) t ++ (k ∷ [])
shifted q t h false = refl
shifted q t h true = mix-append t q (false ∷ []) (true ∷ []) h

shift-inj : (q s t : List Bool) → length s ≡ suc (length q) → length t ≡ suc (length q)
    → shift (q ++ (true ∷ [])) s ≡ shift (q ++ (true ∷ [])) t → s ≡ t
shift-inj q [] t hs ht e = absurd (omega arith)
shift-inj q (x ∷ s) [] hs ht e = absurd (omega arith)
shift-inj q (x ∷ s) (y ∷ t) hs ht e =
    let r : (cond x (mix s q) s ≡ cond y (mix t q) t) × (x ≡ y) =
    snoc-eq _ _ _ _ (sym (shifted q s (omega arith) x) ∙ e ∙ shifted q t (omega arith) y) in
    cc (r.1, same x (r.0 ∙ ap (λ (z : Bool). cond z (mix t q) t) (sym r.1)))
  where
    same : (x : Bool) → cond x (mix s q) s ≡ cond x (mix t q) t → s ≡ t
    same false e = e
    same true e = mix-cancel-right s t q e

-- ---- shifts, and a run of at most as many bits as the register has

abbrev pub shifts : List Bool → ℕ → List Bool → List Bool
shifts p zero s = s
shifts p (suc n) s = shifts p n (shift p s)

shifts-inj : (q : List Bool) (n : ℕ) (s t : List Bool) → length s ≡ suc (length q) → length t ≡ suc (length q)
    → shifts (q ++ (true ∷ [])) n s ≡ shifts (q ++ (true ∷ [])) n t → s ≡ t
shifts-inj q zero s t hs ht e = e
shifts-inj q (suc n) s t hs ht e =
    shift-inj q s t hs ht (shifts-inj q n _ _ (length_shift _ s ∙ hs) (length_shift _ t ∙ ht) e)

-- the bits of a run that is no longer than the register may be added all at once, before the shifts
pub run-shifts : (p s bs : List Bool) → length bs ≤ length s → run p s bs ≡ shifts p (length bs) (mix s bs)
run-shifts p s [] h = refl
run-shifts p [] (b ∷ bs) h = absurd (omega arith)
run-shifts p (x ∷ s) (b ∷ bs) h =
    run-shifts p (shift p (xor x b ∷ s)) bs (omega (arith, length_shift p (xor x b ∷ s)))
    ∙ ap (shifts p (length bs)) (shift-mix p s bs (xor x b) (omega arith))

-- the register after a bit
abbrev pub next : List Bool → List Bool → Bool → List Bool
next p s b = shift p (mix s (b ∷ []))

pub length-next : (p s : List Bool) (b : Bool) → length (next p s b) ≡ length s
length-next p s b = length_shift p (mix s (b ∷ [])) ∙ length-mix s (b ∷ [])

pub length_run : (p s bs : List Bool) → length (run p s bs) ≡ length s
length_run p s [] = refl
length_run p s (b ∷ bs) = length_run p (next p s b) bs ∙ length-next p s b

pub run-append : (p s a b : List Bool) → run p s (a ++ b) ≡ run p (run p s a) b
run-append p s [] b = refl
run-append p s (x ∷ a) b = run-append p (next p s x) a b

-- from two registers the same bits lead to one register only where the two are the same
pub run-inj : (q s t bs : List Bool) → length s ≡ suc (length q) → length t ≡ suc (length q)
    → run (q ++ (true ∷ [])) s bs ≡ run (q ++ (true ∷ [])) t bs → s ≡ t
run-inj q s t [] hs ht e = e
run-inj q s t (b ∷ bs) hs ht e =
    mix-cancel-right s t (b ∷ [])
    (shift-inj q _ _ (length-mix s (b ∷ []) ∙ hs) (length-mix t (b ∷ []) ∙ ht)
    (run-inj q _ _ bs (length-next _ s b ∙ hs) (length-next _ t b ∙ ht) e))

-- two runs of one length that is no more than the register's, from one register to one: the bits are the same
pub run-window : (q s x y : List Bool) → length s ≡ suc (length q) → length x ≡ length y → length x ≤ length s
    → run (q ++ (true ∷ [])) s x ≡ run (q ++ (true ∷ [])) s y → x ≡ y
run-window q s x y hs l h e =
    let p : List Bool = q ++ (true ∷ []) in
    mix-cancel s x y l h
    (shifts-inj q (length x) (mix s x) (mix s y) (length-mix s x ∙ hs) (length-mix s y ∙ hs)
    (sym (run-shifts p s x h) ∙ e ∙ run-shifts p s y (omega arith)
    ∙ ap (λ (n : ℕ). shifts p n (mix s y)) (sym l)))
