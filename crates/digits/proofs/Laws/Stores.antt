-- Runs of stores, `sets`: one after the other, and a store in front of a run.
-- Assumes nothing.
use mathlib.Core.Path.{◌≡◌, refl, sym, ap, ◌∙◌, subst}
use mathlib.Core.List.{List, [], ◌∷◌, ◌++◌}
use Prim.Native.Nat.{ℕ, suc, ◌+◌, ◌≤◌, ◌<◌}
use native.Mathlib.Nat.{add-zero, add-suc, suc-add, lt_irrefl}
use native.Mathlib.Omega.{arith}
use lib.ListN.{length, drop, set}
use lib.Seq.{sets, sets-eq, set_comm}

-- a store in front of a run comes first
pub set-sets : (vs l : List ℕ) (i j v : ℕ) → i < j → set (sets l j vs) i v ≡ sets (set l i v) j vs
set-sets [] l i j v h = refl
set-sets (a ∷ vs) l i j v h =
    set-sets vs (set l j a) i (suc j) v (omega arith)
    ∙ ap (λ (x : List ℕ). sets x (suc j) vs) (set_comm l j i a v (λ (e : j ≡ i). let z : i < i = subst (λ (x : ℕ). i < x) e h in lt_irrefl i z))

-- two runs, the second where the first ends, are one
pub sets-append : (us vs l : List ℕ) (i : ℕ) → sets (sets l i us) (i + length us) vs ≡ sets l i (us ++ vs)
sets-append [] vs l i = ap (λ (x : ℕ). sets l x vs) (add-zero i)
sets-append (a ∷ us) vs l i =
    ap (λ (x : ℕ). sets (sets (set l i a) (suc i) us) x vs) (add-suc i (length us) ∙ sym (suc-add i (length us))) ∙ sets-append us vs (set l i a) (suc i)

-- a run from the front
pub sets-front : (vs l : List ℕ) → length vs ≤ length l → sets l 0 vs ≡ vs ++ drop (length vs) l
sets-front vs l h =
    let e : 0 + length vs ≡ length vs = omega arith in
    sets-eq vs l 0 (subst (λ (x : ℕ). x ≤ length l) (sym e) h) ∙ ap (λ (x : ℕ). vs ++ drop x l) e
