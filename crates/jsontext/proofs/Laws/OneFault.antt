-- A text has one fault at most: two readings stop at one place, for want of the same.
-- Assumes nothing.
use mathlib.Core.Bool.{Bool, true, false, cond}
use mathlib.Core.Path.{◌≡◌, refl, sym, subst, ◌∙◌}
use mathlib.Core.List.{List, [], ◌∷◌, ◌++◌}
use Prim.Native.Nat.{ℕ, zero, suc, ◌≤◌, ◌<◌}
use native.Mathlib.Omega.{arith}
use lib.Dec.{eqb}
use lib.ListN.{length, drop}
use Rattle.std.specs.Prelude.{Option, Some}
use Rattle.jsontext.specs.Paper.Abnf.{Rule}
use Rattle.jsontext.specs.Paper.Faults.{Stops, InMember, no_name, no-colon, no_value, Names, InItems, no_item, twice, no-comma, further}
use Rattle.jsontext.specs.Paper.Faults.{behind_blanks, value_stops, FaultOf, none, long, inside, behind}
use Rattle.jsontext.specs.Paper.Names.{InGrammar, most_depth}
use Rattle.jsontext.specs.Work.Tight.{Without, Blanks, tight}
use Rattle.jsontext.specs.Work.Units.{name_in}
use Rattle.jsontext.specs.declared.faults.Fault.{Fault}
use Rattle.jsontext.specs.declared.faults.Fault.TheVariants.{At}
use Rattle.jsontext.specs.declared.faults.Lack.{Lack}
use Rattle.jsontext.specs.declared.faults.Lack.TheVariants.{Value, Depth}
use Rattle.jsontext.proofs.Laws.Grammar.{text-to}
use Rattle.jsontext.proofs.Laws.Once.{same_place}
use Rattle.jsontext.proofs.Laws.Only.{Only, string-only, blanks-only, tight-only, member-only}
use Rattle.jsontext.proofs.Laws.Places.{tail_of, nothing, at_place}

-- two stops are the same; all those of one text are
abbrev Same : Lack → List ℕ → Lack → List ℕ → Type 0
Same w t v u = (w ≡ v) × (t ≡ u)

abbrev OneAt : (Lack → List ℕ → Type 0) → Type 0
OneAt f = (w v : Lack) (t u : List ℕ) → f w t → f v u → Same w t v u

abbrev One : Stops → Type 0
One f = (s : List ℕ) → OneAt (f s)

same_item : {item : Rule} {s a b : List ℕ} → Only item → item s a → item s b → a ≡ b
same_item only x y = only _ _ _ _ refl x y

same-blanks : {a b m n : List ℕ} → a ≡ b → Blanks a m → Blanks b n → m ≡ n
same-blanks e x y = blanks-only _ _ _ _ e x y

-- behind blanks, a byte and blanks again
same-behind : {a b m n c d p q : List ℕ} {x : ℕ} → a ≡ b → Blanks a m → Blanks b n → m ≡ x ∷ c → n ≡ x ∷ d → Blanks c p → Blanks d q → p ≡ q
same-behind e k l i j x y = same-blanks (tail_of (sym i ∙ same-blanks e k l ∙ j)) x y

behind-one : {f : Stops} → One f → One (behind_blanks f)
behind-one {f} o s w v t u (m, b, x) (n, c, y) = o m w v t u x (subst (λ (l : List ℕ). f l v u) (same-blanks refl c b) y)

-- ---- a member

member-one : {f : Stops} → One f → One (InMember f)
member-one {f} o s w v t u x y = go x y
  where
    go : {s t u : List ℕ} {w v : Lack} → InMember f s w t → InMember f s v u → Same w t v u
    go (no_name n) (no_name m) = (refl, refl)
    go (no_name n) (no-colon x b m) = absurd (n _ x)
    go (no_name n) (no_value x b e c y) = absurd (n _ x)
    go (no-colon x b n) (no_name m) = absurd (m _ x)
    go (no-colon x b n) (no-colon y c m) = (refl, same-blanks (same_item string-only x y) b c)
    go (no-colon x b n) (no_value y c e d z) = absurd (n _ (same-blanks (same_item string-only x y) b c ∙ e))
    go (no_value x b e c y) (no_name m) = absurd (m _ x)
    go (no_value x b e c y) (no-colon z d m) = absurd (m _ (same-blanks (same_item string-only z x) d b ∙ e))
    go {u = u} {w} {v} (no_value x b e c y) (no_value z d i g k) =
        o _ w v _ u y (subst (λ (l : List ℕ). f l v u) (same-behind (same_item string-only z x) d b i e g c) k)

-- ---- what stands in brackets

module _ {item : Rule} {May : Names} {f : Stops} (only : Only item) (o : One f) where
  items-one : {ns : List (List ℕ)} {s t u : List ℕ} {w v : Lack} → InItems item May f ns s w t → InItems item May f ns s v u → Same w t v u
  items-one (no_item n x) (no_item m y) = o _ _ _ _ _ x y
  items-one (no_item n x) (twice i m) = absurd (n _ i)
  items-one (no_item n x) (no-comma i m b c) = absurd (n _ i)
  items-one (no_item n x) (further i m b e c r) = absurd (n _ i)
  items-one (twice i n) (no_item m y) = absurd (m _ i)
  items-one (twice i n) (twice j m) = (refl, refl)
  items-one (twice i n) (no-comma j m b c) = absurd (n m)
  items-one (twice i n) (further j m b e c r) = absurd (n m)
  items-one (no-comma i m b c) (no_item n y) = absurd (n _ i)
  items-one (no-comma i m b c) (twice j n) = absurd (n m)
  items-one (no-comma i m b c) (no-comma j n d e) = (refl, same-blanks (same_item only i j) b d)
  items-one (no-comma i m b c) (further j n d e g r) = absurd (c _ (same-blanks (same_item only i j) b d ∙ e))
  items-one (further i m b e c r) (no_item n y) = absurd (n _ i)
  items-one (further i m b e c r) (twice j n) = absurd (n m)
  items-one (further i m b e c r) (no-comma j n d g) = absurd (g _ (same-blanks (same_item only j i) d b ∙ e))
  items-one {ns} {s} {u = u} {v = v} (further i m b e c r) (further j n d g h q) =
      items-one {u = u} r (subst (λ (l : List ℕ). InItems item May f (ns ++ (name_in s ∷ [])) l v u) (same-behind (same_item only j i) d b g e h c) q)

-- ---- a value

told : (w : Lack) (t : List ℕ) → OneAt (λ v u. (v ≡ w) × (u ≡ t))
told w t v x u y (e, i) (g, j) = (e ∙ sym g, i ∙ sym j)

either : (x : Bool) {f g : Lack → List ℕ → Type 0} → OneAt f → OneAt g → OneAt (λ w t. cond x (f w t) (g w t))
either true a b = a
either false a b = b

value-one : (d : ℕ) → One (value_stops d)
unfolding value_stops
value-one zero [] = told Value []
value-one zero (b ∷ u) = told Depth (b ∷ u)
value-one (suc d) [] = told Value []
value-one (suc d) (b ∷ u) =
    either (eqb b 0x7B) (behind-one (λ s w v t u x y. items-one (member-only true d) (member-one (value-one d)) x y) u)
    (either (eqb b 0x5B) (behind-one (λ s w v t u x y. items-one (tight-only true d) (value-one d) x y) u) (told Value (b ∷ u)))

-- ---- the whole text

-- a text of the grammar is read to its end
read_all : {s a b : List ℕ} → InGrammar s → Blanks s a → tight true most_depth a b → Blanks b []
read_all {s} {a} {b} g k x =
    let r = text-to most_depth s g.text in
    subst (λ (l : List ℕ). Blanks l []) (tight-only true most_depth _ _ _ _ (same-blanks refl r.before k) r.is x) r.behind

-- behind the first blanks a value stands, or none does
not-both : {s a b : List ℕ} (c : List ℕ) → Blanks s a → Without (tight true most_depth) a → Blanks s b → tight true most_depth b c → ⊥
not-both c k n l x = n c (subst (λ (l : List ℕ). tight true most_depth l c) (same-blanks refl l k) x)

a-value : {s a : List ℕ} → InGrammar s → Blanks s a → Without (tight true most_depth) a → ⊥
a-value {s} g k n = let r = text-to most_depth s g.text in not-both r.b k n r.before r.is

no_end : (s : List ℕ) {b : List ℕ} {n : ℕ} → n < length s → Blanks b (drop n s) → Blanks b [] → ⊥
no_end s {n = n} h x y = nothing (same-blanks refl y x ∙ at_place s n h)

same_stop : (s : List ℕ) {w v : Lack} {n m : ℕ} → n ≤ length s → m ≤ length s → Same w (drop n s) v (drop m s) → Some (At w n) ≡ Some (At v m)
same_stop s {w} {v} {n} {m} h k (e, i) = let j : n ≡ m = same_place s h k i in rw e (rw j refl)

pub one-fault : {s : List ℕ} {r q : Option Fault} → FaultOf s r → FaultOf s q → r ≡ q
one-fault (none g) (none h) = refl
one-fault (none g) (long h) = absurd (omega (arith, g.short))
one-fault (none g) (inside h b n l x) = absurd (a-value g b n)
one-fault {s} (none g) (behind h b x n c) = absurd (no_end s n c (read_all g b x))
one-fault (long h) (none g) = absurd (omega (arith, g.short))
one-fault (long h) (long k) = refl
one-fault (long h) (inside k b n l x) = absurd (omega arith)
one-fault (long h) (behind k b x n c) = absurd (omega arith)
one-fault (inside h b n l x) (none g) = absurd (a-value g b n)
one-fault (inside h b n l x) (long k) = absurd (omega arith)
one-fault {s} (inside {w = w} h b n l x) (inside {w = v} {n = m} k c o i y) =
    same_stop s l i (value-one most_depth _ w v _ _ x (subst (λ (a : List ℕ). value_stops most_depth a v (drop m s)) (same-blanks refl c b) y))
one-fault (inside h b n l x) (behind {b = e} k c y o d) = absurd (not-both e b n c y)
one-fault {s} (behind h b x n c) (none g) = absurd (no_end s n c (read_all g b x))
one-fault (behind h b x n c) (long k) = absurd (omega arith)
one-fault (behind {b = e} h b x n c) (inside k d o l y) = absurd (not-both e d o b x)
one-fault {s} (behind {n = n} h b x l c) (behind {n = m} k d y i e) =
    let j : n ≤ length s = omega arith in
    let g : m ≤ length s = omega arith in
    same_stop s j g (refl, same-blanks (tight-only true most_depth _ _ _ _ (same-blanks refl b d) x y) c e)
