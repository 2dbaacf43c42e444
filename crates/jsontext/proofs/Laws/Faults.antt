-- The fault of a text, found from the front.
-- Assumes nothing.
use mathlib.Core.Bool.{Bool, true, false}
use mathlib.Core.Logic.{⊎_elim}
use mathlib.Core.Path.{◌≡◌, refl, sym, subst}
use mathlib.Core.List.{List, [], ◌∷◌, ◌++◌}
use Prim.Native.Nat.{ℕ, zero, suc, ◌+◌, ◌-◌, ◌≤◌, ◌<◌}
use native.Mathlib.Omega.{arith}
use lib.ListN.{length, get_or, drop}
use lib.Dec.{eqb}
use borrow.Author.Tests.{ne_eqb, eqb-true, eqb-false}
use Rattle.std.specs.Prelude.{None, Some}
use Rattle.digits.specs.Paper.Read.{Decides, holds, fails}
use Rattle.jsontext.specs.Paper.Abnf.{Rule, byte}
use Rattle.jsontext.specs.Paper.Faults.{Stops, InMember, no_name, no-colon, no_value, Names, other_name}
use Rattle.jsontext.specs.Paper.Faults.{InItems, no_item, twice, no-comma, further, behind_blanks, array_stops, object_stops, value_stops, FaultOf, inside, behind}
use Rattle.jsontext.specs.Paper.Json.{blank, string}
use Rattle.jsontext.specs.Paper.Names.{InGrammar, most_bytes, most_depth}
use Rattle.jsontext.specs.Work.Faults.{StopsFrom, at, Stands}
use Rattle.jsontext.specs.Work.Found.{Found, Skipped}
use Rattle.jsontext.specs.Work.Names.{Reached, here, TellsNew}
use Rattle.jsontext.specs.Work.Tight.{Without, Member, tight}
use Rattle.jsontext.specs.Work.Units.{name_in}
use Rattle.jsontext.specs.declared.faults.Fault.{Fault}
use Rattle.jsontext.specs.declared.faults.Fault.TheVariants.{At}
use Rattle.jsontext.specs.declared.faults.Lack.{Lack}
use Rattle.jsontext.specs.declared.faults.Lack.TheVariants.{Value, Depth, Name, OtherName, Colon, Comma, End}
use Rattle.jsontext.proofs.Laws.Accepts.{all_read}
use Rattle.jsontext.proofs.Laws.Chars.{less, equal}
use Rattle.jsontext.proofs.Laws.Once.{told-true, plain-found, a-next, reached-on}
use Rattle.jsontext.proofs.Laws.Places.{at_place, at-end, stands, not_there, past, Ends, found, not_found, told-yes, told-no}

-- ---- a byte at a place

pub past_end : (s : List ℕ) (p b : ℕ) → length s ≤ p → Decides (Stands s p b) false
past_end s p b h = fails (λ x. omega (arith, x.inside))

pub that-byte : (s : List ℕ) (p b : ℕ) → p < length s → Decides (Stands s p b) (eqb (get_or s p 0) b)
that-byte s p b h = by (eqb (get_or s p 0) b) refl
  where
    by : (x : Bool) → eqb (get_or s p 0) b ≡ x → Decides (Stands s p b) x
    by true e = holds (record { inside = h; is = eqb-true _ _ e })
    by false e = fails (λ x. eqb-false _ _ e x.is)

pub no_byte : {s : List ℕ} {p b : ℕ} → (Stands s p b → ⊥) → Without (byte b) (drop p s)
no_byte {s} {p} {b} f =
    ⊎_elim (λ h. ⊎_elim (λ e. absurd (f (record { inside = h; is = e }))) (λ n. not_there s p b h n) (equal (get_or s p 0) b)) (λ h. past s p b h)
    (less p (length s))

-- ---- what stands in brackets

-- the items behind the bracket at p are good up to the place i: a fault from i on is theirs
pub record Passing (item : Rule) (May : Names) (f : Stops) (s : List ℕ) (p i : ℕ) : Type 0 where
  pub within : i ≤ length s
  pub names : List (List ℕ)
  pub back : (w : Lack) (t : List ℕ) → InItems item May f names (drop i s) w t → behind_blanks (InItems item May f []) (drop p s) w t

pub set_out : {item : Rule} {May : Names} {f : Stops} {s : List ℕ} {p a : ℕ} → p ≤ length s → Skipped blank s p a → Passing item May f s p a
set_out {s = s} {a = a} h k = record { within = k.within h; names = []; back = λ w t x. (drop a s, k.is, x) }

module _ {item : Rule} {May : Names} {f : Stops} {s : List ℕ} {p i : ℕ} (g : Passing item May f s p i) where
  abbrev Here : Fault → Type 0
  Here r = StopsFrom (behind_blanks (InItems item May f [])) s p r

  -- the next item is none, and has a fault of its own
  pub in_item : {r : Fault} → Found item s i None → StopsFrom f s i r → Here r
  in_item v (at h x) = at h (g.back _ _ (no_item (not_found v) x))

  module _ {e : ℕ} (v : Ends item s i e) where
    pub named-before : (May g.names (drop i s) → ⊥) → Here (At OtherName i)
    named-before n = at g.within (g.back _ _ (twice v.is n))

    module _ {j : ℕ} (m : May g.names (drop i s)) (k : Skipped blank s e j) where
      pub comma-lacks : (Stands s j 0x2C → ⊥) → Here (At Comma j)
      comma-lacks n = at (k.within v.within) (g.back _ _ (no-comma v.is m k.is (no_byte n)))

      pub pass_on : {a : ℕ} → Stands s j 0x2C → Skipped blank s (j + 1) a → Passing item May f s p a
      pass_on n q =
          record {
            within = q.within (omega (arith, n.inside));
            names = g.names ++ (name_in (drop i s) ∷ []);
            back = λ w t x. g.back w t (further v.is m k.is (stands s j 0x2C n.inside n.is) q.is x);
          }

-- ---- members

-- the same of an object's members, with their names
pub record PassingMembers (d : ℕ) (s : List ℕ) (p first i : ℕ) : Type 0 where
  pub passing : Passing (Member (tight true d)) other_name (InMember (value_stops d)) s p i
  pub reached : Reached (tight false d) s first i passing.names

pub set-out-members : {d : ℕ} {s : List ℕ} {p a : ℕ} → p ≤ length s → Skipped blank s p a → PassingMembers d s p a a
unfolding set_out
set-out-members h k = record { passing = set_out h k; reached = here }

module _ {d : ℕ} {s : List ℕ} {p first i : ℕ} (g : PassingMembers d s p first i) where
  module _ {b : Bool} (t : TellsNew true (tight false d) s first i b) where
    pub is-other : b ≡ true → other_name g.passing.names (drop i s)
    is-other e = told-yes (t g.passing.names g.reached) e

    pub is-twice : b ≡ false → other_name g.passing.names (drop i s) → ⊥
    is-twice e = told-no (t g.passing.names g.reached) e

  pub members-on : {e j a : ℕ} → Found (Member (tight true d)) s i (Some e) → other_name g.passing.names (drop i s)
      → Skipped blank s e j → Stands s j 0x2C → Skipped blank s (j + 1) a → PassingMembers d s p first a
  unfolding pass_on
  members-on v m k n q =
      record { passing = pass_on g.passing (found v) m k n q; reached = reached-on g.reached (a-next (plain-found true d v) k n.inside n.is q) }

module _ {f : Stops} {s : List ℕ} {p : ℕ} where
  pub name-lacks : p ≤ length s → Found string s p None → StopsFrom (InMember f) s p (At Name p)
  name-lacks h v = at h (no_name (not_found v))

  module _ {a b : ℕ} (v : Ends string s p a) (k : Skipped blank s a b) where
    pub colon-lacks : (Stands s b 0x3A → ⊥) → StopsFrom (InMember f) s p (At Colon b)
    colon-lacks n = at (k.within v.within) (no-colon v.is k.is (no_byte n))

    pub in-its-value : {c : ℕ} {r : Fault} → Stands s b 0x3A → Skipped blank s (b + 1) c → StopsFrom f s c r → StopsFrom (InMember f) s p r
    in-its-value n q (at l x) = at l (no_value v.is k.is (stands s b 0x3A n.inside n.is) q.is x)

-- ---- values, by their first byte

nothing-there : (d : ℕ) → value_stops d [] Value []
unfolding value_stops
nothing-there zero = (refl, refl)
nothing-there (suc d) = (refl, refl)

pub text-ends : (d : ℕ) {s : List ℕ} {p : ℕ} → p ≤ length s → length s ≤ p → StopsFrom (value_stops d) s p (At Value p)
text-ends d {s} {p} h k = at h (subst (λ (l : List ℕ). value_stops d l Value l) (sym (at-end s p k)) (nothing-there d))

module _ (d : ℕ) {s : List ℕ} {p : ℕ} (h : p < length s) where
  -- a fault of the byte at p and what stands behind it, one level deeper
  from_byte : (b : ℕ) {w : Lack} {n : ℕ} → get_or s p 0 ≡ b → n ≤ length s → value_stops (suc d) (b ∷ drop (p + 1) s) w (drop n s)
      → StopsFrom (value_stops (suc d)) s p (At w n)
  from_byte b {w} {n} e l x = at l (subst (λ (l : List ℕ). value_stops (suc d) l w (drop n s)) (sym (stands s p b h e)) x)

  pub in-object-there : {r : Fault} → get_or s p 0 ≡ 0x7B → StopsFrom (object_stops d) s (p + 1) r → StopsFrom (value_stops (suc d)) s p r
  unfolding value_stops
  in-object-there e (at l x) = from_byte 0x7B e l x

  pub in-array-there : {r : Fault} → get_or s p 0 ≡ 0x5B → StopsFrom (array_stops d) s (p + 1) r → StopsFrom (value_stops (suc d)) s p r
  unfolding value_stops
  in-array-there e (at l x) = from_byte 0x5B e l x

  pub no-value-there : ((get_or s p 0 ≡ 0x7B) → ⊥) → ((get_or s p 0 ≡ 0x5B) → ⊥) → StopsFrom (value_stops (suc d)) s p (At Value p)
  unfolding value_stops
  no-value-there f g =
      let l : p ≤ length s = omega arith in
      from_byte (get_or s p 0) refl l (rw (ne_eqb (get_or s p 0) 0x7B f) (rw (ne_eqb (get_or s p 0) 0x5B g) (refl, at_place s p h)))

pub deeper : {d : ℕ} {s : List ℕ} {p : ℕ} {r : Fault} → ((d ≡ 0) → ⊥) → StopsFrom (value_stops (suc (d - 1))) s p r → StopsFrom (value_stops d) s p r
deeper {d} {s} {p} {r} n x = let e : suc (d - 1) ≡ d = omega (arith, n) in subst (λ (i : ℕ). StopsFrom (value_stops i) s p r) e x

pub nested-too-deep : {d : ℕ} {s : List ℕ} {p : ℕ} → d ≡ 0 → p < length s → StopsFrom (value_stops d) s p (At Depth p)
unfolding value_stops
nested-too-deep {s = s} {p} e h =
    let l : p ≤ length s = omega arith in
    rw e (at l (subst (λ (l : List ℕ). value_stops 0 l Depth (drop p s)) (sym (at_place s p h)) (refl, at_place s p h)))

-- ---- the whole text

pub in-text : {s : List ℕ} {a : ℕ} {r : Fault} → length s ≤ most_bytes → Skipped blank s 0 a → Found (tight true most_depth) s a None
    → StopsFrom (value_stops most_depth) s a r → FaultOf s (Some r)
in-text h k v (at l x) = inside h k.is (not_found v) l x

-- a value, and something behind it, or the text would be in the grammar
pub behind-value : {s : List ℕ} {a b c : ℕ} → length s ≤ most_bytes → (InGrammar s → ⊥) → Skipped blank s 0 a → Ends (tight true most_depth) s a b
    → Skipped blank s b c → FaultOf s (Some (At End c))
behind-value {s} {c = c} h n k v l =
    ⊎_elim (λ e. behind h k.is v.is e l.is) (λ e. absurd (n (told-true (all_read k v l h e) refl))) (less c (length s))
