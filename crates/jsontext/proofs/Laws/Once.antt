-- The names of an object, looked through one by one.
-- Assumes nothing.
use mathlib.Core.Bool.{Bool, true, false}
use mathlib.Core.Path.{◌≡◌, refl, sym, ap, subst, ◌∙◌}
use mathlib.Core.List.{List, [], ◌∷◌, ◌++◌}
use Prim.Native.Nat.{ℕ, ◌+◌, ◌-◌, ◌≤◌, ◌<◌}
use native.Mathlib.Omega.{arith}
use lib.ListN.{length, get_or, drop, length-drop}
use Rattle.std.specs.Prelude.{Option, None, Some}
use Rattle.digits.specs.Paper.Read.{Decides, holds, fails}
use Rattle.jsontext.specs.Paper.Abnf.{Rule, byte}
use Rattle.jsontext.specs.Paper.Json.{blank}
use Rattle.jsontext.specs.Paper.Names as paper
use Rattle.jsontext.specs.Paper.Names.{Other, Once}
use Rattle.jsontext.specs.Work.Found.{Found, ends, none, Skipped}
use Rattle.jsontext.specs.Work.Names.{Members, Behind, Next, Later, last, next, Reached, here, on, New, TellsNew}
use Rattle.jsontext.specs.Work.Members.{member_in, members_in}
use Rattle.jsontext.specs.Work.Tight as tight
use Rattle.jsontext.specs.Work.Tight.{Blanks, Without, Rest, empty, full, Member, Object, Compared, names_in, names_of}
use Rattle.jsontext.specs.Work.Units.{name_in}
use Rattle.jsontext.proofs.Laws.Lists.{Going, rest-empty, begin-at, closed, another}
use Rattle.jsontext.proofs.Laws.Weaker.{SameNames, member-in-place, weaken, weaken-rest}
use Rattle.jsontext.proofs.Laws.Only.{member-only}
use Rattle.jsontext.proofs.Laws.Places.{tail_of, head_of, stands, not_there, past, Ends, found, not_found}

-- ---- tests

never : false ≡ true → ⊥
never e = let z : ◌≡◌ {A = ℕ} 0 1 = cc in omega arith

pub told-false : {b : Bool} {A : Type 0} → Decides A b → b ≡ false → A → ⊥
told-false (holds a) e = absurd (never (sym e))
told-false (fails f) e = f

pub told-true : {b : Bool} {A : Type 0} → Decides A b → b ≡ true → A
told-true (holds a) e = a
told-true (fails f) e = absurd (never e)

-- ---- the first member, and those behind it

-- what stands behind a member and its blanks, with the names and members that are still to come
data Way (v : Rule) (t n : List ℕ) : List (List ℕ) → List paper.Member → Type 0 where
  ended : n ≡ 0x7D ∷ t → Way v t n [] []
  goes : {u w : List ℕ} → n ≡ 0x2C ∷ u → Blanks u w → (r : Members v w t) → Way v t n (names_in r) (members_in r)

record Parted (v : Rule) (s t : List ℕ) (x : Members v s t) : Type 0 where
  m : List ℕ
  n : List ℕ
  names : List (List ℕ)
  members : List paper.Member
  first : Member v s m
  blanks : Blanks m n
  way : Way v t n names members
  all : names_in x ≡ name_in s ∷ names
  each : members_in x ≡ member_in first ∷ members

parted : {v : Rule} {s t : List ℕ} (x : Members v s t) → Parted v s t x
unfolding names_in members_in
parted (tight.last o b e) = record { m = _; n = _; names = []; members = []; first = o; blanks = b; way = ended e; all = refl; each = refl }
parted (tight.next o b e c r) =
    record { m = _; n = _; names = names_in r; members = members_in r; first = o; blanks = b; way = goes e c r; all = refl; each = refl }

-- the first of the members
pub first_member : {v : Rule} {s t : List ℕ} (x : Members v s t) → (e : List ℕ) × (o : Member v s e) × (ms : List paper.Member) × (members_in x ≡ member_in o ∷ ms)
first_member x = let y = parted x in (y.m, y.first, y.members, y.each)

-- the same members at an equal place
pub record Moved (v : Rule) (w t : List ℕ) (ns : List (List ℕ)) (ms : List paper.Member) : Type 0 where
  pub there : Members v w t
  pub names : ns ≡ names_in there
  pub members : ms ≡ members_in there

pub moved : {v : Rule} {s w t : List ℕ} → s ≡ w → (r : Members v s t) → Moved v w t (names_in r) (members_in r)
moved {v} {t = t} e r = subst (λ (l : List ℕ). Moved v l t (names_in r) (members_in r)) e (record { there = r; names = refl; members = refl })

-- ---- the next member

pub later-none : {v : Rule} {s : List ℕ} {p : ℕ} → Found (Member v) s p None → Later v s p None
later-none f =
    last (λ k n. not_found f _ (found n.member).is) (λ t x. absurd (not_found f (parted x).m (parted x).first))

-- a place is known by what stands from it on
pub same_place : (s : List ℕ) {i j : ℕ} → i ≤ length s → j ≤ length s → drop i s ≡ drop j s → i ≡ j
same_place s {i} {j} h k e = let l : length (drop i s) ≡ length (drop j s) = ap length e in omega (arith, length-drop i s, length-drop j s)

module _ {v : Rule} {s : List ℕ} {p e f : ℕ} (m : Ends (Member v) s p e) (k : Skipped blank s e f) where
  -- the only place behind the member and its blanks
  meets : {t : List ℕ} {x : Members v (drop p s) t} (y : Parted v (drop p s) t x) → y.n ≡ drop f s
  meets y = k.only _ (subst (λ (l : List ℕ). Blanks l y.n) (m.only _ y.first) y.blanks)

  next-meets : {j : ℕ} (n : Next v s p j) → (n.e ≡ e) × (drop n.f s ≡ drop f s)
  next-meets n =
      let o = found n.member in
      let q : drop n.e s ≡ drop e s = m.only _ o.is in
      (same_place s o.within m.within q, k.only _ (subst (λ (l : List ℕ). Blanks l (drop n.f s)) q n.blanks.is))

  it-ends : Without (byte 0x2C) (drop f s) → Later v s p None
  it-ends h =
      last (λ j n. h (drop (n.f + 1) s) (sym (next-meets n).1 ∙ stands s n.f 0x2C n.inside n.comma))
      (λ t x.
      let y = parted x in
      let z = by y.way (meets y) in
      record {
        end = y.m;
        first = y.first;
        names = y.all ∙ ap {B = List (List ℕ)} (λ l. name_in (drop p s) ∷ l) z.0;
        members = y.each ∙ ap {B = List paper.Member} (λ l. member_in y.first ∷ l) z.1;
      })
    where
      by : {t n : List ℕ} {ns : List (List ℕ)} {ms : List paper.Member} → Way v t n ns ms → n ≡ drop f s → (ns ≡ []) × (ms ≡ [])
      by (ended a) q = (refl, refl)
      by (goes {u = u} a b r) q = absurd (h u (sym q ∙ a))

  pub later-end : length s ≤ f → Later v s p None
  later-end h = it-ends (past s f 0x2C h)

  pub later_last : f < length s → ((get_or s f 0 ≡ 0x2C) → ⊥) → Later v s p None
  later_last h g = it-ends (not_there s f 0x2C h g)

-- what is read, as the next place wants it
pub a-next : {v : Rule} {s : List ℕ} {p e f j : ℕ} → Found (Member v) s p (Some e) → Skipped blank s e f → f < length s → get_or s f 0 ≡ 0x2C
    → Skipped blank s (f + 1) j → Next v s p j
a-next {e = e} {f} m k h c q = record { e = e; f = f; member = m; blanks = k; inside = h; comma = c; behind = q }

module _ {v : Rule} {s : List ℕ} {i j : ℕ} (n : Next v s i j) where
  ends_there : Ends (Member v) s i n.e
  ends_there = found n.member

  pub onward : i < j
  onward = omega (arith, ends_there.on, n.blanks.on, n.behind.on)

  pub within : j ≤ length s
  within = let h : n.f < length s = n.inside in n.behind.within (omega arith)

  comma-there : drop n.f s ≡ 0x2C ∷ drop (n.f + 1) s
  comma-there = stands s n.f 0x2C n.inside n.comma

  pub behind : (t : List ℕ) (x : Members v (drop i s) t) → Behind v s i j t x
  behind t x =
      let y = parted x in
      let z = by y.way (meets ends_there n.blanks y) in
      record {
        end = y.m;
        first = y.first;
        rest = z.there;
        names = y.all ∙ ap {B = List (List ℕ)} (λ l. name_in (drop i s) ∷ l) z.names;
        members = y.each ∙ ap {B = List paper.Member} (λ l. member_in y.first ∷ l) z.members;
      }
    where
      by : {t w : List ℕ} {ns : List (List ℕ)} {ms : List paper.Member} → Way v t w ns ms → w ≡ drop n.f s → Moved v (drop j s) t ns ms
      by (ended a) z = absurd (different (head_of (sym a ∙ z ∙ comma-there)))
        where
          different : ◌≡◌ {A = ℕ} 0x7D 0x2C → ⊥
          different e = omega arith
      by (goes {u = u} {w = w} a b r) z = moved (n.behind.only w (subst (λ (l : List ℕ). Blanks l w) (tail_of (sym a ∙ z ∙ comma-there)) b)) r

  -- there is one next place
  pub one-next : {k : ℕ} → Next v s i k → j ≡ k
  one-next {k} m =
      let (e, q) = next-meets ends_there n.blanks m in
      let h : m.f < length s = m.inside in
      let g : n.f < length s = n.inside in
      let f : m.f ≡ n.f = same_place s (omega arith) (omega arith) q in
      same_place s within (m.behind.within (omega arith)) (sym (n.behind.only _ (subst (λ (l : ℕ). Blanks (drop (l + 1) s) (drop k s)) f m.behind.is)))

-- what falls: the places still before a walk
abbrev pub span : List ℕ → Option ℕ → ℕ
span s None = 0
span s (Some i) = 1 + (length s - i)

pub later-less : {v : Rule} {s : List ℕ} {i : ℕ} {r : Option ℕ} → Later v s i r → span s r < span s (Some i)
later-less (last g f) = omega arith
later-less (next x) = omega (arith, onward x, within x)

pub goes_further : {v : Rule} {s : List ℕ} {i r : ℕ} → Later v s i (Some r) → Next v s i r
goes_further (next x) = x

-- ---- the members passed

-- what is left behind them, and all names
pub reached-names : {v : Rule} {s : List ℕ} {i j : ℕ} {ns : List (List ℕ)} → Reached v s i j ns → (t : List ℕ) (x : Members v (drop i s) t)
    → (r : Members v (drop j s) t) × (names_in x ≡ ns ++ names_in r)
reached-names here t x = (x, refl)
reached-names {s = s} {i} (on n r) t x =
    let y = behind n t x in
    let (z, e) = reached-names r t y.rest in
    (z, y.names ∙ ap {B = List (List ℕ)} (λ l. name_in (drop i s) ∷ l) e)

pub reached-on : {v : Rule} {s : List ℕ} {i j k : ℕ} {ns : List (List ℕ)} → Reached v s i j ns → Next v s j k → Reached v s i k (ns ++ (name_in (drop j s) ∷ []))
reached-on here n = on n here
reached-on (on m r) n = on m (reached-on r n)

reached-le : {v : Rule} {s : List ℕ} {i j : ℕ} {ns : List (List ℕ)} → Reached v s i j ns → i ≤ j
reached-le here = omega arith
reached-le (on n r) = omega (arith, onward n, reached-le r)

-- ---- names taken apart and put together

other-here : {n m : List ℕ} {ns : List (List ℕ)} → Other n (m ∷ ns) → (n ≡ m) → ⊥
other-here (paper.and f o) = f

other-behind : {n m : List ℕ} {ns : List (List ℕ)} → Other n (m ∷ ns) → Other n ns
other-behind (paper.and f o) = o

-- one more at the end
other_last : {n m : List ℕ} {ns : List (List ℕ)} → Other n ns → ((n ≡ m) → ⊥) → Other n (ns ++ (m ∷ []))
other_last paper.none f = paper.and f paper.none
other_last (paper.and g o) f = paper.and g (other_last o f)

pub once_last : {n : List ℕ} {ns : List (List ℕ)} → Once ns → Other n ns → Once (ns ++ (n ∷ []))
once_last paper.none o = paper.and paper.none paper.none
once_last (paper.and p r) o = paper.and (other_last p (λ e. other-here o (sym e))) (once_last r (other-behind o))

-- one that stands before others
before-others : {n m : List ℕ} (ns ms : List (List ℕ)) → Other n (ns ++ (m ∷ ms)) → (n ≡ m) → ⊥
before-others [] ms o = other-here o
before-others (k ∷ ns) ms o = before-others ns ms (other-behind o)

pub once-new : {n : List ℕ} (ns ms : List (List ℕ)) → Once (ns ++ (n ∷ ms)) → Other n ns
once-new [] ms o = paper.none
once-new (k ∷ ns) ms (paper.and p r) = paper.and (λ e. before-others ns ms p (sym e)) (once-new ns ms r)

-- ---- whether a name is new

-- what is left to compare, from a place on
pub record Comparing (v : Rule) (s : List ℕ) (first at i : ℕ) : Type 0 where
  pub left : (ns : List (List ℕ)) → Reached v s first at ns
      → (ms : List (List ℕ)) × (Reached v s i at ms) × (Other (name_in (drop at s)) ns → Other (name_in (drop at s)) ms) × (Other (name_in (drop at s)) ms → Other (name_in (drop at s)) ns)

pub compare : {v : Rule} {s : List ℕ} {first at : ℕ} → Comparing v s first at first
compare = record { left = λ ns r. (ns, r, (λ o. o), (λ o. o)) }

-- where the walk is not at its end yet
walking : {v : Rule} {s : List ℕ} {i at : ℕ} {ms : List (List ℕ)} → Reached v s i at ms → i < at
    → (k : ℕ) × (ks : List (List ℕ)) × (Next v s i k) × (Reached v s k at ks) × (ms ≡ name_in (drop i s) ∷ ks)
walking here h = absurd (omega arith)
walking (on {k = k} {ns = ks} n r) h = (k, ks, n, r, refl)

pub uncompared : (names : Bool) {v : Rule} {s : List ℕ} {first at : ℕ} → names ≡ false → TellsNew names v s first at true
uncompared true e ns r = absurd (never (sym e))
uncompared false e ns r = holds tt

-- names are compared
if-compared : (names : Bool) {n : List ℕ} {ns : List (List ℕ)} {b : Bool} → names ≡ true → Decides (Other n ns) b → Decides (New names n ns) b
if-compared true e d = d
if-compared false e d = absurd (never e)

module _ (names : Bool) {v : Rule} {s : List ℕ} {first at i : ℕ} (q : names ≡ true) (c : Comparing v s first at i) where
  pub stands-before : i < at → name_in (drop i s) ≡ name_in (drop at s) → TellsNew names v s first at false
  stands-before h e ns r =
      let (ms, w, to, from) = c.left ns r in
      let (k, ks, n, rest, is) = walking w h in
      if-compared names q (fails (λ o. other-here (subst (Other (name_in (drop at s))) is (to o)) (sym e)))

  pub no-next : i < at → Later v s i None → TellsNew names v s first at false
  no-next h l ns r =
      let (ms, w, to, from) = c.left ns r in
      let (k, ks, n, rest, is) = walking w h in
      absurd (none-there l k n)
    where
      none-there : Later v s i None → (k : ℕ) → Next v s i k → ⊥
      none-there (last g f) k n = g k n

  pub all_new : at ≤ i → TellsNew names v s first at true
  all_new h ns r = let (ms, w, to, from) = c.left ns r in if-compared names q (holds (from (by w h)))
    where
      by : {n : List ℕ} {j k : ℕ} {ms : List (List ℕ)} → Reached v s j k ms → k ≤ j → Other n ms
      by here g = paper.none
      by (on n w) g = absurd (omega (arith, onward n, reached-le w))

pub compare-on : {v : Rule} {s : List ℕ} {first at i r : ℕ} → Comparing v s first at i → i < at → ((name_in (drop i s) ≡ name_in (drop at s)) → ⊥) → Later v s i (Some r)
    → Comparing v s first at r
compare-on {v} {s} {first} {at} {i} {r} c h d l =
    record {
      left =
          λ ns w.
          let (ms, x, to, from) = c.left ns w in
          let (k, ks, n, rest, is) = walking x h in
          let e : k ≡ r = one-next n (goes_further l) in
          (ks, subst (λ (j : ℕ). Reached v s j at ks) e rest, (λ o. other-behind (subst (Other (name_in (drop at s))) is (to o))), (λ o. from (subst (Other (name_in (drop at s))) (sym is) (paper.and (λ y. d (sym y)) o))));
    }

pub onward-less : {v : Rule} {s : List ℕ} {at i r : ℕ} → i < at → Later v s i (Some r) → at - r < at - i
onward-less h l = let k = onward (goes_further l) in omega arith

-- ---- an object

pub no-object : {n : Bool} {v : Rule} {s : List ℕ} {p : ℕ} → Found (Rest (Member v) 0x7D) s p None → Found (Object n v) s p None
no-object f = none (λ t x. not_found f t x.members)

-- with names as is asked
an-object : {n : Bool} {v : Rule} {s : List ℕ} {p e : ℕ} → Found (Rest (Member v) 0x7D) s p (Some e) → ((x : Rest (Member v) 0x7D (drop p s) (drop e s)) → Compared n (names_of x)) → Found (Object n v) s p (Some e)
an-object (ends h k x o) f = ends h k (record { members = x; once = f x }) (λ t y. o t y.members)

-- the object is read up to the member at a place
pub record Inside (n : Bool) (d : ℕ) (s : List ℕ) (p first at : ℕ) : Type 0 where
  pub going : Going (Member (tight.tight n d)) 0x7D s p at
  pub start : Skipped blank s p first
  pub some : first < length s
  pub no_end : (get_or s first 0 ≡ 0x7D) → ⊥
  pub names : List (List ℕ)
  pub reached : Reached (tight.tight false d) s first at names
  pub once : Compared n names

none_yet : (n : Bool) → Compared n []
none_yet true = paper.none
none_yet false = tt

pub enter : (n : Bool) (d : ℕ) {s : List ℕ} {p a : ℕ} → Skipped blank s p a → a < length s → ((get_or s a 0 ≡ 0x7D) → ⊥) → Inside n d s p a a
enter n d k h f = record { going = begin-at k h f; start = k; some = h; no_end = f; names = []; reached = here; once = none_yet n }

pub empty-object : (n : Bool) {v : Rule} {s : List ℕ} {p a : ℕ} → Skipped blank s p a → a < length s → get_or s a 0 ≡ 0x7D → Found (Object n v) s p (Some (a + 1))
unfolding names_of
empty-object n {v} {s} {p} {a} k h e = an-object (rest-empty k h e) (λ x. by x refl)
  where
    by : {u t : List ℕ} (y : Rest (Member v) 0x7D u t) → u ≡ drop p s → Compared n (names_of y)
    by (empty b q) i = none_yet n
    by (full {m = m} b w r) i = absurd (w (drop (a + 1) s) (k.only m (subst (λ (l : List ℕ). Blanks l m) i b) ∙ stands s a 0x7D h e))

-- its members, from the first on
from_first : {v : Rule} {s : List ℕ} {p a t : _} → Skipped blank s p a → a < length s → ((get_or s a 0 ≡ 0x7D) → ⊥) → (x : Rest (Member v) 0x7D (drop p s) t)
    → (r : Members v (drop a s) t) × (names_of x ≡ names_in r)
unfolding names_of
from_first {v} {s} {p} {a} {t} k h f x = by x refl
  where
    by : {u : List ℕ} (y : Rest (Member v) 0x7D u t) → u ≡ drop p s → (r : Members v (drop a s) t) × (names_of y ≡ names_in r)
    by (empty {m = m} b q) i = absurd (not_there s a 0x7D h f _ (sym (k.only m (subst (λ (l : List ℕ). Blanks l m) i b)) ∙ q))
    by (full {m = m} b w r) i = let z = moved (k.only m (subst (λ (l : List ℕ). Blanks l m) i b)) r in (z.there, z.names)

-- ---- an object whose names are compared, by what stands there without comparing

plain-rest : (n : Bool) (d : ℕ) {s t : List ℕ} (x : Rest (Member (tight.tight n d)) 0x7D s t) → SameNames (Member (tight.tight false d)) x
plain-rest true d x = weaken-rest d x
plain-rest false d x = record { rest = x; same = refl }

pub plain-found : (n : Bool) (d : ℕ) {s : List ℕ} {p e : ℕ} → Found (Member (tight.tight n d)) s p (Some e) → Found (Member (tight.tight false d)) s p (Some e)
plain-found false d f = f
plain-found true d f =
    let m = found f in
    let x = member-in-place (weaken d) _ _ m.is in
    ends m.on m.within x (λ t y. member-only false d _ _ _ _ refl y x)

module _ {n : Bool} {d : ℕ} {s : List ℕ} {p first at : ℕ} (o : Inside n d s p first at) where
  -- the names read so far, and those to come
  so_far : (t : List ℕ) (x : Rest (Member (tight.tight n d)) 0x7D (drop p s) t) → (r : Members (tight.tight false d) (drop at s) t) × (names_of x ≡ o.names ++ names_in r)
  so_far t x =
      let y = plain-rest n d x in
      let (z, e) = from_first o.start o.some o.no_end y.rest in
      let (r, g) = reached-names o.reached t z in
      (r, sym y.same ∙ e ∙ g)

  pub named-twice : {b : Bool} → TellsNew n (tight.tight false d) s first at b → b ≡ false → Found (Object n (tight.tight n d)) s p None
  named-twice t e = by n (told-false (t o.names o.reached) e) (λ u x. so_far u x)
    where
      by : (m : Bool) → (New m (name_in (drop at s)) o.names → ⊥)
          → ((u : List ℕ) (x : Rest (Member (tight.tight m d)) 0x7D (drop p s) u) → (r : Members (tight.tight false d) (drop at s) u) × (names_of x ≡ o.names ++ names_in r))
          → Found (Object m (tight.tight m d)) s p None
      by false f g = absurd (f tt)
      by true f g =
          none
          (λ u x.
          let (r, e) = g u x.members in
          let y = parted r in
          f (once-new o.names y.names (subst Once (e ∙ ap {B = List (List ℕ)} (λ l. o.names ++ l) y.all) x.once)))

  module _ {b : Bool} (t : TellsNew n (tight.tight false d) s first at b) (e : b ≡ true) where
    is-new : New n (name_in (drop at s)) o.names
    is-new = told-true (t o.names o.reached) e

    -- with one name more there is still none twice
    still-once : Compared n (o.names ++ (name_in (drop at s) ∷ []))
    still-once = by n o.once is-new
      where
        by : (m : Bool) → Compared m o.names → New m (name_in (drop at s)) o.names → Compared m (o.names ++ (name_in (drop at s) ∷ []))
        by true c w = once_last c w
        by false c w = tt

    module _ {q f : ℕ} (m : Found (Member (tight.tight n d)) s at (Some q)) (k : Skipped blank s q f) (h : f < length s) where
      pub object-ends : get_or s f 0 ≡ 0x7D → Found (Object n (tight.tight n d)) s p (Some (f + 1))
      object-ends c =
          an-object (closed o.going (found m) k h c (λ e. omega arith))
          (λ x.
          let (r, g) = so_far (drop (f + 1) s) x in
          let l : names_in r ≡ name_in (drop at s) ∷ [] = single (later_last (found (plain-found n d m)) k h (λ i. different (sym c ∙ i))) r in
          subst (Compared n) (sym (g ∙ ap {B = List (List ℕ)} (λ i. o.names ++ i) l)) still-once)
        where
          different : ◌≡◌ {A = ℕ} 0x7D 0x2C → ⊥
          different i = omega arith

          single : {v : Rule} {t : List ℕ} → Later v s at None → (x : Members v (drop at s) t) → names_in x ≡ name_in (drop at s) ∷ []
          single {t = t} (last g f) x = (f t x).names

      pub object-on : {j : ℕ} → get_or s f 0 ≡ 0x2C → Skipped blank s (f + 1) j → Inside n d s p first j
      object-on c q =
          record {
            going = another o.going (found m) k h c (λ e. omega arith) q;
            start = o.start;
            some = o.some;
            no_end = o.no_end;
            names = o.names ++ (name_in (drop at s) ∷ []);
            reached = reached-on o.reached (a-next (plain-found n d m) k h c q);
            once = still-once;
          }

-- an object whose names are not compared is what stands between its brackets
pub rest_of : {v : Rule} {s : List ℕ} {p : ℕ} {e : Option ℕ} → Found (Object false v) s p e → Found (Rest (Member v) 0x7D) s p e
rest_of (ends h k x o) = ends h k x.members (λ t y. o t (record { members = y; once = tt }))
rest_of (none f) = none (λ t y. f t (record { members = y; once = tt }))
