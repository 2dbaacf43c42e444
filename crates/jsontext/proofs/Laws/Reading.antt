-- What the readers of members find.
-- Assumes nothing.
use mathlib.Core.Bool.{Bool, false, true≢false}
use mathlib.Core.Path.{◌≡◌, refl, sym, ap, subst, ◌∙◌}
use mathlib.Core.List.{List, [], ◌∷◌}
use Prim.Native.Nat.{ℕ, suc, ◌+◌, ◌≤◌, ◌<◌}
use native.Mathlib.Omega.{arith}
use lib.Dec.{eqb}
use lib.ListN.{length, get_or, drop}
use Rattle.digits.proofs.Laws.Refusals.{pass-over}
use Rattle.digits.specs.Paper.Refusals.{refusal_order, First, clear, after, answers, refuses}
use Rattle.digits.specs.Paper.Refusals as refusals
use Rattle.std.specs.Prelude.{Option, None, Some, Result, Ok, Err}
use Rattle.std.specs.Option.{IfSome}
use Rattle.digits.specs.declared.refusal.Refusal.{Refusal}
use Rattle.digits.specs.declared.refusal.Refusal.TheVariants.{BadMembers}
use Rattle.jsontext.specs.Paper.Json.{blank, string}
use Rattle.jsontext.specs.Paper.Names as paper
use Rattle.jsontext.specs.Paper.Names.{most_bytes}
use Rattle.jsontext.specs.Paper.Members.{FirstNamed, here, further, CountCause, no-object, Counts, ValueCause, no_value, FindsValue}
use Rattle.jsontext.specs.Work.Found.{Found, Skipped}
use Rattle.jsontext.specs.Work.Members.{member_in, members_in, members_of, inner, ReadObject, Opened, none, at, From, end, on, Starts, CountsFrom, NamedAt, FindsNamed, value_at, Places}
use Rattle.jsontext.specs.Work.Members as members
use Rattle.jsontext.specs.Work.Names.{Later, last, next}
use Rattle.jsontext.specs.Work.Tight.{Blanks, Rest, empty, full, Member}
use Rattle.jsontext.specs.Work.Units.{name_in}
use Rattle.jsontext.specs.declared.members.Value.{Value}
use Rattle.jsontext.proofs.Laws.Lists.{rest-cut, member-never}
use Rattle.jsontext.proofs.Laws.Members.{parts, member-places}
use Rattle.jsontext.proofs.Laws.Objects.{object-to, object-from, one-object}
use Rattle.jsontext.proofs.Laws.Once.{first_member, moved, behind, onward, within}
use Rattle.jsontext.proofs.Laws.Places.{tail_of, head_of, nothing, at_place, at-end, stands, not_there, Ends, found, not_found}

-- ---- where the object opens

pub over-long : {s : List ℕ} → most_bytes < length s → Opened s None
over-long h = none (λ ms x. omega (arith, x.short))

-- the object's bracket stands behind the first blanks
bracket : {s : List ℕ} {ms : List paper.Member} {a : ℕ} → Skipped blank s 0 a → (x : ReadObject s ms) → drop a s ≡ 0x7B ∷ x.inside
bracket k x = sym (k.only _ x.before)

pub no_text : {s : List ℕ} {a : ℕ} → Skipped blank s 0 a → length s ≤ a → Opened s None
no_text {s} {a} k h = none (λ ms x. nothing (sym (at-end s a h) ∙ bracket k (object-to x)))

pub no-bracket : {s : List ℕ} {a : ℕ} → Skipped blank s 0 a → a < length s → ((get_or s a 0 ≡ 0x7B) → ⊥) → Opened s None
no-bracket {s} {a} k h f = none (λ ms x. f (head_of (sym (at_place s a h) ∙ bracket k (object-to x))))

module _ {s : List ℕ} {a : ℕ} (k : Skipped blank s 0 a) (h : a < length s) (q : get_or s a 0 ≡ 0x7B) where
  -- what stands inside, read from the place behind the bracket
  inside : {ms : List paper.Member} (x : ReadObject s ms) → x.inside ≡ drop (a + 1) s
  inside x = tail_of (sym (bracket k x) ∙ stands s a 0x7B h q)

  pub no-members : Found (Rest (Member inner) 0x7D) s (a + 1) None → Opened s None
  no-members f =
      none
      (λ ms x.
      let y = object-to x in
      not_found f y.end (subst (λ (l : List ℕ). Rest (Member inner) 0x7D l y.end) (inside y) y.rest))

  module _ {e c : ℕ} (r : Ends (Rest (Member inner) 0x7D) s (a + 1) e) (l : Skipped blank s e c) where
    pub more-behind : c < length s → Opened s None
    more-behind g =
        none
        (λ ms x.
        let y = object-to x in
        let z : y.end ≡ drop e s = r.only _ (subst (λ (l : List ℕ). Rest (Member inner) 0x7D l y.end) (inside y) y.rest) in
        nothing (l.only [] (subst (λ (m : List ℕ). Blanks m []) z y.behind) ∙ at_place s c g))

    pub opens : length s ≤ most_bytes → length s ≤ c → Opened s (Some (a + 1))
    opens m g =
        at {p = a + 1} m r.is
        (object-from
        (record {
          short = m;
          inside = drop (a + 1) s;
          end = drop e s;
          before = subst (Blanks s) (stands s a 0x7B h q) k.is;
          rest = r.is;
          behind = subst (Blanks (drop e s)) (at-end s c g) l.is;
          is = refl;
        }))

-- ---- the first member

module _ {s : List ℕ} {p a : ℕ} (k : Skipped blank s p a) where
  pub first-cut : length s ≤ a → Starts s p None
  first-cut h = record { within = tt; from = λ t x. absurd (not_found (rest-cut (member-never inner) k h) t x) }

  pub first-none : a < length s → get_or s a 0 ≡ 0x7D → Starts s p None
  unfolding members_of
  first-none h e = record { within = tt; from = λ t x. by x refl }
    where
      by : {u t : List ℕ} (y : Rest (Member inner) 0x7D u t) → u ≡ drop p s → From s t None (members_of y)
      by (empty b q) i = end
      by (full {m = m} b w r) i = absurd (w (drop (a + 1) s) (k.only m (subst (λ (l : List ℕ). Blanks l m) i b) ∙ stands s a 0x7D h e))

  pub first-at : a < length s → ((get_or s a 0 ≡ 0x7D) → ⊥) → Starts s p (Some a)
  unfolding members_of
  first-at h f = record { within = omega arith; from = λ t x. by x refl }
    where
      by : {u t : List ℕ} (y : Rest (Member inner) 0x7D u t) → u ≡ drop p s → From s t (Some a) (members_of y)
      by (empty {m = m} b q) i = absurd (not_there s a 0x7D h f _ (sym (k.only m (subst (λ (l : List ℕ). Blanks l m) i b)) ∙ q))
      by {t = t} (full {m = m} b w r) i =
          let y = moved (k.only m (subst (λ (l : List ℕ). Blanks l m) i b)) r in
          subst (From s t (Some a)) (sym y.members) (on (omega arith) y.there)

-- ---- one member further

pub record Split (s t : List ℕ) (i : ℕ) (r : Option ℕ) (ms : List paper.Member) : Type 0 where
  pub stop : List ℕ
  pub first : Member inner (drop i s) stop
  pub rest : List paper.Member
  pub from : From s t r rest
  pub is : ms ≡ member_in first ∷ rest

pub split : {s t : List ℕ} {i : ℕ} {r : Option ℕ} {ms : List paper.Member} → Later inner s i r → From s t (Some i) ms → Split s t i r ms
split {t = t} (last g f) (on k x) = let y = f t x in record { stop = y.end; first = y.first; rest = []; from = end; is = y.members }
split {t = t} (next {r = r} g) (on k x) =
    let y = behind g t x in
    record { stop = y.end; first = y.first; rest = members_in y.rest; from = on {i = r} (within g) y.rest; is = y.members }

none_left : {s t : List ℕ} {ms : List paper.Member} → From s t None ms → ms ≡ []
none_left end = refl

-- ---- how many there are

pub record Counting (s : List ℕ) (p : ℕ) (i : Option ℕ) (n : ℕ) : Type 0 where
  pub left : (t : List ℕ) (x : Rest (Member inner) 0x7D (drop p s) t) → (ms : List paper.Member) × (From s t i ms) × (length (members_of x) ≡ n + length ms)
  pub before : IfSome i (λ k. (n ≤ k) × (k ≤ length s))

from_start : (s : List ℕ) (r : Option ℕ) → IfSome r (λ i. i ≤ length s) → IfSome r (λ i. (0 ≤ i) × (i ≤ length s))
from_start s None h = tt
from_start s (Some i) h = (omega arith, h)

pub counting : {s : List ℕ} {p : ℕ} {r : Option ℕ} → Starts s p r → Counting s p r 0
counting {s} {r = r} y = record { left = λ t x. (members_of x, y.from t x, omega arith); before = from_start s r y.within }

one-further : {s : List ℕ} {i n : ℕ} {r : Option ℕ} → n ≤ i → Later inner s i r → IfSome r (λ k. (n + 1 ≤ k) × (k ≤ length s))
one-further h (last g f) = tt
one-further h (next x) = (omega (arith, onward x), within x)

pub few : {s : List ℕ} {p i n : ℕ} {a : Option ℕ} → Counting s p a n → a ≡ Some i → n ≤ length s
few {s} {p} {i} {n} c e = let b = (subst (λ (o : Option ℕ). Counting s p o n) e c).before in omega (arith, b.0, b.1)

pub count-on : {s : List ℕ} {p i n : ℕ} {a r : Option ℕ} → Counting s p a n → a ≡ Some i → Later inner s i r → Counting s p r (n + 1)
count-on {s} {p} {i} {n} c e l =
    let d : Counting s p (Some i) n = subst (λ (o : Option ℕ). Counting s p o n) e c in
    record {
      left =
          λ t x.
          let (ms, f, e) = d.left t x in
          let y = split l f in
          let k : length ms ≡ suc (length y.rest) = ap length y.is in
          (y.rest, y.from, omega arith);
      before = one-further d.before.0 l;
    }

pub all-counted : {s : List ℕ} {p n : ℕ} {a : Option ℕ} → Counting s p a n → a ≡ None → CountsFrom s p n
all-counted {s} {p} {n} c z t x =
    let (ms, f, e) = (subst (λ (o : Option ℕ). Counting s p o n) z c).left t x in
    let k : length ms ≡ 0 = ap length (none_left f) in
    omega arith

-- ---- the first with a name

pub record Seeking (name s : List ℕ) (p : ℕ) (i : Option ℕ) : Type 0 where
  pub left : (t : List ℕ) (x : Rest (Member inner) 0x7D (drop p s) t)
      → (ms : List paper.Member) × (From s t i ms) × ((m : paper.Member) → FirstNamed name (members_of x) m → FirstNamed name ms m) × ((m : paper.Member) → FirstNamed name ms m → FirstNamed name (members_of x) m)

pub seeking : {name s : List ℕ} {p : ℕ} {r : Option ℕ} → Starts s p r → Seeking name s p r
seeking y = record { left = λ t x. (members_of x, y.from t x, (λ m o. o), (λ m o. o)) }

no-first : {name : List ℕ} {ms : List paper.Member} {m : paper.Member} → FirstNamed name ms m → ms ≡ [] → ⊥
no-first (here e) q = let z : ◌≡◌ {A = ℕ} 0 1 = cc in omega arith
no-first (further f o) q = let z : ◌≡◌ {A = ℕ} 0 1 = cc in omega arith

pub none_named : {name s : List ℕ} {p : ℕ} {a : Option ℕ} → Seeking name s p a → a ≡ None → FindsNamed name s p None
none_named {name} {s} {p} c z t x =
    let (ms, f, to, from) = (subst (Seeking name s p) z c).left t x in none (λ m o. no-first (to m o) (none_left f))

-- the name of a member that is read
called : {s t : List ℕ} (x : Member inner s t) → (member_in x).name ≡ name_in s
called x = (parts x).name-is

pub is-named : {name s : List ℕ} {p i : ℕ} {a : Option ℕ} → Seeking name s p a → a ≡ Some i → name_in (drop i s) ≡ name → FindsNamed name s p (Some i)
is-named {name} {s} {p} c z e t x = let (ms, f, to, from) = (subst (Seeking name s p) z c).left t x in go f e from
  where
    go : {i : ℕ} {ms : List paper.Member} → From s t (Some i) ms → name_in (drop i s) ≡ name → ((m : paper.Member) → FirstNamed name ms m → FirstNamed name (members_of x) m) → NamedAt name s t (members_of x) (Some i)
    go (on {i = i} k y) q from =
        let (stop, o, rest, is) = first_member y in
        members.at {i = i} k o (from (member_in o) (subst (λ (l : List paper.Member). FirstNamed name l (member_in o)) (sym is) (here (called o ∙ q))))

pub seek-on : {name s : List ℕ} {p i : ℕ} {a r : Option ℕ} → Seeking name s p a → a ≡ Some i → ((name_in (drop i s) ≡ name) → ⊥) → Later inner s i r → Seeking name s p r
seek-on {name} {s} {p} c z d l =
    record {
      left =
          λ t x.
          let (ms, f, to, from) = (subst (Seeking name s p) z c).left t x in
          let y = split l f in
          (y.rest, y.from, (λ m o. past-it (λ e. d (sym (called y.first) ∙ e)) (subst (λ (k : List paper.Member). FirstNamed name k m) y.is (to m o))), (λ m o. from m (subst (λ (k : List paper.Member). FirstNamed name k m) (sym y.is) (further (λ e. d (sym (called y.first) ∙ e)) o))));
    }
  where
    past-it : {l m : paper.Member} {ms : List paper.Member} → ((l.name ≡ name) → ⊥) → FirstNamed name (l ∷ ms) m → FirstNamed name ms m
    past-it f (here e) = absurd (f e)
    past-it f (further g o) = o

-- ---- where its value stands

module _ {s : List ℕ} {p a b : ℕ} (n : Ends string s p a) (k : Skipped blank s a b) {t : List ℕ} (x : Member inner (drop p s) t) where
  colon-there : drop b s ≡ 0x3A ∷ (parts x).c
  colon-there = let y = parts x in sym (k.only _ (subst (λ (l : List ℕ). Blanks l y.b) (n.only _ y.string) y.behind)) ∙ y.colon

pub no_name : {s : List ℕ} {p : ℕ} {e : Result Value Refusal} → Found string s p None → Places s p e
no_name f t x = absurd (not_found f _ (parts x).string)

pub no-colon : {s : List ℕ} {p a b : ℕ} {e : Result Value Refusal} → Found string s p (Some a) → Skipped blank s a b → length s ≤ b → Places s p e
no-colon {s} {b = b} f k h t x = absurd (nothing (sym (at-end s b h) ∙ colon-there (found f) k x))

module _ {s : List ℕ} {p a b d : ℕ} (f : Found string s p (Some a)) (k : Skipped blank s a b) (h : b < length s) (q : Skipped blank s (b + 1) d) where
  -- where the value of a member begins
  begins : {t : List ℕ} (x : Member inner (drop p s) t) → (parts x).d ≡ drop d s
  begins x = let y = parts x in q.only _ (subst (λ (l : List ℕ). Blanks l y.d) (tail_of (sym (colon-there (found f) k x) ∙ at_place s b h)) y.before)

  pub no-value-there : {e : Result Value Refusal} → Found inner s d None → Places s p e
  no-value-there v t x = absurd (not_found v t (subst (λ (l : List ℕ). inner l t) (begins x) (parts x).is))

  pub value_there : {r : ℕ} → Found inner s d (Some r) → Places s p (Ok (record { from = d; to = r }))
  value_there v t x =
      ap value_at (sym (member-places (found f) k h (head_of (sym (at_place s b h) ∙ colon-there (found f) k x)) q (found v) x).ends)

-- ---- answers: 12 is the only refusal

abbrev ours : ℕ → Bool
ours k = eqb k 12

module _ {C : ℕ → Type 0} (only : (k : ℕ) → ours k ≡ false → C k → ⊥) where
  first-12 : C 12 → First C refusal_order 12
  first-12 c = pass-over ours only refusal_order (refusals.here c)

  no-cause : (C 12 → ⊥) → First C refusal_order 0
  no-cause f = pass-over ours only refusal_order (after f clear)

count-only : {s : List ℕ} (k : ℕ) → ours k ≡ false → CountCause s k → ⊥
count-only k e (no-object f) = true≢false e

pub no-count : {s : List ℕ} → Opened s None → Counts s (Err BadMembers)
no-count (none f) = refuses {no = 12} (omega arith) (first-12 count-only (no-object f))

pub counts : {s : List ℕ} {p n : ℕ} → Opened s (Some p) → CountsFrom s p n → Counts s (Ok n)
counts {s} (at {t = t} m x o) c = answers (no-cause count-only (λ k. by k)) (record { members = members_of x; object = o; is = c t x })
  where
    by : {k : ℕ} → CountCause s k → ⊥
    by (no-object f) = f (members_of x) o

value-only : {s name : List ℕ} (k : ℕ) → ours k ≡ false → ValueCause s name k → ⊥
value-only k e (no_value f) = true≢false e

pub no-object-found : {s name : List ℕ} → Opened s None → FindsValue s name (Err BadMembers)
no-object-found (none f) = refuses {no = 12} (omega arith) (first-12 value-only (no_value (λ ms m o k. f ms o)))

pub no-name-found : {s name : List ℕ} {p : ℕ} → Opened s (Some p) → FindsNamed name s p None → FindsValue s name (Err BadMembers)
no-name-found {s} {name} (at {t = t} m x o) c =
    refuses {no = 12} (omega arith)
    (first-12 value-only
    (no_value (λ ms l q k. by (c t x) l (subst (λ (ks : List paper.Member). FirstNamed name ks l) (one-object q o) k))))
  where
    by : {ms : List paper.Member} → NamedAt name s t ms None → (l : paper.Member) → FirstNamed name ms l → ⊥
    by (none f) l k = f l k

pub value_found : {s name : List ℕ} {p i : ℕ} {r : Result Value Refusal} → Opened s (Some p) → FindsNamed name s p (Some i) → Places s i r → FindsValue s name r
value_found {s} {name} {r = r} (at {t = t} m x o) c v = by (c t x) v
  where
    by : {i : ℕ} → NamedAt name s t (members_of x) (Some i) → Places s i r → FindsValue s name r
    by (members.at {e = stop} l y k) w =
        subst (FindsValue s name) (sym (w stop y))
        (answers (no-cause value-only (λ q. not_none q))
        (record { members = members_of x; member = member_in y; object = o; first = k; is = refl }))
      where
        not_none : {n : ℕ} → ValueCause s name n → ⊥
        not_none (no_value f) = f (members_of x) (member_in y) o k
