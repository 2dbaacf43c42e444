-- An object as it is written, of members that are written so, has them by RFC 8259, each once.
-- Assumes nothing.
use mathlib.Core.Bool.{Bool, true, ◌&&◌, not}
use mathlib.Core.List.{List, [], ◌∷◌, ◌++◌, append_assoc, append-nil}
use mathlib.Core.Logic.{inl, inr}
use mathlib.Core.Path.{◌≡◌, refl, sym, ap, subst, ◌∙◌}
use Prim.Native.Nat.{ℕ, suc, ◌+◌, ◌-◌, ◌≤◌, ◌<◌}
use native.Mathlib.Omega.{arith}
use lib.Dec.{T, T_not}
use lib.ListN.{length}
use lib.Seq.{take_all}
use Rattle.digits.proofs.Laws.Tests.{T_and}
use Rattle.json_values.proofs.Laws.Sizes.{total, length-object}
use Rattle.json_values.specs.Paper.Json as json
use Rattle.layouts.specs.Paper.Chars.{all}
use Rattle.jsontext.proofs.Laws.Bare.{Shown, shown-bare}
use Rattle.jsontext.proofs.Laws.Rules.{members-in}
use Rattle.jsontext.proofs.Theorems.{rfc, weaker, once-names}
use Rattle.jsontext.specs.Paper.Abnf.{Rule, done}
use Rattle.jsontext.specs.Paper.Json.{value, value_with}
use Rattle.jsontext.specs.Paper.Members.{Bare, Bares, IsObject, FirstNamed}
use Rattle.jsontext.specs.Paper.Names as names
use Rattle.jsontext.specs.Paper.Names.{Chars, Member, Other, Once, object_of, object_once, most_bytes, most_depth, InGrammar}
use Rattle.shapes.specs.Paper.Fields.{Named, ◌∶◌}
use Rattle.asked.specs.Paper.Field.{HasEach, IsObjectOf}
use Rattle.asked.specs.Work.Rows.{same_text}
use Rattle.asked.proofs.Laws.Named.{same_text_lem}
use Rattle.asked.proofs.Laws.Written.{is_itself, themselves, between}

-- ---- a value, and members

-- v is derived at depth d whatever is behind it, and spells f; it begins and ends with no blank, and has at most k bytes
pub record Writes {A : Type 0} (Spells : List ℕ → A → Type 0) (d : ℕ) (v : List ℕ) (f : A) (k : ℕ) : Type 0 where
  pub derives : (t : List ℕ) → value_with object_once d (v ++ t) t
  pub shown : Shown v []
  pub spells : Spells v f
  pub short : length v ≤ k

-- the characters around a member
abbrev pub around : List ℕ → ℕ
around n = length n + 4

-- each member, whose name is written x and is n once escapes are read; and how many bytes all have at most
pub data Written {A : Type 0} (Spells : List ℕ → A → Type 0) (d : ℕ) : List json.Member → List (Named A) → ℕ → Type 0 where
  none : Written Spells d [] [] 0
  under : {x n v : List ℕ} {f : A} {k l : ℕ} {ms : List json.Member} {fs : List (Named A)} → Chars x n → Writes Spells d v f k
      → Written Spells d ms fs l → Written Spells d (json.◌∶◌ x v ∷ ms) (n ∶ f ∷ fs) (around x + k + l)

-- a member whose name stands for itself
module _ {A : Type 0} {Spells : List ℕ → A → Type 0} {d : ℕ} where
  pub and : {n v : List ℕ} {f : A} {k l : ℕ} {ms : List json.Member} {fs : List (Named A)} → T (all is_itself n) → Writes Spells d v f k
      → Written Spells d ms fs l → Written Spells d (json.◌∶◌ n v ∷ ms) (n ∶ f ∷ fs) (around n + k + l)
  and {n} i w r = under (themselves n i) w r

-- ---- an object by the rules

-- the members as a reader finds them, where t is behind the object: each with the name that is asked for
unfoldable pub located : {A : Type 0} → List ℕ → List json.Member → List (Named A) → List Member
located t [] fs = []
located t (m ∷ ms) [] = []
located t (m ∷ ms) (f ∷ fs) = record { name = f.name; value = m.value; behind = length (json.further ms ++ t) } ∷ located t ms fs

regroup : (x v r t : List ℕ) → json.member (json.◌∶◌ x v) ++ r ++ t ≡ json.quoted x ++ (58 ∷ (v ++ (r ++ t)))
regroup x v r t = append_assoc (json.member (json.◌∶◌ x v)) r t ∙ append_assoc (json.quoted x) (58 ∷ v) (r ++ t)

module _ (rule : Rule) where
  member-by : {x n : List ℕ} (v r t : List ℕ) → Chars x n → ((u : List ℕ) → rule (v ++ u) u)
      → names.member rule (record { name = n; value = v; behind = length (r ++ t) }) (json.member (json.◌∶◌ x v) ++ r ++ t) (r ++ t)
  member-by {x} {n} v r t c f =
      subst (λ (s : List ℕ). names.member rule (record { name = n; value = v; behind = length (r ++ t) }) s (r ++ t)) (sym (regroup x v r t))
      (names.member.is (between (58 ∷ (v ++ (r ++ t))) c) (_, done, (_, refl, done)) (f (r ++ t)) refl refl)

module _ {A : Type 0} {Spells : List ℕ → A → Type 0} {d : ℕ} where
  further-by : {ms : List json.Member} {fs : List (Named A)} {k : ℕ} (t : List ℕ) → Written Spells d ms fs k
      → names.further (value_with object_once d) (located t ms fs) (json.further ms ++ t) (125 ∷ t)
  unfolding located json.further
  further-by t none = names.further.done
  further-by t (under {v = v} {ms = ms} c w r) =
      names.further.next (_, done, (_, refl, done)) (member-by (value_with object_once d) v (json.further ms) t c w.derives) (further-by t r)

  -- an object of such members, whatever is behind
  object-by : {ms : List json.Member} {fs : List (Named A)} {k : ℕ} (t : List ℕ) → Written Spells d ms fs k
      → object_of (value_with object_once d) (located t ms fs) (json.object ms ++ t) t
  unfolding located json.object
  object-by t none = (_, (_, done, (_, refl, done)), (_, names.members.none, (_, done, (_, refl, done))))
  object-by t (under {v = v} {ms = ms} c w r) = (
    _,
    (_, done, (_, refl, done)),
    (_, names.members.some (member-by (value_with object_once d) v (json.further ms) t c w.derives) (further-by t r), (_, done, (_, refl, done))),
  )

-- ---- its names

-- the names that are asked for
unfoldable pub called : {A : Type 0} → List (Named A) → List (List ℕ)
called [] = []
called (f ∷ fs) = f.name ∷ called fs

-- no text twice, by a test
unfoldable pub is_other : List ℕ → List (List ℕ) → Bool
is_other n [] = true
is_other n (m ∷ ns) = not (same_text n m) && is_other n ns

unfoldable pub are_once : List (List ℕ) → Bool
are_once [] = true
are_once (n ∷ ns) = is_other n ns && are_once ns

other-by : (n : List ℕ) (ns : List (List ℕ)) → T (is_other n ns) → Other n ns
unfolding is_other
other-by n [] t = Other.none
other-by n (m ∷ ns) t =
    let q = T_and (not (same_text n m)) (is_other n ns) t in
    Other.and (λ e. T_not (same_text n m) q.0 (subst (λ (l : List ℕ). T (same_text n l)) e (rw (same_text_lem n) tt))) (other-by n ns q.1)

pub once_by : (ns : List (List ℕ)) → T (are_once ns) → Once ns
unfolding are_once
once_by [] t = Once.none
once_by (n ∷ ns) t = let q = T_and (is_other n ns) (are_once ns) t in Once.and (other-by n ns q.0) (once_by ns q.1)

-- ---- an object's other sides

-- what begins and ends with bytes that are no blanks
pub shown_by : (b : ℕ) (w : List ℕ) (x : ℕ) → 0x20 < b → 0x20 < x → Shown (b ∷ (w ++ (x ∷ []))) []
shown_by b w x h k =
    record { b = b; u = w ++ (x ∷ []); first = refl; visible = h; ended = record { before = b ∷ w; last = x; visible = k; is = refl } }

-- it ends with `}`
closed : (ms : List json.Member) → (u : List ℕ) × (json.further ms ≡ u ++ (125 ∷ []))
unfolding json.further
closed [] = ([], refl)
closed (m ∷ ms) =
    let (u, e) = closed ms in
    let f : json.member m ++ json.further ms ≡ (json.member m ++ u) ++ (125 ∷ []) = rw e (sym (append_assoc (json.member m) u (125 ∷ []))) in
    (44 ∷ (json.member m ++ u), ap (λ (l : List ℕ). 44 ∷ l) f)

pub object-shown : (ms : List json.Member) → Shown (json.object ms) []
unfolding json.object
object-shown [] = shown_by 123 [] 125 (omega arith) (omega arith)
object-shown (m ∷ ms) =
    let (u, e) = closed ms in
    let f : (json.member m ++ u) ++ (125 ∷ []) ≡ json.member m ++ json.further ms = rw e (append_assoc (json.member m) u (125 ∷ [])) in
    subst (λ (l : List ℕ). Shown (123 ∷ l) []) f (shown_by 123 (json.member m ++ u) 125 (omega arith) (omega arith))

module _ {A : Type 0} {Spells : List ℕ → A → Type 0} {d : ℕ} where
  names-of : {ms : List json.Member} {fs : List (Named A)} {k : ℕ} (t : List ℕ) → Written Spells d ms fs k → names.names (located t ms fs) ≡ called fs
  unfolding located names.names called
  names-of t none = refl
  names-of t (under {n = n} c w r) = ap {B = List (List ℕ)} (λ ns. n ∷ ns) (names-of t r)

  count_of : {ms : List json.Member} {fs : List (Named A)} {k : ℕ} (t : List ℕ) → Written Spells d ms fs k → length fs ≡ length (located t ms fs)
  unfolding located
  count_of t none = refl
  count_of t (under c w r) = ap suc (count_of t r)

  bares : {ms : List json.Member} {fs : List (Named A)} {k : ℕ} (t : List ℕ) → Written Spells d ms fs k → Bares (located t ms fs)
  unfolding located
  bares t none = Bares.none
  bares t (under {v = v} c w r) = Bares.and (subst Bare (take_all (length v - 0) v (omega arith)) (shown-bare w.shown)) (bares t r)

  total-short : {ms : List json.Member} {fs : List (Named A)} {k : ℕ} → Written Spells d ms fs k → total ms ≤ k
  unfolding total
  total-short none = omega arith
  total-short (under c w r) = omega (arith, w.short, total-short r)

  pub object-short : {ms : List json.Member} {fs : List (Named A)} {k : ℕ} → Written Spells d ms fs k → length (json.object ms) ≤ k + 2
  unfolding json.object
  object-short none = omega arith
  object-short (under {x = x} {v = v} {ms = ms} c w r) = omega (arith, length-object (json.◌∶◌ x v) ms, total-short (under c w r))

  -- AN OBJECT OF SUCH MEMBERS IS A VALUE, whatever is behind
  pub object-value : {ms : List json.Member} {fs : List (Named A)} {k : ℕ} → Written Spells d ms fs k → Once (called fs)
      → (t : List ℕ) → value_with object_once (suc d) (json.object ms ++ t) t
  unfolding value_with
  object-value {ms} {fs} x o t = inr (inr (inr (inl (located t ms fs, subst Once (sym (names-of t x)) o, object-by t x))))

-- ---- each is the first with its name

data Firsts {A : Type 0} (Spells : List ℕ → A → Type 0) (ls : List Member) : List (Named A) → Type 0 where
  none : Firsts Spells ls []
  also : {f : Named A} {fs : List (Named A)} {m : Member} → FirstNamed f.name ls m → Spells m.value f.value → Firsts Spells ls fs
      → Firsts Spells ls (f ∷ fs)

-- also behind one that has none of their names
behind : {A : Type 0} {Spells : List ℕ → A → Type 0} {l : Member} {ls : List Member} {fs : List (Named A)}
    → Firsts Spells ls fs → Other l.name (called fs) → Firsts Spells (l ∷ ls) fs
unfolding called
behind none o = none
behind (also x y r) (Other.and o p) = also (FirstNamed.further o x) y (behind r p)

module _ {A : Type 0} {Spells : List ℕ → A → Type 0} {d : ℕ} where
  firsts : {ms : List json.Member} {fs : List (Named A)} {k : ℕ} (t : List ℕ) → Written Spells d ms fs k → Once (called fs) → Firsts Spells (located t ms fs) fs
  unfolding located called
  firsts t none o = none
  firsts t (under c w r) (Once.and o p) = also (FirstNamed.here refl) w.spells (behind (firsts t r p) o)

has-each : {A : Type 0} {Spells : List ℕ → A → Type 0} {s : List ℕ} {ls : List Member} {fs : List (Named A)} → IsObject s ls → Firsts Spells ls fs
    → HasEach Spells s fs
has-each x none = HasEach.none
has-each {ls = ls} x (also {m = m} f y r) = HasEach.and (record { members = ls; object = x; member = m; first = f; spelt = y }) (has-each x r)

-- AN OBJECT AS IT IS WRITTEN is one of those members
module _ {A : Type 0} {Spells : List ℕ → A → Type 0} where
  is-object : {ms : List json.Member} {fs : List (Named A)} {k : ℕ} → Written Spells (most_depth - 1) ms fs k → length (json.object ms) ≤ most_bytes
      → IsObject (json.object ms) (located [] ms fs)
  is-object {ms} {fs} x h =
      let (a, b, (c, y, z)) =
      subst (λ (s : List ℕ). object_of (value_with object_once (most_depth - 1)) (located [] ms fs) s []) (append-nil (json.object ms)) (object-by [] x) in
      record { short = h; text = (_, done, (_, (a, b, (c, members-in plain y, z)), done)); bare = bares [] x }
    where
      plain : (s t : List ℕ) → value_with object_once (most_depth - 1) s t → value (most_depth - 1) s t
      plain s t v = (rfc (most_depth - 1) s t).0 (weaker (λ ms. Once (names.names ms)) (λ ms. Unit) (λ ms o. tt) (most_depth - 1) s t v)

  -- in the grammar it has no name twice
  pub once-of : {ms : List json.Member} {fs : List (Named A)} {k : ℕ} → Written Spells (most_depth - 1) ms fs k → k + 2 ≤ most_bytes
      → InGrammar (json.object ms) → Once (called fs)
  once-of {ms} {fs} x h g =
      let short : length (json.object ms) ≤ most_bytes = omega (arith, object-short x) in
      subst Once (names-of [] x) (once-names (json.object ms) (located [] ms fs) g (is-object x short))

  pub object_of_lem : {ms : List json.Member} {fs : List (Named A)} {k : ℕ} → Written Spells (most_depth - 1) ms fs k → k + 2 ≤ most_bytes → T (are_once (called fs))
      → IsObjectOf Spells (json.object ms) fs
  object_of_lem {ms} {fs} {k} x h t =
      let short : length (json.object ms) ≤ most_bytes = omega (arith, object-short x) in
      let o : Once (called fs) = once_by (called fs) t in
      let is = is-object x short in
      record {
        grammar =
            record {
              short = short;
              text = (_, done, (_, subst (λ (s : List ℕ). value_with object_once most_depth s []) (append-nil (json.object ms)) (object-value x o []), done));
            };
        many = record { members = located [] ms fs; object = is; is = count_of [] x };
        each = has-each is (firsts [] x o);
      }
