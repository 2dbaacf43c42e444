-- A text is an object with these members, by the RFC, where a reader reads them; and it is so with one list of members.
-- Assumes nothing.
use mathlib.Core.Bool.{Bool, true, false}
use mathlib.Core.Path.{◌≡◌, sym, subst, ◌∙◌}
use mathlib.Core.List.{List, ◌∷◌}
use Prim.Native.Nat.{ℕ, suc, ◌-◌}
use Rattle.jsontext.specs.Paper.Members.{Bare, Bares, none, and, IsObject}
use Rattle.jsontext.specs.Paper.Names as names
use Rattle.jsontext.specs.Paper.Names.{Once, InGrammar, most_depth}
use Rattle.jsontext.specs.Work.Members.{member_in, members_in, members_of, ReadObject}
use Rattle.jsontext.specs.Work.Tight.{Elements, last, next, Rest, empty, full, Member, member, Object, leads, tight}
use Rattle.jsontext.proofs.Laws.Places.{tail_of}
use Rattle.jsontext.proofs.Laws.Values.{unlead}
use Rattle.jsontext.proofs.Laws.Weaker.{weaken-rest}
use Rattle.jsontext.proofs.Laws.Rules.{members-in, to-any, from-any}
use Rattle.jsontext.proofs.Laws.Members.{names-of}
use Rattle.jsontext.proofs.Laws.Bare.{tight-bare}
use Rattle.jsontext.proofs.Laws.Grammar.{more-blanks, append, to_end, rest-object, object-rest, Read, text-to}
use Rattle.jsontext.proofs.Laws.Only.{blanks-only, one-members}

-- what the RFC derives is read
pub object-to : {s : List ℕ} {ms : List names.Member} → IsObject s ms → ReadObject s ms
object-to x =
    let (m, b, (n, (k, o, (w, y, z)), c)) = x.text in
    let r = object-rest false (most_depth - 1) (k, o, (w, members-in (to-any (most_depth - 1)) y, z)) in
    record {
      short = x.short;
      inside = r.inside;
      end = r.end;
      before = more-blanks b r.before;
      rest = r.rest;
      behind = to_end (append r.behind c);
      is = r.same x.bare;
    }

-- the values that are read are bare
module _ (n : Bool) (d : ℕ) where
  member-bare : {s t : List ℕ} (x : Member (tight n d) s t) → Bare (member_in x).value
  unfolding member_in
  member-bare (member {d = a} {t = c} m b e w v) = tight-bare n d a c v

  elements-bare : {s t : List ℕ} (x : Elements (Member (tight n d)) 0x7D s t) → Bares (members_in x)
  unfolding members_in
  elements-bare (last o b e) = and (member-bare o) none
  elements-bare (next o b e c r) = and (member-bare o) (elements-bare r)

  rest-bare : {s t : List ℕ} (x : Rest (Member (tight n d)) 0x7D s t) → Bares (members_of x)
  unfolding members_of
  rest-bare (empty b e) = none
  rest-bare (full b w r) = elements-bare r

-- and what is read the RFC derives
pub object-from : {s : List ℕ} {ms : List names.Member} → ReadObject s ms → IsObject s ms
object-from x =
    let (m, b, (w, y, z)) = rest-object false (most_depth - 1) x.rest in
    rw x.is
    (record {
      short = x.short;
      text = (_, x.before.all, (_, (m, b, (w, members-in (from-any (most_depth - 1)) y, z)), x.behind.all));
      bare = rest-bare false (most_depth - 1) x.rest;
    })

-- a text is one object at most
pub one-object : {s : List ℕ} {ms ns : List names.Member} → IsObject s ms → IsObject s ns → ms ≡ ns
one-object {s} x y = by (object-to x) (object-to y)
  where
    by : {ms ns : List names.Member} → ReadObject s ms → ReadObject s ns → ms ≡ ns
    by x y =
        let i = tail_of (blanks-only s s _ _ (cc) x.before y.before) in
        x.is ∙ one-members false (most_depth - 1) i x.rest y.rest ∙ sym y.is

-- an object by its first byte
led-object : (n : Bool) (d : ℕ) {a u b : List ℕ} → a ≡ 0x7B ∷ u → tight n (suc d) a b → Object n (tight n d) u b
unfolding tight leads
led-object n d e x = unlead e x

-- a text of the grammar: no name twice
pub once-names : {s : List ℕ} {ms : List names.Member} → InGrammar s → IsObject s ms → Once (names.names ms)
once-names {s} {ms} g x = by (text-to most_depth s g.text) (object-to x)
  where
    by : Read most_depth s → ReadObject s ms → Once (names.names ms)
    by r x =
        let o = led-object true (most_depth - 1) (blanks-only s s _ _ (cc) r.before x.before) r.is in
        let w = weaken-rest (most_depth - 1) o.members in
        let same : names.names ms ≡ names.names (members_of w.rest) = cc (x.is, one-members false (most_depth - 1) (cc) x.rest w.rest) in
        subst Once (sym (same ∙ names-of w.rest ∙ w.same)) o.once
