-- The members of an object: their names, and where their values stand.
-- Assumes nothing.
use mathlib.Core.Path.{◌≡◌, refl, sym, ap, subst, ◌∙◌}
use mathlib.Core.List.{List, [], ◌∷◌}
use Prim.Native.Nat.{ℕ, ◌+◌, ◌-◌, ◌≤◌, ◌<◌}
use native.Mathlib.Omega.{arith}
use lib.ListN.{length, get_or, take, drop, length-drop}
use lib.Seq.{length-take-le}
use Rattle.digits.specs.Paper.Bytes.{part}
use Rattle.jsontext.specs.Paper.Abnf.{Rule}
use Rattle.jsontext.specs.Paper.Json.{string, blank}
use Rattle.jsontext.specs.Paper.Names as names
use Rattle.jsontext.specs.Paper.Members.{value_ends}
use Rattle.jsontext.specs.Work.Found.{Skipped}
use Rattle.jsontext.specs.Work.Members.{member_in, members_in, members_of}
use Rattle.jsontext.specs.Work.Tight.{Blanks, Elements, last, next, Rest, empty, full, Member, member, names_in, names_of}
use Rattle.jsontext.specs.Work.Units.{name_in}
use Rattle.jsontext.proofs.Laws.Places.{tail_of, stands, Ends}

-- ---- what is read

-- what a function says of each that stands between brackets, from the first on
module _ {A : Type 0} {one : Rule} {close : ℕ} (f : (s t : List ℕ) → one s t → A) where
  unfoldable pub each_in : {s t : List ℕ} → Elements one close s t → List A
  each_in (last {s = s} {m = m} o b e) = f s m o ∷ []
  each_in (next {s = s} {m = m} o b e c r) = f s m o ∷ each_in r

  unfoldable pub each_of : {s t : List ℕ} → Rest one close s t → List A
  each_of (empty b e) = []
  each_of (full b w r) = each_in r

-- a member is its parts
pub same-member : {m k : names.Member} → m.name ≡ k.name → m.value ≡ k.value → m.behind ≡ k.behind → m ≡ k
same-member e f g = λ i. record { name = e i; value = f i; behind = g i }

-- the members are what is read of each
abbrev pub read : {v : Rule} (s t : List ℕ) → Member v s t → names.Member
read s t x = member_in x

pub members-in : {v : Rule} {s t : List ℕ} (x : Elements (Member v) 0x7D s t) → each_in read x ≡ members_in x
unfolding each_in members_in
members-in (last o b e) = refl
members-in (next o b e c r) = cc (members-in r)

pub members-of : {v : Rule} {s t : List ℕ} (x : Rest (Member v) 0x7D s t) → each_of read x ≡ members_of x
unfolding each_of members_of
members-of (empty b e) = refl
members-of (full b w r) = members-in r

-- ---- names

-- a member that is read, and its parts
pub record Parts (value : Rule) (s t : List ℕ) (m : names.Member) : Type 0 where
  pub a : List ℕ
  pub b : List ℕ
  pub c : List ℕ
  pub d : List ℕ
  pub string : string s a
  pub behind : Blanks a b
  pub colon : b ≡ 0x3A ∷ c
  pub before : Blanks c d
  pub is : value d t
  pub name-is : m.name ≡ name_in s
  pub value-is : m.value ≡ take (length d - length t) d
  pub behind-is : m.behind ≡ length t

pub parts : {v : Rule} {s t : List ℕ} (x : Member v s t) → Parts v s t (member_in x)
unfolding member_in
parts (member n x e y v) =
    record {
      a = _;
      b = _;
      c = _;
      d = _;
      string = n;
      behind = x;
      colon = e;
      before = y;
      is = v;
      name-is = refl;
      value-is = refl;
      behind-is = refl;
    }

-- the members' names are those that are compared
pub names_in_lem : {v : Rule} {s t : List ℕ} (x : Elements (Member v) 0x7D s t) → names.names (members_in x) ≡ names_in x
unfolding names.names members_in names_in
names_in_lem (last o b e) = cc (parts o).name-is
names_in_lem (next o b e c r) = cc ((parts o).name-is, names_in_lem r)

pub names-of : {v : Rule} {s t : List ℕ} (x : Rest (Member v) 0x7D s t) → names.names (members_of x) ≡ names_of x
unfolding names.names members_of names_of
names-of (empty b e) = refl
names-of (full b w r) = names_in_lem r

-- ---- places

-- the member from p on has its value from d to r
pub record Placed (s : List ℕ) (p d r : ℕ) (t : List ℕ) (m : names.Member) : Type 0 where
  pub end : t ≡ drop r s
  pub name : m.name ≡ name_in (drop p s)
  pub value : m.value ≡ part d r s
  pub behind : m.behind ≡ length s - r
  pub ends : value_ends s m ≡ record { from = d; to = r }

-- whatever is read there: behind the name and blanks the colon, and behind that and blanks the value
module _ {v : Rule} {s : List ℕ} {p a b : ℕ} (n : Ends string s p a) (k : Skipped blank s a b) {t : List ℕ} {m : names.Member} (x : Parts v (drop p s) t m) where
  pub at-colon : x.b ≡ drop b s
  at-colon = k.only _ (subst (λ (l : List ℕ). Blanks l x.b) (n.only _ x.string) x.behind)

  pub at_value : {d : ℕ} → b < length s → get_or s b 0 ≡ 0x3A → Skipped blank s (b + 1) d → x.d ≡ drop d s
  at_value h e q =
      let i : x.c ≡ drop (b + 1) s = tail_of (sym x.colon ∙ at-colon ∙ stands s b 0x3A h e) in
      q.only _ (subst (λ (l : List ℕ). Blanks l x.d) i x.before)

pub member-places : {v : Rule} {s : List ℕ} {p a b d r : ℕ} → Ends string s p a → Skipped blank s a b → b < length s → get_or s b 0 ≡ 0x3A
    → Skipped blank s (b + 1) d → Ends v s d r → {t : List ℕ} (x : Member v (drop p s) t) → Placed s p d r t (member_in x)
member-places {v} {s} {p} {a} {b} {d} {r} n k h e q w {t} x = placed (parts x)
  where
    placed : {m : names.Member} → Parts v (drop p s) t m → Placed s p d r t m
    placed {m} y =
        let there : y.d ≡ drop d s = at_value n k y h e q in
        let end : t ≡ drop r s = w.only t (subst (λ (l : List ℕ). v l t) there y.is) in
        let l : d < r = w.on in
        let within : r ≤ length s = w.within in
        let size : length y.d - length t ≡ r - d = rw (there, end) (simp length-drop (omega arith)) in
        let value : m.value ≡ part d r s = y.value-is ∙ rw (size, there) in
        let behind : m.behind ≡ length s - r = y.behind-is ∙ rw (end, length-drop) in
        let long : length m.value ≡ r - d = ap length value ∙ length-take-le (r - d) (drop d s) (rw length-drop (omega arith)) in
        let to : length s - m.behind ≡ r = omega arith in
        let from : length s - m.behind - length m.value ≡ d = omega arith in
        record { end = end; name = y.name-is; value = value; behind = behind; ends = rw (from, to) }
