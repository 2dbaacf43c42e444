-- The grammar of the RFC, with or without names compared, is the grammar as a reader goes through it.
-- Assumes nothing.
use mathlib.Core.Bool.{Bool, true}
use mathlib.Core.Logic.{inl, inr, ⊎_elim}
use mathlib.Core.Path.{◌≡◌, refl, sym, subst, ◌∙◌}
use mathlib.Core.List.{List, [], ◌∷◌, ◌++◌}
use Prim.Native.Nat.{ℕ, zero, suc, ◌≤◌, ◌<◌}
use native.Mathlib.Omega.{arith}
use Rattle.digits.specs.Paper.Ascii.{ascii}
use Rattle.jsontext.specs.Paper.Abnf.{Rule, byte, range, many, done, more, opt, ◌⨾◌, ◌∕◌}
use Rattle.jsontext.specs.Paper.Json.{blank, ws, DIGIT, e, minus, int, frac, exp, number, string, array, value_with, JSON-text}
use Rattle.jsontext.specs.Paper.Members.{Bare, Bares}
use Rattle.jsontext.specs.Paper.Members as papers
use Rattle.jsontext.specs.Paper.Names.{Member, names, member, is, object_of, object_with, object_once}
use Rattle.jsontext.specs.Work.Members.{member_in, members_of}
use Rattle.jsontext.specs.Work.Tight as tight
use Rattle.jsontext.specs.Work.Tight.{Without, Blanks, Opt, Int, Frac, Exp, Number, sign, Lead, lead, leads}
use Rattle.jsontext.specs.Work.Tight.{Elements, last, next, Rest, empty, full, Object, Compared, names_of}
use Rattle.jsontext.proofs.Laws.Places.{head_of, nothing}
use Rattle.jsontext.proofs.Laws.Blanks.{blanks}
use Rattle.jsontext.proofs.Laws.Values.{unlead, leads-number}
use Rattle.jsontext.proofs.Laws.Spelt.{spelt-string}
use Rattle.jsontext.proofs.Laws.Units.{units_of_lem, named}
use Rattle.jsontext.proofs.Laws.Weaker.{by_first}
use Rattle.jsontext.proofs.Laws.Members.{each_in, each_of, read, same-member, members-of, names-of}
use Rattle.jsontext.proofs.Laws.Bare.{visible, int-first, number-first, number-from, ended-front, tight-ended, front-taken, cut}
use Rattle.jsontext.proofs.Laws.Rules as rules
use Rattle.jsontext.proofs.Laws.Rules.{Within, Items, Inner, from-opt, to-opt, from-members, to-members}

-- the two: what the RFC derives so deep, and what the reader reads so deep; no name twice in an object, if names are compared
abbrev pub Asked : Bool → List Member → Type 0
Asked n ms = Compared n (names ms)

abbrev pub Value : Bool → ℕ → Rule
Value n = value_with (object_with (Asked n))

abbrev Tight : Bool → ℕ → Rule
Tight = tight.tight

-- ---- values, from the tight form

-- arrays and objects alike: what stands in brackets
module _ {A : Type 0} (p : A → Rule) {q : Rule} {close : ℕ} (f : (s t : List ℕ) → q s t → A) (from : (s t : List ℕ) (x : q s t) → p (f s t x) s t) where
  elements-from : {s t : List ℕ} (x : Elements q close s t) → (w : List ℕ) × Items p (each_in f x) s w × (ws ⨾ byte close ⨾ ws) w t
  unfolding each_in
  elements-from (last {s = s} {m = m} x b e) = (m, rules.one (from s m x), (_, b.all, (_, e, done)))
  elements-from (next {s = s} {m = m} x b e c r) =
      let (w, y, z) = elements-from r in
      (w, rules.and (from s m x) (_, b.all, (_, e, c.all)) y, z)

  rest_from : (opens : ℕ) {u t : List ℕ} (x : Rest q close u t)
      → ((ws ⨾ byte opens ⨾ ws) ⨾ Inner p (each_of f x) ⨾ (ws ⨾ byte close ⨾ ws)) (opens ∷ u) t
  unfolding each_of
  rest_from opens (empty {m = m} b e) = (m, (_, done, (_, refl, b.all)), (m, rules.none, (_, done, (_, e, done))))
  rest_from opens (full {m = m} b w r) =
      let (w, y, z) = elements-from r in
      (m, (_, done, (_, refl, b.all)), (w, rules.some y, z))

-- one deeper
module _ (n : Bool) (d : ℕ) (ih : Within (Tight n d) (Value n d)) where
  member-from : (s t : List ℕ) (x : tight.Member (Tight n d) s t) → member (Value n d) (member_in x) s t
  unfolding member_in
  member-from s t (tight.member m b e c v) = is (named m) (_, b.all, (_, e, c.all)) (ih _ _ v) (front-taken (ended-front (tight-ended n d v))) refl

  array-from : (u t : List ℕ) → Rest (Tight n d) 0x5D u t → array (Value n d) (0x5B ∷ u) t
  array-from u t x =
      let (m, b, (w, y, z)) = rest_from (λ (a : Unit). Value n d) (λ s t y. tt) ih 0x5B x in
      (m, b, (w, to-opt (Value n d) y, z))

  object-from : {u t : List ℕ} (x : Rest (tight.Member (Tight n d)) 0x7D u t) → object_of (Value n d) (members_of x) (0x7B ∷ u) t
  object-from x =
      let (m, b, (w, y, z)) = rest_from (member (Value n d)) read member-from 0x7B x in
      (m, b, (w, to-members (rw (members-of x) at y), z))

  led-from : (b : ℕ) (u t : List ℕ) → leads n (Tight n d) b u t → Value n (suc d) (b ∷ u) t
  unfolding value_with leads
  led-from b u t =
      by_first (λ c. leads n (Tight n d) c u t → Value n (suc d) (c ∷ u) t)
      (λ x. inr (inr (inr (inr (inr (inr x))))))
      (λ x. inr (inr (inr (inl (members_of x.members, rw (names-of x.members) x.once, object-from x.members)))))
      (λ x. inr (inr (inr (inr (inl (array-from u t x)))))) (λ x. inr (inr (inl x))) (λ x. inl x) (λ x. inr (inl x))
      (λ c e x. inr (inr (inr (inr (inr (inl (number-from (c ∷ u) t (rw (e n (Tight n d) u t) at x)))))))) b

  unled : (s t : List ℕ) → Lead (leads n (Tight n d)) s t → Value n (suc d) s t
  unled s t (lead {b = b} {u = u} e x) = subst (λ (l : List ℕ). Value n (suc d) l t) (sym e) (led-from b u t x)

values-from : (n : Bool) (d : ℕ) → Within (Tight n d) (Value n d)
unfolding tight.tight
values-from n zero s t x = absurd x
values-from n (suc d) s t x = unled n d (values-from n d) s t x

pub value-from : (d : ℕ) (s t : List ℕ) → tight.tight true d s t → value_with object_once d s t
value-from = values-from true

-- what a reader finds behind the opening bracket is an object with these members
pub rest-object : (n : Bool) (d : ℕ) {u t : List ℕ} (x : Rest (tight.Member (tight.tight n d)) 0x7D u t) → object_of (Value n d) (members_of x) (0x7B ∷ u) t
rest-object n d x = object-from n d (values-from n d) x

-- ---- blanks

pub append : {a : Rule} {s m t : List ℕ} → many a s m → many a m t → many a s t
append done y = y
append (more x r) y = more x (append r y)

pub more-blanks : {s m t : List ℕ} → ws s m → Blanks m t → Blanks s t
more-blanks w b = record { all = append w b.all; no_more = b.no_more }

-- up to a byte that is none, and to the end
up_to : (b : ℕ) {s n u : List ℕ} → 0x20 < b → ws s n → n ≡ b ∷ u → Blanks s n
up_to b {s} {n} {u} h w e = record { all = w; no_more = λ t y. visible b h (blanks.first b u t (subst (λ (l : List ℕ). blank l t) e y)) }

pub to_end : {s : List ℕ} → ws s [] → Blanks s []
to_end w = record { all = w; no_more = blanks.never }

-- ---- what may follow a number

record Follow (t : List ℕ) : Type 0 where
  digit : Without DIGIT t
  point : Without (byte 0x2E) t
  power : Without e t

not-range : {s u : List ℕ} (low high b : ℕ) → s ≡ b ∷ u → ((low ≤ b) × (b ≤ high) → ⊥) → Without (range low high) s
not-range low high b e f t (c, h, k, x) = let q : c ≡ b = head_of (sym x ∙ e) in f (omega arith, omega arith)

not_byte : {s u : List ℕ} (c b : ℕ) → s ≡ b ∷ u → ((b ≡ c) → ⊥) → Without (byte c) s
not_byte c b e f t x = f (head_of (sym e ∙ x))

not-bytes : {s u : List ℕ} (c d b : ℕ) → s ≡ b ∷ u → ((b ≡ c) → ⊥) → ((b ≡ d) → ⊥) → Without (byte c ∕ byte d) s
not-bytes c d b e f g t = ⊎_elim (not_byte c b e f t) (not_byte d b e g t)

-- a byte that no number goes on with
record Apart (b : ℕ) : Type 0 where
  digit : (0x30 ≤ b) × (b ≤ 0x39) → ⊥
  point : (b ≡ 0x2E) → ⊥
  lower : (b ≡ 0x65) → ⊥
  upper : (b ≡ 0x45) → ⊥

follow-byte : {s u : List ℕ} (b : ℕ) → Apart b → s ≡ b ∷ u → Follow s
follow-byte b a x =
    record {
      digit = not-range 0x30 0x39 b x a.digit;
      point = not_byte 0x2E b x a.point;
      power = not-bytes 0x65 0x45 b x a.lower a.upper;
    }

follow-blank : (s t : List ℕ) → blank s t → Follow s
follow-blank s t (inl x) = follow-byte 0x20 (omega arith) x
follow-blank s t (inr (inl x)) = follow-byte 0x09 (omega arith) x
follow-blank s t (inr (inr (inl x))) = follow-byte 0x0A (omega arith) x
follow-blank s t (inr (inr (inr x))) = follow-byte 0x0D (omega arith) x

follow-ws : {m n : List ℕ} → ws m n → Follow n → Follow m
follow-ws done f = f
follow-ws (more {s = s} {m = m} x r) f = follow-blank s m x

follow-end : Follow []
follow-end = record { digit = λ t x. nothing x.3; point = λ t x. nothing x; power = λ t. ⊎_elim nothing nothing }

-- ---- numbers, to the tight form

-- before an exponent or none, and before a fraction or none
exp-before : (m t : List ℕ) → opt exp m t → Follow t → (Without DIGIT m) × (Without (byte 0x2E) m)
exp-before m t (inl (k, inl x, y)) f = (not-range 0x30 0x39 0x65 x (omega arith), not_byte 0x2E 0x65 x (omega arith))
exp-before m t (inl (k, inr x, y)) f = (not-range 0x30 0x39 0x45 x (omega arith), not_byte 0x2E 0x45 x (omega arith))
exp-before m t (inr x) f = rw x (f.digit, f.point)

frac-before : (m k t : List ℕ) → opt frac m k → opt exp k t → Follow t → Without DIGIT m
frac-before m k t (inl (n, x, y)) z f = not-range 0x30 0x39 0x2E x (omega arith)
frac-before m k t (inr x) z f = rw x (exp-before k t z f).0

exp-to : (m t : List ℕ) → opt exp m t → Follow t → Exp m t
exp-to m t (inl (a, x, (b, y, (c, z, w)))) f = inl (a, x, (b, sign-to y z, (c, z, record { all = w; no_more = f.digit })))
  where
    sign-to : opt sign a b → DIGIT b c → Opt sign sign a b
    sign-to (inl y) z = inl y
    sign-to (inr i) (n, h, k, j) = inr (i, not-bytes 0x2D 0x2B n (i ∙ j) (omega arith) (omega arith))
exp-to m t (inr x) f = inr (x, rw x f.power)

frac-to : (m k t : List ℕ) → opt frac m k → opt exp k t → Follow t → Frac m k
frac-to m k t (inl (a, x, (b, y, z))) w f = inl (a, x, (b, y, record { all = z; no_more = (exp-before k t w f).0 }))
frac-to m k t (inr x) w f = inr (x, rw x (exp-before k t w f).1)

int-to : (m k : List ℕ) → int m k → Without DIGIT k → Int m k
int-to m k (inl x) f = inl x
int-to m k (inr (a, x, y)) f = inr (a, x, record { all = y; no_more = f })

minus-to : (s m k : List ℕ) → opt minus s m → int m k → Opt minus minus s m
minus-to s m k (inl x) y = inl x
minus-to s m k (inr x) y = let i = int-first m k y in inr (x, not_byte 0x2D i.b (x ∙ i.is) (λ z. omega (arith, i.above)))

number-to : (s t : List ℕ) → number s t → Follow t → Number s t
unfolding Number
number-to s t (a, x, (b, y, (c, z, w))) f =
    (a, minus-to s a b x y, (b, int-to a b y (frac-before b c t z w f), (c, frac-to b c t z w f, exp-to c t w f)))

-- ---- between brackets, to the tight form

-- the labels of the one and what is read of the other, one by one
data Agree {A B : Type 0} (As : A → B → Type 0) : List A → List B → Type 0 where
  end : Agree As [] []
  also : {a : A} {b : B} {ls : List A} {ks : List B} → As a b → Agree As ls ks → Agree As (a ∷ ls) (b ∷ ks)

-- what the tight rule derives, with blanks on both sides
record Around (q : Rule) (s t : List ℕ) : Type 0 where
  a : List ℕ
  b : List ℕ
  before : Blanks s a
  is : q a b
  behind : ws b t

-- the elements that labels are of, behind their blanks
record Got {A B : Type 0} (As : A → B → Type 0) (ls : List A) {q : Rule} (f : (s t : List ℕ) → q s t → B) (close : ℕ) (s t : List ℕ) : Type 0 where
  a : List ℕ
  b : List ℕ
  before : Blanks s a
  first : q a b
  elements : Elements q close a t
  agree : Agree As ls (each_in f elements)

-- what stands in brackets, and blanks on both sides
record Bracketed {A B : Type 0} (As : A → B → Type 0) (ls : List A) {q : Rule} (f : (s t : List ℕ) → q s t → B) (opens close : ℕ) (s t : List ℕ) : Type 0 where
  a : List ℕ
  u : List ℕ
  b : List ℕ
  before : Blanks s a
  opened : a ≡ opens ∷ u
  rest : Rest q close u b
  agree : Agree As ls (each_of f rest)
  behind : ws b t

-- two bytes that are no blanks, and no number goes on with the second
record Brackets (opens close : ℕ) : Type 0 where
  opening : 0x20 < opens
  closing : 0x20 < close
  apart : Apart close

-- arrays and objects alike
module _ {A B : Type 0} {p : A → Rule} {As : A → B → Type 0} {q : Rule} (f : (s t : List ℕ) → q s t → B) (opens close : ℕ)
    (are : Brackets opens close) (never : (u t : List ℕ) → q (close ∷ u) t → ⊥)
    (to : (a : A) (s t : List ℕ) → p a s t → Follow t → (x : Around q s t) × As a (f x.a x.b x.is)) where
  elements-to : {ls : List A} {s w n t : List ℕ} → Items p ls s w → ws w n → n ≡ close ∷ t → Got As ls f close s t
  unfolding each_in
  elements-to (rules.one {a = a} {s = s} {t = m} x) v y =
      let (r, n) = to a s m x (follow-ws v (follow-byte close are.apart y)) in
      record {
        a = r.a;
        b = r.b;
        before = r.before;
        first = r.is;
        elements = last r.is (up_to close are.closing (append r.behind v) y) y;
        agree = also n end;
      }
  elements-to (rules.and {a = a} {s = s} {m = m} x (k, g, (u, e, h)) l) v y =
      let (r, n) = to a s m x (follow-ws g (follow-byte 0x2C (omega arith) e)) in
      let z = elements-to l v y in
      record {
        a = r.a;
        b = r.b;
        before = r.before;
        first = r.is;
        elements = next r.is (up_to 0x2C (omega arith) (append r.behind g) e) e (more-blanks h z.before) z.elements;
        agree = also n z.agree;
      }

  rest-to : {ls : List A} {s t : List ℕ} → ((ws ⨾ byte opens ⨾ ws) ⨾ Inner p ls ⨾ (ws ⨾ byte close ⨾ ws)) s t → Bracketed As ls f opens close s t
  unfolding each_of
  rest-to (m, (a, x, (u, e, y)), (w, rules.none, (n, z, (b, f, v)))) =
      record {
        a = a;
        u = u;
        b = b;
        before = up_to opens are.opening x e;
        opened = e;
        rest = empty (up_to close are.closing (append y z) f) f;
        agree = end;
        behind = v;
      }
  rest-to (m, (a, x, (u, e, y)), (w, rules.some i, (n, z, (b, f, v)))) =
      let g = elements-to i z f in
      record {
        a = a;
        u = u;
        b = b;
        before = up_to opens are.opening x e;
        opened = e;
        rest = full (more-blanks y g.before) (λ l j. never l g.b (subst (λ (l : List ℕ). q l g.b) j g.first)) g.elements;
        agree = g.agree;
        behind = v;
      }

-- ---- values, to the tight form

quote : (s t : List ℕ) → string s t → (u : List ℕ) × (s ≡ 0x22 ∷ u)
unfolding string
quote s t (m, x, y) = (m, x)

-- no value begins with `]`, and no member with `}`
never-value : (n : Bool) (d : ℕ) (u t : List ℕ) → Tight n d (0x5D ∷ u) t → ⊥
unfolding tight.tight leads
never-value n zero u t x = x
never-value n (suc d) u t x =
    let y : Number (0x5D ∷ u) t = unlead {f = leads n (Tight n d)} {b = 0x5D} {u = u} refl x in
    let z = number-first (0x5D ∷ u) t (number-from (0x5D ∷ u) t y) in
    omega (arith, z.below, head_of z.is)

begins : {v : Rule} {s t : List ℕ} → tight.Member v s t → (u : List ℕ) × (s ≡ 0x22 ∷ u)
begins (tight.member n b c d w) = quote _ _ n

never-member : (v : Rule) (u t : List ℕ) → tight.Member v (0x7D ∷ u) t → ⊥
never-member v u t x = omega (arith, head_of (begins x).1)

-- a member has the name that is read, and if its value is bare, it is what is read
pub record Same (m k : Member) : Type 0 where
  pub name : m.name ≡ k.name
  pub bare : Bare m.value → m ≡ k

same_names : {ms ks : List Member} → Agree Same ms ks → names ms ≡ names ks
unfolding names
same_names end = refl
same_names (also e r) = cc (same_names r)

same-members : {ms ks : List Member} → Agree Same ms ks → Bares ms → ms ≡ ks
same-members end papers.none = refl
same-members (also e r) (papers.and b bs) = cc (e.bare b, same-members r bs)

-- one deeper: each of the alternatives
module _ (n : Bool) (d : ℕ) (ih : (s t : List ℕ) → Value n d s t → Follow t → Around (Tight n d) s t) where
  member-to : (m : Member) (s t : List ℕ) → member (Value n d) m s t → Follow t → (x : Around (tight.Member (Tight n d)) s t) × Same m (member_in x.is)
  unfolding member_in
  member-to m s t (is {b = b} k (a, x, (u, e, y)) v z l) f =
      let r = ih b t v f in
      let i : tight.Member (Tight n d) s r.b = tight.member (spelt-string k) (up_to 0x3A (omega arith) x e) e (more-blanks y r.before) r.is in (
        record { a = s; b = r.b; before = up_to 0x22 (omega arith) done (begins i).1; is = i; behind = r.behind },
        record {
          name = sym (units_of_lem k);
          bare = λ w. let (o, p) = cut r.before (tight-ended n d r.is) r.behind z w in same-member (sym (units_of_lem k)) o (l ∙ p);
        },
      )

  object-to : {ms : List Member} {s t : List ℕ} → object_of (Value n d) ms s t → Bracketed Same ms {q = tight.Member (Tight n d)} read 0x7B 0x7D s t
  object-to (m, x, (w, y, z)) = rest-to read 0x7B 0x7D (omega arith) (never-member (Tight n d)) member-to (m, x, (w, from-members y, z))

  module _ (s t : List ℕ) where
    abbrev Here : Type 0
    Here = Around (Lead (leads n (Tight n d))) s t

    word : (b : ℕ) (u : List ℕ) → 0x20 < b → s ≡ b ∷ u → leads n (Tight n d) b u t → Here
    word b u h e x = record { a = s; b = t; before = up_to b h done e; is = lead e x; behind = done }

    string-here : string s t → Here
    unfolding leads
    string-here x = let (u, e) = quote s t x in word 0x22 u (omega arith) e (rw e at x)

    number-here : number s t → Follow t → Here
    number-here x f =
        let z = number-first s t x in
        let h : 0x2D ≤ z.b = z.above in
        let k : z.b ≤ 0x39 = z.below in
        let i : leads n (Tight n d) z.b z.u t ≡ Number (z.b ∷ z.u) t =
        leads-number n (Tight n d) z.b z.u t (omega arith) (omega arith) (omega arith) (omega arith) (omega arith) (omega arith) in
        word z.b z.u (omega arith) z.is (rw i (rw z.is at (number-to s t x f)))

    array-here : array (Value n d) s t → Here
    unfolding leads
    array-here (m, x, (w, y, z)) =
        let (ls, i) = from-opt (Value n d) y in
        let r =
        rest-to {B = Unit} {p = λ (a : Unit). Value n d} {As = λ a b. Unit} (λ s t y. tt) 0x5B 0x5D (omega arith) (never-value n d)
        (λ a s t y f. (ih s t y f, tt)) (m, x, (w, i, z)) in
        record { a = r.a; b = r.b; before = r.before; is = lead r.opened r.rest; behind = r.behind }

    object-here : object_with (Asked n) (Value n d) s t → Here
    unfolding leads
    object-here (ms, o, x) =
        let r = object-to x in
        let same : names ms ≡ names_of r.rest = same_names r.agree ∙ rw (members-of r.rest) (names-of r.rest) in
        let i : Object n (Tight n d) r.u r.b = record { members = r.rest; once = rw same at o } in
        record { a = r.a; b = r.b; before = r.before; is = lead r.opened i; behind = r.behind }

    here : Value n (suc d) s t → Follow t → Here
    unfolding value_with leads
    here (inl x) f = word 0x66 (ascii "alse" ++ t) (omega arith) x refl
    here (inr (inl x)) f = word 0x6E (ascii "ull" ++ t) (omega arith) x refl
    here (inr (inr (inl x))) f = word 0x74 (ascii "rue" ++ t) (omega arith) x refl
    here (inr (inr (inr (inl x)))) f = object-here x
    here (inr (inr (inr (inr (inl x))))) f = array-here x
    here (inr (inr (inr (inr (inr (inl x)))))) f = number-here x f
    here (inr (inr (inr (inr (inr (inr x)))))) f = string-here x

value-to : (n : Bool) (d : ℕ) (s t : List ℕ) → Value n d s t → Follow t → Around (Tight n d) s t
unfolding tight.tight value_with
value-to n zero s t x f = absurd x
value-to n (suc d) s t x f = here n d (value-to n d) s t x f

-- an object with its members, and blanks on both sides: where their values are bare, they are what is read
pub record Opened (n : Bool) (d : ℕ) (ms : List Member) (s t : List ℕ) : Type 0 where
  pub inside : List ℕ
  pub end : List ℕ
  pub before : Blanks s (0x7B ∷ inside)
  pub rest : Rest (tight.Member (tight.tight n d)) 0x7D inside end
  pub behind : ws end t
  pub same : Bares ms → ms ≡ members_of rest

pub object-rest : (n : Bool) (d : ℕ) {ms : List Member} {s t : List ℕ} → object_of (Value n d) ms s t → Opened n d ms s t
object-rest n d x =
    let r = object-to n d (value-to n d) x in
    record {
      inside = r.u;
      end = r.b;
      before = rw r.opened at r.before;
      rest = r.rest;
      behind = r.behind;
      same = λ b. same-members r.agree b ∙ members-of r.rest;
    }

-- ---- texts

-- a text as a reader goes through it
pub record Read (d : ℕ) (s : List ℕ) : Type 0 where
  pub a : List ℕ
  pub b : List ℕ
  pub before : Blanks s a
  pub is : tight.tight true d a b
  pub behind : Blanks b []

pub text-to : (d : ℕ) (s : List ℕ) → JSON-text (value_with object_once d) s → Read d s
text-to d s (m, x, (n, y, z)) =
    let r = value-to true d m n y (follow-ws z follow-end) in
    record { a = r.a; b = r.b; before = more-blanks x r.before; is = r.is; behind = to_end (append r.behind z) }

pub text-from : (d : ℕ) (s : List ℕ) → Read d s → JSON-text (value_with object_once d) s
text-from d s r = (r.a, r.before.all, (r.b, value-from d r.a r.b r.is, r.behind.all))
