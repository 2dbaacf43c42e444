-- What is read from a place on ends at one place, and its members are the same.
-- Assumes nothing.
use mathlib.Core.Bool.{Bool}
use mathlib.Core.Logic.{inl, inr}
use mathlib.Core.Path.{◌≡◌, refl, sym, ap, subst, ◌∙◌}
use mathlib.Core.List.{List, [], ◌∷◌, append_cancel_left}
use Prim.Native.Nat.{ℕ, zero, suc}
use native.Mathlib.Omega.{arith}
use lib.ListN.{length, drop}
use lib.Seq.{drop-append_seam}
use Rattle.digits.specs.Paper.Ascii.{ascii}
use Rattle.jsontext.specs.Paper.Abnf.{Rule, byte, text, many, done, more, ◌⨾◌, ◌∕◌}
use Rattle.jsontext.specs.Paper.Json.{char, string}
use Rattle.jsontext.specs.Work.Members.{member_in, members_of}
use Rattle.jsontext.specs.Work.Tight as tight
use Rattle.jsontext.specs.Work.Tight.{Without, All, Blanks, Opt, Number, Elements, last, next, Rest, empty, full, Member, member, Lead, lead, leads}
use Rattle.jsontext.specs.Work.Units.{size_of, name_in}
use Rattle.jsontext.proofs.Laws.Places.{tail_of, head_of}
use Rattle.jsontext.proofs.Laws.Blanks.{Class, blanks, ranged}
use Rattle.jsontext.proofs.Laws.Chars.{char-quote}
use Rattle.jsontext.proofs.Laws.Spelt.{char-spelt}
use Rattle.jsontext.proofs.Laws.Units.{of_char}
use Rattle.jsontext.proofs.Laws.Values.{unlead}
use Rattle.jsontext.proofs.Laws.Weaker.{by_first}
use Rattle.jsontext.proofs.Laws.Members.{each_in, each_of, read, same-member, members-of}

-- from one place on, to one place
abbrev pub Only : Rule → Type 0
Only a = (s r t u : List ℕ) → s ≡ r → a s t → a r u → t ≡ u

-- put together from parts
byte-only : (b : ℕ) → Only (byte b)
byte-only b s r t u i x y = tail_of (sym x ∙ i ∙ y)

text-only : (w : List ℕ) → Only (text w)
text-only w s r t u i x y = append_cancel_left w t u (sym x ∙ i ∙ y)

class-only : {a : Rule} {C : ℕ → Type 0} → Class a C → Only a
class-only {a} k s r t u i x y = go s x (subst (λ (l : List ℕ). a l u) (sym i) y)
  where
    go : (s : List ℕ) → a s t → a s u → t ≡ u
    go [] x y = absurd (k.never t x)
    go (b ∷ s) x y = sym (k.rest b s t x) ∙ k.rest b s u y

then-only : {a b : Rule} → Only a → Only b → Only (a ⨾ b)
then-only f g s r t u i (m, x, y) (n, z, w) = g m n t u (f s r m n i x z) y w

either-only : {a b : Rule} → Only a → Only b → ((s r t u : List ℕ) → s ≡ r → a s t → b r u → ⊥) → Only (a ∕ b)
either-only f g h s r t u i (inl x) (inl y) = f s r t u i x y
either-only f g h s r t u i (inl x) (inr y) = absurd (h s r t u i x y)
either-only f g h s r t u i (inr x) (inl y) = absurd (h r s u t (sym i) y x)
either-only f g h s r t u i (inr x) (inr y) = g s r t u i x y

opt-only : {begin a : Rule} → Only a → ((s t : List ℕ) → a s t → (m : List ℕ) × begin s m) → Only (Opt begin a)
opt-only {begin} f g s r t u i (inl x) (inl y) = f s r t u i x y
opt-only {begin} f g s r t u i (inl x) (inr (e, n)) = let (m, b) = g s t x in absurd (n m (subst (λ (l : List ℕ). begin l m) i b))
opt-only {begin} f g s r t u i (inr (e, n)) (inl y) = let (m, b) = g r u y in absurd (n m (subst (λ (l : List ℕ). begin l m) (sym i) b))
opt-only {begin} f g s r t u i (inr (e, n)) (inr (k, o)) = sym e ∙ i ∙ k

-- as many as there are, up to what begins otherwise
until-only : {a b : Rule} → Only a → Only b → ((s r t u : List ℕ) → s ≡ r → a s t → b r u → ⊥) → Only (many a ⨾ b)
until-only {a} {b} f g h s r t u i (m, x, y) (n, z, w) = go i x y z w
  where
    go : {s r m n : List ℕ} → s ≡ r → many a s m → b m t → many a r n → b n u → t ≡ u
    go i done y done w = g _ _ t u i y w
    go i done y (more z q) w = absurd (h _ _ _ t (sym i) z y)
    go i (more x p) y done w = absurd (h _ _ _ u i x w)
    go i (more x p) y (more z q) w = go (f _ _ _ _ i x z) p y q w

all-only : {a : Rule} → Only a → Only (All a)
all-only {a} f s r t u i x y =
    until-only {b = λ m n. (m ≡ n) × Without a m} f (λ s r t u i x y. sym x.0 ∙ i ∙ y.0)
    (λ s r t u i x y. y.1 t (subst (λ (l : List ℕ). a l t) i x)) s r t u i (t, x.all, (refl, x.no_more)) (u, y.all, (refl, y.no_more))

lead-only : {f : ℕ → Rule} → ((b : ℕ) → Only (f b)) → Only (Lead f)
lead-only g s r t u i (lead {b = b} {u = v} e x) y = g b v v t u refl x (unlead (sym i ∙ e) y)

-- one of two bytes
two-only : (b c : ℕ) → ((b ≡ c) → ⊥) → Only (byte b ∕ byte c)
two-only b c n = either-only (byte-only b) (byte-only c) (λ s r t u i x y. n (head_of (sym x ∙ i ∙ y)))

-- numbers
digits-only : Only tight.Digits
digits-only = then-only (class-only (ranged 0x30 0x39)) (all-only (class-only (ranged 0x30 0x39)))

int-only : Only tight.Int
int-only =
    either-only (byte-only 0x30) (then-only (class-only (ranged 0x31 0x39)) (all-only (class-only (ranged 0x30 0x39))))
    (λ s r t u i x y. let (b, h, k, z) = y.1 in omega (arith, head_of (sym x ∙ i ∙ z)))

number-only : Only Number
unfolding Number
number-only =
    then-only (opt-only (byte-only 0x2D) (λ s t x. (t, x)))
    (then-only int-only
    (then-only (opt-only (then-only (byte-only 0x2E) digits-only) (λ s t x. (x.0, x.1)))
    (opt-only (then-only (two-only 0x65 0x45 (omega arith)) (then-only (opt-only (two-only 0x2D 0x2B (omega arith)) (λ s t x. (t, x))) digits-only))
    (λ s t x. (x.0, x.1)))))

-- strings: a character is as long as the reader says
behind-char : (s t : List ℕ) → char s t → drop (size_of s) s ≡ t
behind-char s t x = let c = char-spelt x in cc (c.there, (of_char t c.is).size, drop-append_seam c.bytes t)

char-only : Only char
char-only s r t u i x y = sym (behind-char s t x) ∙ cc (behind-char r u y)

pub string-only : Only string
unfolding string
string-only =
    then-only (byte-only 0x22)
    (until-only char-only (byte-only 0x22) (λ s r t u i x y. char-quote u t (subst (λ (l : List ℕ). char l t) (i ∙ y) x)))

pub blanks-only : Only Blanks
blanks-only = all-only (class-only blanks)

-- ---- between brackets

-- from one place on, to one place, and the same is read
abbrev Alike : {A : Type 0} {q : Rule} → ((s t : List ℕ) → q s t → A) → Type 0
Alike {A} {q} f = (s r t u : List ℕ) → s ≡ r → (x : q s t) (y : q r u) → (t ≡ u) × (f s t x ≡ f r u y)

module _ {A : Type 0} {q : Rule} (f : (s t : List ℕ) → q s t → A) (o : Alike f) (close : ℕ) (c : (close ≡ 0x2C) → ⊥) where
  elements-alike : {s r t u : List ℕ} → s ≡ r → (x : Elements q close s t) (y : Elements q close r u) → (t ≡ u) × (each_in f x ≡ each_in f y)
  unfolding each_in
  elements-alike i (last x b e) (last y d g) =
      let (j, k) = o _ _ _ _ i x y in
      (tail_of (sym e ∙ blanks-only _ _ _ _ j b d ∙ g), cc)
  elements-alike i (last x b e) (next y d g h r) =
      let (j, k) = o _ _ _ _ i x y in
      absurd (c (head_of (sym e ∙ blanks-only _ _ _ _ j b d ∙ g)))
  elements-alike i (next x b e a p) (last y d g) =
      let (j, k) = o _ _ _ _ i x y in
      absurd (c (head_of (sym g ∙ sym (blanks-only _ _ _ _ j b d) ∙ e)))
  elements-alike i (next x b e a p) (next y d g h r) =
      let (j, k) = o _ _ _ _ i x y in
      let (l, m) = elements-alike (blanks-only _ _ _ _ (tail_of (sym e ∙ blanks-only _ _ _ _ j b d ∙ g)) a h) p r in
      (l, cc)

  rest-alike : {s r t u : List ℕ} → s ≡ r → (x : Rest q close s t) (y : Rest q close r u) → (t ≡ u) × (each_of f x ≡ each_of f y)
  unfolding each_of
  rest-alike i (empty b e) (empty d g) = (tail_of (sym e ∙ blanks-only _ _ _ _ i b d ∙ g), refl)
  rest-alike i (empty b e) (full d w r) = absurd (w _ (sym (blanks-only _ _ _ _ i b d) ∙ e))
  rest-alike i (full b v p) (empty d g) = absurd (v _ (blanks-only _ _ _ _ i b d ∙ g))
  rest-alike i (full b v p) (full d w r) = elements-alike (blanks-only _ _ _ _ i b d) p r

member_alike : {v : Rule} → Only v → Alike {q = Member v} read
unfolding member_in
member_alike f s r t u i (member n b e c v) (member m d g h w) =
    let j = blanks-only _ _ _ _ (string-only _ _ _ _ i n m) b d in
    let k = blanks-only _ _ _ _ (tail_of (sym e ∙ j ∙ g)) c h in
    let l : t ≡ u = f _ _ _ _ k v w in
    (l, same-member (ap name_in i) (cc) (ap length l))

-- ---- values

led-only : (n : Bool) {v : Rule} → Only v → (b : ℕ) → Only (leads n v b)
unfolding leads
led-only n {v} f =
    by_first (λ c. Only (leads n v c))
    (λ s r t u i x y. string-only (0x22 ∷ s) (0x22 ∷ r) t u (cc) x y)
    (λ s r t u i x y. (rest-alike read (member_alike f) 0x7D (omega arith) i x.members y.members).0)
    (λ s r t u i x y. (rest-alike {A = Unit} (λ s t x. tt) (λ s r t u i x y. (f s r t u i x y, refl)) 0x5D (omega arith) i x y).0)
    (λ s r t u i x y. text-only (ascii "true") (0x74 ∷ s) (0x74 ∷ r) t u (cc) x y)
    (λ s r t u i x y. text-only (ascii "false") (0x66 ∷ s) (0x66 ∷ r) t u (cc) x y)
    (λ s r t u i x y. text-only (ascii "null") (0x6E ∷ s) (0x6E ∷ r) t u (cc) x y)
    (λ c e s r t u i x y. number-only (c ∷ s) (c ∷ r) t u (cc) (rw (e n v s t) at x) (rw (e n v r u) at y))

pub tight-only : (n : Bool) (d : ℕ) → Only (tight.tight n d)
unfolding tight.tight
tight-only n zero s r t u i x y = absurd x
tight-only n (suc d) s r t u i x y = lead-only (led-only n (tight-only n d)) s r t u i x y

pub member-only : (n : Bool) (d : ℕ) → Only (Member (tight.tight n d))
member-only n d s r t u i x y = (member_alike (tight-only n d) s r t u i x y).0

-- so an object has its members, whoever reads them
pub one-members : (n : Bool) (d : ℕ) {s r t u : List ℕ} → s ≡ r → (x : Rest (Member (tight.tight n d)) 0x7D s t) (y : Rest (Member (tight.tight n d)) 0x7D r u)
    → members_of x ≡ members_of y
one-members n d i x y = sym (members-of x) ∙ (rest-alike read (member_alike (tight-only n d)) 0x7D (omega arith) i x y).1 ∙ members-of y
