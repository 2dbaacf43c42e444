-- Rules in the place of others, what stands between brackets, and that a rule takes a front part of the text.
-- Assumes nothing.
use mathlib.Core.Logic.{inl, inr}
use mathlib.Core.Path.{◌≡◌, refl, subst}
use mathlib.Core.List.{List, [], ◌∷◌, ◌++◌, append_assoc}
use Prim.Native.Nat.{ℕ, zero, suc}
use lib.ListN.{length}
use Rattle.digits.specs.Paper.Ascii.{ascii}
use Rattle.jsontext.specs.Paper.Abnf.{Rule, byte, range, text, opt, many, done, more, ◌⨾◌, ◌∕◌}
use Rattle.jsontext.specs.Paper.Json.{ws, DIGIT, number, string, array, object, value, value_with, value-separator}
use Rattle.jsontext.specs.Paper.Json as json
use Rattle.jsontext.specs.Paper.Names as names
use Rattle.jsontext.specs.Paper.Names.{Member, spelt, quoted, member, is, further, next, members, object_with}
use Rattle.jsontext.proofs.Laws.Spelt.{string-spelt, spelt-string}

-- ---- what one rule derives, the other does

abbrev pub Within : Rule → Rule → Type 0
Within p q = (s t : List ℕ) → p s t → q s t

-- put together from parts
pub same : (a : Rule) → Within a a
same a s t x = x

pub then-in : {a b c d : Rule} → Within a c → Within b d → Within (a ⨾ b) (c ⨾ d)
then-in f g s t (m, x, y) = (m, f s m x, g m t y)

pub or-in : {a b c d : Rule} → Within a c → Within b d → Within (a ∕ b) (c ∕ d)
or-in f g s t (inl x) = inl (f s t x)
or-in f g s t (inr x) = inr (g s t x)

pub both-in : {a b c : Rule} → Within a c → Within b c → Within (a ∕ b) c
both-in f g s t (inl x) = f s t x
both-in f g s t (inr x) = g s t x

pub opt-in : {a b : Rule} → Within a b → Within (opt a) (opt b)
opt-in f s t (inl x) = inl (f s t x)
opt-in f s t (inr e) = inr e

many-in : {a b : Rule} → Within a b → Within (many a) (many b)
many-in f s t done = done
many-in f s t (more x r) = more (f _ _ x) (many-in f _ _ r)

array-in : {v w : Rule} → Within v w → Within (array v) (array w)
array-in f = then-in (same _) (then-in (opt-in (then-in f (many-in (then-in (same _) f)))) (same _))

-- values with another rule for their objects
module _ (o p : Rule → Rule) (f : (d : ℕ) → Within (value_with o d) (value_with p d) → Within (o (value_with o d)) (p (value_with p d))) where
  pub value_in : (d : ℕ) → Within (value_with o d) (value_with p d)
  unfolding value_with
  value_in zero = same _
  value_in (suc d) =
      or-in (same _) (or-in (same _) (or-in (same _) (or-in (f d (value_in d)) (or-in (array-in (value_in d)) (same _)))))

-- ---- between brackets

-- one or more, each with a label, `,` between them
pub data Items {A : Type 0} (p : A → Rule) : List A → List ℕ → List ℕ → Type 0 where
  one : {a : A} {s t : List ℕ} → p a s t → Items p (a ∷ []) s t
  and : {a : A} {ls : List A} {s m n t : List ℕ} → p a s m → value-separator m n → Items p ls n t → Items p (a ∷ ls) s t

-- or nothing
pub data Inner {A : Type 0} (p : A → Rule) : List A → List ℕ → List ℕ → Type 0 where
  none : {s : List ℕ} → Inner p [] s s
  some : {ls : List A} {s t : List ℕ} → Items p ls s t → Inner p ls s t

-- what the ABNF has there, where labels say nothing
module _ (v : Rule) where
  from-many : {s m t : List ℕ} → v s m → many (value-separator ⨾ v) m t → (ls : List Unit) × Items (λ a. v) ls s t
  from-many x done = (tt ∷ [], one x)
  from-many x (more (n, c, y) r) = let (ls, z) = from-many y r in (tt ∷ ls, and x c z)

  pub from-opt : {s t : List ℕ} → opt (v ⨾ many (value-separator ⨾ v)) s t → (ls : List Unit) × Inner (λ a. v) ls s t
  from-opt (inl (m, x, r)) = let (ls, y) = from-many x r in (ls, some y)
  from-opt {s} (inr e) = ([], subst (λ (l : List ℕ). Inner {A = Unit} (λ a. v) [] s l) e none)

  to-many : {ls : List Unit} {s t : List ℕ} → Items (λ a. v) ls s t → (v ⨾ many (value-separator ⨾ v)) s t
  to-many (one x) = (_, x, done)
  to-many (and x c r) = let (m, y, z) = to-many r in (_, x, more (_, c, y) z)

  pub to-opt : {ls : List Unit} {s t : List ℕ} → Inner (λ a. v) ls s t → opt (v ⨾ many (value-separator ⨾ v)) s t
  to-opt none = inr refl
  to-opt (some x) = inl (to-many x)

-- what an object with these members has there: each member is a label
module _ {v : Rule} where
  from-further : {m : Member} {ms : List Member} {s a t : List ℕ} → member v m s a → further v ms a t → Items (member v) (m ∷ ms) s t
  from-further x names.done = one x
  from-further x (next c y r) = and x c (from-further y r)

  pub from-members : {ms : List Member} {s t : List ℕ} → members v ms s t → Inner (member v) ms s t
  from-members names.none = none
  from-members (names.some x r) = some (from-further x r)

  to-further : {ms : List Member} {s a t : List ℕ} → value-separator s a → Items (member v) ms a t → further v ms s t
  to-further c (one x) = next c x names.done
  to-further c (and x d r) = next c x (to-further d r)

  pub to-members : {ms : List Member} {s t : List ℕ} → Inner (member v) ms s t → members v ms s t
  to-members none = names.none
  to-members (some (one x)) = names.some x names.done
  to-members (some (and x c r)) = names.some x (to-further c r)

-- by another rule, with other labels
module _ {A B : Type 0} {p : A → Rule} {q : B → Rule} (f : (a : A) (s t : List ℕ) → p a s t → (b : B) × q b s t) where
  items-in : {ls : List A} {s t : List ℕ} → Items p ls s t → (ks : List B) × Items q ks s t
  items-in (one x) = let (b, y) = f _ _ _ x in (b ∷ [], one y)
  items-in (and x c r) = let (b, y) = f _ _ _ x in let (ks, z) = items-in r in (b ∷ ks, and y c z)

  pub inner-in : {ls : List A} {s t : List ℕ} → Inner p ls s t → (ks : List B) × Inner q ks s t
  inner-in none = ([], none)
  inner-in (some x) = let (ks, y) = items-in x in (ks, some y)

-- the same members, of values by another rule
module _ {v w : Rule} (f : Within v w) where
  member-in : {m : Member} {s t : List ℕ} → member v m s t → member w m s t
  member-in (is n c x e k) = is n c (f _ _ x) e k

  further-in : {ms : List Member} {s t : List ℕ} → further v ms s t → further w ms s t
  further-in names.done = names.done
  further-in (next c x r) = next c (member-in x) (further-in r)

  pub members-in : {ms : List Member} {s t : List ℕ} → members v ms s t → members w ms s t
  members-in names.none = names.none
  members-in (names.some x r) = names.some (member-in x) (further-in r)

-- ---- a front part

-- t is what is left behind a front part of s
abbrev pub Front : Rule
Front s t = (v : List ℕ) × (s ≡ v ++ t)

-- one behind the other
pub fronts : {s m t : List ℕ} → Front s m → Front m t → Front s t
fronts (v, e) (w, f) = (v ++ w, rw append_assoc (cc))

-- put together from parts
then-front : {a b : Rule} → Within a Front → Within b Front → Within (a ⨾ b) Front
then-front f g s t (m, x, y) = fronts (f s m x) (g m t y)

pub opt-front : {a : Rule} → Within a Front → Within (opt a) Front
opt-front f s t (inl x) = f s t x
opt-front f s t (inr e) = ([], e)

many-front : {a : Rule} → Within a Front → Within (many a) Front
many-front f s t done = ([], refl)
many-front f s t (more x r) = fronts (f _ _ x) (many-front f _ _ r)

pub byte-front : (b : ℕ) → Within (byte b) Front
byte-front b s t e = (b ∷ [], e)

range_front : (low high : ℕ) → Within (range low high) Front
range_front low high s t (b, h, k, e) = (b ∷ [], e)

text-front : (w : List ℕ) → Within (text w) Front
text-front w s t e = (w, e)

-- blanks, a mark among blanks, numbers, strings, arrays, objects
pub ws-front : Within ws Front
ws-front = many-front (both-in (byte-front 0x20) (both-in (byte-front 0x09) (both-in (byte-front 0x0A) (byte-front 0x0D))))

pub mark-front : (b : ℕ) → Within (ws ⨾ byte b ⨾ ws) Front
mark-front b = then-front ws-front (then-front (byte-front b) ws-front)

digits-front : Within (DIGIT ⨾ many DIGIT) Front
digits-front = then-front (range_front 0x30 0x39) (many-front (range_front 0x30 0x39))

number-front : Within number Front
number-front =
    then-front (opt-front (byte-front 0x2D)) (then-front (both-in (byte-front 0x30) (then-front (range_front 0x31 0x39) (many-front (range_front 0x30 0x39))))
    (then-front (opt-front (then-front (byte-front 0x2E) digits-front))
    (opt-front (then-front (both-in (byte-front 0x65) (byte-front 0x45))
    (then-front (opt-front (both-in (byte-front 0x2D) (byte-front 0x2B))) digits-front)))))

pub spelt-front : {us s t : List ℕ} → spelt us s t → Front s t
spelt-front (quoted {x = x} c e) = fronts (0x22 ∷ [], e) (fronts (x, refl) (0x22 ∷ [], refl))

pub string-front : Within string Front
string-front s t x = spelt-front (string-spelt x).1

array-front : {v : Rule} → Within v Front → Within (array v) Front
array-front f =
    then-front (mark-front 0x5B) (then-front (opt-front (then-front f (many-front (then-front (mark-front 0x2C) f)))) (mark-front 0x5D))

pub member-front : {v : Rule} {m : Member} {s t : List ℕ} → member v m s t → Front s t
member-front {m = m} (is n c x e k) = fronts (spelt-front n) (fronts (mark-front 0x3A _ _ c) (m.value, e))

further-front : {v : Rule} {ms : List Member} {s t : List ℕ} → further v ms s t → Front s t
further-front names.done = ([], refl)
further-front (next c x r) = fronts (mark-front 0x2C _ _ c) (fronts (member-front x) (further-front r))

members-front : {v : Rule} {ms : List Member} {s t : List ℕ} → members v ms s t → Front s t
members-front names.none = ([], refl)
members-front (names.some x r) = fronts (member-front x) (further-front r)

object-front : (asked : List Member → Type 0) (v : Rule) → Within (object_with asked v) Front
object-front asked v s t (ms, a, (m, x, (n, y, z))) = fronts (mark-front 0x7B s m x) (fronts (members-front y) (mark-front 0x7D n t z))

-- a value is a front part, whatever is asked of its objects
pub value-front : (asked : List Member → Type 0) (d : ℕ) → Within (value_with (object_with asked) d) Front
unfolding value_with
value-front asked zero = λ s t x. absurd x
value-front asked (suc d) =
    both-in (text-front (ascii "false")) (both-in (text-front (ascii "null")) (both-in (text-front (ascii "true"))
    (both-in (object-front asked (value_with (object_with asked) d)) (both-in (array-front (value-front asked d)) (both-in number-front string-front)))))

-- ---- objects with members as is asked

-- where less is asked
module _ (A B : List Member → Type 0) (f : (ms : List Member) → A ms → B ms) where
  fewer : {v w : Rule} → Within v w → Within (object_with A v) (object_with B w)
  fewer g s t (ms, a, (m, x, (n, y, z))) = (ms, f ms a, (m, x, (n, members-in g y, z)))

  pub weaker : (d : ℕ) → Within (value_with (object_with A) d) (value_with (object_with B) d)
  weaker = value_in (object_with A) (object_with B) (λ d g. fewer g)

-- where nothing is asked: the objects of the ABNF
abbrev pub Any : List Member → Type 0
Any ms = Unit

-- their members named and cut out, and those forgotten
with-members : {v w : Rule} → Within v w → Within w Front → Within (object v) (object_with Any w)
with-members {v} {w} f front s t (m, x, (n, y, z)) =
    let (ls, i) = from-opt (json.member v) y in
    let (ms, j) = inner-in (λ a. labelled) i in
    (ms, tt, (m, x, (n, to-members j, z)))
  where
    labelled : (s t : List ℕ) → json.member v s t → (m : Member) × member w m s t
    labelled s t (a, n, (b, c, x)) =
        let (us, y) = string-spelt n in
        let (u, e) = front b t (f b t x) in
        (record { name = us; value = u; behind = length t }, is y c (f b t x) e refl)

without-members : {v w : Rule} → Within v w → Within (object_with Any v) (object w)
without-members {v} {w} f s t (ms, a, (m, x, (n, y, z))) =
    let (ls, i) = inner-in plain (from-members y) in
    (m, x, (n, to-opt (json.member w) i, z))
  where
    plain : (m : Member) (s t : List ℕ) → member v m s t → (u : Unit {0}) × json.member w s t
    plain m s t (is n c x e k) = (tt, (_, spelt-string n, (_, c, f _ _ x)))

-- the two are the same
pub to-any : (d : ℕ) → Within (value d) (value_with (object_with Any) d)
to-any = value_in object (object_with Any) (λ d f. with-members f (value-front Any d))

pub from-any : (d : ℕ) → Within (value_with (object_with Any) d) (value d)
from-any = value_in (object_with Any) object (λ d f. without-members f)
