-- From a value to its member: an empty text spells nothing, a text spells one field of a sort, and an object has one
-- value under a name.
-- Assumes nothing.
use mathlib.Core.Bool.{Bool, true, false}
use mathlib.Core.List.{List, [], ◌∷◌}
use mathlib.Core.Logic.{⊎_elim}
use mathlib.Core.Path.{◌≡◌, refl, sym, ap, subst, ◌∙◌}
use Prim.Native.Nat.{ℕ, ◌^◌, ◌/◌}
use native.Mathlib.Omega.{arith}
use lib.IntN.{ℤ, nat_abs}
use lib.ListN.{length}
use Rattle.std.specs.Prelude.{Result, Ok, Err}
use Rattle.digits.proofs.Laws.Decimal.{length_some}
use Rattle.digits.proofs.Laws.Hex.{hex-inj}
use Rattle.digits.specs.Paper.Bytes.{Bytes}
use Rattle.digits.specs.Paper.Hex.{hex_bytes}
use Rattle.numbers.proofs.Laws.Reader.{text-inj}
use Rattle.numbers.proofs.Laws.Text.{length-text}
use Rattle.numbers.specs.Paper.Text.{below_zero}
use Rattle.json_values.specs.Paper.Json as json
use Rattle.jsontext.proofs.Theorems.{one_name, one-object}
use Rattle.jsontext.proofs.Unique.{one-first}
use Rattle.jsontext.specs.Paper.Abnf.{done, more}
use Rattle.jsontext.specs.Paper.Json.{blank, ws}
use Rattle.jsontext.specs.Paper.Members.{IsObject, FirstNamed, IsString}
use Rattle.jsontext.specs.Paper.Names.{Member, spelt, quoted}
use Rattle.shapes.specs.Paper.Fields.{Named, ◌∶◌, Plain, whole, hex, chars, truth}
use Rattle.asked.specs.Paper.Field.{Has, HasEach, and, SpellsPlain, as-whole, as-hex, as-chars, as-truth}
use Rattle.shapes.specs.Paper.Fields.{Field, plain, reading}
use Rattle.asked.specs.Paper.Field.{Spells, as_plain, as-reading, SpellsReading}
use Rattle.shapes.specs.Paper.Shapes.{Sort, IsOf, a-number, some_bytes, some-digits, a-content, a-string, a-bool, a-reading}
use Rattle.asked.specs.Work.Got as got
use Rattle.asked.specs.Work.Got.{Limit, Reads, ValueIn, ReadsIn, slot, mapped, Holds}
use Rattle.asked.specs.declared.values.Reason.{Reason}

-- ---- an empty text

-- nothing begins in an empty text
pub nothing : {b : ℕ} {t : List ℕ} → [] ≡ b ∷ t → ⊥
nothing e = omega (arith, ap length e)

blank_none : (s t : List ℕ) → s ≡ [] → blank s t → ⊥
blank_none s t e =
    ⊎_elim (λ x. nothing (sym e ∙ x)) (⊎_elim (λ x. nothing (sym e ∙ x)) (⊎_elim (λ x. nothing (sym e ∙ x)) (λ x. nothing (sym e ∙ x))))

blanks-none : {s t : List ℕ} → s ≡ [] → ws s t → t ≡ []
blanks-none e done = e
blanks-none e (more {s = s} {m = m} x r) = absurd (blank_none s m e x)

no-object : {ms : List Member} → IsObject [] ms → ⊥
no-object x =
    let (m, b, (n, (k, (p, c, (q, d, f)), o), g)) = x.text in
    nothing (sym (blanks-none (blanks-none refl b) c) ∙ d)

no-string : {us t : List ℕ} → spelt us [] t → ⊥
no-string (quoted c e) = nothing e

no_truth : (b : Bool) → [] ≡ json.truth b → ⊥
no_truth true e = nothing e
no_truth false e = nothing e

no_plain : {p : Plain} → SpellsPlain [] p → ⊥
no_plain (as-whole {z = z} e) = omega (arith, ap length e, length-text (below_zero z) (nat_abs z) 0, length_some (nat_abs z / 10 ^ 0))
no_plain (as-hex b x) = no-string x.string
no_plain (as-chars x) = no-string x.string
no_plain (as-truth {b = b} e) = no_truth b e

no_member : {A : Type 0} {Spells : List ℕ → A → Type 0} {f : Named A} → Has Spells [] f → ⊥
no_member h = no-object h.object

pub head-has : {A : Type 0} {Spells : List ℕ → A → Type 0} {s : List ℕ} {f : Named A} {fs : List (Named A)} → HasEach Spells s (f ∷ fs) → Has Spells s f
head-has (and h r) = h

pub tail-has : {A : Type 0} {Spells : List ℕ → A → Type 0} {s : List ℕ} {f : Named A} {fs : List (Named A)} → HasEach Spells s (f ∷ fs) → HasEach Spells s fs
tail-has (and h r) = r

-- AN EMPTY TEXT SPELLS NOTHING
pub nothing-spelt : (f : Field) → Spells [] f → ⊥
nothing-spelt (plain p) (as_plain x) = no_plain x
nothing-spelt (reading z d) (as-reading x) = no_member (head-has x.object.each)

-- ---- a value that is a member's

-- AN OBJECT HAS ONE MEMBER OF A NAME
pub one-member : {s n : List ℕ} {ms ns : List Member} {m l : Member} → IsObject s ms → FirstNamed n ms m → IsObject s ns → FirstNamed n ns l → m ≡ l
one-member {s} {n} {ms} {ns} {m} x i y j = one-first (subst (λ (k : List Member). FirstNamed n k m) (one-object s ms ns x y) i) j

-- what a member's text spells
pub spelt-so : {A : Type 0} {Spells : List ℕ → A → Type 0} {s n : List ℕ} {ms : List Member} {m : Member} {f : A}
    → IsObject s ms → FirstNamed n ms m → Has Spells s (n ∶ f) → Spells m.value f
spelt-so {Spells = Spells} {f = f} x i h = subst (λ (l : Member). Spells l.value f) (one-member h.object h.first x i) h.spelt

-- a member's text as it is found
pub in-value : {s n v : List ℕ} {f : Field} → ValueIn s n v → Spells v f → Has Spells s (n ∶ f)
in-value (got.ValueIn.is {ms = ms} {m = m} o i) x = record { members = ms; object = o; member = m; first = i; spelt = x }
in-value (got.ValueIn.none k) x = absurd (nothing-spelt _ x)

pub value_in : {s n v : List ℕ} {f : Field} → ValueIn s n v → Has Spells s (n ∶ f) → Spells v f
value_in (got.ValueIn.is o i) h = spelt-so o i h
value_in (got.ValueIn.none k) h = absurd (k h.members h.member h.object h.first)

pub lifted : {s n v : List ℕ} {sort : Sort} {limit : Limit} {r : Result Field Reason}
    → ValueIn s n v → Reads v sort limit r → ReadsIn s (slot n sort limit) r
lifted w (got.Reads.is a x l) = got.ReadsIn.is a (in-value w x) l
lifted w (got.Reads.large a x l) = got.ReadsIn.large a (in-value w x) l
lifted w (got.Reads.none k) = got.ReadsIn.none (λ g a h. k g a (value_in w h))

-- a value that was read, by the answer
pub read-at : {A : Type 0} (f : A → Field) {v : List ℕ} {sort : Sort} {limit : Limit} {r : Result A Reason} {x : A}
    → Reads v sort limit (mapped f r) → r ≡ Ok x → Reads v sort limit (Ok (f x))
read-at f {v} {sort} {limit} x e = subst (λ q. Reads v sort limit (mapped f q)) e x

pub reason-at : {A : Type 0} (f : A → Field) {v : List ℕ} {sort : Sort} {limit : Limit} {r : Result A Reason} {why : Reason}
    → Reads v sort limit (mapped f r) → r ≡ Err why → Reads v sort limit (Err why)
reason-at f {v} {sort} {limit} x e = subst (λ q. Reads v sort limit (mapped f q)) e x

-- and it is held
pub is_held : {v : List ℕ} {sort : Sort} {limit : Limit} {f : Field} → Reads v sort limit (Ok f) → Holds limit f
is_held (got.Reads.is a x l) = l

-- ---- one field

pub one-string : {v cs ds : List ℕ} → IsString v cs → IsString v ds → cs ≡ ds
one-string {v} {cs} {ds} x y = one_name cs ds v [] [] x.string y.string

one-hex : {v p q : List ℕ} → Bytes p → Bytes q → IsString v (hex_bytes p) → IsString v (hex_bytes q) → p ≡ q
one-hex {p = p} {q = q} b c x y = hex-inj p q b c (one-string x y)

one_truth : (b c : Bool) → json.truth b ≡ json.truth c → b ≡ c
one_truth true true e = refl
one_truth true false e = absurd (omega (arith, ap length e))
one_truth false true e = absurd (omega (arith, ap length e))
one_truth false false e = refl

-- the four members of a reading: the first says the number
raw_of : {v : List ℕ} {y z : ℤ} {d e : ℕ} → SpellsReading v y d → SpellsReading v z e → y ≡ z
raw_of x y =
    let h = head-has x.object.each in
    let k = head-has y.object.each in
    by (spelt-so k.object k.first h) k.spelt
  where
    by : {v : List ℕ} {y z : ℤ} → SpellsPlain v (whole y) → SpellsPlain v (whole z) → y ≡ z
    by {y = y} {z = z} (as-whole e) (as-whole f) = (text-inj y z 0 0 (sym e ∙ f)).0

-- A TEXT SPELLS ONE FIELD OF A SORT
pub one-spelt : {v : List ℕ} {sort : Sort} {f g : Field} → IsOf sort f → IsOf sort g → Spells v f → Spells v g → f ≡ g
one-spelt (a-number {z = y}) (a-number {z = z}) (as_plain (as-whole e)) (as_plain (as-whole f)) = ap (λ (x : ℤ). plain (whole x)) (text-inj y z 0 0 (sym e ∙ f)).0
one-spelt (some_bytes l) (some_bytes m) (as_plain (as-hex b x)) (as_plain (as-hex c y)) = ap (λ (p : List ℕ). plain (hex p)) (one-hex b c x y)
one-spelt (some-digits l t) (some-digits m u) (as_plain (as-chars x)) (as_plain (as-chars y)) = ap (λ (p : List ℕ). plain (chars p)) (one-string x y)
one-spelt a-content a-content (as_plain (as-hex b x)) (as_plain (as-hex c y)) = ap (λ (p : List ℕ). plain (hex p)) (one-hex b c x y)
one-spelt a-string a-string (as_plain (as-chars x)) (as_plain (as-chars y)) = ap (λ (p : List ℕ). plain (chars p)) (one-string x y)
one-spelt (a-bool {b = b}) (a-bool {b = c}) (as_plain (as-truth e)) (as_plain (as-truth f)) = ap (λ (x : Bool). plain (truth x)) (one_truth b c (sym e ∙ f))
one-spelt (a-reading {d = d}) a-reading (as-reading x) (as-reading y) = ap (λ (z : ℤ). reading z d) (raw_of x y)

-- AN OBJECT HAS ONE FIELD OF A SORT UNDER A NAME
pub one_in : {s n : List ℕ} {sort : Sort} {f g : Field} → IsOf sort f → IsOf sort g → Has Spells s (n ∶ f) → Has Spells s (n ∶ g) → f ≡ g
one_in a b h k = one-spelt a b (spelt-so k.object k.first h) k.spelt
