-- What a text lacks is why it is refused with 11 or 12.
-- Assumes nothing.
use mathlib.Core.Bool.{Bool, true, false}
use mathlib.Core.List.{List}
use mathlib.Core.Logic.{◌↔◌}
use mathlib.Core.Path.{◌≡◌, refl, sym, ap, ◌∙◌, subst}
use Prim.Native.Nat.{ℕ, ◌+◌, ◌≤◌, ◌<◌}
use native.Mathlib.Omega.{arith}
use lib.Dec.{eqb, lit<}
use lib.ListN.{length}
use borrow.Author.Tests.{eqb-true, eqb-false}
use Rattle.std.specs.Prelude.{Option, Some, None}
use Rattle.digits.proofs.Laws.Refusals.{one-first, cause-at}
use Rattle.digits.specs.Paper.Refusals.{refusal_order, First}
use Rattle.jsontext.specs.Paper.Members.{CountOf}
use Rattle.jsontext.specs.Paper.Names.{InGrammar}
use Rattle.asked.specs.Paper.Answers.{AskedCause}
use Rattle.shapes.specs.Paper.Fields.{Field}
use Rattle.asked.specs.Paper.Lacks.{HasAll, HasKind, without, next, LackIn, LackOf}
use Rattle.asked.specs.Paper.Means.{HeadOf, HasRow, Fills, state_row}
use Rattle.shapes.specs.Paper.Shapes.{shape_at}
use Rattle.asked.specs.Work.Draft.{Filled}
use Rattle.asked.specs.declared.lacks.Lack.{Lack}
use Rattle.asked.specs.declared.lacks.Lack.TheVariants.{Text, Object, Kind, Msg, Member, Extra, Volts}
use Rattle.asked.proofs.Laws.Asked.{Causes, first-11, first-12, no-11, no-12, known-kind}
use Rattle.asked.proofs.Laws.Lacking.{fields-of, all_of}
use Rattle.asked.proofs.Laws.Lift.{head-has, tail-has}
use Rattle.asked.proofs.Laws.Texts.{one-head, head_of, counts, filled, has-row}

-- an answer that says something else than these two
abbrev pub SomethingElse : Option Lack → Type 0
SomethingElse l = (l ≡ Some Text → ⊥) × (l ≡ None → ⊥)

-- it is not JSON; it fills a shape; or it does not, and the answer says something else
pub data Told (s : List ℕ) (l : Option Lack) : Type 0 where
  not-json : (InGrammar s → ⊥) → l ≡ Some Text → Told s l
  fills : {r : ℕ} → InGrammar s → Filled s r → l ≡ None → Told s l
  fills-none : InGrammar s → ((r : ℕ) (fs : List Field) → Fills s r fs → ⊥) → SomethingElse l → Told s l

-- answers told apart
abbrev number : Option Lack → ℕ
number (Some Text) = 0
number None = 1
number (Some Object) = 2
number (Some (Kind there)) = 3
number (Some (Msg there)) = 4
number (Some (Member row place there)) = 5
number (Some Extra) = 6
number (Some Volts) = 7

apart : {l a b : Option Lack} → (number a ≡ number b → ⊥) → l ≡ a → l ≡ b → ⊥
apart n e f = n (ap number (sym e ∙ f))

another : {l a : Option Lack} → 2 ≤ number a → l ≡ a → SomethingElse l
another k e = (apart (λ z. omega (arith, k, z)) e, apart (λ z. omega (arith, k, z)) e)

text-or-nothing : {l : Option Lack} → l ≡ Some Text → l ≡ None → ⊥
text-or-nothing e f = apart (λ z. omega (arith, z)) e f

no-volts : {a : Option Lack} → (number a ≡ 7 → ⊥) → Some Volts ≡ a → ⊥
no-volts n e = n (sym (ap number e))

-- the kind and the members of a text that fills a shape
kind-there : {s : List ℕ} {q : ℕ} {fs : List Field} → Fills s q fs → HasKind s
kind-there {q = q} f = record { kind = (shape_at q).kind; is_known = known-kind q f.low f.high; has = head-has f.object.each }

module _ {s : List ℕ} {r q : ℕ} {fs : List Field} (h : HeadOf s r) (f : Fills s q fs) where
  all_there : HasAll s (shape_at r).members
  all_there =
      subst (λ (i : ℕ). HasAll s (shape_at i).members) (one-head (head_of f) h) (all_of f.fields.sorts (tail-has (tail-has f.object.each)))

  none_more : CountOf s (length (shape_at r).members + 2)
  none_more = subst (λ (i : ℕ). CountOf s (length (shape_at i).members + 2)) (one-head (head_of f) h) (counts f)

-- ---- by its row

told-row : {s : List ℕ} {r : ℕ} {l : Option Lack} → InGrammar s → HeadOf s r → LackIn s r l → Told s l
told-row g h (without n x) = fills-none g (λ q fs f. n (all_there h f)) (another (omega arith) (ap Some x.is))
told-row g h (next a (without n e)) = fills-none g (λ q fs f. n (none_more h f)) (another (omega arith) (ap Some e))
told-row g h (next a (next c (without n e))) = fills-none g (λ q fs f. n (has-row g h c f)) (another (omega arith) (ap Some e))
told-row g h (next a (next c (next x e))) = fills g (filled g h c x) e

-- ---- EVERY ANSWER

pub told_of : {s : List ℕ} {l : Option Lack} → LackOf s l → Told s l
told_of (without n e) = not-json n (ap Some e)
told_of (next g (without n e)) = fills-none g (λ q fs f. n (f.object.many.members, f.object.many.object)) (another (omega arith) (ap Some e))
told_of (next g (next o (without n x))) = fills-none g (λ q fs f. n (kind-there f)) (another (omega arith) (ap Some x.is))
told_of (next g (next o (next k (without n x)))) = fills-none g (λ q fs f. n (q, head_of f)) (another (omega arith) (ap Some x.is))
told_of (next g (next o (next k (next h x)))) = told-row g x.head x.lack

-- A TEXT THAT FILLS A SHAPE LACKS NOTHING
pub lacks-none : {s : List ℕ} {r : ℕ} {fs : List Field} → Fills s r fs → LackOf s None
lacks-none {r = r} {fs} f =
    let h = head_of f in
    let each = tail-has (tail-has f.object.each) in
    let count = f.object.many in
    next f.object.grammar
    (next (count.members, count.object)
    (next (kind-there f)
    (next (r, h)
    (record { row = r; head = h; lack = next (all_of f.fields.sorts each) (next (counts f) (next (record { fields = fs; of = f.fields; each = each }) refl)) }))))

-- ---- THE REFUSALS

module _ {s : List ℕ} {Cause : ℕ → Type 0} (causes : Causes s Cause) {k : ℕ} (first : First (AskedCause s Cause) refusal_order k) where
  -- a cause that does not apply is not the first
  not_first : {no : ℕ} → 0 < no → (AskedCause s Cause no → ⊥) → k ≡ no → ⊥
  not_first p n e = n (cause-at (subst (First (AskedCause s Cause) refusal_order) e first) p)

  pub refused-11 : {l : Option Lack} → Told s l → (k ≡ 11) ↔ (l ≡ Some Text)
  refused-11 (not-json n e) = ((λ z. e), (λ f. one-first first (first-11 causes n)))
  refused-11 (fills g x e) = ((λ z. absurd (not_first (lit< tt) (no-11 causes g) z)), (λ f. absurd (text-or-nothing f e)))
  refused-11 (fills-none g n o) = ((λ z. absurd (not_first (lit< tt) (no-11 causes g) z)), (λ f. absurd (o.0 f)))

  pub refused-12 : {l : Option Lack} → Told s l → (k ≡ 12) ↔ SomethingElse l
  refused-12 (not-json n e) = ((λ z. let y = one-first first (first-11 causes n) in absurd (omega arith)), (λ o. absurd (o.0 e)))
  refused-12 (fills g x e) = ((λ z. absurd (not_first (lit< tt) (no-12 causes x) z)), (λ o. absurd (o.1 e)))
  refused-12 (fills-none g n o) = ((λ z. o), (λ q. one-first first (first-12 causes g n)))

-- ---- the other way round: what each of the two answers means

pub text-told : {s : List ℕ} {l : Option Lack} → Told s l → l ≡ Some Text → InGrammar s → ⊥
text-told (not-json n e) z = n
text-told (fills g x e) z = absurd (text-or-nothing z e)
text-told (fills-none g n o) z = absurd (o.0 z)

pub text-lacking : {s : List ℕ} {l : Option Lack} → Told s l → (InGrammar s → ⊥) → l ≡ Some Text
text-lacking (not-json n e) z = e
text-lacking (fills g x e) z = absurd (z g)
text-lacking (fills-none g n o) z = absurd (z g)

pub nothing-told : {s : List ℕ} {l : Option Lack} → Told s l → l ≡ None → (r : ℕ) × Filled s r
nothing-told (not-json n e) z = absurd (text-or-nothing e z)
nothing-told (fills {r = r} g x e) z = (r, x)
nothing-told (fills-none g n o) z = absurd (o.1 z)

pub filled-told : {s : List ℕ} {l : Option Lack} {r : ℕ} → Told s l → Filled s r → l ≡ None
filled-told (not-json n e) x = absurd (n x.fills.object.grammar)
filled-told (fills g y e) x = e
filled-told (fills-none g n o) x = absurd (n _ x.fields x.fills)

-- ---- only a state's voltages disagree

agrees : {s : List ℕ} {r : ℕ} → HasAll s (shape_at r).members → (r ≡ state_row → ⊥) → HasRow s r
agrees a n = let (fs, o, x) = fields-of a in record { fields = fs; of = record { sorts = o; agree = λ e. absurd (n e) }; each = x }

state-row : {s : List ℕ} {r : ℕ} → HasAll s (shape_at r).members → (HasRow s r → ⊥) → r ≡ state_row
state-row {r = r} a n = by (eqb r state_row) refl
  where
    by : (b : Bool) → eqb r state_row ≡ b → r ≡ state_row
    by true e = eqb-true r state_row e
    by false e = absurd (n (agrees a (eqb-false r state_row e)))

volts-row : {s : List ℕ} {r : ℕ} → LackIn s r (Some Volts) → r ≡ state_row
volts-row (without n x) = absurd (no-volts (λ z. omega (arith, z)) (ap Some x.is))
volts-row (next a (without n e)) = absurd (no-volts (λ z. omega (arith, z)) (ap Some e))
volts-row (next a (next c (without n e))) = state-row a n
volts-row (next a (next c (next x e))) = absurd (no-volts (λ z. omega (arith, z)) e)

pub volts-head : {s : List ℕ} → LackOf s (Some Volts) → HeadOf s state_row
volts-head (without n e) = absurd (no-volts (λ z. omega (arith, z)) (ap Some e))
volts-head (next g (without n e)) = absurd (no-volts (λ z. omega (arith, z)) (ap Some e))
volts-head (next g (next o (without n x))) = absurd (no-volts (λ z. omega (arith, z)) (ap Some x.is))
volts-head (next g (next o (next k (without n x)))) = absurd (no-volts (λ z. omega (arith, z)) (ap Some x.is))
volts-head {s} (next g (next o (next k (next h x)))) = subst (HeadOf s) (volts-row x.lack) x.head
