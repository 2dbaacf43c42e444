-- What a text lacks, step by step.
-- Assumes nothing.
use mathlib.Core.Bool.{Bool, true, false, true≢false}
use mathlib.Core.List.{List, [], ◌∷◌}
use mathlib.Core.Path.{◌≡◌, refl, sym, ap, ◌∙◌, subst}
use Prim.Native.Nat.{ℕ, suc, ◌+◌, ◌≤◌, ◌<◌}
use native.Mathlib.Numerals.{add-one}
use native.Mathlib.Omega.{arith}
use lib.Dec.{T}
use lib.IntN.{ℤ, pos, nat_abs}
use lib.ListN.{length, get_or, drop}
use lib.Seq.{drop-cons, drop-length}
use borrow.Author.Tests.{eq-eqb}
use Rattle.std.specs.Prelude.{Some, None, Result, Ok, Err, is_ok}
use Rattle.digits.proofs.Laws.Refusals.{answered, cause-at, cause-of, some_number}
use Rattle.digits.proofs.Laws.Tests.{told, untold}
use Rattle.digits.specs.Paper.Ascii.{ascii}
use Rattle.digits.specs.Paper.Part.{Ends}
use Rattle.digits.specs.Paper.Read.{Decides, holds, fails}
use Rattle.digits.specs.declared.refusal.Refusal.{Refusal}
use Rattle.frames.specs.Paper.Kinds.{known, known_kinds}
use Rattle.jsontext.specs.Paper.Members.{IsObject, CountOf, Counts, ValueCause, no_value, ValueOf, FindsValue}
use Rattle.jsontext.specs.Paper.Names.{Member}
use Rattle.jsontext.specs.declared.members.Value.{Value}
use Rattle.layouts.proofs.Laws.ByteRuns.{one-of-bytes}
use Rattle.layouts.specs.Paper.Chars.{all}
use Rattle.layouts.specs.Work.Heads.{is_byte}
use Rattle.numbers.proofs.Laws.Signs.{back}
use Rattle.shapes.specs.Paper.Fields.{Named, ◌∶◌, whole, Field, plain}
use Rattle.asked.specs.Paper.Field.{Spells, Has, HasEach}
use Rattle.asked.specs.Paper.Field as paper
use Rattle.asked.specs.Paper.Lacks.{Stands, HasOf, HasAll, FirstLacking, here, further, HasKind, LackIn}
use Rattle.asked.specs.Paper.Lacks as lacks
use Rattle.asked.specs.Paper.Means.{named, AreOf, HeadOf, HasRow}
use Rattle.asked.specs.Paper.Means as means
use Rattle.shapes.specs.Paper.Shapes.{Sort, number, a-number, number_field, shape_at}
use Rattle.asked.specs.Work.Draft.{Drafts}
use Rattle.asked.specs.Work.Draft as draft
use Rattle.asked.specs.Work.Got.{Reads, between, ValueIn, is_spelt}
use Rattle.asked.specs.Work.Lacks.{no_member, member_at, Looked}
use Rattle.asked.specs.Work.Lacks as work
use Rattle.asked.specs.Work.Rows.{RowOf}
use Rattle.asked.specs.Work.Rows as rows
use Rattle.asked.specs.declared.Draft.{Draft}
use Rattle.asked.specs.declared.values.Reason.{Reason}
use Rattle.asked.specs.declared.lacks.Lack.TheVariants.{Member as Of, Extra, Volts}
use Rattle.asked.proofs.Laws.Agree.{was_read, unread}
use Rattle.asked.proofs.Laws.Casts.{as-count}
use Rattle.asked.proofs.Laws.Counted.{counted, uncounted}
use Rattle.asked.proofs.Laws.Lift.{lifted, one_in, is_held}
use Rattle.asked.proofs.Laws.Slots.{natural}

-- ---- an object

abbrev Objects : List ℕ → Type 0
Objects s = (ms : List Member) × IsObject s ms

pub an-object : {s : List ℕ} (r : Result ℕ Refusal) {b : Bool} → Counts s r → b ≡ is_ok r → Decides (Objects s) b
an-object (Ok n) a e = rw e (let x = told (counted n a) (eq-eqb n n refl) in holds (x.members, x.object))
an-object {s} (Err why) a e = rw e (fails by)
  where
    by : Objects s → ⊥
    by (ms, o) = untold (uncounted why (length ms) a) refl (record { members = ms; object = o; is = refl })

-- ---- a member that stands there

pub stands : {s n : List ℕ} (v : Result Value Refusal) {b : Bool} → FindsValue s n v → b ≡ is_ok v → Decides (Stands s n) b
stands {s} {n} (Ok found) f e = rw e (by (answered f refl))
  where
    by : {x : Ends} → ValueOf s n x → Decides (Stands s n) true
    by y = holds (record { members = y.members; member = y.member; object = y.object; first = y.first })
stands {s} {n} (Err why) f e = rw e (fails (by (cause-at (cause-of f) (some_number why))))
  where
    by : {k : ℕ} → ValueCause s n k → Stands s n → ⊥
    by (no_value g) y = g y.members y.member y.object y.first

-- ---- the kind

known-byte : (k : ℕ) → known k ≡ true → k ≤ 255
unfolding known all is_byte
known-byte k e = omega (arith, one-of-bytes known_kinds k tt (subst T (sym e) tt))

abbrev Kinds : List ℕ → ℤ → Type 0
Kinds s z = Has Spells s (ascii "kind" ∶ plain (whole z))

module _ {s v : List ℕ} (value : ValueIn s (ascii "kind") v) where
  pub no_kind : {why : Reason} → Reads v number (between (pos 0) (pos 255)) (Err why) → Decides (HasKind s) false
  no_kind x = fails (λ h. unread (lifted value x) a-number (natural (known-byte h.kind h.is_known)) h.has)

  pub kind-known : {z : ℤ} → Reads v number (between (pos 0) (pos 255)) (Ok (plain (whole z))) → {b : Bool} → b ≡ known (nat_abs (back z)) → Decides (HasKind s) b
  kind-known {z} x {b} f = by b f
    where
      k : ℕ
      k = nat_abs (back z)

      its : Kinds s (pos k)
      its = subst (Kinds s) (as-count {m = 255} (omega arith) z (is_held x)) (was_read (lifted value x)).1

      same : (h : HasKind s) → h.kind ≡ k
      same h = let g : number_field h.kind ≡ number_field k = one_in a-number a-number h.has its in cc

      by : (b : Bool) → b ≡ known k → Decides (HasKind s) b
      by true g = holds (record { kind = k; is_known = sym g; has = its })
      by false g = fails (λ h. true≢false (sym h.is_known ∙ ap known (same h) ∙ sym g))

-- ---- the members, one by one

-- those before a place are there: what is lacking behind it is what is lacking
pub record Passed (s : List ℕ) (ms : List (Named Sort)) (i : ℕ) : Type 0 where
  pub within : i ≤ length ms
  pub lacking : (k : ℕ) (m : Named Sort) → FirstLacking s (drop i ms) k m → FirstLacking s ms (i + k) m
  pub all : HasAll s (drop i ms) → HasAll s ms

pub at-start : {s : List ℕ} {ms : List (Named Sort)} → Passed s ms 0
at-start {s} {ms} = record { within = omega arith; lacking = λ k m f. subst (λ (j : ℕ). FirstLacking s ms j m) (omega arith) f; all = λ h. h }

module _ {s : List ℕ} {ms : List (Named Sort)} {i : ℕ} (passed : Passed s ms i) where
  pub one_more : i < length ms → HasOf s (get_or ms i no_member) → Passed s ms (i + 1)
  one_more h x = rw add-one (record { within = h; lacking = lacking; all = λ y. passed.all (rw (drop-cons ms i no_member) (lacks.and x y)) })
    where
      lacking : (k : ℕ) (m : Named Sort) → FirstLacking s (drop (suc i) ms) k m → FirstLacking s ms (suc i + k) m
      lacking k m f =
          let e : i + suc k ≡ suc i + k = omega arith in
          subst (λ (j : ℕ). FirstLacking s ms j m) e (passed.lacking (suc k) m (rw (drop-cons ms i no_member) (further x f)))

  pub lacks-it : i < length ms → (HasOf s (get_or ms i no_member) → ⊥) → Looked s ms (Some i)
  lacks-it h n =
      let e : i + 0 ≡ i = omega arith in
      work.lacks (subst (λ (j : ℕ). FirstLacking s ms j (get_or ms i no_member)) e (passed.lacking 0 (get_or ms i no_member) (rw (drop-cons ms i no_member) (here n))))

  pub at-end : length ms ≤ i → Looked s ms None
  at-end h =
      let e : i ≡ length ms = omega (arith, passed.within) in
      work.all (passed.all (rw (e, drop-length ms) lacks.none))

-- ---- what was found of them

pub place-below : {s : List ℕ} {ms : List (Named Sort)} {i : ℕ} {m : Named Sort} → FirstLacking s ms i m → i < length ms
place-below (here n) = omega arith
place-below (further h f) = omega (arith, place-below f)

pub at_place : {s : List ℕ} {ms : List (Named Sort)} {i : ℕ} {m : Named Sort} → FirstLacking s ms i m → get_or ms i no_member ≡ m
at_place (here n) = refl
at_place (further h f) = at_place f

pub not-all : {s : List ℕ} {ms : List (Named Sort)} {i : ℕ} {m : Named Sort} → FirstLacking s ms i m → HasAll s ms → ⊥
not-all (here n) (lacks.and h k) = n h
not-all (further h f) (lacks.and g k) = not-all f k

pub one-lacking : {s : List ℕ} {ms : List (Named Sort)} {i j : ℕ} {m l : Named Sort} → FirstLacking s ms i m → FirstLacking s ms j l → (i ≡ j) × (m ≡ l)
one-lacking (here n) (here k) = (refl, refl)
one-lacking (here n) (further h f) = absurd (n h)
one-lacking (further h f) (here n) = absurd (n h)
one-lacking (further h f) (further g k) = let (e, d) = one-lacking f k in (ap suc e, d)

pub lacking-one : {s : List ℕ} {ms : List (Named Sort)} {i : ℕ} → Looked s ms (Some i) → (m : Named Sort) × FirstLacking s ms i m
lacking-one (work.lacks {m = m} f) = (m, f)

pub lacking-none : {s : List ℕ} {ms : List (Named Sort)} → Looked s ms None → HasAll s ms
lacking-none (work.all x) = x

-- all members in their sorts are fields of the sorts, and the other way round
pub fields-of : {s : List ℕ} {ms : List (Named Sort)} → HasAll s ms → (fs : List Field) × AreOf ms fs × HasEach Spells s (named ms fs)
unfolding named
fields-of lacks.none = ([], means.none, paper.none)
fields-of (lacks.and h k) = let (fs, a, x) = fields-of k in (h.field ∷ fs, means.and h.of a, paper.and h.has x)

pub all_of : {s : List ℕ} {ms : List (Named Sort)} {fs : List Field} → AreOf ms fs → HasEach Spells s (named ms fs) → HasAll s ms
unfolding named
all_of means.none paper.none = lacks.none
all_of (means.and a k) (paper.and x y) = lacks.and (record { field = _; of = a; has = x }) (all_of k y)

-- ---- the draft of a row tells whether its fields agree

pub told-draft : {s bytes : List ℕ} {r : ℕ} {q : Result Draft Reason} {b : Bool} → Drafts s r bytes q → b ≡ is_spelt q → Decides (HasRow s r) b
told-draft (draft.is h x) e = rw e (holds h)
told-draft (draft.outside h n) e = rw e (holds h)
told-draft (draft.none n) e = rw e (fails n)

-- ---- the answers for a row

module _ {s : List ℕ} {r : ℕ} where
  pub lacks-member : {i : ℕ} → Looked s (shape_at r).members (Some i) → {b : Bool} → Decides (Stands s (member_at r i).name) b
      → LackIn s r (Some (Of r i b))
  lacks-member {i} x {b} d =
      let (m, f) = lacking-one x in
      lacks.without (not-all f)
      (record { place = i; member = m; first = f; there = b; stands = subst (λ (l : Named Sort). Decides (Stands s l.name) b) (at_place f) d; is = refl })

  module _ (all : HasAll s (shape_at r).members) {n : ℕ} (many : n ≡ length (shape_at r).members) where
    pub lacks-count : (CountOf s (n + 2) → ⊥) → LackIn s r (Some Extra)
    lacks-count k = lacks.next all (lacks.without (rw many at k) refl)

    pub lacks-volts : CountOf s (n + 2) → (HasRow s r → ⊥) → LackIn s r (Some Volts)
    lacks-volts c k = lacks.next all (lacks.next (rw many at c) (lacks.without k refl))

    pub lacks-nothing : CountOf s (n + 2) → HasRow s r → LackIn s r None
    lacks-nothing c h = lacks.next all (lacks.next (rw many at c) (lacks.next h refl))

-- no row has the kind and the msg
pub no-head : {s : List ℕ} → RowOf s None → (r : ℕ) × HeadOf s r → ⊥
no-head (rows.none n) (r, h) = n r h
