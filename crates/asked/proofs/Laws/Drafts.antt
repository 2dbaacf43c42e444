-- From what the readers of a row's members answer to its draft.
-- Assumes nothing.
use mathlib.Core.List.{List, [], ◌∷◌}
use mathlib.Core.Path.{◌≡◌, refl, sym, ap₂, subst}
use Prim.Native.Nat.{ℕ, ◌≤◌}
use lib.ListN.{length, take}
use Rattle.std.specs.Prelude.{Result, Ok, Err}
use Rattle.messages.specs.Paper.Message.{Message, row}
use Rattle.messages.specs.Paper.Says.{Says}
use Rattle.messages.specs.Paper.Table.{Limits}
use Rattle.messages.specs.declared.Message.{Message as Coded}
use Rattle.asked.specs.Paper.Answers.{beside}
use Rattle.shapes.specs.Paper.Fields.{Named, Field}
use Rattle.asked.specs.Paper.Field.{Spells, Has, HasEach}
use Rattle.asked.specs.Paper.Field as paper
use Rattle.asked.specs.Paper.Means.{named, AreOf, Fields, HasRow, state_row}
use Rattle.asked.specs.Paper.Means as means
use Rattle.shapes.specs.Paper.Shapes.{Sort, IsOf, shape_at, fields_of}
use Rattle.asked.specs.Work.Draft.{HasMessage, Said, Drafts}
use Rattle.asked.specs.Work.Draft as draft
use Rattle.asked.specs.Work.Got as got
use Rattle.asked.specs.Work.Got.{Slot, Holds, ReadsIn, ReadsAll, both, mapped}
use Rattle.asked.specs.declared.Draft.{Draft}
use Rattle.asked.specs.declared.values.Reason.{Reason}
use Rattle.asked.specs.declared.values.Reason.TheVariants.{Large, NoValue}
use Rattle.asked.proofs.Laws.Lift.{one_in}
use Rattle.asked.proofs.Laws.Slots.{AllHeld, slots_at, held, are-of}
use Rattle.asked.proofs.Laws.Slots as slots

-- ---- one list of fields

unfoldable pub members_of : List Slot → List (Named Sort)
members_of [] = []
members_of (i ∷ k) = i.member ∷ members_of k

pub one_each : {s : List ℕ} {ms : List (Named Sort)} {fs gs : List Field} → AreOf ms fs → AreOf ms gs
    → HasEach Spells s (named ms fs) → HasEach Spells s (named ms gs) → fs ≡ gs
unfolding named
one_each means.none means.none x y = refl
one_each (means.and a k) (means.and b l) (paper.and x v) (paper.and y w) = ap₂ ◌∷◌ (one_in a b x y) (one_each k l v w)

-- ---- what readers of members answer, all together

-- all are read and held; or all are spelt rightly, and not all are held; or not all are
pub data Settled (s : List ℕ) (is : List Slot) : Result (List Field) Reason → Type 0 where
  all : {fs : List Field} → AreOf (members_of is) fs → HasEach Spells s (named (members_of is) fs) → AllHeld is fs → Settled s is (Ok fs)
  large : (gs : List Field) → AreOf (members_of is) gs → HasEach Spells s (named (members_of is) gs) → (AllHeld is gs → ⊥) → Settled s is (Err Large)
  none : ((gs : List Field) → AreOf (members_of is) gs → HasEach Spells s (named (members_of is) gs) → ⊥) → Settled s is (Err NoValue)

-- of one in front of others
first-held : {i : Slot} {is : List Slot} {f : Field} {fs : List Field} → AllHeld (i ∷ is) (f ∷ fs) → Holds i.limit f
first-held (slots.and h k) = h

rest-held : {i : Slot} {is : List Slot} {f : Field} {fs : List Field} → AllHeld (i ∷ is) (f ∷ fs) → AllHeld is fs
rest-held (slots.and h k) = k

module _ {s : List ℕ} {m : Named Sort} {ms : List (Named Sort)} where
  no-first : ((g : Field) → IsOf m.value g → Has Spells s (record { name = m.name; value = g }) → ⊥)
      → (gs : List Field) → AreOf (m ∷ ms) gs → HasEach Spells s (named (m ∷ ms) gs) → ⊥
  unfolding named
  no-first n [] a _ = elim a [ ]
  no-first n (g ∷ gs) (means.and a k) (paper.and x v) = n g a x

  no-rest : ((gs : List Field) → AreOf ms gs → HasEach Spells s (named ms gs) → ⊥)
      → (gs : List Field) → AreOf (m ∷ ms) gs → HasEach Spells s (named (m ∷ ms) gs) → ⊥
  unfolding named
  no-rest n [] a _ = elim a [ ]
  no-rest n (g ∷ gs) (means.and a k) (paper.and x v) = n gs k v

settle : {s : List ℕ} {i : Slot} {is : List Slot} {a : Result Field Reason} {b : Result (List Field) Reason} → ReadsIn s i a → Settled s is b
    → Settled s (i ∷ is) (both ◌∷◌ a b)
unfolding members_of named
settle (got.is o h k) (all os hs ks) = all (means.and o os) (paper.and h hs) (slots.and k ks)
settle (got.is {f = f} o h k) (large gs os hs n) = large (f ∷ gs) (means.and o os) (paper.and h hs) (λ x. n (rest-held x))
settle (got.is o h k) (none n) = none (no-rest n)
settle (got.large {g = g} o h n) (all {fs = fs} os hs ks) = large (g ∷ fs) (means.and o os) (paper.and h hs) (λ x. n (first-held x))
settle (got.large {g = g} o h n) (large gs os hs m) = large (g ∷ gs) (means.and o os) (paper.and h hs) (λ x. n (first-held x))
settle (got.large o h n) (none m) = none (no-rest m)
settle (got.none n) (all os hs ks) = none (no-first n)
settle (got.none n) (large gs os hs m) = none (no-first n)
settle (got.none n) (none m) = none (no-first n)

pub settled : {s : List ℕ} {is : List Slot} {r : Result (List Field) Reason} → ReadsAll s is r → Settled s is r
unfolding members_of named
settled got.none = all means.none paper.none slots.none
settled (got.and r q) = settle r (settled q)

-- ---- the draft

-- e, with the first bytes of `content` beside it, says the message of row r with the fields fs
pub record SaysRow (r : ℕ) (content : List ℕ) (e : Coded) (len : ℕ) (fs : List Field) : Type 0 where
  pub within : len ≤ length content
  pub some : Said e (take len content)
  pub to : (m : Message) → row m ≡ r → fields_of m ≡ fs → Limits m → Says e (take len content) m
  pub from : (m : Message) → Says e (take len content) m → (row m ≡ r) × (fields_of m ≡ fs)
  pub stands : (m : Message) → Says e (take len content) m → beside m ≡ take len content

module _ (r : ℕ) (same : members_of (slots_at r) ≡ (shape_at r).members) {s : List ℕ} where
  -- the fields of a message of the row within its limits, which s has
  fields-of : {gs : List Field} → AreOf (members_of (slots_at r)) gs → HasEach Spells s (named (members_of (slots_at r)) gs)
      → (m : Message) → HasMessage s r m → Limits m → fields_of m ≡ gs
  fields-of {gs} os hs m h l =
      let k : AreOf (shape_at r).members (fields_of m) = subst (λ (i : ℕ). AreOf (shape_at i).members (fields_of m)) h.its-row (are-of m l) in
      one_each k (subst (λ (i : List (Named Sort)). AreOf i gs) same os) h.each
      (subst (λ (i : List (Named Sort)). HasEach Spells s (named i gs)) same hs)

  has-row : (r ≡ state_row → ⊥) → {gs : List Field} → AreOf (members_of (slots_at r)) gs → HasEach Spells s (named (members_of (slots_at r)) gs) → HasRow s r
  has-row other {gs} os hs =
      record {
        fields = gs;
        of = record { sorts = subst (λ (i : List (Named Sort)). AreOf i gs) same os; agree = λ e. absurd (other e) };
        each = subst (λ (i : List (Named Sort)). HasEach Spells s (named i gs)) same hs;
      }

  -- ALL TOGETHER
  module _ (other : r ≡ state_row → ⊥) {content : List ℕ} {A : Type 0} (fields : A → List Field) {a : Result A Reason}
      (x : ReadsAll s (slots_at r) (mapped fields a)) where
    -- a draft of what was read
    pub drafted : {v : A} {d : Draft} → a ≡ Ok v → SaysRow r content d.message d.len (fields v) → Drafts s r content (Ok d)
    drafted {v} {d} e k = by (settled (subst (λ (q : Result A Reason). ReadsAll s (slots_at r) (mapped fields q)) e x))
      where
        has : {m : Message} → (row m ≡ r) × (fields_of m ≡ fields v) → HasEach Spells s (named (members_of (slots_at r)) (fields v)) → HasMessage s r m
        has {m} (p, q) hs =
            record { its-row = p; each = subst (λ (i : List (Named Sort)). HasEach Spells s (named i (fields_of m))) same (rw q hs) }

        by : Settled s (slots_at r) (Ok (fields v)) → Drafts s r content (Ok d)
        by (all os hs ks) =
            draft.is (has-row other os hs)
            (record {
              within = k.within;
              some = k.some;
              to = λ m h l. k.to m h.its-row (fields-of os hs m h l) l;
              from = λ m x. has (k.from m x) hs;
              stands = k.stands;
            })

    -- or why there is none
    pub no-draft : {why : Reason} → a ≡ Err why → Drafts s r content (Err why)
    no-draft {why} e = by (settled (subst (λ (q : Result A Reason). ReadsAll s (slots_at r) (mapped fields q)) e x))
      where
        by : {why : Reason} → Settled s (slots_at r) (Err why) → Drafts s r content (Err why)
        by (large gs os hs n) =
            draft.outside (has-row other os hs)
            (λ m h l. n (subst (AllHeld (slots_at r)) (fields-of os hs m h l) (subst (λ (i : ℕ). AllHeld (slots_at i) (fields_of m)) h.its-row (held m l))))
        by (none n) =
            draft.none
            (λ h.
            n h.fields (subst (λ (i : List (Named Sort)). AreOf i h.fields) (sym same) h.of.sorts)
            (subst (λ (i : List (Named Sort)). HasEach Spells s (named i h.fields)) (sym same) h.each))
