-- A whole text, by the draft of its row; and what it is answered.
-- Assumes nothing.
use mathlib.Core.Bool.{◌||◌}
use mathlib.Core.List.{List, [], ◌∷◌}
use mathlib.Core.Path.{◌≡◌, refl, sym, ap, ap₂, ◌∙◌, subst}
use Prim.Native.Nat.{ℕ, suc, ◌+◌, ◌≤◌, ◌<◌, ◌^◌}
use native.Mathlib.Omega.{arith}
use lib.Dec.{T, eqb, eqb→eq}
use lib.IntN.{nat_abs}
use lib.ListN.{length}
use borrow.Author.Tests.{ne_eqb}
use Rattle.std.specs.Prelude.{Option, Some, None, Ok, Err}
use Rattle.jsontext.specs.Paper.Members.{CountOf}
use Rattle.jsontext.specs.Paper.Names.{InGrammar}
use Rattle.messages.specs.Paper.Message.{Message, read, set, answer, press, tail, link, command, climate, state, break, end, text, response, ask, reply, put, done, nibe, output, input, shutter, beat, homiq, row}
use Rattle.shapes.specs.Paper.Fields.{Named, Field}
use Rattle.asked.specs.Paper.Field.{Spells, HasEach, IsObjectOf}
use Rattle.asked.specs.Paper.Field as paper
use Rattle.asked.specs.Paper.Means.{named, commanded, AreOf, HeadOf, HasRow, Fills, Means, last_row}
use Rattle.asked.specs.Paper.Means as means
use Rattle.shapes.specs.Paper.Shapes.{Sort, shape_at, fields_of, a-number, a-string}
use Rattle.asked.specs.Work.Draft.{HasMessage, Drafts, DraftsText, Filled, refusal_of}
use Rattle.asked.specs.Work.Draft as draft
use Rattle.asked.specs.Work.Got.{number_in, list_in}
use Rattle.asked.specs.Work.Rows.{RowOf, row_in, row_named, same_text}
use Rattle.asked.specs.Work.Rows as rows
use Rattle.asked.specs.declared.Draft.{Draft}
use Rattle.asked.specs.declared.values.Reason.{Reason}
use Rattle.asked.proofs.Laws.Lift.{head-has, tail-has, one_in}
use Rattle.shapes.proofs.Laws.Rows.{each_row}
use Rattle.asked.proofs.Laws.Named.{most-members}

-- ---- one row

-- a row is known by its kind and its msg
-- the number of a row, 0 for none
row-number : Option ℕ → ℕ
row-number (Some r) = r
row-number None = 0

known-row : (r : ℕ) → 1 ≤ r → r ≤ last_row → row-number (row_named (shape_at r).kind (shape_at r).msg) ≡ r
unfolding row-number row_named row_in same_text
known-row r l h =
    let t : T (eqb r 0 || eqb (row-number (row_named (shape_at r).kind (shape_at r).msg)) r) =
    each_row (λ i. eqb i 0 || eqb (row-number (row_named (shape_at i).kind (shape_at i).msg)) i) tt r h in
    eqb→eq _ r (rw (ne_eqb r 0 (λ e. omega arith)) at t)

pub one-head : {s : List ℕ} {r q : ℕ} → HeadOf s r → HeadOf s q → r ≡ q
one-head {r = r} {q} x y =
    let kinds : (shape_at r).kind ≡ (shape_at q).kind = ap (λ (f : Field). nat_abs (number_in f)) (one_in a-number a-number x.kind y.kind) in
    let msgs : (shape_at r).msg ≡ (shape_at q).msg = ap list_in (one_in a-string a-string x.msg y.msg) in
    sym (known-row r x.low x.high) ∙ ap row-number (ap₂ row_named kinds msgs) ∙ known-row q y.low y.high

pub head_of : {s : List ℕ} {q : ℕ} {fs : List Field} → Fills s q fs → HeadOf s q
head_of x = record { low = x.low; high = x.high; kind = head-has x.object.each; msg = head-has (tail-has x.object.each) }

-- ---- how many members

length-named : {ms : List (Named Sort)} {fs : List Field} → AreOf ms fs → length (named ms fs) ≡ length ms
unfolding named
length-named means.none = refl
length-named (means.and a k) = ap suc (length-named k)

pub counts : {s : List ℕ} {q : ℕ} {fs : List Field} → Fills s q fs → CountOf s (length (shape_at q).members + 2)
counts {s} {q} {fs} x =
    let n : length (commanded (shape_at q) fs) ≡ length (shape_at q).members + 2 = omega (arith, length-named x.fields.sorts) in
    subst (CountOf s) n x.object.many

-- ---- THE WHOLE TEXT

pub no_row : {s : List ℕ} → RowOf s None → (r : ℕ) (fs : List Field) → Fills s r fs → ⊥
no_row (rows.none n) r fs f = n r (head_of f)

pub other-count : {s : List ℕ} {r : ℕ} → HeadOf s r → {i : ℕ} → i ≡ length (shape_at r).members → (CountOf s (i + 2) → ⊥)
    → (q : ℕ) (fs : List Field) → Fills s q fs → ⊥
other-count {s} x k n q fs f =
    n (subst (λ (l : ℕ). CountOf s (l + 2)) (ap (λ (l : ℕ). length (shape_at l).members) (one-head (head_of f) x) ∙ sym k) (counts f))

pub head_in : {s : List ℕ} {r : ℕ} → RowOf s (Some r) → HeadOf s r
head_in (rows.is x) = x

-- a message's row is one of the table, and it has as many fields as that
row_within : (m : Message) → (1 ≤ row m) × (row m ≤ last_row)
row_within (read g a) = (omega arith, omega arith)
row_within (set g a out) = (omega arith, omega arith)
row_within (answer a third out) = (omega arith, omega arith)
row_within (press d) = (omega arith, omega arith)
row_within tail = (omega arith, omega arith)
row_within (link p) = (omega arith, omega arith)
row_within (command i p) = (omega arith, omega arith)
row_within (climate t h) = (omega arith, omega arith)
row_within (state p) = (omega arith, omega arith)
row_within break = (omega arith, omega arith)
row_within end = (omega arith, omega arith)
row_within (text i p) = (omega arith, omega arith)
row_within (response i p) = (omega arith, omega arith)
row_within (ask r) = (omega arith, omega arith)
row_within (reply r w v) = (omega arith, omega arith)
row_within (put r w v) = (omega arith, omega arith)
row_within (done ok) = (omega arith, omega arith)
row_within (nibe c d) = (omega arith, omega arith)
row_within (output w) = (omega arith, omega arith)
row_within (input w) = (omega arith, omega arith)
row_within (shutter w) = (omega arith, omega arith)
row_within (beat w) = (omega arith, omega arith)
row_within (homiq w) = (omega arith, omega arith)

fields-many : (m : Message) → length (fields_of m) ≡ length (shape_at (row m)).members
unfolding fields_of
fields-many (read g a) = refl
fields-many (set g a out) = refl
fields-many (answer a third out) = refl
fields-many (press d) = refl
fields-many tail = refl
fields-many (link p) = refl
fields-many (command i p) = refl
fields-many (climate t h) = refl
fields-many (state p) = refl
fields-many break = refl
fields-many end = refl
fields-many (text i p) = refl
fields-many (response i p) = refl
fields-many (ask r) = refl
fields-many (reply r w v) = refl
fields-many (put r w v) = refl
fields-many (done ok) = refl
fields-many (nibe c d) = refl
fields-many (output w) = refl
fields-many (input w) = refl
fields-many (shutter w) = refl
fields-many (beat w) = refl
fields-many (homiq w) = refl

length-zip : (ms : List (Named Sort)) (fs : List Field) → length fs ≡ length ms → length (named ms fs) ≡ length ms
unfolding named
length-zip [] fs e = refl
length-zip (m ∷ ms) [] e = absurd (omega arith)
length-zip (m ∷ ms) (f ∷ fs) e = ap suc (length-zip ms fs (omega arith))

counted-fields : {r : ℕ} (m : Message) → row m ≡ r → length (commanded (shape_at r) (fields_of m)) ≡ length (shape_at r).members + 2
counted-fields {r} m e =
    let k : length (fields_of m) ≡ length (shape_at r).members = subst (λ (i : ℕ). length (fields_of m) ≡ length (shape_at i).members) e (fields-many m) in
    omega (arith, length-zip (shape_at r).members (fields_of m) k)

-- a text by its row's members
module _ {s : List ℕ} {r : ℕ} (g : InGrammar s) (h : HeadOf s r) (n : CountOf s (length (shape_at r).members + 2)) where
  pub filled : HasRow s r → Filled s r
  filled x =
      let k : length (commanded (shape_at r) x.fields) ≡ length (shape_at r).members + 2 = omega (arith, length-named x.of.sorts) in
      record {
        fields = x.fields;
        fills = record {
          low = h.low;
          high = h.high;
          fields = x.of;
          object = record { grammar = g; many = subst (CountOf s) (sym k) n; each = paper.and h.kind (paper.and h.msg x.each) };
        };
      }

  pub has-row : {q : ℕ} {fs : List Field} → Fills s q fs → HasRow s r
  has-row {q} {fs} f =
      subst (HasRow s) (one-head (head_of f) h) (record { fields = fs; of = f.fields; each = tail-has (tail-has f.object.each) })

  meant-head : (m : Message) → Means s m → HeadOf s (row m)
  meant-head m x = record { low = (row_within m).0; high = (row_within m).1; kind = head-has x.each; msg = head-has (tail-has x.each) }

  has-message : (m : Message) → Means s m → HasMessage s r m
  has-message m x =
      let e : row m ≡ r = one-head (meant-head m x) h in
      record { its-row = e; each = subst (λ (i : ℕ). HasEach Spells s (named (shape_at i).members (fields_of m))) e (tail-has (tail-has x.each)) }

  means-it : (m : Message) → HasMessage s r m → Means s m
  means-it m x =
      subst (λ (i : ℕ). IsObjectOf Spells s (commanded (shape_at i) (fields_of m))) (sym x.its-row)
      (record { grammar = g; many = subst (CountOf s) (sym (counted-fields m x.its-row)) n; each = paper.and h.kind (paper.and h.msg x.each) })

  text-of : {content : List ℕ} {d : Draft} → Drafts s r content (Ok d) → DraftsText s content (Ok (record { row = r; draft = d }))
  text-of (draft.is x y) =
      draft.is g (filled x)
      (record { within = y.within; some = y.some; to = λ m k l. y.to m (has-message m k) l; from = λ m k. means-it m (y.from m k); stands = y.stands })

  no-text-of : {content : List ℕ} {why : Reason} → Drafts s r content (Err why) → DraftsText s content (Err (refusal_of why))
  no-text-of (draft.outside x n) = draft.outside {r = r} g (filled x) (λ m k l. n m (has-message m k) l)
  no-text-of (draft.none n) = draft.none g (λ q fs f. n (has-row f))

module _ {s : List ℕ} {r n : ℕ} (g : InGrammar s) (h : HeadOf s r) (k : n ≡ length (shape_at r).members) (x : CountOf s (n + 2)) where
  counted : CountOf s (length (shape_at r).members + 2)
  counted = subst (λ (i : ℕ). CountOf s (i + 2)) k x

  pub text-with : {content : List ℕ} {d : Draft} → Drafts s r content (Ok d) → DraftsText s content (Ok (record { row = r; draft = d }))
  text-with d = text-of g h counted d

  pub text-without : {content : List ℕ} {why : Reason} → Drafts s r content (Err why) → DraftsText s content (Err (refusal_of why))
  text-without d = no-text-of g h counted d

-- so many members and two more are a number of the code's
pub few-members : {s : List ℕ} {r n : ℕ} → HeadOf s r → n ≡ length (shape_at r).members → n + 2 < 2 ^ 64
few-members {r = r} h e = omega (arith, most-members r h.high, e)
