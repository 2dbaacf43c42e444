-- A text means one message at most; and a message's line that one alone.
-- Assumes nothing.
use mathlib.Core.List.{List, [], ◌∷◌}
use mathlib.Core.Path.{◌≡◌, refl, sym, ap, ap₂, subst, ◌∙◌}
use Prim.Native.Nat.{ℕ}
use lib.IntN.{nat_abs}
use Rattle.std.specs.Prelude.{Option, Some}
use Rattle.layouts.specs.Paper.Made.{Wire}
use Rattle.messages.specs.Paper.Message.{Message, read, set, answer, press, tail, link, command, climate, state, break, end, text, response, ask, reply, put, done, nibe, output, input, shutter, beat, homiq, row}
use Rattle.messages.specs.Paper.Table.{Good}
use Rattle.shapes.specs.Paper.Fields.{Named, ◌∶◌, Field}
use Rattle.asked.specs.Paper.Field.{Spells, HasEach}
use Rattle.asked.specs.Paper.Line.{command_line}
use Rattle.asked.specs.Paper.Means.{named, AreOf, none, and, Means}
use Rattle.shapes.specs.Paper.Shapes.{Sort, number, bytes, digits, content, string, bool, measured, shape_at, wired, wired_fields, fields_of, a-number, a-content, a-string, a-bool, a-reading}
use Rattle.asked.specs.Work.Got.{number_in, list_in}
use Rattle.asked.specs.Work.Rows.{same_text, row_in, row_named}
use Rattle.asked.proofs.Laws.Lift.{head-has, tail-has, one_in}
use Rattle.asked.proofs.Laws.LineMeans.{line-means}
use Rattle.asked.proofs.Laws.Rebuilt.{built}

-- ---- the row

-- a row is known by its kind and its msg
row-known : (m : Message) → row_named (shape_at (row m)).kind (shape_at (row m)).msg ≡ Some (row m)
unfolding row_named row_in same_text
row-known (read g a) = refl
row-known (set g a out) = refl
row-known (answer a third out) = refl
row-known (press d) = refl
row-known tail = refl
row-known (link p) = refl
row-known (command i p) = refl
row-known (climate t h) = refl
row-known (state p) = refl
row-known break = refl
row-known end = refl
row-known (text i p) = refl
row-known (response i p) = refl
row-known (ask r) = refl
row-known (reply r w v) = refl
row-known (put r w v) = refl
row-known (done ok) = refl
row-known (nibe c d) = refl
row-known (output w) = refl
row-known (input w) = refl
row-known (shutter w) = refl
row-known (beat w) = refl
row-known (homiq w) = refl

one-row : {s : List ℕ} (m n : Message) → Means s m → Means s n → row m ≡ row n
one-row m n x y =
    let kinds = one_in a-number a-number (head-has x.each) (head-has y.each) in
    let msgs = one_in a-string a-string (head-has (tail-has x.each)) (head-has (tail-has y.each)) in
    let k : (shape_at (row m)).kind ≡ (shape_at (row n)).kind = ap (λ (f : Field). nat_abs (number_in f)) kinds in
    let l : (shape_at (row m)).msg ≡ (shape_at (row n)).msg = ap list_in msgs in
    let e : ◌≡◌ {A = Option ℕ} (Some (row m)) (Some (row n)) = sym (row-known m) ∙ ap₂ row_named k l ∙ row-known n in cc

-- ---- the fields

-- a sort, however many bytes or digits
unfoldable loose : Sort → Sort
loose number = number
loose (bytes n) = content
loose (digits n) = string
loose content = content
loose string = string
loose bool = bool
loose (measured d) = measured d

unfoldable loosened : List (Named Sort) → List (Named Sort)
loosened [] = []
loosened (m ∷ ms) = m.name ∶ loose m.value ∷ loosened ms

wired-of : (w : Wire) → AreOf (loosened wired) (wired_fields w)
unfolding loosened loose
wired-of w = and a-string (and a-string (and a-string (and a-string (and a-number (and a-string none)))))

-- every message has fields of the sorts of its row
loose-of : (m : Message) → AreOf (loosened (shape_at (row m)).members) (fields_of m)
unfolding loosened loose fields_of
loose-of (read g a) = and a-number (and a-content none)
loose-of (set g a out) = and a-number (and a-content (and a-content none))
loose-of (answer a third out) = and a-content (and a-number (and a-content none))
loose-of (press d) = and a-string none
loose-of tail = none
loose-of (link p) = and a-content none
loose-of (command i p) = and a-number (and a-content none)
loose-of (climate t h) = and a-reading (and a-reading none)
loose-of (state p) = and a-reading (and a-reading (and a-reading (and a-content none)))
loose-of break = none
loose-of end = none
loose-of (text i p) = and a-number (and a-string none)
loose-of (response i p) = and a-number (and a-content none)
loose-of (ask r) = and a-number none
loose-of (reply r w v) = and a-number (and a-number (and a-reading none))
loose-of (put r w v) = and a-number (and a-number (and a-reading none))
loose-of (done ok) = and a-bool none
loose-of (nibe c d) = and a-number (and a-content none)
loose-of (output w) = wired-of w
loose-of (input w) = wired-of w
loose-of (shutter w) = wired-of w
loose-of (beat w) = wired-of w
loose-of (homiq w) = wired-of w

one-fields : {s : List ℕ} (ms : List (Named Sort)) {fs gs : List Field} → AreOf (loosened ms) fs → AreOf (loosened ms) gs
    → HasEach Spells s (named ms fs) → HasEach Spells s (named ms gs) → fs ≡ gs
unfolding loosened named
one-fields [] none none x y = refl
one-fields (m ∷ ms) (and a p) (and b q) x y =
    ap₂ (λ (f : Field) (fs : List Field). f ∷ fs) (one_in a b (head-has x) (head-has y)) (one-fields ms p q (tail-has x) (tail-has y))

-- A TEXT MEANS ONE MESSAGE AT MOST
pub one-meaning : (s : List ℕ) (m n : Message) → Means s m → Means s n → m ≡ n
one-meaning s m n x y =
    let e : row m ≡ row n = one-row m n x y in
    let a = subst (λ (r : ℕ). AreOf (loosened (shape_at r).members) (fields_of m)) e (loose-of m) in
    let xs = subst (λ (r : ℕ). HasEach Spells s (named (shape_at r).members (fields_of m))) e (tail-has (tail-has x.each)) in
    let f : fields_of m ≡ fields_of n = one-fields (shape_at (row n)).members a (loose-of n) xs (tail-has (tail-has y.each)) in
    built m e f ∙ sym (built n refl refl)

-- A MESSAGE'S LINE MEANS THAT MESSAGE AND NO OTHER
pub line-only : (m n : Message) → Good m → Means (command_line m) n → n ≡ m
line-only m n g x = one-meaning (command_line m) n m x (line-means m g)
