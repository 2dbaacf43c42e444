-- An input has one listing: its kind and its capture are one, so are the frames that the searches find, and so is each frame's message.
-- Assumes nothing.
use mathlib.Core.List.{List, ◌++◌}
use mathlib.Core.Option.{Option, some}
use mathlib.Core.Path.{◌≡◌, refl, sym, ap, ap₂, ◌∙◌, subst}
use Prim.Native.Nat.{ℕ, ◌-◌}
use native.Mathlib.Omega.{arith}
use lib.ListN.{length}
use Rattle.frames.specs.Paper.Search.{Hit}
use Rattle.frames.proofs.Theorems.{one-run}
use Rattle.lines.proofs.Theorems.{one_line}
use Rattle.sheet.specs.Paper.Sheet.{Row, Lookup, find}
use Rattle.sheet.proofs.Laws.Scans.{one-sheet}
use Rattle.list.specs.Paper.Listing.{Lines, none, line, inside, last_line, Lists, NoSheet, OfMap, OfText, Listing, bad-start, too_long, bad-sheet, listed}
use Rattle.list.proofs.Laws.Inputs.{same_kind, same-capture}

lines-one : {sheet : Option Lookup} {k : ℕ} {s : List ℕ} {hits : List Hit} {a b : List ℕ} → Lines sheet k s hits a → Lines sheet k s hits b → a ≡ b
lines-one none none = refl
lines-one (line x r) (line y q) = ap₂ (λ (u v : List ℕ). u ++ v) (one_line _ _ x y) (lines-one r q)

pub lists-one : {sheet : Option Lookup} {k : ℕ} {s a b : List ℕ} → Lists sheet k s a → Lists sheet k s b → a ≡ b
lists-one {sheet} {k} {s} x y =
    let e : x.frames ≡ y.frames = one-run x.run y.run in
    let l : x.lines ≡ y.lines = lines-one (subst (λ (hits : List Hit). Lines sheet k s hits x.lines) e x.each) y.each in
    x.is ∙ ap₂ (λ (hits : List Hit) (u : List ℕ). u ++ last_line (length hits) (length s - inside hits)) e l ∙ sym y.is

-- no two sheets are given
abbrev pub OneGiven : (Option Lookup → Type 0) → Type 0
OneGiven Given = (x y : Option Lookup) → Given x → Given y → x ≡ y

pub one_none : OneGiven NoSheet
one_none x y a b = a ∙ sym b

pub one_map : (map : List ℕ) → OneGiven (OfMap map)
one_map map x y a b = a ∙ sym b

pub one-text : (text : List ℕ) → OneGiven (OfText text)
one-text text x y a b = a.says ∙ ap (λ (rows : List Row). some (find rows)) (one-sheet a.is b.is) ∙ sym b.says

module _ {Given : Option Lookup → Type 0} (one : OneGiven Given) where
  pub listing-one : {s a b : List ℕ} → Listing Given s a → Listing Given s b → a ≡ b
  listing-one (bad-start f) (bad-start g) = refl
  listing-one (bad-start f) (too_long j h) = absurd (f j)
  listing-one (bad-start f) (bad-sheet j h g) = absurd (f j)
  listing-one (bad-start f) (listed g j h l) = absurd (f j)
  listing-one (too_long i h) (bad-start g) = absurd (g i)
  listing-one (too_long i h) (too_long j g) = refl
  listing-one (too_long i h) (bad-sheet j g f) = absurd (omega arith)
  listing-one (too_long i h) (listed f j g l) = absurd (omega arith)
  listing-one (bad-sheet i h f) (bad-start g) = absurd (g i)
  listing-one (bad-sheet i h f) (too_long j g) = absurd (omega arith)
  listing-one (bad-sheet i h f) (bad-sheet j k g) = refl
  listing-one (bad-sheet i h f) (listed {sheet = x} g j k l) = absurd (f x g)
  listing-one (listed f i h l) (bad-start g) = absurd (g i)
  listing-one (listed f i h l) (too_long j g) = absurd (omega arith)
  listing-one (listed {sheet = x} f i h l) (bad-sheet j k g) = absurd (g x f)
  listing-one (listed {sheet = x} {t = a} u i h l) (listed {sheet = y} v j g m) =
      let w : Lists y i.kind i.capture a = subst (λ (z : Option Lookup). Lists z i.kind i.capture a) (one x y u v) l in
      let k : Lists y j.kind i.capture a = subst (λ (n : ℕ). Lists y n i.capture a) (same_kind i j) w in
      lists-one (subst (λ (s : List ℕ). Lists y j.kind s a) (same-capture i j) k) m
