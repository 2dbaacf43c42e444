-- What is done by a sheet's map is done by the sheet.
-- Assumes nothing.
use mathlib.Core.Path.{◌≡◌, refl, sym, ap, ◌∙◌, subst}
use mathlib.Core.Bool.{Bool, false, true≢false, ◌||◌}
use mathlib.Core.List.{List, ◌++◌, append-nil}
use mathlib.Core.Option.{some, none-ne-some}
use Prim.Native.Nat.{ℕ, ◌<◌}
use native.Mathlib.Omega.{arith}
use lib.Dec.{eqb}
use lib.ListN.{length, drop, drop_of_length-le}
use Rattle.digits.specs.Paper.Refusals.{refusal_order, refusal_number, First, clear, here, after, Answers, answers, refuses}
use Rattle.digits.specs.declared.refusal.Refusal.{Refusal}
use Rattle.digits.proofs.Laws.Refusals.{pass-over, cause-at, some_number}
use Rattle.puts.specs.Paper.Right.{WroteRight, wrote, refused}
use Rattle.puts.proofs.Laws.Right.{first_of}
use Rattle.sheet.specs.Paper.Sheet.{RegisterType, Row, Sheet, Lookup, find}
use Rattle.sheet.specs.Paper.Map.{registers, map_of, lookup_in}
use Rattle.sheet.specs.Paper.Answers.{MapCause, IsMap, TypeInCause, TypesIn, typed_refusal, typed_value, zero_type, TypeCause, HasType, Types}
use Rattle.sheet.specs.Paper.Answers as paper
use Rattle.sheet.specs.declared.Typed.{Typed}
use Rattle.std.specs.Prelude.{Result, Err}
use Rattle.sheet.proofs.Laws.Maps.{length-map, lookup-is}
use Rattle.sheet.proofs.Laws.Scans.{one-sheet}

-- ---- a map that has been written

pub record ByMap (text map : List ℕ) : Type 0 where
  pub rows : List Row
  pub is : Sheet text rows
  pub look : lookup_in map ≡ find rows

module _ {text : List ℕ} (room : List ℕ) (all : length room ≡ registers) where
  pub by_map : {k n : ℕ} {later : List ℕ} → WroteRight (MapCause text (length room)) (IsMap text) room k n later → k ≡ 0 → ByMap text later
  by_map (wrote {bs = bs} f x) z =
      let n : length bs ≡ registers = ap length x.bytes-are ∙ length-map (find x.rows) in
      let e : bs ++ drop (length bs) room ≡ map_of (find x.rows) =
      ap (λ (y : List ℕ). bs ++ y) (drop_of_length-le room {i = length bs} (omega arith)) ∙ append-nil bs ∙ x.bytes-are in
      record { rows = x.rows; is = x.is; look = ap lookup_in e ∙ lookup-is x.is.rising }
  by_map (refused p f) z = absurd (omega arith)

  pub no-map : {k n : ℕ} {later : List ℕ} → WroteRight (MapCause text (length room)) (IsMap text) room k n later → 0 < k
      → (k ≡ 10) × ((rows : List Row) → Sheet text rows → ⊥)
  no-map w p = go (cause-at (first_of w) p)
    where
      go : {k : ℕ} → MapCause text (length room) k → (k ≡ 10) × ((rows : List Row) → Sheet text rows → ⊥)
      go (paper.bad-sheet f) = (refl, f)
      go (paper.short h) = absurd (omega arith)

-- ---- the type of a register

ours : ℕ → Bool
ours k = eqb k 10 || eqb k 9

module _ {text : List ℕ} {register : ℕ} where
  only : (k : ℕ) → ours k ≡ false → TypeCause text register k → ⊥
  unfolding ours
  only k e (paper.bad-sheet f) = true≢false e
  only k e (paper.unlisted w f) = true≢false e

  pub type-refused : (why : Refusal) → refusal_number why ≡ 10 → ((rows : List Row) → Sheet text rows → ⊥) → Types text register (Err why)
  unfolding ours
  type-refused why e f =
      refuses (some_number why) (subst (First (TypeCause text register) refusal_order) (sym e) (pass-over ours only refusal_order (here (paper.bad-sheet f))))

  module _ {rows : List Row} (w : Sheet text rows) where
    good : TypeCause text register 10 → ⊥
    good (paper.bad-sheet f) = f rows w

    by-sheet : {k : ℕ} {t : RegisterType} → Answers zero_type (TypeInCause (find rows) register) (λ t. find rows register ≡ some t) k t
        → Answers zero_type (TypeCause text register) (HasType text register) k t
    unfolding ours
    by-sheet (answers f e) = answers (pass-over ours only refusal_order (after good (after listed clear))) (record { rows = rows; is = w; listed = e })
      where
        listed : TypeCause text register 9 → ⊥
        listed (paper.unlisted {rows = q} v g) = none-ne-some _ (sym g ∙ ap (λ (x : List Row). find x register) (one-sheet v w) ∙ e)
    by-sheet (refuses p f) = refuses p (go (cause-at f p))
      where
        go : {k : ℕ} → TypeInCause (find rows) register k → First (TypeCause text register) refusal_order k
        go (paper.unlisted e) = pass-over ours only refusal_order (after good (here (paper.unlisted w e)))

  pub typed-by : {map : List ℕ} → ByMap text map → (r : Result Typed Refusal) → TypesIn (lookup_in map) register r → Types text register r
  typed-by m r a =
      by-sheet m.is (subst (λ (l : Lookup). Answers zero_type (TypeInCause l register) (λ t. l register ≡ some t) (typed_refusal r) (typed_value r)) m.look a)
