-- The rows of a sheet, stored one after the other.
-- Assumes nothing.
use mathlib.Core.Path.{◌≡◌, refl, sym, ap, ◌∙◌}
use mathlib.Core.List.{List, [], ◌∷◌}
use Prim.Native.Nat.{ℕ, ◌+◌, ◌<◌}
use native.Mathlib.Omega.{arith}
use lib.ListN.{length, drop, set, length-append, length-set}
use Rattle.digits.specs.Paper.Refusals.{First}
use Rattle.sheet.specs.Paper.Fault.{Fails, tests}
use Rattle.sheet.specs.Paper.Sheet.{Row, LF, fields, sheet}
use Rattle.sheet.specs.Work.Lines.{Passes, RowsFrom}
use Rattle.sheet.specs.Work.Maps.{stores, Filling, Filled}
use Rattle.sheet.proofs.Laws.Scans.{no_rows, sheet-cons, take-off, line-inside}
use Rattle.sheet.proofs.Laws.Maps.{stores-cons, stores-nil}

pub fill_start : (text map : List ℕ) (rows : List Row) → RowsFrom 0 1 text rows → Filling text text map map 0 1
fill_start text map rows w = record { whole = rows; rest = rows; are = w; left_are = w; same = refl; stored = refl }

module _ {text left map₀ map : List ℕ} {least number : ℕ} (g : Filling text left map₀ map least number) where
  pub fill-next : {register byte size : ℕ} → Passes least number left register byte size
      → Filling text (drop size left) map₀ (set map register byte) (register + 1) (number + 1)
  fill-next {register} {byte} {size} p =
      let i = line-inside p in
      let o = take-off p (omega (arith, i.0, i.1)) g.rest g.left_are in
      record {
        whole = g.whole;
        rest = o.0;
        are = g.are;
        left_are = o.1;
        same = length-set map register byte ∙ g.same;
        stored =
            ap (λ (x : ℕ). stores (set map x byte) o.0) p.register-is
            ∙ ap (λ (x : ℕ). stores (set map p.row.register x) o.0) p.byte-is
            ∙ sym (stores-cons map p.row o.0) ∙ ap (stores map) (sym o.2) ∙ g.stored;
      }

  -- no line is left where the first fails a test
  pub fill_end : {test : ℕ} → First (Fails least number left) tests test → 0 < test → Filled text map₀ map
  fill_end f p = go g.rest g.left_are g.stored
    where
      go : (rest : List Row) → RowsFrom least number left rest → stores map rest ≡ stores map₀ g.whole → Filled text map₀ map
      go [] w e = record { rows = g.whole; are = g.are; stored = sym (stores-nil map) ∙ e }
      go (r ∷ rest) w e = absurd (no_rows some f p (r ∷ rest) w)
        where
          some : 0 < length left
          some = omega (arith, ap length w.written, ap length (sheet-cons r rest), length-append (fields r) (LF ∷ sheet rest))
