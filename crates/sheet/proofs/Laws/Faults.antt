-- The first fault: there is one at most, and a good sheet has none.
-- Assumes nothing.
use mathlib.Core.Path.{◌≡◌, refl, sym, ap, ◌∙◌, subst}
use mathlib.Core.List.{List, [], ◌∷◌}
use Prim.Native.Nat.{ℕ, suc, ◌<◌}
use native.Mathlib.Omega.{arith}
use lib.ListN.{length}
use Rattle.digits.specs.Paper.Refusals.{clear, after}
use Rattle.digits.proofs.Laws.Decimal.{decimal-inj}
use Rattle.digits.proofs.Laws.Refusals.{one-first}
use Rattle.sheet.specs.Paper.Sheet.{Row, LF, sheet, Sheet}
use Rattle.sheet.specs.Paper.Fault.{behind, first_field, FirstFault, no_line, here as fault-here, later, Faulty}
use Rattle.sheet.specs.Work.Lines.{RowsFrom}
use Rattle.sheet.proofs.Laws.Rows.{first_of}
use Rattle.sheet.proofs.Laws.Scans.{begins, passes-each, of-sheet, sheet-some}

pub one-fault : {least number l m t u : ℕ} {s : List ℕ} → FirstFault least number s l t → FirstFault least number s m u → (l ≡ m) × (t ≡ u)
one-fault no_line no_line = (refl, refl)
one-fault no_line (fault-here p h f) = absurd (omega arith)
one-fault no_line (later p f e x) = absurd (omega arith)
one-fault (fault-here p h f) no_line = absurd (omega arith)
one-fault (fault-here p h f) (fault-here q k g) = (refl, one-first f g)
one-fault (fault-here p h f) (later q g e x) = let z = one-first f g in absurd (omega arith)
one-fault (later p f e x) no_line = absurd (omega arith)
one-fault (later p f e x) (fault-here q k g) = let z = one-first f g in absurd (omega arith)
one-fault {number = number} {m = m} {u = u} {s = s} (later {n = i} p f e x) (later {n = j} q g d y) =
    one-fault x (subst (λ (n : ℕ). FirstFault (suc n) (suc number) (behind LF s) m u) (decimal-inj j i (d ∙ sym e)) y)

pub no-fault : {least number : ℕ} {s : List ℕ} (rows : List Row) → RowsFrom least number s rows → FirstFault least number s 0 0
unfolding sheet
no-fault {least} {number} [] w = subst (λ (s : List ℕ). FirstFault least number s 0 0) w.written no_line
no-fault {least} {number} {s} (r ∷ rows) w =
    let b = begins w in
    later {n = r.register} (some s refl)
    (after (passes-each b 1) (after (passes-each b 2) (after (passes-each b 3) (after (passes-each b 4) (after (passes-each b 5) (after (passes-each b 6) (after (passes-each b 7) clear)))))))
    (sym (ap first_field b.line-is ∙ (first_of r).0)) (no-fault {least = suc r.register} {number = suc number} {s = behind LF s} rows b.others)
  where
    some : (t : List ℕ) → s ≡ t → 0 < length s
    some [] e = absurd (sheet-some r rows (w.written ∙ e))
    some (x ∷ t) e = omega (arith, ap length e)

-- A GOOD SHEET HAS NO FAULT
pub good-sheet : {text : List ℕ} {rows : List Row} {l t : ℕ} → Sheet text rows → Faulty text l t → (l ≡ 0) × (t ≡ 0)
good-sheet {rows = rows} w f = one-fault f (no-fault rows (of-sheet w))
