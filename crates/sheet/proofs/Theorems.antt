-- What the definitions come to, for a reader.
-- Assumes nothing.
use mathlib.Core.Path.{◌≡◌, refl, sym, ap, ◌∙◌, subst}
use mathlib.Core.List.{List, ◌∷◌}
use Prim.Native.Nat.{ℕ, zero, suc, ◌*◌, ◌≤◌}
use native.Mathlib.Omega.{arith}
use lib.ListN.{length, take, length-append}
use Rattle.digits.specs.Paper.Refusals.{refusal_order, First, after}
use Rattle.digits.proofs.Laws.Refusals.{cause-at}
use Rattle.numbers.proofs.Laws.Values.{size, held_in, in_held}
use Rattle.puts.specs.Paper.Right.{WroteRight}
use Rattle.puts.specs.Paper.Wrote.{written_refusal, written_count, Written}
use Rattle.puts.proofs.Laws.Right.{first_of, written-right}
use Rattle.sheet.specs.Paper.Sheet.{Row, LF, fields, sheet, Rising, done, next, Sheet, Lookup, find}
use Rattle.sheet.specs.Paper.Map.{map_of, lookup_in}
use Rattle.sheet.specs.Paper.Split.{Unsolicited, Pair, data_of, Held, Splits, pair_bytes, InTen, Pairs, Listed}
use Rattle.sheet.specs.Paper.Split as split
use Rattle.sheet.specs.Paper.Answers.{most_data, SplitCause, SplitsInto, IsSplit, JoinCause, Joins, IsJoin}
use Rattle.sheet.specs.Paper.Answers as paper
use Rattle.sheet.specs.Paper.Fault.{Faulty}
use Rattle.sheet.proofs.Laws.Faults as faults
use Rattle.sheet.proofs.Laws.FirstPair.{tens-length}
use Rattle.sheet.proofs.Laws.Maps as maps
use Rattle.sheet.proofs.Laws.Pairs as pairs
use Rattle.sheet.proofs.Laws.Rows.{fields-length}
use Rattle.sheet.proofs.Laws.Scans as scans
use Rattle.sheet.proofs.Laws.Tens.{one-pairs, held-listed}
use Rattle.sheet.proofs.Laws.Widths.{eight, widen}

-- A TEXT IS THE SHEET OF ONE LIST OF ROWS AT MOST
pub one-sheet : {text : List ℕ} {p q : List Row} → Sheet text p → Sheet text q → p ≡ q
one-sheet v w = scans.one-sheet v w

-- A GOOD SHEET HAS NO FAULT
pub good-sheet : {text : List ℕ} {rows : List Row} {l t : ℕ} → Sheet text rows → Faulty text l t → (l ≡ 0) × (t ≡ 0)
good-sheet w f = faults.good-sheet w f

-- A SHEET HAS AT MOST 6,000 BYTES
rows-length : {least : ℕ} {rows : List Row} → Rising least rows → length (sheet rows) ≤ 12 * length rows
unfolding sheet
rows-length done = omega arith
rows-length (next {r = r} {rows = rows} l h t) =
    omega (arith, length-append (fields r) (LF ∷ sheet rows), fields-length r l, rows-length t)

pub sheet-most : {text : List ℕ} {rows : List Row} → Sheet text rows → length text ≤ 6000
sheet-most w = omega (arith, rows-length w.rising, ap length w.written, w.few)

-- A LOOKUP IN A SHEET'S MAP SAYS WHAT THE SHEET SAYS
pub lookup-is : {text : List ℕ} {rows : List Row} → Sheet text rows → lookup_in (map_of (find rows)) ≡ find rows
lookup-is w = maps.lookup-is w.rising

-- DATA SPLIT IN ONE WAY AT MOST
pub one_split : {look : Lookup} {content : List ℕ} {p q : List Pair} → Splits look content p → Splits look content q → p ≡ q
one_split {p = p} {q = q} v w = pairs.one_split p q v w

-- ---- there and back, over both promises

-- no cause of a call that answers
module _ {Cause : ℕ → Type 0} where
  not-5 : First Cause refusal_order 0 → Cause 5 → ⊥
  not-5 (after a (after b (after c (after d (after e (after f (after five g))))))) = five

-- values that their types hold are values of eight bytes
held-ten : {look : Lookup} {p : List Pair} → Held look p → InTen p
held-ten split.end = split.end
held-ten (split.and {p = p} {t = t} e h r) =
    split.and
    (record { register = h.register; raw = in_held eight (widen h.width (held_in (size h.width) t.signed p.raw h.value)) })
    (held-ten r)

answered : {Cause : ℕ → Type 0} {Right : List ℕ → Type 0} {room : List ℕ} {k n : ℕ} {later : List ℕ}
    → ((j : ℕ) → Cause j → ⊥) → WroteRight Cause Right room k n later → k ≡ 0
answered {k = k} none w = go k refl
  where
    go : (j : ℕ) → k ≡ j → k ≡ 0
    go zero e = e
    go (suc j) e = absurd (none k (cause-at (first_of w) (omega arith)))

module _ {command : ℕ} {text room room' later later' : List ℕ} where
  -- SPLIT, THEN JOIN
  pub split-join : {content : List ℕ} (r q : Written) → SplitsInto command content text room r later → written_refusal r ≡ 0
      → Joins command (take (written_count r) later) text room' q later' → length content ≤ most_data → length content ≤ length room'
      → (written_refusal q ≡ 0) × (take (written_count q) later' ≡ content)
  split-join {content} r q a z b small fits = (none, back)
    where
      s : IsSplit content text (take (written_count r) later)
      s = written-right a z

      p : Pairs (take (written_count r) later) s.pairs
      p = record { limits = held-ten s.splits.held; written = sym s.bytes-are }

      same-data : {rows : List Row} {y : List Pair} {d : List ℕ} → Sheet text rows → Pairs (take (written_count r) later) y → Splits (find rows) d y → d ≡ content
      same-data {rows} {y} {d} w v e =
          sym e.written ∙ ap (λ (x : List Row). data_of (find x) y) (one-sheet w s.is) ∙ ap (data_of (find s.rows)) (one-pairs y s.pairs v p) ∙ s.splits.written

      cause : (j : ℕ) → JoinCause command (take (written_count r) later) text (length room') j → ⊥
      cause j (paper.other-command f) = not-5 (subst (First (SplitCause command content text (length room)) refusal_order) z (first_of a)) (paper.other-command f)
      cause j (paper.not-in-tens f) = f (omega (arith, ap length s.bytes-are, tens-length s.pairs))
      cause j (paper.not-held {pairs = y} w v l f) =
          f content
          (subst (Splits _ content) (one-pairs s.pairs y p v)
          (subst (λ (x : List Row). Splits (find x) content s.pairs) (one-sheet s.is w) s.splits))
          small
      cause j (paper.bad-sheet f) = f s.rows s.is
      cause j (paper.unlisted {pairs = y} w v f) =
          f (subst (Listed _) (one-pairs s.pairs y p v)
          (subst (λ (x : List Row). Listed (find x) s.pairs) (one-sheet s.is w) (held-listed s.splits.held)))
      cause j (paper.short {pairs = y} {content = d} w v e h) =
          omega (arith, fits, ap length (same-data w v e))

      none : written_refusal q ≡ 0
      none = answered cause b

      back : take (written_count q) later' ≡ content
      back = let j = written-right b none in same-data j.is j.are j.splits

  -- JOIN, THEN SPLIT
  pub join-split : {bytes : List ℕ} (r q : Written) → Joins command bytes text room r later → written_refusal r ≡ 0
      → SplitsInto command (take (written_count r) later) text room' q later' → length bytes ≤ length room'
      → (written_refusal q ≡ 0) × (take (written_count q) later' ≡ bytes)
  join-split {bytes} r q a z b fits = (none, back)
    where
      s : IsJoin bytes text (take (written_count r) later)
      s = written-right a z

      same : {rows : List Row} {y : List Pair} → Sheet text rows → Splits (find rows) (take (written_count r) later) y → pair_bytes y ≡ bytes
      same {rows} {y} w e =
          ap pair_bytes (pairs.one_split y s.pairs (subst (λ (x : List Row). Splits (find x) (take (written_count r) later) y) (one-sheet w s.is) e) s.splits)
          ∙ s.are.written

      cause : (j : ℕ) → SplitCause command (take (written_count r) later) text (length room') j → ⊥
      cause j (paper.other-command f) = not-5 (subst (First (JoinCause command bytes text (length room)) refusal_order) z (first_of a)) (paper.other-command f)
      cause j (paper.bad-sheet f) = f s.rows s.is
      cause j (paper.no-split w f) =
          f s.pairs (subst (λ (x : List Row). Splits (find x) (take (written_count r) later) s.pairs) (one-sheet s.is w) s.splits)
      cause j (paper.short w e h) = omega (arith, fits, ap length (same w e))

      none : written_refusal q ≡ 0
      none = answered cause b

      back : take (written_count q) later' ≡ bytes
      back = let j = written-right b none in j.bytes-are ∙ same j.is j.splits
