-- How long a line gets by a sheet.
-- Assumes nothing.
use mathlib.Core.Bool.{Bool}
use mathlib.Core.List.{List, [], ◌∷◌}
use mathlib.Core.Option.{some}
use mathlib.Core.Path.{◌≡◌, ap, ◌∙◌}
use Prim.Native.Nat.{ℕ, zero, suc, ◌+◌, ◌*◌, ◌/◌, ◌≤◌, ◌<◌}
use native.Mathlib.Omega.{arith}
use lib.IntN.{ℤ, nat_abs}
use lib.ListN.{length, drop, length-append, length-drop}
use Rattle.digits.specs.Paper.Ascii.{ascii}
use Rattle.digits.specs.Paper.Decimal.{decimal}
use Rattle.digits.specs.Paper.LowFirst.{Width, one, two, four}
use Rattle.digits.proofs.Laws.Decimal.{length-decimal}
use Rattle.json_values.specs.Paper.Json.{◌∶◌, number, quoted, truth, reading, array, further_values}
use Rattle.json_values.proofs.Laws.Sizes.{length-quoted, length-truth, total, length-object, length-reading}
use Rattle.numbers.specs.Paper.ByteValues.{HeldBy}
use Rattle.numbers.specs.Paper.Raw.{most_decimals}
use Rattle.numbers.specs.Paper.Single.{fits_single}
use Rattle.numbers.specs.Paper.Text.{below_zero, text_of, text}
use Rattle.numbers.proofs.Laws.Signs.{magnitude-lt}
use Rattle.numbers.proofs.Laws.Text.{length_last, length-text, length-sign}
use Rattle.numbers.proofs.Laws.Values as values
use Rattle.numbers.proofs.Theorems.ByteValues.{value-raw}
use Rattle.sheet.specs.Paper.Sheet.{RegisterType, Lookup}
use Rattle.sheet.specs.Paper.Split.{Pair, TypeHolds, Held, and, Splits}
use Rattle.sheet.proofs.Laws.Pairs.{uncons}
use Rattle.lines.specs.Paper.WithSheet.{decimals_of, pair_value, pair_values}
use Rattle.lines.proofs.Laws.Types.{InTypes}

-- ---- readings of one byte

small-whole : (m : Bool) (n : ℕ) → n < 1000 → length (text_of m n 0) ≤ 4
small-whole m n h = omega (arith, length-text m n 0, length-sign m, length-decimal 2 (n / 1) (omega arith))

small-text : (m : Bool) (n d : ℕ) → n < 1000 → d ≤ most_decimals → length (text_of m n d) ≤ 6
small-text m n zero h k = omega (arith, small-whole m n h)
small-text m n (suc zero) h k = omega (arith, length-text m n 1, length-sign m, length-decimal 1 (n / 10) (omega arith), length_last 1 n)
small-text m n (suc (suc zero)) h k = omega (arith, length-text m n 2, length-sign m, length-decimal 0 (n / 100) (omega arith), length_last 2 n)
small-text m n (suc (suc (suc zero))) h k = omega (arith, length-text m n 3, length-sign m, length-decimal 0 (n / 1000) (omega arith), length_last 3 n)
small-text m n (suc (suc (suc (suc d)))) h k = absurd (omega arith)

small-reading : (z : ℤ) (d : ℕ) → nat_abs z < 1000 → d ≤ most_decimals → length (reading z d) ≤ 49
unfolding reading total
small-reading z d h k =
    let whole = small-whole (below_zero z) (nat_abs z) h in
    let shown = small-text (below_zero z) (nat_abs z) d h k in
    let tenth : length (decimal d) ≤ 1 = length-decimal 0 d (omega arith) in
    omega (arith, length-object (ascii "raw" ∶ text z 0) (ascii "dec" ∶ decimal d ∷ ascii "text" ∶ quoted (text z d) ∷ ascii "f32" ∶ truth (fits_single z) ∷ []), length-quoted (text z d), length-truth (fits_single z))

-- a value of w bytes
held-reading : {w : ℕ} (signed : Bool) (z : ℤ) (d : ℕ) → Width w → HeldBy w signed z → d ≤ most_decimals → length (reading z d) + 23 ≤ 24 * (2 + w)
held-reading signed z d one h k = omega (arith, small-reading z d (omega (arith, values.in_size (values.size one) (values.held_in (values.size one) signed z h))) k)
held-reading signed z d two h k = omega (arith, length-reading z d (magnitude-lt z (value-raw signed z two h)) k)
held-reading signed z d four h k = omega (arith, length-reading z d (magnitude-lt z (value-raw signed z four h)) k)

-- ---- pairs

length-pair : (look : Lookup) (p : Pair) → length (pair_value look p) ≡ length (decimal p.register) + length (reading p.raw (decimals_of (look p.register))) + 17
unfolding total
length-pair look p = omega (arith, length-object (ascii "reg" ∶ number p.register) (ascii "value" ∶ reading p.raw (decimals_of (look p.register)) ∷ []))

module _ {look : Lookup} (types : InTypes (some look)) where
  one-pair : {t : RegisterType} (p : Pair) → look p.register ≡ some t → TypeHolds t p → length (pair_value look p) + 1 ≤ 24 * (2 + t.width)
  one-pair {t} p e h =
      let d : decimals_of (look p.register) ≡ t.decimals = ap decimals_of e in
      let r : length (reading p.raw t.decimals) + 23 ≤ 24 * (2 + t.width) = held-reading t.signed p.raw t.decimals h.width h.value (types.decimals p.register e) in
      let s : length (reading p.raw (decimals_of (look p.register))) ≡ length (reading p.raw t.decimals) = ap (λ (x : ℕ). length (reading p.raw x)) d in
      omega (arith, length-pair look p, length-decimal 4 p.register (omega (arith, h.register)))

  further-values : (pairs : List Pair) (s : List ℕ) → Splits look s pairs → length (further_values (pair_values look pairs)) ≤ 1 + 24 * length s
  unfolding further_values pair_values
  further-values [] s w = omega arith
  further-values (p ∷ pairs) s w =
      let u = uncons w in
      let holds : TypeHolds u.first.type p = record { register = held-register w.held; width = u.known; value = u.holds } in
      let listed = ap look u.register ∙ u.first.listed in
      omega (
        arith,
        length-append (pair_value look p) (further_values (pair_values look pairs)),
        one-pair p listed holds,
        further-values pairs (drop (2 + u.first.type.width) s) u.others,
        length-drop (2 + u.first.type.width) s,
        u.first.whole,
      )
    where
      held-register : Held look (p ∷ pairs) → p.register < 65536
      held-register (and e h r) = h.register

  pub length-array : (pairs : List Pair) (s : List ℕ) → Splits look s pairs → length (array (pair_values look pairs)) ≤ 2 + 24 * length s
  unfolding array pair_values further_values
  length-array [] s w = omega arith
  length-array (p ∷ pairs) s w = omega (arith, further-values (p ∷ pairs) s w)
