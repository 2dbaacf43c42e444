-- What a sheet says has types that there are: in a map, and so in a sheet's.
-- Assumes nothing.
use mathlib.Core.List.{List, [], ◌∷◌}
use mathlib.Core.Option.{Option, none, some, none-ne-some}
use mathlib.Core.Path.{◌≡◌, refl, sym, ap, ◌∙◌, subst}
use Prim.Native.Nat.{ℕ, ◌-◌, ◌%◌, ◌≤◌}
use native.Mathlib.Omega.{arith}
use lib.ListN.{get_or}
use Rattle.digits.specs.Paper.LowFirst.{Width}
use Rattle.numbers.specs.Paper.Raw.{most_decimals}
use Rattle.sheet.specs.Paper.Map.{type_of_byte, in_byte, lookup_in, map_of, sheet_in}
use Rattle.sheet.specs.Paper.Sheet.{RegisterType, Row, Rising, Lookup, find}
use Rattle.sheet.proofs.Laws.Bytes.{in-known, in-zero, none-width, some-width, known-type}
use Rattle.sheet.proofs.Laws.Maps.{lookup-is}
use Rattle.sheet.proofs.Laws.Pairs.{one_type}
use Rattle.lines.specs.Paper.WithSheet.{type_in}

pub record InTypes (sheet : Option Lookup) : Type 0 where
  pub width : (i : ℕ) {t : RegisterType} → type_in sheet i ≡ some t → Width t.width
  pub decimals : (i : ℕ) {t : RegisterType} → type_in sheet i ≡ some t → t.decimals ≤ most_decimals

pub no-types : InTypes none
no-types = record { width = λ i {t} e. absurd (none-ne-some t e); decimals = λ i {t} e. absurd (none-ne-some t e) }

few-decimals : (b : ℕ) {t : RegisterType} → in_byte b ≡ some t → t.decimals ≤ most_decimals
unfolding type_of_byte
few-decimals b {t} e =
    let k = some-width b (λ z. none-ne-some t (sym (none-width b z) ∙ e)) in
    let d : (b - 1) % 4 ≡ t.decimals = ap (λ (x : RegisterType). x.decimals) (one_type (in-known k) e) in
    omega arith

pub map-types : (map : List ℕ) → InTypes (some (lookup_in map))
unfolding lookup_in
map-types map = record { width = λ i e. known-type (get_or map i 0) e; decimals = λ i e. few-decimals (get_or map i 0) e }

pub in-types : (map : List ℕ) → InTypes (sheet_in map)
in-types [] = no-types
in-types (b ∷ map) = map-types (b ∷ map)

-- whether the map is empty or not, it says the same of a register
pub type-in : (map : List ℕ) (i : ℕ) → type_in (sheet_in map) i ≡ lookup_in map i
unfolding lookup_in
type-in [] i = sym (in-zero refl)
type-in (b ∷ map) i = refl

-- and so in the rows of a sheet
pub row-types : {rows : List Row} → Rising 0 rows → InTypes (some (find rows))
row-types {rows} r = subst (λ (look : Lookup). InTypes (some look)) (lookup-is r) (map-types (map_of (find rows)))
