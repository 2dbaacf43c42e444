-- What the tests of a content's parts, and of a message's fields, say.
-- Assumes nothing.
use mathlib.Core.Bool.{Bool, true}
use mathlib.Core.List.{List, [], ◌∷◌}
use mathlib.Core.Path.{◌≡◌, refl, sym, ◌∙◌, ap, subst}
use lib.IntN.{ℤ, pos, negsuc}
use mir.Syntax.{w16}
use mir.Val.{SFits}
use Prim.Native.Nat.{ℕ, ◌*◌, ◌/◌, ◌%◌, ◌^◌, ◌≤◌, ◌<◌}
use native.Mathlib.Omega.{arith}
use lib.Dec.{T}
use lib.ListN.{length}
use Rattle.digits.proofs.Laws.Bytes.{bytes-nil, bytes-cons}
use Rattle.digits.proofs.Laws.Hex.{length-hex}
use Rattle.digits.proofs.Laws.Tests.{T_true}
use Rattle.digits.specs.Paper.Bytes.{Bytes}
use Rattle.digits.specs.Paper.LowFirst.{Width, one, two, four, Held}
use Rattle.digits.specs.Paper.Read.{Decides, holds, fails}
use Rattle.layouts.proofs.Laws.HexDigits.{hex-all, hex-bytes, length-bytes, bytes-bytes}
use Rattle.layouts.specs.Paper.Chars.{all, is_hex}
use Rattle.layouts.specs.Work.Nikobus.{bytes_of}
use Rattle.numbers.proofs.Laws.Values.{In, lower, upper, size, in_held}
use Rattle.numbers.specs.Paper.ByteValues.{HeldBy}
use Rattle.messages.specs.Paper.Table.{SixBytes, BytesBetween}
use Rattle.messages.specs.Work.Nikobus.{LinkDigits}
use Rattle.messages.proofs.Laws.Telling.{tells}

-- ---- digits

-- the digits of a link's payload are so many
pub link-size : {d : List ℕ} → LinkDigits d → (2 ≤ length d) × (length d ≤ 244) × (length d % 2 ≡ 0)
link-size {d} x =
    let n : length d ≡ length x.payload * 2 = ap length x.is ∙ length-hex x.payload in
    let a = x.limits.enough in
    let b = x.limits.short in
    (omega arith, omega arith, omega arith)

module _ {d : List ℕ} (least : 2 ≤ length d) (most : length d ≤ 244) (even : length d % 2 ≡ 0) where
  link-digits : T (all is_hex d) → LinkDigits d
  link-digits h =
      let n : length d ≡ length d / 2 * 2 = omega arith in
      let l : length (bytes_of d) ≡ length d / 2 = length-bytes (length d / 2) d n in
      record {
        payload = bytes_of d;
        limits = record { enough = omega arith; short = omega arith; bytes = bytes-bytes d };
        is = sym (hex-bytes (length d / 2) d n h);
      }

  pub tells-link : {r : Bool} → r ≡ all is_hex d → Decides (LinkDigits d) r
  tells-link {r} e = tells r (λ t. link-digits (subst T (sym (sym e ∙ t)) tt)) (λ x. e ∙ T_true _ (subst (λ (s : List ℕ). T (all is_hex s)) (sym x.is) (hex-all x.payload x.limits.bytes)))

pub tells-press : (d : List ℕ) → length d ≡ 6 → {r : Bool} → r ≡ all is_hex d → Decides ((length d ≡ 6) × T (all is_hex d)) r
tells-press d n {r} e = tells r (λ t. (n, subst T (sym (sym e ∙ t)) tt)) (λ x. e ∙ T_true _ x.1)

-- ---- six values

pub six-bytes : {a b c d e f : ℕ} → a < 256 → b < 256 → c < 256 → d < 256 → e < 256 → f < 256 → SixBytes (a ∷ b ∷ c ∷ d ∷ e ∷ f ∷ [])
six-bytes a b c d e f =
    record { six = refl; bytes = bytes-cons a (bytes-cons b (bytes-cons c (bytes-cons d (bytes-cons e (bytes-cons f bytes-nil))))) }

-- ---- widths

pub held_by : {w v : ℕ} {b : Bool} → Width w → Decides (v < 256 ^ w) b → Decides (Held w v) b
held_by k (holds h) = holds (record { known = k; below = h })
held_by k (fails f) = fails (λ h. f h.below)

-- of the widths that there are, what is not 1 or 2 is 4, which holds every number of 32 bits
pub held-four : {w v : ℕ} {b : Bool} → v < 256 ^ 4 → (w ≡ 1 → ⊥) → (w ≡ 2 → ⊥) → Decides (w ≡ 4) b → Decides (Held w v) b
held-four {w} {v} h n1 n2 (holds e) = holds (subst (λ (x : ℕ). Held x v) (sym e) (record { known = four; below = h }))
held-four h n1 n2 (fails n4) = fails (λ q. none n1 n2 n4 q.known)
  where
    none : {w : ℕ} → (w ≡ 1 → ⊥) → (w ≡ 2 → ⊥) → (w ≡ 4 → ⊥) → Width w → ⊥
    none a b c one = a refl
    none a b c two = b refl
    none a b c four = c refl

-- ---- a number of 16 bits with its sign

sixteen : (z : ℤ) → SFits w16 z → In 2 true z
sixteen (pos n) f = lower {n = n} (omega (arith, f.sfits))
sixteen (negsuc n) f = upper {n = n} (omega (arith, f.sfits))

-- two bytes hold it
pub holds-sixteen : (z : ℤ) → SFits w16 z → HeldBy 2 true z
holds-sixteen z f = in_held (size two) (sixteen z f)

-- ---- payloads and data

pub sized : {most : ℕ} {p : List ℕ} → length p ≤ most → Bytes p → BytesBetween 0 most p
sized h b = record { enough = omega arith; short = h; bytes = b }
