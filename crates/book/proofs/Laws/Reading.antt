-- What stands at a place of a book: numbers, the head of an entry, and the entry.
-- Assumes nothing.
use mathlib.Core.Bool.{Bool, true, false}
use mathlib.Core.List.{List, [], ◌∷◌, ◌++◌}
use mathlib.Core.Path.{◌≡◌, refl, sym, ap, ap₂, ◌∙◌}
use Prim.Native.Nat.{ℕ, zero, suc, ◌+◌, ◌-◌, ◌*◌, ◌/◌, ◌%◌, ◌^◌, ◌≤◌, ◌<◌}
use native.Mathlib.Nat.{pow-suc, mul_right_comm, zero-add, suc-add}
use native.Mathlib.Omega.{arith}
use borrow.Author.Tests.{eqb-true, eqb-false}
use lib.Dec.{eqb}
use lib.ListN.{length, get_or, take, drop, length-append}
use Rattle.digits.specs.Paper.Bytes.{Bytes, part}
use Rattle.digits.specs.Paper.LowFirst.{low_byte_first}
use Rattle.digits.specs.Paper.Read.{Decides, holds, fails}
use Rattle.digits.proofs.Laws.LowFirst.{length-low, low-inj, low-bytes}
use Rattle.digits.proofs.Laws.Parts.{length_part, part_join, ats, take-ats}
use Rattle.std.specs.Int.{bytes_low_first}
use Rattle.layouts.proofs.Laws.Heads.{cut-same}
use Rattle.book.specs.Paper.Book.{Entry, head, entry_bytes}
use Rattle.book.specs.Work.Reading.{NumberAt, Heads}
use Rattle.book.proofs.Laws.Layout.{length-head, length-entry}

-- ---- parts

-- a part that is two lists one behind the other, cut between them
pub part_cut : (a m e : ℕ) (s x y : List ℕ) → a ≤ m → m ≤ e → e ≤ length s → length x ≡ m - a → part a e s ≡ x ++ y → (part a m s ≡ x) × (part m e s ≡ y)
part_cut a m e s x y h k l n same =
    let few : m ≤ length s = omega arith in
    cut-same (part a m s) x (part m e s) y (length_part a m s h few ∙ sym n) (part_join a m e s h k ∙ same)

-- ---- numbers

-- two numbers one behind the other are one of both widths
low-join : (v w a b : ℕ) → a < 256 ^ v → low_byte_first (v + w) (a + 256 ^ v * b) ≡ low_byte_first v a ++ low_byte_first w b
unfolding low_byte_first
low-join zero w a b h =
    let n : a + 256 ^ 0 * b ≡ b = omega arith in
    ap₂ low_byte_first (zero-add w) n
low-join (suc v) w a b h =
    let x = 256 ^ v * b in
    let p : 256 ^ suc v * b ≡ x * 256 = ap (λ (y : ℕ). y * b) (pow-suc 256 v) ∙ mul_right_comm (256 ^ v) 256 b in
    let few : a / 256 < 256 ^ v = omega (arith, pow-suc 256 v) in
    let first : (a + 256 ^ suc v * b) % 256 ≡ a % 256 = omega (arith, p) in
    let others : (a + 256 ^ suc v * b) / 256 ≡ a / 256 + x = omega (arith, p) in
    rw (suc-add v w, first, others, low-join v w (a / 256) b few)

pub byte_at : (s : List ℕ) (at : ℕ) → Bytes s → at < length s → NumberAt s at 1 (get_or s at 0)
unfolding low_byte_first
byte_at s at b h =
    let w : (at + 1) - at ≡ 1 = omega arith in
    let n : get_or s at 0 % 256 ≡ get_or s at 0 = omega (arith, b.each at) in
    record { bytes = ap (λ (x : ℕ). take x (drop at s)) w ∙ take-ats s 1 at (omega arith) ∙ ap (λ (x : ℕ). x ∷ []) (sym n) }

-- the number that so many bytes are
pub number-of-bytes : (k : ℕ) {s : List ℕ} {at n : ℕ} → at + k ≤ length s → bytes_low_first 0 k n ≡ ats s at k → NumberAt s at k n
number-of-bytes k {s} {at} {n} h e =
    let w : (at + k) - at ≡ k = omega arith in
    record { bytes = ap (λ (x : ℕ). take x (drop at s)) w ∙ take-ats s k at h ∙ sym e ∙ low-bytes k n }

pub numbers-join : {s : List ℕ} {at : ℕ} (v w : ℕ) {a b : ℕ} → a < 256 ^ v → NumberAt s at v a → NumberAt s (at + v) w b → NumberAt s at (v + w) (a + 256 ^ v * b)
numbers-join {s} {at} v w {a} {b} h p q =
    let e : at + v + w ≡ at + (v + w) = omega arith in
    record {
      bytes =
          ap (λ (x : ℕ). part at x s) (sym e) ∙ sym (part_join at (at + v) (at + v + w) s (omega arith) (omega arith))
          ∙ ap (λ (t : List ℕ). t ++ part (at + v) (at + v + w) s) p.bytes ∙ ap (λ (t : List ℕ). low_byte_first v a ++ t) q.bytes ∙ sym (low-join v w a b h);
    }

-- there is one number of a width at a place
pub one_number : {s : List ℕ} {at w m n : ℕ} → m < 256 ^ w → n < 256 ^ w → NumberAt s at w m → NumberAt s at w n → m ≡ n
one_number {w = w} {m} {n} h k p q = low-inj w m n h k (sym p.bytes ∙ q.bytes)

-- whether the bytes are those of n: whether the number that they are is n, which is k
pub compared : {s : List ℕ} {at w m n k : ℕ} → m < 256 ^ w → n < 256 ^ w → NumberAt s at w m → k ≡ n → Decides (part at (at + w) s ≡ low_byte_first w n) (eqb m k)
compared {s} {at} {w} {m} {n} {k} h l p q = go (eqb m k) refl
  where
    go : (b : Bool) → eqb m k ≡ b → Decides (part at (at + w) s ≡ low_byte_first w n) b
    go true e = holds (p.bytes ∙ ap (low_byte_first w) (eqb-true m k e ∙ q))
    go false e = fails (λ same. eqb-false m k e (one_number h l p (record { bytes = same }) ∙ sym q))

-- ---- the head

pub heads : {s : List ℕ} {at kind from n to : ℕ} → from ≡ at + 3 → kind < 256 → n < 65536 → to ≡ from + n → NumberAt s at 1 kind → NumberAt s (at + 1) 2 n
    → Heads s at kind from to
heads {s} {at} {kind} {from} {n} {to} e h l t p q =
    let m : n ≡ to - from = omega arith in
    let z : at + 1 + 2 ≡ from = omega arith in
    record {
      from_is = e;
      forward = omega arith;
      kind-byte = h;
      size = omega arith;
      bytes =
          ap (λ (x : ℕ). part at x s) (sym z) ∙ sym (part_join at (at + 1) (at + 1 + 2) s (omega arith) (omega arith))
          ∙ ap (λ (t : List ℕ). t ++ part (at + 1) (at + 1 + 2) s) p.bytes ∙ ap (λ (t : List ℕ). low_byte_first 1 kind ++ t) q.bytes
          ∙ ap (λ (x : ℕ). low_byte_first 1 kind ++ low_byte_first 2 x) m;
    }

-- an entry that stands at a place has the head that stands there
pub headed : {s : List ℕ} {at end kind from to : ℕ} {e : Entry} {rest : List ℕ} → Heads s at kind from to → at ≤ end → end ≤ length s → length s ≤ 65536
    → e.kind < 256 → part at end s ≡ entry_bytes e ++ rest
    → (kind ≡ e.kind) × (to ≡ at + length (entry_bytes e)) × (to ≤ end) × (part from to s ≡ e.frame) × (part to end s ≡ rest)
unfolding entry_bytes head
headed {s} {at} {end} {kind} {from} {to} {e} {rest} h below inside small byte same =
    let f = e.frame in
    let n = length f in
    let there = at + length (entry_bytes e) in
    let sizes : end - at ≡ 3 + n + length rest =
    omega (arith, sym (length_part at end s below inside), ap length same, length-append (entry_bytes e) rest, length-entry e) in
    let from_is : from ≡ at + 3 = h.from_is in
    let away = part_cut at there end s (entry_bytes e) rest (omega arith) (omega (arith, length-entry e)) inside (omega arith) same in
    let cut = part_cut at from there s (head e) f (omega arith) (omega (arith, length-entry e)) (omega (arith, length-entry e)) (omega (arith, length-head e)) away.0 in
    let two = cut-same (low_byte_first 1 kind) (low_byte_first 1 e.kind) (low_byte_first 2 (to - from)) (low_byte_first 2 n) (length-low 1 kind ∙ sym (length-low 1 e.kind)) (sym h.bytes ∙ cut.0) in
    let kinds : kind ≡ e.kind = low-inj 1 kind e.kind h.kind-byte byte two.0 in
    let lengths : to - from ≡ n = low-inj 2 (to - from) n h.size (omega arith) two.1 in
    let forth : from ≤ to = h.forward in
    let to_is : to ≡ at + length (entry_bytes e) = omega (arith, length-entry e) in (
      kinds,
      to_is,
      omega (arith, length-entry e),
      ap (λ (x : ℕ). part from x s) to_is ∙ cut.1,
      ap (λ (x : ℕ). part x end s) to_is ∙ away.1,
    )
