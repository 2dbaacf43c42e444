-- The row of a text, by the kind and the msg that were read.
-- Assumes nothing.
use mathlib.Core.List.{List}
use mathlib.Core.Path.{◌≡◌, sym, subst}
use Prim.Native.Nat.{ℕ, zero, suc, ◌≤◌}
use native.Mathlib.Omega.{arith}
use lib.Dec.{leb, leb→le, le→leb}
use lib.IntN.{ℤ, pos, nat_abs}
use lib.ListN.{length, take}
use lib.Signed.{le_z_yes}
use Rattle.std.specs.Prelude.{Option, None, Ok, Err}
use Rattle.digits.specs.Paper.Ascii.{ascii}
use Rattle.digits.specs.Paper.Bytes.{part}
use Rattle.digits.proofs.Laws.Parts.{part-front}
use Rattle.numbers.proofs.Laws.Signs.{back}
use Rattle.shapes.specs.Paper.Fields.{◌∶◌, whole, chars, plain}
use Rattle.asked.specs.Paper.Field.{Spells, Has}
use Rattle.asked.specs.Paper.Means.{HeadOf}
use Rattle.shapes.specs.Paper.Shapes.{a-number, a-string, number, string, shapes, shape_at, number_field}
use Rattle.asked.specs.Work.Got.{Holds, Reads, between, up_to, ValueIn}
use Rattle.asked.specs.declared.values.Reason.{Reason}
use Rattle.asked.specs.Work.Rows.{row_named, RowOf}
use Rattle.asked.proofs.Laws.Casts.{as-count}
use Rattle.asked.proofs.Laws.Agree.{was_read, unread}
use Rattle.asked.proofs.Laws.Lift.{lifted, one_in, is_held}
use Rattle.shapes.proofs.Laws.Rows.{each_row}
use Rattle.asked.proofs.Laws.Named.{Placed, Found, at, nowhere, row-found}

-- ---- a row's kind and msg are within the limits of what reads them

kind-holds : (r : ℕ) → r ≤ 23 → Holds (between (pos 0) (pos 255)) (number_field (shape_at r).kind)
kind-holds r h = record { low = le_z_yes (le→leb 0 (shape_at r).kind (omega arith)); high = le_z_yes (each_row (λ j. leb (shape_at j).kind 255) tt r h) }

msg-holds : (r : ℕ) → r ≤ 23 → Holds (up_to 8) (plain (chars (shape_at r).msg))
msg-holds r h = leb→le (length (shape_at r).msg) 8 (each_row (λ j. leb (length (shape_at j).msg) 8) tt r h)

-- ---- the row

module _ {s v : List ℕ} {why : Reason} where
  pub no-kind-read : ValueIn s (ascii "kind") v → Reads v number (between (pos 0) (pos 255)) (Err why) → RowOf s None
  no-kind-read i x = RowOf.none (λ r h. unread (lifted i x) a-number (kind-holds r h.high) h.kind)

  pub no-msg-read : ValueIn s (ascii "msg") v → Reads v string (up_to 8) (Err why) → RowOf s None
  no-msg-read i x = RowOf.none (λ r h. unread (lifted i x) a-string (msg-holds r h.high) h.msg)

module _ {s : List ℕ} (k : ℕ) (n : List ℕ) (kind : Has Spells s (ascii "kind" ∶ number_field k)) (msg : Has Spells s (ascii "msg" ∶ plain (chars n))) where
  kind-of : (r : ℕ) → HeadOf s r → (shape_at r).kind ≡ k
  kind-of r h = let e : number_field (shape_at r).kind ≡ number_field k = one_in a-number a-number h.kind kind in cc

  msg-of : (r : ℕ) → HeadOf s r → (shape_at r).msg ≡ n
  msg-of r h = let e : plain (chars (shape_at r).msg) ≡ plain (chars n) = one_in a-string a-string h.msg msg in cc

  no-head : Found 1 shapes k n None → (r : ℕ) → HeadOf s r → ⊥
  no-head (nowhere f) zero h = omega (arith, h.low)
  no-head (nowhere f) (suc j) h = f j (omega (arith, h.high)) (kind-of (suc j) h) (msg-of (suc j) h)

  head_at : {r : ℕ} → Placed 1 shapes k n r → HeadOf s r
  head_at {r} p =
      let e : suc p.place ≡ r = omega (arith, p.is) in
      subst (HeadOf s) e
      (record {
        low = omega arith;
        high = omega (arith, p.inside);
        kind = subst (λ (x : ℕ). Has Spells s (ascii "kind" ∶ number_field x)) (sym p.kind) kind;
        msg = subst (λ (x : List ℕ). Has Spells s (ascii "msg" ∶ plain (chars x))) (sym p.msg) msg;
      })

  row_by : {r : Option ℕ} → Found 1 shapes k n r → RowOf s r
  row_by (at p) = RowOf.is (head_at p)
  row_by (nowhere f) = RowOf.none (no-head (nowhere f))

pub row_read : {s v w : List ℕ} {z : ℤ} {r : Option ℕ} (name : List ℕ) (len : ℕ) → ValueIn s (ascii "kind") v
    → Reads v number (between (pos 0) (pos 255)) (Ok (plain (whole z))) → ValueIn s (ascii "msg") w
    → Reads w string (up_to 8) (Ok (plain (chars (take len name)))) → r ≡ row_named (nat_abs (back z)) (part 0 len name) → RowOf s r
row_read {s} {z = z} name len i x j y f =
    let k : ℕ = nat_abs (back z) in
    let n : List ℕ = part 0 len name in
    let kind : Has Spells s (ascii "kind" ∶ number_field k) =
    subst (λ (q : ℤ). Has Spells s (ascii "kind" ∶ plain (whole q))) (as-count {m = 255} (omega arith) z (is_held x)) (was_read (lifted i x)).1 in
    let msg : Has Spells s (ascii "msg" ∶ plain (chars n)) =
    subst (λ (q : List ℕ). Has Spells s (ascii "msg" ∶ plain (chars q))) (sym (part-front len name)) (was_read (lifted j y)).1 in
    rw f (row_by k n kind msg (row-found k n))
