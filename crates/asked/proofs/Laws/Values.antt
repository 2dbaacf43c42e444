-- The text of a member's value; true and false; and numbers of refusals taken apart.
-- Assumes nothing.
use mathlib.Core.Bool.{Bool, true, false}
use mathlib.Core.List.{List, []}
use mathlib.Core.Path.{◌≡◌, refl, sym, ap, subst}
use Prim.Native.Nat.{ℕ, ◌≤◌}
use lib.ListN.{length}
use Rattle.std.specs.Prelude.{Ok, Err}
use Rattle.digits.specs.Paper.Ascii.{ascii}
use Rattle.digits.specs.Paper.Bytes.{part}
use Rattle.digits.specs.Paper.Part.{Ends}
use Rattle.digits.specs.Paper.Refusals.{First, after, refusal_order}
use Rattle.digits.specs.declared.refusal.Refusal.{Refusal}
use Rattle.digits.proofs.Laws.Refusals.{cause-at, cause-of, answered, some_number}
use Rattle.json_values.specs.Paper.Json as json
use Rattle.jsontext.specs.Paper.Members.{ValueCause, no_value, value_ends, ValueOf, FindsValue}
use Rattle.jsontext.specs.declared.members.Value.{Value}
use Rattle.jsontext.proofs.Theorems.{value-part}
use Rattle.shapes.specs.Paper.Fields.{Field, plain, truth}
use Rattle.asked.specs.Paper.Field.{Spells, as_plain, as-truth}
use Rattle.shapes.specs.Paper.Shapes.{IsOf, a-bool, bool}
use Rattle.asked.specs.Work.Got as got
use Rattle.asked.specs.declared.values.Reason.TheVariants.{NoValue}
use Rattle.asked.specs.Work.Got.{Reads, any, ValueIn}

-- no cause of a call that answers
pub not-4 : {Cause : ℕ → Type 0} → First Cause refusal_order 0 → Cause 4 → ⊥
not-4 (after a (after b (after c (after d (after e (after f (after g (after h (after i (after j (after four k))))))))))) = four

-- ---- the value of a member

-- it is a part of the text
pub record Taken (s n : List ℕ) (a b : ℕ) : Type 0 where
  pub order : a ≤ b
  pub inside : b ≤ length s
  pub is : ValueIn s n (part a b s)

pub value-at : {s n : List ℕ} {found : Value} → FindsValue s n (Ok found) → Taken s n found.from found.to
value-at {s} {n} {found} f = by (answered f refl)
  where
    a : ℕ
    a = found.from

    b : ℕ
    b = found.to

    by : ValueOf s n (record { from = a; to = b }) → Taken s n a b
    by v =
        let p = value-part v.object v.first in
        let x : a ≡ (value_ends s v.member).from = ap {B = ℕ} (λ (k : Ends). k.from) v.is in
        let y : b ≡ (value_ends s v.member).to = ap {B = ℕ} (λ (k : Ends). k.to) v.is in
        let t : part a b s ≡ v.member.value = rw (x, y) p.2 in
        record { order = rw (x, y) p.0; inside = rw y p.1; is = subst (ValueIn s n) (sym t) (got.ValueIn.is v.object v.first) }

pub no-value-at : {s n : List ℕ} (why : Refusal) → FindsValue s n (Err why) → ValueIn s n []
no-value-at {s} {n} why f = by (cause-at (cause-of f) (some_number why))
  where
    by : {k : ℕ} → ValueCause s n k → ValueIn s n []
    by (no_value g) = got.ValueIn.none g

-- ---- true and false

pub is-truth : {v : List ℕ} (b : Bool) → v ≡ json.truth b → Reads v bool any (Ok (plain (truth b)))
is-truth b e = got.Reads.is a-bool (as_plain (as-truth e)) tt

pub no_truth : {v : List ℕ} → (v ≡ ascii "true" → ⊥) → (v ≡ ascii "false" → ⊥) → Reads v bool any (Err NoValue)
no_truth {v} t f = got.Reads.none (λ g a x. by a x)
  where
    so : (b : Bool) → v ≡ json.truth b → ⊥
    so true e = t e
    so false e = f e

    by : {g : Field} → IsOf bool g → Spells v g → ⊥
    by a-bool (as_plain (as-truth {b = b} e)) = so b e
