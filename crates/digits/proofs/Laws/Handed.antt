-- Parts of lent bytes that are handed back: the right one, a refused one, and that there is one only.
-- Assumes nothing.
use mathlib.Core.List.{List}
use mathlib.Core.Path.{◌≡◌, sym, ap, ◌∙◌, subst}
use Prim.Native.Nat.{ℕ, ◌+◌}
use native.Mathlib.Omega.{arith}
use denote.Ref.{Bor}
use Rattle.digits.specs.Paper.Bytes.{part}
use Rattle.digits.specs.Paper.Part.{Ends, zero_ends, IsPart, HandsPart}
use Rattle.digits.specs.Paper.Refusals.{refusal_number, refusal_order, First, answers, refuses}
use Rattle.digits.specs.declared.refusal.Refusal.{Refusal}
use Rattle.digits.proofs.Laws.Refusals.{some_number, one_answer}

-- where a part ends is one thing with where it begins
pub same_ends : {a b c d : ℕ} → a ≡ c → b ≡ d → ◌≡◌ {A = Ends} (record { from = a; to = b }) (record { from = c; to = d })
same_ends p q = rw (p, q)

-- a part begins at one place, an empty one too
pub one_place : {s r : Bor (List ℕ)} {d e : Ends} → IsPart s d r → IsPart s e r → d.from ≡ e.from
one_place a b = let e = ap (λ (i : ℕ × ℕ). i.1) (sym a.place ∙ b.place) in omega arith

-- the bytes between two places, at the first, by other names of the places
pub part_of : {s r : Bor (List ℕ)} {a b : ℕ} {e : Ends} → record { from = a; to = b } ≡ e → r.now ≡ part a b s.now
    → r.ref_ptr ≡ (s.ref_ptr.0, a + s.ref_ptr.1) → IsPart s e r
part_of {s} {r} p x y = subst (λ (i : Ends). IsPart s i r) p (record { bytes = x; place = y })

pub bytes-of : {s r : Bor (List ℕ)} {d e : Ends} → IsPart s d r → d ≡ e → r.now ≡ part e.from e.to s.now
bytes-of {s} i p = i.bytes ∙ ap (λ (e : Ends). part e.from e.to s.now) p

-- two parts from the one place to the other are the same bytes at the same place
pub same-part : {s r q : Bor (List ℕ)} {d e : Ends} → d ≡ e → IsPart s d r → IsPart s e q → (r.ref_ptr ≡ q.ref_ptr) × (r.now ≡ q.now)
same-part {s} p a b = (
  a.place ∙ ap (λ (i : Ends). (s.ref_ptr.0, i.from + s.ref_ptr.1)) p ∙ sym b.place,
  bytes-of a p ∙ sym b.bytes,
)

module _ {Cause : ℕ → Type 0} {Right : Ends → Type 0} {s r : Bor (List ℕ)} where
  pub hands-right : {e : Ends} → First Cause refusal_order 0 → Right e → IsPart s e r → HandsPart Cause Right s r
  hands-right {e} f x i = record { refusal = 0; ends = e; answer = answers f x; is = i }

  pub hands_none : (why : Refusal) → First Cause refusal_order (refusal_number why) → IsPart s zero_ends r → HandsPart Cause Right s r
  hands_none why f i = record { refusal = refusal_number why; ends = zero_ends; answer = refuses (some_number why) f; is = i }

  -- where only one part is right, two that are handed back are the same
  pub one-part : {q : Bor (List ℕ)} → ((d e : Ends) → Right d → Right e → d ≡ e) → HandsPart Cause Right s r → HandsPart Cause Right s q
      → (r.ref_ptr ≡ q.ref_ptr) × (r.now ≡ q.now)
  one-part one a b = same-part (one_answer one a.answer b.answer).1 a.is b.is
