-- The fields of a Homiq payload are the six that it was made of, so that no two have the same payload.
-- Assumes nothing.
use mathlib.Core.List.{List, [], ◌∷◌, ◌++◌, append_assoc}
use mathlib.Core.Path.{◌≡◌, refl, sym, ◌∙◌, ap}
use Prim.Native.Nat.{ℕ, suc}
use lib.Dec.{T}
use lib.ListN.{get_or}
use Rattle.digits.proofs.Laws.Decimal.{decimal-inj}
use Rattle.digits.proofs.Laws.Tests.{T_and}
use Rattle.digits.specs.Paper.Ascii.{ascii}
use Rattle.digits.specs.Paper.Decimal.{decimal}
use Rattle.layouts.proofs.Laws.Homiq.{type-chars}
use Rattle.layouts.proofs.Laws.HomiqFields.{char-bounds, decimal-chars}
use Rattle.layouts.specs.Paper.Chars.{all}
use Rattle.layouts.specs.Paper.Homiq.{field_char}
use Rattle.layouts.specs.Paper.Made.{Wire, Payload}
use Rattle.messages.specs.Paper.Homiq.{up_to, past, field_at}

-- ---- a field and what is behind it

field-there : (u t : List ℕ) → T (all field_char u) → up_to (u ++ 59 ∷ t) ≡ u
unfolding up_to all
field-there [] t h = refl
field-there (x ∷ u) t h =
    let q = T_and (field_char x) (all field_char u) h in
    rw ((char-bounds x q.0).1, field-there u t q.1)

field_past : (u t : List ℕ) → T (all field_char u) → past (u ++ 59 ∷ t) ≡ t
unfolding past all
field_past [] t h = refl
field_past (x ∷ u) t h =
    let q = T_and (field_char x) (all field_char u) h in
    rw (char-bounds x q.0).1 (field_past u t q.1)

field-last : (u : List ℕ) → T (all field_char u) → up_to u ≡ u
unfolding up_to all
field-last [] h = refl
field-last (x ∷ u) h =
    let q = T_and (field_char x) (all field_char u) h in
    rw ((char-bounds x q.0).1, field-last u q.1)

first-at : (u t : List ℕ) → T (all field_char u) → field_at 0 (u ++ 59 ∷ t) ≡ u
unfolding field_at
first-at u t h = field-there u t h

next-at : (n : ℕ) (u t : List ℕ) → T (all field_char u) → field_at (suc n) (u ++ 59 ∷ t) ≡ field_at n t
unfolding field_at
next-at n u t h = ap (field_at n) (field_past u t h)

-- ---- the six

-- what stands in a payload from each field on
abbrev from_id : Wire → List ℕ
from_id w = decimal w.id ++ 59 ∷ w.type ∷ []

abbrev from_dst : Wire → List ℕ
from_dst w = w.dst ++ 59 ∷ from_id w

abbrev from_src : Wire → List ℕ
from_src w = w.src ++ 59 ∷ from_dst w

abbrev from_val : Wire → List ℕ
from_val w = w.val ++ 59 ∷ from_src w

module _ {s : List ℕ} {w : Wire} (p : Payload s w) where
  from-cmd : s ≡ w.cmd ++ 59 ∷ from_val w
  from-cmd = p.laid ∙ spread (ascii ";") w.cmd w.val w.src w.dst (decimal w.id) (w.type ∷ [])
    where
      spread : (z a b c d e t : List ℕ) → a ++ z ++ b ++ z ++ c ++ z ++ d ++ z ++ e ++ z ++ t ≡ a ++ (z ++ (b ++ (z ++ (c ++ (z ++ (d ++ (z ++ (e ++ (z ++ t)))))))))
      spread z a b c d e t = simp append_assoc

  from-val : (n : ℕ) → field_at (suc n) s ≡ field_at n (from_val w)
  from-val n = ap (field_at (suc n)) from-cmd ∙ next-at n w.cmd (from_val w) p.limits.cmd.chars

  from-src : (n : ℕ) → field_at (suc (suc n)) s ≡ field_at n (from_src w)
  from-src n = from-val (suc n) ∙ next-at n w.val (from_src w) p.limits.val.chars

  from-dst : (n : ℕ) → field_at (suc (suc (suc n))) s ≡ field_at n (from_dst w)
  from-dst n = from-src (suc n) ∙ next-at n w.src (from_dst w) p.limits.src.chars

  from-id : (n : ℕ) → field_at (suc (suc (suc (suc n)))) s ≡ field_at n (from_id w)
  from-id n = from-dst (suc n) ∙ next-at n w.dst (from_id w) p.limits.dst.chars

  pub payload-cmd : field_at 0 s ≡ w.cmd
  payload-cmd = ap (field_at 0) from-cmd ∙ first-at w.cmd (from_val w) p.limits.cmd.chars

  pub payload-val : field_at 1 s ≡ w.val
  payload-val = from-val 0 ∙ first-at w.val (from_src w) p.limits.val.chars

  pub payload-src : field_at 2 s ≡ w.src
  payload-src = from-src 0 ∙ first-at w.src (from_dst w) p.limits.src.chars

  pub payload-dst : field_at 3 s ≡ w.dst
  payload-dst = from-dst 0 ∙ first-at w.dst (from_id w) p.limits.dst.chars

  pub payload-id : field_at 4 s ≡ decimal w.id
  payload-id = from-id 0 ∙ first-at (decimal w.id) (w.type ∷ []) (decimal-chars w.id)

  pub payload-type : field_at 5 s ≡ w.type ∷ []
  unfolding field_at
  payload-type =
      from-id 1 ∙ next-at 0 (decimal w.id) (w.type ∷ []) (decimal-chars w.id)
      ∙ field-last (w.type ∷ []) (type-chars w.type p.limits.type)

abbrev make : List ℕ → List ℕ → List ℕ → List ℕ → ℕ → ℕ → Wire
make a b c d e f = record { cmd = a; val = b; src = c; dst = d; id = e; type = f }

-- NO TWO SIX FIELDS WITHIN THE LIMITS HAVE THE SAME PAYLOAD
pub one-wire : {s : List ℕ} {v w : Wire} → Payload s v → Payload s w → v ≡ w
one-wire {s} {v} {w} p q =
    same (sym (payload-cmd p) ∙ payload-cmd q) (sym (payload-val p) ∙ payload-val q) (sym (payload-src p) ∙ payload-src q)
    (sym (payload-dst p) ∙ payload-dst q) (decimal-inj v.id w.id (sym (payload-id p) ∙ payload-id q))
    (ap (λ (l : List ℕ). get_or l 0 0) (sym (payload-type p) ∙ payload-type q))
  where
    same : {a a' b b' c c' d d' : List ℕ} {e e' f f' : ℕ} → a ≡ a' → b ≡ b' → c ≡ c' → d ≡ d' → e ≡ e' → f ≡ f'
        → make a b c d e f ≡ make a' b' c' d' e' f'
    same p q r s t u = rw (p, q, r, s, t, u)
