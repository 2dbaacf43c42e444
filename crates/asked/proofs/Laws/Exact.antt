-- Lists that have to have so many elements: from what was read into a room of that size.
-- Assumes nothing.
use mathlib.Core.Bool.{Bool, true, false}
use mathlib.Core.List.{List, [], ◌∷◌}
use mathlib.Core.Path.{◌≡◌, refl, sym, ap, subst, ◌∙◌}
use Prim.Native.Nat.{ℕ, ◌+◌, ◌*◌, ◌/◌, ◌%◌, ◌≤◌, ◌<◌}
use native.Mathlib.Omega.{arith}
use lib.Dec.{T}
use lib.ListN.{length, get_or, take}
use lib.Seq.{length-take-le, take_all}
use Rattle.std.specs.Prelude.{Result, Ok, Err, IfOk}
use Rattle.digits.specs.Paper.Bytes.{Bytes}
use Rattle.digits.specs.Paper.Read.{Decides}
use Rattle.digits.proofs.Laws.Tests.{told, untold}
use Rattle.layouts.specs.Paper.Chars.{all, is_hex}
use Rattle.lines.specs.Paper.Line.{high_byte_first}
use Rattle.shapes.specs.Paper.Fields.{Field, plain, reading, whole, hex, chars, truth}
use Rattle.asked.specs.Paper.Field.{Spells, as_plain, as-hex}
use Rattle.shapes.specs.Paper.Shapes.{Sort, IsOf, some_bytes, some-digits, a-content, a-string, bytes, digits, content, string}
use Rattle.asked.specs.Work.Got as got
use Rattle.asked.specs.Work.Got.{Reads, up_to, any, list_in, exact_of, mapped}
use Rattle.asked.specs.declared.values.Reason.{Reason}
use Rattle.asked.specs.declared.values.Reason.TheVariants.{NoValue}
use Rattle.asked.proofs.Laws.Lift.{one-spelt, read-at}
use Rattle.asked.proofs.Laws.Results.{ok-value, no-answer, exact-are, inexact}

-- ---- of one sort, and of n elements of it

module _ {v : List ℕ} {wide narrow : Sort} {n : ℕ} (widen : (g : Field) → IsOf narrow g → IsOf wide g × (length (list_in g) ≡ n)) where
  -- what was not read, or is another field, is none
  pub unread : {r : Result Field Reason} → Reads v wide (up_to n) r → ((h : Field) → IsOf narrow h → r ≡ Ok h → ⊥) → Reads v narrow any (Err NoValue)
  unread x other = got.Reads.none (by x other)
    where
      by : {r : Result Field Reason} → Reads v wide (up_to n) r → ((h : Field) → IsOf narrow h → r ≡ Ok h → ⊥) → (h : Field) → IsOf narrow h → Spells v h → ⊥
      by (got.Reads.is i x l) other h j y = other h j (ap Ok (one-spelt i (widen h j).0 x y))
      by (got.Reads.large {g = g} i x l) other h j y =
          let e : length (list_in g) ≡ length (list_in h) = ap (λ (k : Field). length (list_in k)) (one-spelt i (widen h j).0 x y) in
          l (omega (arith, (widen h j).1))
      by (got.Reads.none k) other h j y = k h (widen h j).0 y

  -- so many elements that were read
  module _ (field : ℕ → Field) where
    pub exactly : {r : Result ℕ Reason} → Reads v wide (up_to n) (mapped field r) → r ≡ Ok n → Spells v (field n)
    exactly x e = by (read-at field x e)
      where
        by : {f : Field} → Reads v wide (up_to n) (Ok f) → Spells v f
        by (got.Reads.is i x l) = x

    -- any other number is none
    pub not-exactly : ((k : ℕ) → k ≤ n → length (list_in (field k)) ≡ k) → (r : Result ℕ Reason) → IfOk r (λ k. k ≤ n)
        → Reads v wide (up_to n) (mapped field r) → (r ≡ Ok n → ⊥) → Reads v narrow any (Err NoValue)
    not-exactly sized (Ok k) within x other =
        unread x
        (λ h j e.
        let f : field k ≡ h = ok-value e in
        let l : k ≡ n = sym (sized k within) ∙ ap (λ (w : Field). length (list_in w)) f ∙ (widen h j).1 in
        other (ap Ok l))
    not-exactly sized (Err w) within x other = unread x (λ h j e. no-answer (sym e))

-- ---- bytes

bytes-content : {n : ℕ} (g : Field) → IsOf (bytes n) g → IsOf content g × (length (list_in g) ≡ n)
bytes-content (plain (whole _)) a = elim a [ ]
bytes-content (plain (chars _)) a = elim a [ ]
bytes-content (plain (truth _)) a = elim a [ ]
bytes-content (reading _ _) a = elim a [ ]
bytes-content (plain (hex p)) (some_bytes e) = (a-content, e)

-- so many bytes, at the front of a room for as many
module _ (later : List ℕ) (r : Result ℕ Reason) {v : List ℕ} {n : ℕ} (x : Reads v content (up_to n) (mapped (λ k. plain (hex (take k later))) r))
    (bounds : IfOk r (λ k. k ≤ n) × (length later ≡ n)) where
  pub some-content : {g : List ℕ} {u : Unit} {q : Result Unit Reason} → q ≡ exact_of r n → q ≡ Ok u → (Bytes later → later ≡ g)
      → Reads v (bytes n) any (Ok (plain (hex g)))
  some-content {g} e f so = by (exactly bytes-content (λ k. plain (hex (take k later))) x (exact-are r n (sym e ∙ f)))
    where
      all : take n later ≡ later
      all = take_all n later (omega (arith, bounds.1))

      by : Spells v (plain (hex (take n later))) → Reads v (bytes n) any (Ok (plain (hex g)))
      by (as_plain (as-hex b y)) =
          let s : later ≡ g = so (subst Bytes all b) in
          got.Reads.is (some_bytes (sym (ap length s) ∙ bounds.1))
          (subst (λ (p : List ℕ). Spells v (plain (hex p))) (all ∙ s) (as_plain (as-hex b y))) tt

  pub no-content : {why : Reason} {q : Result Unit Reason} → q ≡ exact_of r n → q ≡ Err why → Reads v (bytes n) any (Err why)
  no-content e f =
      let (w, other) = inexact r n (sym e ∙ f) in
      rw w (not-exactly bytes-content (λ k. plain (hex (take k later))) (λ k l. length-take-le k later (omega (arith, bounds.1))) r bounds.0 x other)

  pub content-so : (q : Result Unit Reason) → q ≡ exact_of r n → Reads v (bytes n) any (mapped (λ (u : Unit). plain (hex later)) q)
  content-so (Ok u) e = some-content {u = u} e refl (λ b. refl)
  content-so (Err w) e = no-content e refl

-- two bytes are an address
pub high-first : (s : List ℕ) (a : ℕ) → length s ≡ 2 → a ≡ get_or s 0 0 * 256 + get_or s 1 0 → Bytes s → s ≡ high_byte_first a
high-first [] a h e b = absurd (omega arith)
high-first (x ∷ []) a h e b = absurd (omega arith)
high-first (x ∷ y ∷ []) a h e b =
    let l : y < 256 = b.each 1 in
    let p : x ≡ a / 256 = omega arith in
    let q : y ≡ a % 256 = omega arith in
    cc
high-first (x ∷ y ∷ z ∷ s) a h e b = absurd (omega arith)

-- ---- digits

digits-string : {n : ℕ} (g : Field) → IsOf (digits n) g → IsOf string g × (length (list_in g) ≡ n)
digits-string (plain (whole _)) a = elim a [ ]
digits-string (plain (hex _)) a = elim a [ ]
digits-string (plain (truth _)) a = elim a [ ]
digits-string (reading _ _) a = elim a [ ]
digits-string (plain (chars p)) (some-digits e t) = (a-string, e)

-- so many digits, at the front of a room for as many
module _ (later : List ℕ) (r : Result ℕ Reason) {v : List ℕ} {n : ℕ} (x : Reads v string (up_to n) (mapped (λ k. plain (chars (take k later))) r))
    (bounds : IfOk r (λ k. k ≤ n) × (length later ≡ n)) {are : Bool} (tested : Decides (T (all is_hex later)) are) where
  pub some_digits : {g : List ℕ} {u : Unit} {q : Result Unit Reason} → are ≡ true → q ≡ exact_of r n → q ≡ Ok u → later ≡ g
      → Reads v (digits n) any (Ok (plain (chars g)))
  some_digits {g} y e f s =
      got.Reads.is (some-digits (sym (ap length s) ∙ bounds.1) (subst (λ (p : List ℕ). T (all is_hex p)) s (told tested y)))
      (subst (λ (p : List ℕ). Spells v (plain (chars p))) (take_all n later (omega (arith, bounds.1)) ∙ s)
      (exactly digits-string (λ k. plain (chars (take k later))) x (exact-are r n (sym e ∙ f)))) tt

  pub too-few : {why : Reason} {q : Result Unit Reason} → q ≡ exact_of r n → q ≡ Err why → Reads v (digits n) any (Err why)
  too-few e f =
      let (w, other) = inexact r n (sym e ∙ f) in
      rw w (not-exactly digits-string (λ k. plain (chars (take k later))) (λ k l. length-take-le k later (omega (arith, bounds.1))) r bounds.0 x other)

  pub digits-so : are ≡ true → (q : Result Unit Reason) → q ≡ exact_of r n → Reads v (digits n) any (mapped (λ (u : Unit). plain (chars later)) q)
  digits-so y (Ok u) e = some_digits {u = u} y e refl refl
  digits-so y (Err w) e = too-few e refl

  pub no-digits : are ≡ false → Reads v (digits n) any (Err NoValue)
  no-digits y = by r x bounds.0
    where
      no : {k : ℕ} → k ≤ n → (h : Field) → IsOf (digits n) h → plain (chars (take k later)) ≡ h → ⊥
      no l (plain (whole _)) a s = elim a [ ]
      no l (plain (hex _)) a s = elim a [ ]
      no l (plain (truth _)) a s = elim a [ ]
      no l (reading _ _) a s = elim a [ ]
      no {k} l (plain (chars d)) (some-digits m t) s =
          let p : take k later ≡ d = cc in
          let w : length (take k later) ≡ k = length-take-le k later (omega (arith, bounds.1)) in
          let f : take k later ≡ later = take_all k later (omega (arith, ap length p, bounds.1)) in
          untold tested y (subst (λ (x : List ℕ). T (all is_hex x)) (sym p ∙ f) t)

      by : (r : Result ℕ Reason) → Reads v string (up_to n) (mapped (λ k. plain (chars (take k later))) r) → IfOk r (λ k. k ≤ n) → Reads v (digits n) any (Err NoValue)
      by (Ok k) x l = unread digits-string x (λ h j e. no l h j (ok-value e))
      by (Err w) x l = unread digits-string x (λ h j e. no-answer (sym e))
