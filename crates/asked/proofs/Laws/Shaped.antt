-- A row's members, read one by one.
-- Assumes nothing.
use mathlib.Core.Bool.{true≢false, false}
use mathlib.Core.List.{List, [], ◌∷◌}
use mathlib.Core.Path.{◌≡◌, refl, sym, ap, ◌∙◌, subst}
use Prim.Native.Nat.{ℕ, ◌≤◌}
use native.Mathlib.Omega.{arith}
use Rattle.std.specs.Prelude.{Result, Ok, Err}
use lib.IntN.{ℤ, pos, negsuc, nat_abs}
use mir.Syntax.{w16}
use mir.Val.{to_z, of_z}
use lib.ListN.{length, take, length-take}
use Rattle.digits.proofs.Laws.Hex.{length-hex}
use Rattle.digits.proofs.Laws.Parts.{part-front}
use Rattle.digits.specs.Paper.Bytes.{Bytes, part}
use Rattle.digits.specs.Paper.Hex.{hex_bytes}
use Rattle.puts.proofs.Laws.Puts.{put-length, puts-as, front-count, front_bytes}
use Rattle.puts.specs.Paper.Put.{Put}
use Rattle.messages.proofs.Laws.Links as links
use Rattle.messages.proofs.Laws.Says.{one-said}
use Rattle.messages.specs.Paper.Message.{Message, link, row}
use Rattle.messages.specs.Paper.Says.{Says, of_nikobus, a-link, another}
use Rattle.messages.specs.declared.Message.{Message as Coded}
use Rattle.messages.specs.declared.Message.TheVariants.{Nikobus as OnNikobus}
use Rattle.messages.specs.declared.nikobus.Nikobus.{Nikobus}
use Rattle.messages.specs.declared.nikobus.Nikobus.TheVariants.{Link}
use Rattle.numbers.proofs.Laws.Signs.{back}
use Rattle.shapes.specs.Paper.Fields.{Field, plain, whole, hex, reading}
use Rattle.asked.specs.Paper.Field.{as_plain, as-hex}
use Rattle.asked.specs.Paper.Answers.{beside}
use Rattle.shapes.specs.Paper.Shapes.{Sort, number, content, measured, a-content, shape_at, number_field, fields_of}
use Rattle.asked.specs.Paper.Means.{state_row}
use Rattle.asked.specs.Work.Draft.{Drafts}
use Rattle.asked.specs.Work.Draft as draft
use Rattle.asked.specs.Work.Got.{Slot, slot, between, up_to, Reads, ReadsIn, ReadsAll, ValueIn, mapped, both, joined}
use Rattle.asked.specs.declared.Draft.{Draft}
use Rattle.asked.specs.declared.values.Reason.{Reason}
use Rattle.asked.specs.Work.Got as got
use Rattle.asked.proofs.Laws.Casts.{as-count, as-signed}
use Rattle.asked.proofs.Laws.Drafts.{SaysRow, drafted, members_of}
use Rattle.asked.proofs.Laws.Lift.{lifted, is_held}
use Rattle.asked.proofs.Laws.Rebuilt.{built}
use Rattle.asked.proofs.Laws.Slots.{slots_at}

-- members one behind the other, as their answers are joined
pub more : {A B : Type 0} (f : A → Field) (g : B → List Field) (a : Result A Reason) (b : Result B Reason) {s : List ℕ} {i : Slot} {is : List Slot}
    {r : Result (A × B) Reason} → ReadsIn s i (mapped f a) → ReadsAll s is (mapped g b) → r ≡ joined a b
    → ReadsAll s (i ∷ is) (mapped (λ (p : A × B). f p.0 ∷ g p.1) r)
more {A} {B} f g a b {s} {i} {is} x y e = rw e (subst (ReadsAll s (i ∷ is)) (same a b) (got.and x y))
  where
    same : (a : Result A Reason) (b : Result B Reason) → both ◌∷◌ (mapped f a) (mapped g b) ≡ mapped (λ (p : A × B). f p.0 ∷ g p.1) (joined a b)
    same (Ok x) (Ok y) = refl
    same (Ok x) (Err w) = refl
    same (Err w) (Ok y) = refl
    same (Err w) (Err u) = refl

pub last : {A : Type 0} (f : A → Field) (a : Result A Reason) {s : List ℕ} {i : Slot} → ReadsIn s i (mapped f a)
    → ReadsAll s (i ∷ []) (mapped (λ (x : A). f x ∷ []) a)
last {A} f a {s} {i} x = subst (ReadsAll s (i ∷ [])) (same a) (got.and x got.none)
  where
    same : (a : Result A Reason) → both ◌∷◌ (mapped f a) (Ok []) ≡ mapped (λ (x : A). f x ∷ []) a
    same (Ok x) = refl
    same (Err w) = refl

pub all-at : {A : Type 0} (f : A → List Field) {s : List ℕ} {is : List Slot} {r q : Result A Reason} → ReadsAll s is (mapped f r) → r ≡ q
    → ReadsAll s is (mapped f q)
all-at f {s} {is} x e = subst (λ i. ReadsAll s is (mapped f i)) e x

-- a whole number and a reading, cast as the message has it
module _ {s n v : List ℕ} {m : ℕ} (small : m ≤ 4294967295) (value : ValueIn s n v) where
  pub numbered : (r : Result ℤ Reason) → Reads v number (between (pos 0) (pos m)) (mapped (λ z. plain (whole z)) r)
      → ReadsIn s (slot n number (between (pos 0) (pos m))) (mapped (λ z. number_field (nat_abs (back z))) r)
  numbered (Ok z) x =
      subst (λ (y : ℤ). ReadsIn s (slot n number (between (pos 0) (pos m))) (Ok (plain (whole y)))) (as-count small z (is_held x)) (lifted value x)
  numbered (Err w) x = lifted value x

  pub measuring : (d : ℕ) (r : Result ℤ Reason) → Reads v (measured d) (between (pos 0) (pos m)) (mapped (λ z. reading z d) r)
      → ReadsIn s (slot n (measured d) (between (pos 0) (pos m))) (mapped (λ z. reading (pos (nat_abs (back z))) d) r)
  measuring d (Ok z) x =
      subst (λ (y : ℤ). ReadsIn s (slot n (measured d) (between (pos 0) (pos m))) (Ok (reading y d))) (as-count small z (is_held x)) (lifted value x)
  measuring d (Err w) x = lifted value x

-- ---- the message that is said

-- a message of the row that e says, with its fields, is the only one
pub said_row : {r : ℕ} {fs : List Field} {bytes : List ℕ} {e : Coded} {len : ℕ} (m : Message) → row m ≡ r → fields_of m ≡ fs
    → len ≤ length bytes → Says e (take len bytes) m → beside m ≡ take len bytes → SaysRow r bytes e len fs
said_row {r} {fs} {bytes} {e} {len} m p q h x b =
    record {
      within = h;
      some = record { message = m; says = x };
      to = λ n i j l. subst (Says e (take len bytes)) (built m p q ∙ sym (built n i j)) x;
      from = λ n y. let k = one-said e (take len bytes) m n x y in (ap row (sym k) ∙ p, ap fields_of (sym k) ∙ q);
      stands = λ n y. ap beside (one-said e (take len bytes) n m y x) ∙ b;
    }

-- a Nikobus message beside which nothing stands
pub fixed : (e : Nikobus) → links.is_link e ≡ false → (s : List ℕ) → Says (OnNikobus e) s (of_nikobus e [])
fixed e h s = another (λ i. true≢false (ap links.is_link (sym i) ∙ h)) refl

-- ---- where nothing stands beside, the content does not matter
pub without : {s : List ℕ} {r : ℕ} {q : Result Draft Reason} (bytes : List ℕ) → Drafts s r [] q → Drafts s r bytes q
without bytes (draft.is {d = d} h x) =
    let i : d.len ≡ 0 = omega (arith, x.within) in
    let k : take d.len [] ≡ take d.len bytes = subst (λ (n : ℕ). take n [] ≡ take n bytes) (sym i) refl in
    draft.is h
    (record {
      within = omega (arith, i);
      some = record { message = x.some.message; says = subst (λ (c : List ℕ). Says d.message c x.some.message) k x.some.says };
      to = λ m y l. subst (λ (c : List ℕ). Says d.message c m) k (x.to m y l);
      from = λ m y. x.from m (subst (λ (c : List ℕ). Says d.message c m) (sym k) y);
      stands = λ m y. x.stands m (subst (λ (c : List ℕ). Says d.message c m) (sym k) y) ∙ k;
    })
without bytes (draft.outside h n) = draft.outside h n
without bytes (draft.none n) = draft.none n

-- a message without members
pub bare : {s : List ℕ} (r : ℕ) (m : Message) {f : Coded} {d : Draft} (bytes : List ℕ) → members_of (slots_at r) ≡ (shape_at r).members → slots_at r ≡ []
    → (r ≡ state_row → ⊥) → row m ≡ r → fields_of m ≡ [] → beside m ≡ [] → ((c : List ℕ) → Says f c m) → (d.message ≡ f) × (d.len ≡ 0) → Drafts s r bytes (Ok d)
bare {s} r m {f} {d} bytes same empty other p q b says (y, z) =
    drafted r same other (λ (l : List Field). l) {a = Ok []} (subst (λ (l : List Slot). ReadsAll s l (Ok [])) (sym empty) got.none) refl
    (rw (y, z) (said_row m p q (omega arith) (says (take 0 bytes)) b))

-- a row by its number
pub at_row : {s : List ℕ} {r q : ℕ} {bytes : List ℕ} {d : Result Draft Reason} → q ≡ r → Drafts s r bytes d → Drafts s q bytes d
at_row {s} {bytes = bytes} {d} i x = subst (λ (n : ℕ). Drafts s n bytes d) (sym i) x

-- a limit by another name
pub resized : {v : List ℕ} {sort : Sort} {r : Result Field Reason} {a b : ℕ} → a ≡ b → Reads v sort (up_to a) r → Reads v sort (up_to b) r
resized {v} {sort} {r} e x = subst (λ (n : ℕ). Reads v sort (up_to n) r) e x

-- a reading of 16 bits with its sign
pub measuring-signed : {s n v : List ℕ} → ValueIn s n v → (d : ℕ) (r : Result ℤ Reason)
    → Reads v (measured d) (between (negsuc 32767) (pos 32767)) (mapped (λ z. reading z d) r)
    → ReadsIn s (slot n (measured d) (between (negsuc 32767) (pos 32767))) (mapped (λ z. reading (to_z w16 (of_z w16 (back z))) d) r)
measuring-signed {s} {n} value d (Ok z) x =
    subst (λ (y : ℤ). ReadsIn s (slot n (measured d) (between (negsuc 32767) (pos 32767))) (Ok (reading y d))) (as-signed z (is_held x)) (lifted value x)
measuring-signed value d (Err w) x = lifted value x

-- the bytes of a content that was read
pub read-bytes : {v p : List ℕ} {l : got.Limit} → Reads v content l (Ok (plain (hex p))) → Bytes p
read-bytes (got.is a-content (as_plain (as-hex b x)) h) = b

-- a link, its digits put at the front of the content
pub linked : (n : ℕ) (payload : List ℕ) {len : ℕ} {room later : List ℕ} → Bytes (take n payload) → n ≤ 122 → length room ≡ 8192
    → Put room later 0 len (hex_bytes (part 0 n payload)) → SaysRow 6 later (OnNikobus Link) len (plain (hex (take n payload)) ∷ [])
unfolding fields_of beside
linked n payload {len} {room} {later} b h l x =
    let p : List ℕ = take n payload in
    let y : Put room later 0 len (hex_bytes p) = puts-as (ap hex_bytes (part-front n payload)) x in
    let k : length (hex_bytes p) ≤ length room = omega (arith, length-hex p, length-take n payload, h, l) in
    let d : take len later ≡ hex_bytes p = front_bytes y k in
    let w : len ≤ length later = omega (arith, front-count y k, put-length y, k) in
    said_row (link p) refl refl w (a-link refl (record { payload = p; bytes = b; digits = d; is = refl })) (sym d)
