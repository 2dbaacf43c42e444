-- What the functions that write Nikobus messages answer: the payload of each row, the bytes that digits are, and a link.
-- Assumes nothing.
use mathlib.Core.Path.{◌≡◌, refl, sym, ap, ap₂, ◌∙◌, subst}
use mathlib.Core.Bool.{false}
use mathlib.Core.List.{List, [], ◌∷◌, ◌++◌, append_assoc, append-nil}
use Prim.Native.Nat.{ℕ, suc, ◌+◌, ◌*◌, ◌/◌, ◌%◌, ◌≤◌, ◌<◌}
use native.Mathlib.Numerals.{add-one}
use native.Mathlib.Omega.{arith}
use lib.ListN.{length, get_or, take, drop, set, length-append, take-append-drop}
use lib.Seq.{take_all, take-suc, take-suc-set, length-take-le}
use Rattle.digits.specs.Paper.Answers.{ReadsByte}
use Rattle.digits.specs.Paper.Bytes.{Bytes, part}
use Rattle.digits.specs.Paper.Hex.{hex_byte, hex_bytes}
use Rattle.digits.specs.Paper.LowFirst.{low_byte_first}
use Rattle.std.specs.Prelude.{Option, Some, None}
use Rattle.digits.proofs.Laws.Bytes.{bytes-nil, bytes-cons, bytes-append}
use Rattle.digits.proofs.Laws.Hex.{length-hex, hex-append, digits-at, hex-inj}
use Rattle.digits.proofs.Laws.Parts.{part-front}
use Rattle.digits.proofs.Laws.Reads.{answered, refused}
use Rattle.puts.specs.Paper.Wrote.{Written}
use Rattle.messages.proofs.Laws.Links as links
use Rattle.messages.specs.Paper.Message.{link}
use Rattle.messages.specs.Paper.Says.{of_nikobus, SaysNikobus, a-link, another}
use Rattle.messages.specs.Paper.Table.{code_of}
use Rattle.messages.specs.Work.Answers.{Only}
use Rattle.messages.specs.declared.nikobus.Nikobus.{Nikobus}
use Rattle.messages.specs.declared.nikobus.Nikobus.TheVariants.{Link}
use Rattle.commands.specs.Work.Answers.{WritesMessage}
use Rattle.commands.specs.Work.Nikobus.{Unhexed, are, none}
use Rattle.commands.proofs.Laws.Written.{in-case}

-- ---- the payloads

-- two bytes of an array are an address
pub low-two : (l : List ℕ) (n : ℕ) → l ≡ low_byte_first 2 n → get_or l 0 0 ∷ get_or l 1 0 ∷ [] ≡ low_byte_first 2 n
unfolding low_byte_first
low-two l n e = rw e

pub read-payload : (g n : ℕ) {code : ℕ} {l : List ℕ} → code ≡ code_of 0x12 0x17 g → l ≡ low_byte_first 2 n → code ∷ get_or l 0 0 ∷ get_or l 1 0 ∷ [] ≡ code_of 0x12 0x17 g ∷ low_byte_first 2 n
read-payload g n {code} {l} e f = ap₂ (λ (x : ℕ) (s : List ℕ). x ∷ s) e (low-two l n f)

-- an address and what stands behind it
pub behind-address : (n : ℕ) {l : List ℕ} (t : List ℕ) → l ≡ low_byte_first 2 n → get_or l 0 0 ∷ get_or l 1 0 ∷ t ≡ low_byte_first 2 n ++ t
behind-address n {l} t e = ap (λ (s : List ℕ). s ++ t) (low-two l n e)

pub set-payload : (g n : ℕ) {code : ℕ} {l : List ℕ} (out : List ℕ) → code ≡ code_of 0x15 0x16 g → l ≡ low_byte_first 2 n
    → code ∷ get_or l 0 0 ∷ get_or l 1 0 ∷ (out ++ (0xFF ∷ [])) ≡ code_of 0x15 0x16 g ∷ (low_byte_first 2 n ++ out ++ (0xFF ∷ []))
set-payload g n out e f =
    ap₂ (λ (x : ℕ) (s : List ℕ). x ∷ s) e (behind-address n (out ++ (0xFF ∷ [])) f ∙ sym (append_assoc (low_byte_first 2 n) out (0xFF ∷ [])))

-- ---- the bytes that digits are

-- two digits more
take-two : (d : List ℕ) (i : ℕ) → i * 2 + 1 < length d → take ((i + 1) * 2) d ≡ take (i * 2) d ++ (get_or d (i * 2) 0 ∷ get_or d (i * 2 + 1) 0 ∷ [])
take-two d i h =
    let e : (i + 1) * 2 ≡ suc (suc (i * 2)) = omega arith in
    let f : suc (i * 2) ≡ i * 2 + 1 = omega arith in
    ap (λ (n : ℕ). take n d) e ∙ take-suc d (suc (i * 2)) 0 (omega arith)
    ∙ ap₂ (λ (s : List ℕ) (x : ℕ). s ++ (x ∷ [])) (take-suc d (i * 2) 0 (omega arith)) (ap (λ (n : ℕ). get_or d n 0) f)
    ∙ append_assoc (take (i * 2) d) (get_or d (i * 2) 0 ∷ []) (get_or d (i * 2 + 1) 0 ∷ [])

one_byte : (b : ℕ) → hex_bytes (b ∷ []) ≡ hex_byte b
unfolding hex_bytes
one_byte b = append-nil (hex_byte b)

-- the first i bytes of the room are those of the digits there
pub record Unhexing (d room : List ℕ) (i : ℕ) : Type 0 where
  pub bytes : Bytes (take i room)
  pub same : take (i * 2) d ≡ hex_bytes (take i room)

pub none_yet : (d room : List ℕ) → Unhexing d room 0
unfolding hex_bytes
none_yet d room = record { bytes = bytes-nil; same = refl }

pub one_more : (d room : List ℕ) (i b : ℕ) {r : Option ℕ} → i * 2 + 1 < length d → i < length room → ReadsByte (get_or d (i * 2) 0) (get_or d (i * 2 + 1) 0) r → r ≡ Some b
    → Unhexing d room i → Unhexing d (set room i b) (i + 1)
one_more d room i b h k digit e u =
    let a = answered (omega arith) (subst (ReadsByte (get_or d (i * 2) 0) (get_or d (i * 2 + 1) 0)) e digit) refl in
    let t : take (i + 1) (set room i b) ≡ take i room ++ (b ∷ []) = ap (λ (n : ℕ). take n (set room i b)) (add-one i) ∙ take-suc-set room i b k in
    let f : take (i * 2) d ++ (get_or d (i * 2) 0 ∷ get_or d (i * 2 + 1) 0 ∷ []) ≡ hex_bytes (take i room) ++ hex_bytes (b ∷ []) =
    ap₂ (λ (s t : List ℕ). s ++ t) u.same (sym a.1 ∙ sym (one_byte b)) in
    record {
      bytes = subst Bytes (sym t) (bytes-append (take i room) (b ∷ []) u.bytes (bytes-cons a.0 bytes-nil));
      same = take-two d i h ∙ f ∙ sym (hex-append (take i room) (b ∷ [])) ∙ ap hex_bytes (sym t);
    }

-- digits that are so many bytes
counted : {d : List ℕ} (p : List ℕ) → d ≡ hex_bytes p → length d ≡ length p * 2
counted p e = ap length e ∙ length-hex p

module _ (d : List ℕ) {most : ℕ} {room : List ℕ} where
  pub odd-digits : (length d % 2 ≡ 0 → ⊥) → Unhexed d most None room
  odd-digits h = none (λ p b e. let l = counted p e in h (omega arith))

  pub too_many : most < length d / 2 → Unhexed d most None room
  too_many h = none (λ p b e. omega (arith, counted p e, b.short))

  pub no-pair : (i : ℕ) {r : Option ℕ} → i < length d / 2 → ReadsByte (get_or d (i * 2) 0) (get_or d (i * 2 + 1) 0) r → r ≡ None → Unhexed d most None room
  no-pair i h digit e =
      none
      (λ p b f.
      let k : i < length p = omega (arith, counted p f) in
      let g : hex_byte (get_or p i 0) ≡ get_or d (i * 2) 0 ∷ get_or d (i * 2 + 1) 0 ∷ [] =
      digits-at p i k ∙ ap (λ (s : List ℕ). get_or s (i * 2) 0 ∷ get_or s (i * 2 + 1) 0 ∷ []) (sym f) in
      refused (omega arith) (subst (ReadsByte (get_or d (i * 2) 0) (get_or d (i * 2 + 1) 0)) e digit) refl (get_or p i 0) (b.bytes.each i) g)

  pub all_read : (n : ℕ) {i : ℕ} → length d ≡ n * 2 → length room ≡ most → n ≤ most → i ≡ n → Unhexing d room i → Unhexed d most (Some n) room
  all_read n h k l e v =
      let u : Unhexing d room n = subst (Unhexing d room) e v in
      let size : length (take n room) ≡ n = length-take-le n room (omega arith) in
      are {p = take n room} (record { enough = omega arith; short = omega arith; bytes = u.bytes })
      (sym (take_all (n * 2) d (omega arith)) ∙ u.same) (sym size) refl

-- no more bytes than there is room for
pub inside : {d room : List ℕ} {most n : ℕ} → Unhexed d most (Some n) room → n ≤ length room
inside {room = room} {n = n} (are b d e f) = omega (arith, ap length (take-append-drop n room), length-append (take n room) (drop n room), ap length f)

-- ---- a link by its digits

pub link-by-digits : {s buffer : List ℕ} {n : ℕ} {room later : List ℕ} (r : Written) → Unhexed s 122 (Some n) buffer
    → WritesMessage (Only (link (part 0 n buffer))) room r later → WritesMessage (SaysNikobus Link s) room r later
link-by-digits r u w m (another h i) l = absurd (h refl)
link-by-digits {buffer = buffer} {n = n} r (are {p = p} b d e f) w m (a-link h a) l =
    w m (a.is ∙ ap link (hex-inj a.payload p a.bytes b.bytes (sym a.digits ∙ d) ∙ sym (part-front n buffer ∙ f))) l

-- ---- the others take nothing from what stands beside them

pub fixed-said : {e : Nikobus} (f : Nikobus) {s room later : List ℕ} (r : Written) → e ≡ f → links.is_link f ≡ false
    → WritesMessage (Only (of_nikobus f [])) room r later → WritesMessage (SaysNikobus e s) room r later
fixed-said f {s} {room} {later} r is h w = in-case (λ x. SaysNikobus x s) r is said
  where
    said : WritesMessage (SaysNikobus f s) room r later
    said m (a-link q a) l = absurd (links.no-link f h q)
    said m (another q i) l = w m i l
