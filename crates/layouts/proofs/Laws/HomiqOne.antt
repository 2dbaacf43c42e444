-- No two fields of Homiq frames have the same bytes; and what the CRC covers are bytes.
-- Assumes nothing.
use mathlib.Core.List.{List, [], ◌∷◌, ◌++◌, append_assoc}
use mathlib.Core.Path.{◌≡◌, refl, sym, ◌∙◌, ap}
use Prim.Native.Nat.{ℕ, ◌≤◌, ◌<◌}
use native.Mathlib.Omega.{arith}
use lib.Dec.{T}
use lib.ListN.{length, get_or, drop}
use lib.Seq.{drop-append_seam}
use Rattle.digits.proofs.Laws.Bytes.{bytes-append}
use Rattle.digits.specs.Paper.Ascii.{ascii}
use Rattle.digits.specs.Paper.Bytes.{Bytes}
use Rattle.digits.specs.Paper.Decimal.{decimal}
use Rattle.layouts.specs.Paper.Chars.{all}
use Rattle.layouts.specs.Paper.Homiq.{Homiq, field_char, Field, last_id, Limits, joined, homiq, without_separators}
use Rattle.layouts.specs.Paper.Layout.{bytes_of}
use Rattle.layouts.specs.Work.Homiq.{number_in}
use Rattle.layouts.proofs.Laws.ByteRuns.{bytes-by}
use Rattle.layouts.proofs.Laws.Heads.{Right, one_word}
use Rattle.layouts.proofs.Laws.Homiq.{front_of, head-right, closing, front-homiq, without-separators-closed, type-chars}
use Rattle.layouts.proofs.Laws.HomiqFields.{field-right, number-right, number_read, char-bounds, decimal-chars}

-- ---- one reading

-- two words of a language, whatever follows each: they are the same, and so is what follows
peel : {P : List ℕ → Type 0} {f : List ℕ → ℕ} (p : Right P f) {u v : List ℕ} → P u → P v → (r s : List ℕ) → u ++ r ≡ v ++ s → (u ≡ v) × (r ≡ s)
peel p {u} {v} a b r s e =
    let h : u ≡ v = one_word p a b r s e in
    (h, sym (drop-append_seam u r) ∙ ap (drop (length u)) e ∙ rw h (drop-append_seam v s))

field_cut : {k : ℕ} (a b r s : List ℕ) → Field k a → Field k b → (a ++ ascii ";") ++ r ≡ (b ++ ascii ";") ++ s → (a ≡ b) × (r ≡ s)
field_cut {k} a b r s p q e =
    let h = peel (field-right k) (record { word = a; field = p; ends = refl }) (record { word = b; field = q; ends = refl }) r s e in
    (sym (without-separators-closed a p.chars) ∙ ap without_separators h.0 ∙ without-separators-closed b q.chars, h.1)

module _ (most : ℕ) (small : most < 1000) where
  number_cut : (a b : ℕ) (r s : List ℕ) → a ≤ most → b ≤ most → (decimal a ++ ascii ";") ++ r ≡ (decimal b ++ ascii ";") ++ s → (a ≡ b) × (r ≡ s)
  number_cut a b r s ha hb e =
      let h = peel (number-right most small) (record { value = a; most = ha; ends = refl }) (record { value = b; most = hb; ends = refl }) r s e in
      (sym (number_read a (omega arith) []) ∙ ap number_in h.0 ∙ number_read b (omega arith) [], h.1)

spread-front : (m : Homiq) → drop 2 (front_of m) ≡ (m.cmd ++ ascii ";") ++ ((m.val ++ ascii ";") ++ ((m.src ++ ascii ";") ++ ((m.dst ++ ascii ";") ++ ((decimal m.id ++ ascii ";") ++ (m.type ∷ ascii ";")))))
spread-front m = spread (m.cmd ++ ascii ";") (m.val ++ ascii ";") (m.src ++ ascii ";") (m.dst ++ ascii ";") (decimal m.id ++ ascii ";") (m.type ∷ ascii ";")
  where
    spread : (a b c d e t : List ℕ) → a ++ b ++ c ++ d ++ e ++ t ≡ a ++ (b ++ (c ++ (d ++ (e ++ t))))
    spread a b c d e t = simp append_assoc

abbrev make : List ℕ → List ℕ → List ℕ → List ℕ → ℕ → ℕ → ℕ → Homiq
make a b c d e f g = record { cmd = a; val = b; src = c; dst = d; id = e; type = f; crc = g }

-- NO TWO FIELDS WITHIN THE LIMITS HAVE THE SAME BYTES
pub homiq-one : (m n : Homiq) → Limits m → Limits n → bytes_of homiq m ≡ bytes_of homiq n → m ≡ n
homiq-one m n p q e =
    let f =
    peel head-right (record { fields = m; limits = p; laid = refl }) (record { fields = n; limits = q; laid = refl })
    ((decimal m.crc ++ ascii ";") ++ closing) ((decimal n.crc ++ ascii ";") ++ closing) (sym (front-homiq m) ∙ e ∙ front-homiq n)
    in
    let a = field_cut m.cmd n.cmd _ _ p.cmd q.cmd (sym (spread-front m) ∙ ap (drop 2) f.0 ∙ spread-front n) in
    let b = field_cut m.val n.val _ _ p.val q.val a.1 in
    let c = field_cut m.src n.src _ _ p.src q.src b.1 in
    let d = field_cut m.dst n.dst _ _ p.dst q.dst c.1 in
    let i = number_cut last_id (omega arith) m.id n.id _ _ p.id q.id d.1 in
    let t : m.type ≡ n.type = ap (λ (l : List ℕ). get_or l 0 0) i.1 in
    let x = number_cut 255 (omega arith) m.crc n.crc closing closing p.crc q.crc f.1 in
    same a.0 b.0 c.0 d.0 i.0 t x.0
  where
    same : {a a' b b' c c' d d' : List ℕ} {e e' f f' g g' : ℕ} → a ≡ a' → b ≡ b' → c ≡ c' → d ≡ d' → e ≡ e' → f ≡ f' → g ≡ g'
        → make a b c d e f g ≡ make a' b' c' d' e' f' g'
    same p q r s t u v = rw (p, q, r, s, t, u, v)

-- ---- bytes

pub field-bytes : (w : List ℕ) → T (all field_char w) → Bytes w
field-bytes = bytes-by field_char (λ x t. let b = (char-bounds x t).0 in omega arith)

pub joined_bytes : (m : Homiq) → Limits m → Bytes (joined m)
joined_bytes m l =
    bytes-append _ _ (bytes-append _ _ (bytes-append _ _ (bytes-append _ _ (bytes-append _ _
    (field-bytes m.cmd l.cmd.chars) (field-bytes m.val l.val.chars)) (field-bytes m.src l.src.chars))
    (field-bytes m.dst l.dst.chars)) (field-bytes (decimal m.id) (decimal-chars m.id)))
    (field-bytes (m.type ∷ []) (type-chars m.type l.type))
