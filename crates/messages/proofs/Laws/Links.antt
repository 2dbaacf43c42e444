-- The digits of a link, byte by byte, and the message that each branch over them finds; a Nikobus frame told by its first two
-- characters.
-- Assumes nothing.
use mathlib.Core.Bool.{Bool, true, false, cond, ◌&&◌, ◌||◌, true≢false}
use mathlib.Core.List.{List, [], ◌∷◌}
use mathlib.Core.Logic.{◌⊎◌, inl, inr}
use mathlib.Core.Path.{◌≡◌, refl, sym, ap, ap₂, ◌∙◌, subst}
use Prim.Native.Nat.{ℕ, ◌+◌, ◌*◌, ◌/◌, ◌≤◌}
use native.Mathlib.Omega.{arith}
use lib.Dec.{eqb, lit<}
use lib.ListN.{length, get_or}
use borrow.Author.Tests.{eq-eqb, ne_eqb}
use Rattle.digits.proofs.Laws.Hex.{byte-inj, length-hex, digits-at, hex-inj}
use Rattle.digits.proofs.Laws.Parts.{take-ats}
use Rattle.digits.proofs.Laws.Reads.{answered, refused}
use Rattle.digits.specs.Paper.Answers.{ReadsByte}
use Rattle.digits.specs.Paper.Bytes.{Bytes, part}
use Rattle.digits.specs.Paper.Hex.{hex_byte, hex_bytes}
use Rattle.std.specs.Prelude.{Option, Some, None, unwrap_or}
use Rattle.layouts.specs.Paper.Layout.{bytes_of}
use Rattle.layouts.specs.Paper.Nikobus as nikobuses
use Rattle.layouts.specs.Paper.Nikobus.{link-limits, press-limits}
use Rattle.frames.specs.declared.kinds.Kind.TheVariants.{Nikobus as OfNikobus}
use Rattle.messages.specs.Paper.Content.{content_in}
use Rattle.messages.specs.Paper.Message.{Message, read, set, answer, press, link}
use Rattle.messages.specs.Paper.Says.{six, of_nikobus, SaysNikobus, a-link, another}
use Rattle.messages.specs.Paper.Table.{u16_at}
use Rattle.messages.specs.Work.Look.{is_read, is_set, group_of, look_link, look}
use Rattle.messages.specs.Work.Nikobus.{NikobusFrame, NikobusSaid, LinkDigits, LinkSaid, ByteAt, WordAt, SixAt}
use Rattle.messages.specs.declared.nikobus.Nikobus.{Nikobus}
use Rattle.messages.specs.declared.nikobus.Nikobus.TheVariants.{Read, Set, Answer, Press, Tail, Link}
use Rattle.messages.specs.declared.nikobus.Six.{Six}

-- ---- bytes and their digits

-- the two characters there are the digits of the byte with this number
digits_are : (d p : List ℕ) (i : ℕ) → i * 2 + 2 ≤ length d → d ≡ hex_bytes p → hex_byte (get_or p i 0) ≡ get_or d (i * 2) 0 ∷ get_or d (i * 2 + 1) 0 ∷ []
digits_are d p i inside is =
    digits-at p i (omega (arith, ap length is, length-hex p)) ∙ ap (λ (w : List ℕ). get_or w (i * 2) 0 ∷ get_or w (i * 2 + 1) 0 ∷ []) (sym is)

pub byte-read : (d : List ℕ) (i : ℕ) (r : Option ℕ) → i * 2 + 2 ≤ length d → ReadsByte (get_or d (i * 2) 0) (get_or d (i * 2 + 1) 0) r
    → ByteAt d i (unwrap_or r 0)
byte-read d i (Some b) inside reads p bytes is =
    let a = answered (lit< tt) reads refl in
    byte-inj b (get_or p i 0) a.0 (bytes.each i) (a.1 ∙ sym (digits_are d p i inside is))
byte-read d i None inside reads p bytes is =
    absurd (refused (lit< tt) reads refl (get_or p i 0) (bytes.each i) (digits_are d p i inside is))

pub six-there : (d : List ℕ) (o : Six) → 18 ≤ length d → ByteAt d 3 o.a → ByteAt d 4 o.b → ByteAt d 5 o.c → ByteAt d 6 o.d
    → ByteAt d 7 o.e → ByteAt d 8 o.f → SixAt d o
six-there d o h u v w x y z p bytes is =
    let l : 9 ≤ length p = omega (arith, ap length is, length-hex p) in
    rw (u p bytes is, v p bytes is, w p bytes is, x p bytes is, y p bytes is, z p bytes is) (sym (take-ats p 6 3 l))

-- ---- what is found for a payload, by its length

abbrev read_in : List ℕ → Message
read_in p = read (group_of 0x12 (get_or p 0 0)) (u16_at 1 p)

abbrev set_in : List ℕ → Message
set_in p = set (group_of 0x15 (get_or p 0 0)) (u16_at 1 p) (part 3 9 p)

abbrev one_of_two : ℕ → ℕ → ℕ → Bool
one_of_two a b x = eqb x a || eqb x b

pub either-of : {a b x : ℕ} → (x ≡ a) ⊎ ((x ≡ a → ⊥) × (x ≡ b)) → one_of_two a b x ≡ true
either-of {a} {b} {x} (inl e) = rw (eq-eqb x a e) refl
either-of {a} {b} {x} (inr q) = rw (ne_eqb x a q.0, eq-eqb x b q.1) refl

pub neither-of : {a b x : ℕ} → (x ≡ a → ⊥) × (x ≡ b → ⊥) → one_of_two a b x ≡ false
neither-of {a} {b} {x} n = rw (ne_eqb x a n.0, ne_eqb x b n.1) refl

module _ (p : List ℕ) where
  look-read : length p ≡ 3 → one_of_two 0x12 0x17 (get_or p 0 0) ≡ true → look_link p ≡ read_in p
  unfolding look_link is_read is_set
  look-read n e = rw (n, e)

  look-no-read : length p ≡ 3 → one_of_two 0x12 0x17 (get_or p 0 0) ≡ false → look_link p ≡ link p
  unfolding look_link is_read is_set
  look-no-read n e = rw (n, e)

  look-answer : length p ≡ 9 → look_link p ≡ answer (u16_at 0 p) (get_or p 2 0) (part 3 9 p)
  unfolding look_link is_read is_set
  look-answer n = rw n

  look-set : length p ≡ 10 → eqb (get_or p 9 0) 0xFF ≡ true → one_of_two 0x15 0x16 (get_or p 0 0) ≡ true → look_link p ≡ set_in p
  unfolding look_link is_read is_set
  look-set n e f = rw (n, e, f)

  look-no-end : length p ≡ 10 → eqb (get_or p 9 0) 0xFF ≡ false → look_link p ≡ link p
  unfolding look_link is_read is_set
  look-no-end n e = rw (n, e)

  look-no-set : length p ≡ 10 → one_of_two 0x15 0x16 (get_or p 0 0) ≡ false → look_link p ≡ link p
  unfolding look_link is_read is_set
  look-no-set n e = rw (n, e) (go (eqb (get_or p 9 0) 0xFF))
    where
      go : (t : Bool) → cond (t && false) (set_in p) (link p) ≡ link p
      go true = refl
      go false = refl

  look-other : (length p ≡ 3 → ⊥) → (length p ≡ 9 → ⊥) → (length p ≡ 10 → ⊥) → look_link p ≡ link p
  unfolding look_link is_read is_set
  look-other a b c = simp (ne_eqb (length p) 3 a, ne_eqb (length p) 9 b, ne_eqb (length p) 10 c)

-- ---- the branches over a link's digits

module _ {d : List ℕ} (l : LinkDigits d) where
  half : length d / 2 ≡ length l.payload
  half = omega (arith, ap length l.is, length-hex l.payload)

  pub some-digits : 2 ≤ length d
  some-digits = omega (arith, ap length l.is, length-hex l.payload, l.limits.enough)

  one_of : (a b : ℕ) {x : ℕ} {t : Bool} → ByteAt d 0 x → one_of_two a b x ≡ t → one_of_two a b (get_or l.payload 0 0) ≡ t
  one_of a b f e = ap (one_of_two a b) (sym (f l.payload l.limits.bytes l.is)) ∙ e

  pub said_read : {x g a : ℕ} → length d / 2 ≡ 3 → ByteAt d 0 x → one_of_two 0x12 0x17 x ≡ true → g ≡ group_of 0x12 x → WordAt d 1 a
      → LinkSaid d (Read g a)
  said_read n f e k w =
      let p = l.payload in
      let c = f p l.limits.bytes l.is in
      record {
        link = l;
        says = ap₂ read (k ∙ ap (group_of 0x12) c) (w p l.limits.bytes l.is) ∙ sym (look-read p (sym half ∙ n) (one_of 0x12 0x17 f e));
      }

  pub said-no-read : {x : ℕ} → length d / 2 ≡ 3 → ByteAt d 0 x → one_of_two 0x12 0x17 x ≡ false → LinkSaid d Link
  said-no-read n f e = record { link = l; says = sym (look-no-read l.payload (sym half ∙ n) (one_of 0x12 0x17 f e)) }

  pub said-answer : {a t : ℕ} (o : Six) → length d / 2 ≡ 9 → WordAt d 0 a → ByteAt d 2 t → SixAt d o → LinkSaid d (Answer a t o)
  said-answer o n w f s =
      let p = l.payload in
      let b = l.limits.bytes in
      record { link = l; says = rw (w p b l.is, f p b l.is, s p b l.is) (sym (look-answer p (sym half ∙ n))) }

  pub said-set : {x y g a : ℕ} (o : Six) → length d / 2 ≡ 10 → ByteAt d 0 x → one_of_two 0x15 0x16 x ≡ true → ByteAt d 9 y → y ≡ 0xFF
      → g ≡ group_of 0x15 x → WordAt d 1 a → SixAt d o → LinkSaid d (Set g a o)
  said-set o n f e z v k w s =
      let p = l.payload in
      let b = l.limits.bytes in
      let c = f p b l.is in
      let last = eq-eqb (get_or p 9 0) 0xFF (sym (z p b l.is) ∙ v) in
      record {
        link = l;
        says =
            rw (k ∙ ap (group_of 0x15) c, w p b l.is, s p b l.is)
            (sym (look-set p (sym half ∙ n) last (one_of 0x15 0x16 f e)));
      }

  pub said-no-end : {y : ℕ} → length d / 2 ≡ 10 → ByteAt d 9 y → (y ≡ 0xFF → ⊥) → LinkSaid d Link
  said-no-end n z v =
      let p = l.payload in
      let last = ne_eqb (get_or p 9 0) 0xFF (λ e. v (z p l.limits.bytes l.is ∙ e)) in
      record { link = l; says = sym (look-no-end p (sym half ∙ n) last) }

  pub said-no-set : {x : ℕ} → length d / 2 ≡ 10 → ByteAt d 0 x → one_of_two 0x15 0x16 x ≡ false → LinkSaid d Link
  said-no-set n f e = record { link = l; says = sym (look-no-set l.payload (sym half ∙ n) (one_of 0x15 0x16 f e)) }

  pub said-other : (length d / 2 ≡ 3 → ⊥) → (length d / 2 ≡ 9 → ⊥) → (length d / 2 ≡ 10 → ⊥) → LinkSaid d Link
  said-other a b c = record { link = l; says = sym (look-other l.payload (λ e. a (half ∙ e)) (λ e. b (half ∙ e)) (λ e. c (half ∙ e))) }

-- ---- a frame, by its first two characters

abbrev pub is_link : Nikobus → Bool
is_link (Read g a) = false
is_link (Set g a o) = false
is_link (Answer a t o) = false
is_link (Press o) = false
is_link Tail = false
is_link Link = true

pub no-link : (e : Nikobus) → is_link e ≡ false → e ≡ Link → ⊥
no-link e f g = true≢false (sym (ap is_link g) ∙ f)

pub says_of : (e : Nikobus) (p s : List ℕ) {m : Message} → Bytes p → s ≡ hex_bytes p → of_nikobus e p ≡ m → SaysNikobus e s m
says_of (Read g a) p s b h k = another (no-link (Read g a) refl) (sym k)
says_of (Set g a o) p s b h k = another (no-link (Set g a o) refl) (sym k)
says_of (Answer a t o) p s b h k = another (no-link (Answer a t o) refl) (sym k)
says_of (Press o) p s b h k = another (no-link (Press o) refl) (sym k)
says_of Tail p s b h k = another (no-link Tail refl) (sym k)
says_of Link p s b h k = a-link refl (record { payload = p; bytes = b; digits = h; is = sym k })

module _ {f p : List ℕ} (n : NikobusFrame f p) where
  pub two-long : 2 ≤ length f
  unfolding hex_byte
  two-long = go n.frame.form.fields n.frame.form.laid
    where
      go : (m : nikobuses.Nikobus) → f ≡ bytes_of nikobuses.nikobus m → 2 ≤ length f
      go (nikobuses.link q x y) e = omega (arith, ap length e)
      go (nikobuses.press d) e = omega (arith, ap length e)
      go nikobuses.tail e = omega (arith, ap length e)

  pub frame-digits : get_or f 0 0 ≡ 36 → LinkDigits p
  frame-digits mark = go n.frame.form.fields n.frame.form.limits n.frame.form.laid n.is
    where
      go : (m : nikobuses.Nikobus) → nikobuses.Limits m → f ≡ bytes_of nikobuses.nikobus m → p ≡ nikobuses.payload m → LinkDigits p
      go (nikobuses.link q x y) (link-limits some short bytes _ _) e h =
          record { payload = q; limits = record { enough = some; short = short; bytes = bytes }; is = h }
      go (nikobuses.press d) l e h = absurd (omega (arith, ap (λ (w : List ℕ). get_or w 0 0) e))
      go nikobuses.tail l e h = absurd (omega (arith, ap (λ (w : List ℕ). get_or w 0 0) e))

  pub frame-linked : {e : Nikobus} → get_or f 0 0 ≡ 36 → LinkSaid p e → NikobusSaid f p e
  unfolding look
  frame-linked {e} mark s = record { frame = n; says = go n.frame.form.fields n.frame.form.limits n.frame.form.laid n.is }
    where
      go : (m : nikobuses.Nikobus) → nikobuses.Limits m → f ≡ bytes_of nikobuses.nikobus m → p ≡ nikobuses.payload m → SaysNikobus e p (look (content_in OfNikobus m))
      go (nikobuses.link q x y) (link-limits _ _ bytes _ _) _ h =
          let same : s.link.payload ≡ q = hex-inj s.link.payload q s.link.limits.bytes bytes (sym s.link.is ∙ h) in
          says_of e q p bytes h (subst (λ (w : List ℕ). of_nikobus e w ≡ look_link w) same s.says)
      go (nikobuses.press d) l k h = absurd (omega (arith, ap (λ (w : List ℕ). get_or w 0 0) k))
      go nikobuses.tail l k h = absurd (omega (arith, ap (λ (w : List ℕ). get_or w 0 0) k))

  module _ (other : get_or f 0 0 ≡ 36 → ⊥) where
    pub frame-six : get_or f 1 0 ≡ 78 → length p ≡ 6
    frame-six mark = go n.frame.form.fields n.frame.form.limits n.frame.form.laid n.is
      where
        go : (m : nikobuses.Nikobus) → nikobuses.Limits m → f ≡ bytes_of nikobuses.nikobus m → p ≡ nikobuses.payload m → length p ≡ 6
        go (nikobuses.link q x y) l e h = absurd (other (ap (λ (w : List ℕ). get_or w 0 0) e))
        go (nikobuses.press d) (press-limits k _) e h = ap length h ∙ k
        go nikobuses.tail l e h = absurd (omega (arith, ap (λ (w : List ℕ). get_or w 1 0) e))

    pub frame-pressed : (o : Six) → get_or f 1 0 ≡ 78 → six o ≡ p → NikobusSaid f p (Press o)
    unfolding look
    frame-pressed o mark s = record { frame = n; says = go n.frame.form.fields n.frame.form.laid n.is }
      where
        go : (m : nikobuses.Nikobus) → f ≡ bytes_of nikobuses.nikobus m → p ≡ nikobuses.payload m → SaysNikobus (Press o) p (look (content_in OfNikobus m))
        go (nikobuses.link q x y) e h = absurd (other (ap (λ (w : List ℕ). get_or w 0 0) e))
        go (nikobuses.press d) e h = another (no-link (Press o) refl) (ap press (sym (s ∙ h)))
        go nikobuses.tail e h = absurd (omega (arith, ap (λ (w : List ℕ). get_or w 1 0) e))

    pub frame-tail : (get_or f 1 0 ≡ 78 → ⊥) → NikobusSaid f p Tail
    unfolding look
    frame-tail mark = record { frame = n; says = go n.frame.form.fields n.frame.form.laid n.is }
      where
        go : (m : nikobuses.Nikobus) → f ≡ bytes_of nikobuses.nikobus m → p ≡ nikobuses.payload m → SaysNikobus Tail p (look (content_in OfNikobus m))
        go (nikobuses.link q x y) e h = absurd (other (ap (λ (w : List ℕ). get_or w 0 0) e))
        go (nikobuses.press d) e h = absurd (mark (ap (λ (w : List ℕ). get_or w 1 0) e))
        go nikobuses.tail e h = another (no-link Tail refl) refl
