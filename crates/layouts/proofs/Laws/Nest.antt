-- The recognisers of Nest find its frames, and only those.
-- Assumes nothing.
use mathlib.Core.List.{List, [], ◌∷◌, ◌++◌, append_assoc}
use mathlib.Core.Path.{◌≡◌, refl, sym, ◌∙◌, ap, ap₂, subst}
use Prim.Native.Nat.{ℕ, ◌+◌, ◌-◌, ◌*◌, ◌/◌, ◌%◌, ◌≤◌, ◌<◌}
use native.Mathlib.Decide.{dec_le}
use native.Mathlib.Omega.{arith}
use lib.Dec.{leb→le}
use lib.ListN.{length, get_or, take, drop, length-append, length-drop, take-append-drop, get_or-append}
use lib.Seq.{get_or-append_seam, get_or-drop, take-append_seam, drop-append_seam, length-take-le}
use borrow.Author.Tests.{le-leb, lt-leb}
use Rattle.digits.proofs.Laws.Bytes.{bytes-tail, bytes-append, bytes_take, bytes_drop}
use Rattle.digits.proofs.Laws.LowFirst.{length-low, bytes_low, low-inj, low-all}
use Rattle.digits.proofs.Laws.Parts.{part-front, part-rest, front_rest, length_part}
use Rattle.digits.specs.Paper.Bytes.{Bytes, part}
use Rattle.digits.specs.Paper.LowFirst.{low_byte_first}
use Rattle.checks.specs.Paper.Buses.{nest_crc}
use Rattle.checks.specs.Paper.Check.{check}
use Rattle.layouts.specs.Paper.Layout.{StartsWith, bytes_of, payload_from, payload_to, Form}
use Rattle.layouts.specs.Paper.Nest.{Nest, covered, claimed, Limits, compared, Begun, Long, nest_with}
use Rattle.layouts.specs.Work.Heads.{word_len, is_byte, bytes_len}
use Rattle.layouts.specs.Work.Nest.{body_len, nest_form_len, crc_pair, nest_recogniser}
use Rattle.layouts.specs.declared.Compared.{Compared}
use Rattle.layouts.proofs.Laws.Buses.{Bus, one-pair, same-pair}
use Rattle.layouts.proofs.Laws.ByteRuns.{all-bytes, bytes-all, bytes-short, bytes-there}
use Rattle.layouts.proofs.Laws.Heads.{Head, Right, Then, Run, run-right, only-test, only-eq, only_yes, only_no, only_zero, inside, with-starts, starts?, mark-inside, word-right, word-there, on_both, then-right, same-right, join, glue, cut-same}

-- a frame is as long as its preamble, its payload and six bytes more
pub nest-size : (mark : List ℕ) (m : Nest) → length (bytes_of (nest_with mark) m) ≡ length mark + length m.payload + 6
nest-size mark m =
    let b : List ℕ = mark ++ low_byte_first 2 m.id ++ low_byte_first 2 (length m.payload) in
    omega (
      arith,
      length-append (b ++ m.payload) (low_byte_first 2 m.crc),
      length-append b m.payload,
      length-append (mark ++ low_byte_first 2 m.id) (low_byte_first 2 (length m.payload)),
      length-append mark (low_byte_first 2 m.id),
      length-low 2 m.id,
      length-low 2 (length m.payload),
      length-low 2 m.crc,
    )

-- ---- id, length, payload and CRC

record Body (u : List ℕ) : Type 0 where
  fields : Nest
  limits : Limits fields
  layout : u ≡ covered fields.id fields.payload ++ low_byte_first 2 fields.crc

-- two bytes are a number's
two_bytes : (u : List ℕ) → length u ≡ 2 → Bytes u → (n : ℕ) × (n < 65536) × (u ≡ low_byte_first 2 n)
two_bytes u l b = let a = low-all u b in (a.0, rw l at a.1, sym (rw l at a.2))

body-made : (u : List ℕ) (n : ℕ) → n ≡ claimed u → n ≤ 1024 → length u ≡ n + 6 → Bytes u → Body u
unfolding low_byte_first
body-made [] n e h l b = absurd (omega arith)
body-made (x ∷ []) n e h l b = absurd (omega arith)
body-made (x ∷ y ∷ []) n e h l b = absurd (omega arith)
body-made (x ∷ y ∷ z ∷ []) n e h l b = absurd (omega arith)
body-made (x ∷ y ∷ z ∷ t ∷ r) n e h l b =
    let bx : x < 256 = b.each 0 in
    let by : y < 256 = b.each 1 in
    let bz : z < 256 = b.each 2 in
    let bt : t < 256 = b.each 3 in
    let br : Bytes r = bytes-tail (bytes-tail (bytes-tail (bytes-tail b))) in
    let p = take n r in
    let k : length p ≡ n = length-take-le n r (omega arith) in
    let c = two_bytes (drop n r) (length-drop n r ∙ omega arith) (bytes_drop n r br) in
    let f₁ : (x + y * 256) / 256 ≡ y = omega arith in
    let e₀ : (x + y * 256) % 256 ≡ x = omega arith in
    let e₁ : (x + y * 256) / 256 % 256 ≡ y = rw f₁ (omega arith) in
    let j : length p ≡ z + t * 256 = omega arith in
    let e₂ : length p % 256 ≡ z = omega arith in
    let f₃ : length p / 256 ≡ t = omega arith in
    let e₃ : length p / 256 % 256 ≡ t = rw f₃ (omega arith) in
    let low : low_byte_first 2 c.0 ≡ drop n r = sym c.2 in
    record {
      fields = record { id = x + y * 256; payload = p; crc = c.0 };
      limits = record { id = omega arith; short = omega arith; bytes = bytes_take n r br; crc = c.1 };
      layout = ap (λ (q : List ℕ). x ∷ y ∷ z ∷ t ∷ q) (sym (take-append-drop n r) ∙ ap (λ (q : List ℕ). p ++ q) c.2) ∙ sym (rw (e₀, e₁, e₂, e₃));
    }

pub covered-bytes : (i : ℕ) (p : List ℕ) → Bytes p → Bytes (covered i p)
covered-bytes i p b =
    bytes-append (low_byte_first 2 i ++ low_byte_first 2 (length p)) p
    (bytes-append (low_byte_first 2 i) (low_byte_first 2 (length p)) (bytes_low 2 i) (bytes_low 2 (length p))) b

body_bytes : (m : Nest) → Limits m → Bytes (covered m.id m.payload ++ low_byte_first 2 m.crc)
body_bytes m l = bytes-append (covered m.id m.payload) (low_byte_first 2 m.crc) (covered-bytes m.id m.payload l.bytes) (bytes_low 2 m.crc)

body-length : (i x : ℕ) (p : List ℕ) → length (covered i p ++ low_byte_first 2 x) ≡ length p + 6
unfolding low_byte_first
body-length i x p = omega (arith, length-append (covered i p) (low_byte_first 2 x))

-- the length that stands in it, whatever follows
body_reads : (i x : ℕ) (p t : List ℕ) → length p ≤ 1024 → claimed ((covered i p ++ low_byte_first 2 x) ++ t) ≡ length p
unfolding low_byte_first
body_reads i x p t h = omega arith

body-right : Right Body body_len
unfolding body_len
body-right = record { some = some; sound = sound; complete = complete }
  where
    some : {u : List ℕ} → Body u → 0 < length u
    some r = let m = r.fields in rw (Body.layout r) (omega (arith, body-length m.id m.crc m.payload))

    made : (s : List ℕ) (n : ℕ) → n ≡ claimed s → n ≤ 1024 → Head (Run is_byte (n + 6)) s (n + 6) → Head Body s (n + 6)
    made s n e h r =
        let q = r.is in
        let at : (i : ℕ) → i < 6 → get_or s i 0 ≡ get_or r.word i 0 =
        λ i k. ap (λ (l : List ℕ). get_or l i 0) r.splits ∙ get_or-append r.word r.rest 0 i (omega (arith, q.size)) in
        let f : n ≡ claimed r.word = e ∙ ap₂ (λ (x y : ℕ). x + y * 256) (at 2 (omega arith)) (at 3 (omega arith)) in
        record { word = r.word; rest = r.rest; splits = r.splits; is = body-made r.word n f h q.size (bytes-all r.word q.each); size = r.size }

    sound : (s : List ℕ) → 0 < body_len s → Head Body s (body_len s)
    sound s h₀ =
        let n = claimed s in
        let e₀ = only-eq _ _ h₀ in
        let h₁ = rw e₀ at h₀ in
        let h = (run-right is_byte (n + 6) (omega arith)).sound s h₁ in
        let e : bytes_len (n + 6) s ≡ n + 6 = h.size ∙ h.is.size in
        subst (λ (k : ℕ). Head Body s k) (sym (e₀ ∙ e))
        (made s n refl (leb→le _ _ (only-test _ _ h₀)) (subst (λ (k : ℕ). Head (Run is_byte (n + 6)) s k) e h))

    complete : {u : List ℕ} → Body u → (t : List ℕ) → body_len (u ++ t) ≡ length u
    complete r t =
        let m = r.fields in
        let p = m.payload in
        let u : List ℕ = covered m.id p ++ low_byte_first 2 m.crc in
        let e : claimed (u ++ t) ≡ length p = body_reads m.id m.crc p t r.limits.short in
        let run : Run is_byte (length p + 6) u = record { size = body-length m.id m.crc p; each = rw (all-bytes u (body_bytes m r.limits)) tt } in
        rw (Body.layout r, e)
        (only_yes _ _ (le-leb (length p) 1024 r.limits.short) ∙ (run-right is_byte (length p + 6) (omega arith)).complete run t)

-- ---- the whole, with a preamble

module _ (mark : List ℕ) (some : 0 < length mark) where
  abbrev Parts : List ℕ → Type 0
  Parts = Then (λ u. u ≡ mark) (λ _. Body)

  laid_out : (i : ℕ) (p c : List ℕ) → mark ++ (covered i p ++ c) ≡ (mark ++ low_byte_first 2 i ++ low_byte_first 2 (length p)) ++ p ++ c
  laid_out i p c = four mark (low_byte_first 2 i) (low_byte_first 2 (length p)) p c
    where
      four : (a b d p c : List ℕ) → a ++ (b ++ d ++ p ++ c) ≡ (a ++ b ++ d) ++ p ++ c
      four a b d p c = simp append_assoc

  to-form : (w : List ℕ) → Parts w → Form (nest_with mark) w
  to-form w r =
      let h = r.second in
      let m = h.fields in
      record { fields = m; limits = h.limits; laid = glue r.joins r.first h.layout ∙ laid_out m.id m.payload (low_byte_first 2 m.crc) }

  from-form : (w : List ℕ) → Form (nest_with mark) w → Parts w
  from-form w r =
      let m = r.fields in
      let x : List ℕ = low_byte_first 2 m.crc in
      rw (r.laid ∙ sym (laid_out m.id m.payload x))
      (join mark (covered m.id m.payload ++ x) refl (record { fields = m; limits = r.limits; layout = refl }))

  forms : Right (Form (nest_with mark)) (nest_form_len mark)
  unfolding nest_form_len
  forms = same-right to-form from-form (then-right (word-right mark some) (λ w a. body-right))

  -- behind the preamble stand what the CRC covers and the CRC
  behind-mark : (m : Nest) → drop (length mark) (bytes_of (nest_with mark) m) ≡ covered m.id m.payload ++ low_byte_first 2 m.crc
  behind-mark m =
      let c : List ℕ = covered m.id m.payload in
      let x : List ℕ = low_byte_first 2 m.crc in
      ap (drop (length mark)) (sym (laid_out m.id m.payload x)) ∙ drop-append_seam mark (c ++ x)

  -- of which the code takes the two apart
  crc-apart : (c : List ℕ) (x : ℕ) → x < 65536 → crc_pair (c ++ low_byte_first 2 x) ≡ record { found = x; expected = check nest_crc c }
  unfolding crc_pair low_byte_first
  crc-apart c x h =
      let u : List ℕ = c ++ low_byte_first 2 x in
      let l : length u - 2 ≡ length c = omega (arith, length-append c (low_byte_first 2 x)) in
      let a : get_or u (length c) 0 ≡ x % 256 = get_or-append_seam c (x % 256) _ 0 in
      let b : get_or u (length c + 1) 0 ≡ x / 256 % 256 = sym (get_or-drop (length c) u 1 0) ∙ ap (λ (d : List ℕ). get_or d 1 0) (drop-append_seam c (low_byte_first 2 x)) in
      same-pair (rw (l, a, b) (omega arith)) (ap (check nest_crc) (rw l (take-append_seam c (low_byte_first 2 x))))

  compares : (w : List ℕ) (r : Form (nest_with mark) w) → compared r.fields ≡ crc_pair (drop (length mark) w) ∷ []
  compares w r =
      let m = r.fields in
      ap (λ (d : Compared). d ∷ [])
      (sym (ap (λ (u : List ℕ). crc_pair (drop (length mark) u)) r.laid ∙ ap crc_pair (behind-mark m) ∙ crc-apart (covered m.id m.payload) m.crc r.limits.crc))

  -- the preamble, and the length behind it, whatever follows
  laid-behind : (m : Nest) (t : List ℕ) → bytes_of (nest_with mark) m ++ t ≡ mark ++ ((covered m.id m.payload ++ low_byte_first 2 m.crc) ++ t)
  laid-behind m t =
      ap (λ (u : List ℕ). u ++ t) (sym (laid_out m.id m.payload (low_byte_first 2 m.crc)))
      ∙ append_assoc mark (covered m.id m.payload ++ low_byte_first 2 m.crc) t

  begun : (m : Nest) (t : List ℕ) → Begun mark (bytes_of (nest_with mark) m ++ t)
  begun m t = ap (take (length mark)) (laid-behind m t) ∙ take-append_seam mark _

  long : (m : Nest) → Limits m → (t : List ℕ) → Long mark (bytes_of (nest_with mark) m ++ t)
  long m l t =
      let p = m.payload in
      let e : claimed (drop (length mark) (bytes_of (nest_with mark) m ++ t)) ≡ length p =
      ap (λ (u : List ℕ). claimed (drop (length mark) u)) (laid-behind m t) ∙ ap claimed (drop-append_seam mark _) ∙ body_reads m.id m.crc p t l.short
      in
      record { short = rw e l.short; enough = rw e (omega (arith, length-append (bytes_of (nest_with mark) m) t, nest-size mark m)) }

  -- the code's tests of the length
  long? : (s : List ℕ) → Dec (Long mark s)
  long? s = go (dec_le (claimed (drop (length mark) s)) 1024) (dec_le (length mark + (claimed (drop (length mark) s) + 6)) (length s))
    where
      go : Dec (claimed (drop (length mark) s) ≤ 1024) → Dec (length mark + (claimed (drop (length mark) s) + 6) ≤ length s) → Dec (Long mark s)
      go (yes h) (yes k) = yes (record { short = h; enough = k })
      go (no f) x = no (λ l. f l.short)
      go (yes h) (no f) = no (λ l. f l.enough)

  begins : (w : List ℕ) (r : Form (nest_with mark) w) → payload_from (nest_with mark) r.fields ≡ length mark + 4
  begins w r =
      let m = r.fields in
      omega (arith, length-append (mark ++ low_byte_first 2 m.id) (low_byte_first 2 (length m.payload)), length-append mark (low_byte_first 2 m.id), length-low 2 m.id, length-low 2 (length m.payload))

  ends : (w : List ℕ) (r : Form (nest_with mark) w) → payload_to (nest_with mark) r.fields ≡ length w - 2
  ends w r =
      let m = r.fields in
      let b : List ℕ = mark ++ low_byte_first 2 m.id ++ low_byte_first 2 (length m.payload) in
      let l : length w ≡ length (bytes_of (nest_with mark) m) = ap length r.laid in
      omega (arith, length-append (b ++ m.payload) (low_byte_first 2 m.crc), length-append b m.payload, length-low 2 m.crc)

  -- NEST: its recognisers find its frames, and only those
  pub nest-bus : Bus (nest_with mark) (nest_recogniser mark)
  nest-bus =
      record {
        forms = forms;
        compares = compares;
        few = λ w. one-pair (crc_pair (drop (length mark) w));
        begins = begins;
        ends = ends;
        begun? = λ s. starts? mark s;
        long? = long?;
        laid-begun = λ m l t. begun m t;
        laid-long = long;
      }

-- no two frames' fields have the same bytes
pub nest-one : (mark : List ℕ) → 0 < length mark → (m n : Nest) → Limits m → Limits n → bytes_of (nest_with mark) m ≡ bytes_of (nest_with mark) n → m ≡ n
unfolding low_byte_first
nest-one mark some m n lm ln e =
    let h : covered m.id m.payload ++ low_byte_first 2 m.crc ≡ covered n.id n.payload ++ low_byte_first 2 n.crc =
    sym (behind-mark mark some m) ∙ ap (drop (length mark)) e ∙ behind-mark mark some n in
    let short = lm.short in
    let short' = ln.short in
    let i : m.id ≡ n.id = low-inj 2 m.id n.id lm.id ln.id (ap (take 2) h) in
    let l : length m.payload ≡ length n.payload = low-inj 2 (length m.payload) (length n.payload) (omega arith) (omega arith) (ap (λ (s : List ℕ). take 2 (drop 2 s)) h) in
    let q = cut-same m.payload n.payload (low_byte_first 2 m.crc) (low_byte_first 2 n.crc) l (ap (drop 4) h) in
    same m.id n.id m.payload n.payload m.crc n.crc i q.0 (low-inj 2 m.crc n.crc lm.crc ln.crc q.1)
  where
    same : (a b : ℕ) (c d : List ℕ) (x y : ℕ) → a ≡ b → c ≡ d → x ≡ y
        → ◌≡◌ {A = Nest} (record { id = a; payload = c; crc = x }) (record { id = b; payload = d; crc = y })
    same a b c d x y p q r = rw (p, q, r)

-- ---- what the code answers

module _ (s : List ℕ) where
  pub body-long : 1024 < claimed s → 0 ≡ body_len s
  unfolding body_len
  body-long h = sym (only_no _ _ (lt-leb _ 1024 h))

  pub body-short : length s < claimed s + 6 → 0 ≡ body_len s
  unfolding body_len
  body-short h = simp (sym (bytes-short (claimed s + 6) s h), only_zero)

  pub body-there : Bytes s → claimed s ≤ 1024 → claimed s + 6 ≤ length s → claimed s + 6 ≡ body_len s
  unfolding body_len
  body-there b h k = bytes-there (claimed s + 6) s b k ∙ sym (only_yes _ _ (le-leb _ 1024 h))

pub body-inside : (s : List ℕ) → body_len s ≤ length s
body-inside = inside body-right

-- behind the preamble: id, length, payload and CRC are there, or Nest's length test fails
module _ (mark : List ℕ) (some : 0 < length mark) (s : List ℕ) (starts : StartsWith mark s) (n : ℕ) (e : n ≡ body_len (part (length mark) (length s) s)) where
  behind : n ≡ body_len (drop (length mark) s)
  behind = e ∙ ap body_len (part-rest (length mark) s)

  room : length mark ≤ length s
  room = mark-inside mark s starts

  pub not-long : Bytes s → n ≡ 0 → Long mark s → ⊥
  not-long b z l =
      let enough : claimed (drop (length mark) s) + 6 ≤ length (drop (length mark) s) = omega (arith, l.enough, length-drop (length mark) s) in
      omega (arith, z, behind, body-there (drop (length mark) s) (bytes_drop (length mark) s b) l.short enough)

  -- what is found is laid out so
  pub body-form : 0 < n → length mark + n ≡ nest_form_len mark s
  unfolding nest_form_len
  body-form nz =
      let w : word_len mark s ≡ length mark = word-there mark s (with-starts mark s starts) in
      sym (rw (w, ← behind) (on_both (length mark) n some nz))

  pub end-inside : length mark + n ≤ length s
  end-inside = omega (arith, behind, body-inside (drop (length mark) s), length-drop (length mark) s, room)

  pub end-six : 0 < n → 6 ≤ n
  end-six nz =
      let k = body-right.sound (drop (length mark) s) (omega (arith, nz, behind)) in
      let m = k.is.fields in
      omega (arith, behind, k.size, ap length (Body.layout k.is), body-length m.id m.crc m.payload)

  pub end-two : 0 < n → 2 ≤ length (part (length mark) (length mark + n) s)
  end-two nz = omega (arith, end-six nz, length_part (length mark) (length mark + n) s (omega arith) end-inside)

  pub end-payload : length mark + n - 2 ≡ length (take (length mark + n) s) - 2
  end-payload = ap (λ (k : ℕ). k - 2) (sym (length-take-le (length mark + n) s end-inside))

  pub pair-there : {c : Compared} → c ≡ crc_pair (part (length mark) (length mark + n) s) → crc_pair (drop (length mark) (take (length mark + n) s)) ∷ [] ≡ c ∷ []
  pair-there q = ap (λ (d : Compared). d ∷ []) (sym (q ∙ ap crc_pair (sym (front_rest (length mark) (length mark + n) s (omega arith)))))

-- what the code compares
pub crc-compared : (u : List ℕ) (x y : ℕ) → x ≡ get_or u (length u - 2) 0 + get_or u (length u - 2 + 1) 0 * 256
    → y ≡ check nest_crc (part 0 (length u - 2) u) → ◌≡◌ {A = Compared} (record { found = x; expected = y }) (crc_pair u)
unfolding crc_pair
crc-compared u x y e f = same-pair e (f ∙ ap (check nest_crc) (part-front (length u - 2) u))
