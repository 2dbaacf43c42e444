-- The recognisers of Nibe find its frames, and only those.
-- Assumes nothing.
use mathlib.Core.Bool.{true, false}
use mathlib.Core.List.{List, [], ◌∷◌, ◌++◌}
use mathlib.Core.Path.{◌≡◌, refl, sym, ◌∙◌, ap, ap₂, subst}
use Prim.Native.Nat.{ℕ, suc, ◌+◌, ◌-◌, ◌≤◌, ◌<◌}
use native.Mathlib.Decide.{dec_le}
use native.Mathlib.Omega.{arith}
use lib.Dec.{T, eqb, eqb→eq}
use lib.ListN.{length, get_or, take, drop, length-append, drop_of_length-le, get_or-append}
use lib.Seq.{length-take-le, get_or-append_seam, split_at}
use borrow.Author.Tests.{eq-eqb, le-leb, lt-leb}
use Rattle.digits.proofs.Laws.Bytes.{bytes-nil, bytes-cons, bytes-tail, bytes-append, bytes_take}
use Rattle.digits.proofs.Laws.Parts.{part-middle, part-front, take-ats}
use Rattle.digits.proofs.Laws.Tests.{T_true}
use Rattle.digits.specs.Paper.Bytes.{Bytes, part}
use Rattle.checks.proofs.Theorems.{nibe-xor}
use Rattle.checks.specs.Paper.Buses.{nibe_xor}
use Rattle.checks.specs.Paper.Check.{check}
use Rattle.checks.specs.Paper.Xor.{xor_of}
use Rattle.layouts.specs.Paper.Chars.{one_of, all}
use Rattle.layouts.specs.Paper.Layout.{bytes_of, payload_to, Form}
use Rattle.layouts.specs.Paper.Nibe.{Nibe, commands, covered, Limits, compared, Begun, Long, nibe}
use Rattle.layouts.specs.Work.Heads.{only_if, is_byte, bytes_len}
use Rattle.layouts.specs.Work.Nibe.{nibe_form_len, claimed_len, nibe_pair, nibe_recogniser}
use Rattle.layouts.specs.declared.Compared.{Compared}
use Rattle.layouts.proofs.Laws.Buses.{Bus, one-pair, same-pair}
use Rattle.layouts.proofs.Laws.ByteRuns.{all-bytes, bytes-all, one-of-bytes, bytes-there}
use Rattle.layouts.proofs.Laws.Heads.{Head, Right, Run, run-right, only-test, only-eq, only_yes, only_no, only_zero, starts?, mark-at, mark-inside, cut-same}

-- the last element of a list, and those before it
last-split : (n : ℕ) (u : List ℕ) → length u ≡ n + 1 → u ≡ take n u ++ (get_or u n 0 ∷ [])
last-split n u l =
    let k : length u ≤ suc n = omega arith in
    let d : drop (suc n) u ≡ [] = drop_of_length-le u k in
    split_at u n 0 (omega arith) ∙ ap (λ (r : List ℕ). take n u ++ get_or u n 0 ∷ r) d

made : (w : List ℕ) (n : ℕ) → length w ≡ n + 4 → get_or w 0 0 ≡ 0xC0 → T (one_of commands (get_or w 1 0)) → n ≡ get_or w 2 0 → Bytes w → Form nibe w
made [] n l a o e b = absurd (omega arith)
made (x ∷ []) n l a o e b = absurd (omega arith)
made (x ∷ y ∷ []) n l a o e b = absurd (omega arith)
made (x ∷ y ∷ z ∷ u) n l a o e b =
    let bu : Bytes u = bytes-tail (bytes-tail (bytes-tail b)) in
    let bz : z < 256 = b.each 2 in
    let k : length (take n u) ≡ n = length-take-le n u (omega arith) in
    let f : z ≡ length (take n u) = omega arith in
    record {
      fields = record { command = y; content = take n u; xor = get_or u n 0 };
      limits = record { command = o; short = omega arith; bytes = bytes_take n u bu; xor = bu.each n };
      laid = ap₂ (λ (p : ℕ) (q : List ℕ). p ∷ y ∷ z ∷ q) a (last-split n u (omega arith)) ∙ ap (λ (p : ℕ). 0xC0 ∷ y ∷ p ∷ (take n u ++ (get_or u n 0 ∷ []))) f;
    }

frame-bytes : (m : Nibe) → Limits m → Bytes (bytes_of nibe m)
unfolding all is_byte
frame-bytes m l =
    let short = l.short in
    bytes-cons {b = 0xC0} (omega arith)
    (bytes-cons (one-of-bytes commands m.command tt l.command)
    (bytes-cons {b = length m.content} (omega arith) (bytes-append m.content (m.xor ∷ []) l.bytes (bytes-cons l.xor bytes-nil))))

pub nibe-size : (m : Nibe) → length (bytes_of nibe m) ≡ length m.content + 4
nibe-size m = omega (arith, length-append m.content (m.xor ∷ []))

forms : Right (Form nibe) nibe_form_len
unfolding nibe_form_len
forms = record { some = some; sound = sound; complete = complete }
  where
    some : {w : List ℕ} → Form nibe w → 0 < length w
    some r = rw r.laid (omega (arith, nibe-size r.fields))

    found : (s : List ℕ) (n : ℕ) → get_or s 0 0 ≡ 0xC0 → T (one_of commands (get_or s 1 0)) → n ≡ get_or s 2 0 → Head (Run is_byte (n + 4)) s (n + 4) → Head (Form nibe) s (n + 4)
    found s n a o e h =
        let q = h.is in
        let at : (i : ℕ) → i < 4 → get_or h.word i 0 ≡ get_or s i 0 = λ i k. front h.word h.rest i (omega (arith, q.size)) ∙ ap (λ (l : List ℕ). get_or l i 0) (sym h.splits) in
        record {
          word = h.word;
          rest = h.rest;
          splits = h.splits;
          is = made h.word n q.size (at 0 (omega arith) ∙ a) (rw (at 1 (omega arith)) o) (e ∙ sym (at 2 (omega arith))) (bytes-all h.word q.each);
          size = h.size;
        }
      where
        front : (u v : List ℕ) (i : ℕ) → i < length u → get_or u i 0 ≡ get_or (u ++ v) i 0
        front u v i k = sym (get_or-append u v 0 i k)

    sound : (s : List ℕ) → 0 < nibe_form_len s → Head (Form nibe) s (nibe_form_len s)
    sound s h₀ =
        let e₀ = only-eq _ _ h₀ in
        let h₁ = rw e₀ at h₀ in
        let e₁ = only-eq _ _ h₁ in
        let h₂ = rw e₁ at h₁ in
        let h = (run-right is_byte (get_or s 2 0 + 4) (omega arith)).sound s h₂ in
        let e : bytes_len (get_or s 2 0 + 4) s ≡ get_or s 2 0 + 4 = h.size ∙ h.is.size in
        subst (λ (k : ℕ). Head (Form nibe) s k) (sym (e₀ ∙ e₁ ∙ e))
        (found s (get_or s 2 0) (eqb→eq _ _ (only-test _ _ h₀)) (only-test _ _ h₁) refl (subst (λ (k : ℕ). Head (Run is_byte (get_or s 2 0 + 4)) s k) e h))

    complete : {w : List ℕ} → Form nibe w → (t : List ℕ) → nibe_form_len (w ++ t) ≡ length w
    complete r t =
        let m = r.fields in
        let w = bytes_of nibe m in
        let run : Run is_byte (length m.content + 4) w = record { size = nibe-size m; each = rw (all-bytes w (frame-bytes m r.limits)) tt } in
        rw r.laid
        (only_yes _ _ refl ∙ only_yes _ _ (T_true _ r.limits.command) ∙ (run-right is_byte (length m.content + 4) (omega arith)).complete run t)

-- the byte behind the data, and what the check covers
module _ (m : Nibe) where
  covered-part : part 2 (length (bytes_of nibe m) - 1) (bytes_of nibe m) ≡ covered m.content
  covered-part =
      part-middle (0xC0 ∷ m.command ∷ []) (covered m.content) (m.xor ∷ []) 2 (length (bytes_of nibe m) - 1) refl
      (omega (arith, length-append m.content (m.xor ∷ [])))

  check-byte : get_or (bytes_of nibe m) (length (bytes_of nibe m) - 1) 0 ≡ m.xor
  check-byte =
      let e : length (bytes_of nibe m) - 1 ≡ length (0xC0 ∷ m.command ∷ covered m.content) = omega (arith, length-append m.content (m.xor ∷ [])) in
      rw e (get_or-append_seam (0xC0 ∷ m.command ∷ covered m.content) m.xor [] 0)

-- the length is a byte too, and so the check of x^8 + 1 is the XOR
pub covered-bytes : (d : List ℕ) → length d ≤ 255 → Bytes d → Bytes (covered d)
covered-bytes d short bytes = bytes-cons {b = length d} (omega arith) bytes

pub covered-xor : (d : List ℕ) → length d ≤ 255 → Bytes d → check nibe_xor (covered d) ≡ xor_of (covered d)
covered-xor d short bytes = nibe-xor (covered d) (covered-bytes d short bytes)

compares : (w : List ℕ) (r : Form nibe w) → compared r.fields ≡ nibe_pair w ∷ []
unfolding nibe_pair
compares w r =
    let m = r.fields in
    let f = ap (λ (u : List ℕ). get_or u (length u - 1) 0) r.laid ∙ check-byte m in
    let e = ap (λ (u : List ℕ). check nibe_xor (part 2 (length u - 1) u)) r.laid ∙ ap (check nibe_xor) (covered-part m) ∙ covered-xor m.content r.limits.short r.limits.bytes in
    ap (λ (c : Compared). c ∷ []) (same-pair (sym f) (sym e))

long : (m : Nibe) (t : List ℕ) → Long (bytes_of nibe m ++ t)
long m t = omega (arith, length-append (bytes_of nibe m) t, nibe-size m)

ends : (w : List ℕ) (r : Form nibe w) → payload_to nibe r.fields ≡ length w - 1
ends w r = let m = r.fields in rw r.laid (omega (arith, length-append m.content (m.xor ∷ [])))

-- NIBE: its recognisers find its frames, and only those
pub nibe-bus : Bus nibe nibe_recogniser
nibe-bus =
    record {
      forms = forms;
      compares = compares;
      few = λ w. one-pair (nibe_pair w);
      begins = λ w r. refl;
      ends = ends;
      begun? = λ s. starts? (0xC0 ∷ []) s;
      long? = λ s. dec_le (get_or s 2 0 + 4) (length s);
      laid-begun = λ m l t. refl;
      laid-long = λ m l t. long m t;
    }

-- no two frames' fields have the same bytes
pub nibe-one : (m n : Nibe) → bytes_of nibe m ≡ bytes_of nibe n → m ≡ n
nibe-one m n e =
    let l : length m.content ≡ length n.content = ap (λ (s : List ℕ). get_or s 2 0) e in
    let q = cut-same m.content n.content (m.xor ∷ []) (n.xor ∷ []) l (ap (drop 3) e) in
    same m.command n.command m.content n.content m.xor n.xor (ap (λ (s : List ℕ). get_or s 1 0) e) q.0 (ap (λ (s : List ℕ). get_or s 0 0) q.1)
  where
    same : (a b : ℕ) (c d : List ℕ) (x y : ℕ) → a ≡ b → c ≡ d → x ≡ y
        → ◌≡◌ {A = Nibe} (record { command = a; content = c; xor = x }) (record { command = b; content = d; xor = y })
    same a b c d x y p q r = rw (p, q, r)

-- ---- what the code answers

module _ (s : List ℕ) where
  pub mark-missing : length s ≡ 0 → Begun s → ⊥
  mark-missing z b = omega (arith, z, mark-inside (0xC0 ∷ []) s b)

  pub mark-other : (get_or s 0 0 ≡ 0xC0 → ⊥) → Begun s → ⊥
  mark-other f b = f (mark-at (0xC0 ∷ []) s b 0 (omega arith))

  pub mark-there : (length s ≡ 0 → ⊥) → get_or s 0 0 ≡ 0xC0 → Begun s
  mark-there nz e = rw (take-ats s 1 0 (omega (arith, nz))) (ap (λ (x : ℕ). x ∷ []) e)

  pub no-command : one_of commands (get_or s 1 0) ≡ false → nibe_form_len s ≡ 0
  unfolding nibe_form_len
  no-command h = ap (only_if (eqb (get_or s 0 0) 0xC0)) (only_no (one_of commands (get_or s 1 0)) _ h) ∙ only_zero _

  -- the code tests the length that stands there
  pub claim-short : length s < get_or s 2 0 + 4 → 0 ≡ claimed_len s
  unfolding claimed_len
  claim-short h = sym (only_no _ _ (lt-leb _ _ h))

  pub claim-there : get_or s 2 0 + 4 ≤ length s → get_or s 2 0 + 4 ≡ claimed_len s
  unfolding claimed_len
  claim-there h = sym (only_yes _ _ (le-leb _ _ h))

  pub not-long : claimed_len s ≡ 0 → Long s → ⊥
  not-long z h = omega (arith, z, claim-there h)

  module _ (n : ℕ) (is : (n ≡ claimed_len s) × (0 < n)) where
    pub is-long : Long s
    is-long = go (dec_le (get_or s 2 0 + 4) (length s))
      where
        go : Dec (Long s) → Long s
        go (yes h) = h
        go (no f) = let z = claim-short (omega (arith, f)) in omega (arith, is, z)

    claim-is : n ≡ get_or s 2 0 + 4
    claim-is = is.0 ∙ sym (claim-there is-long)

    pub claim-inside : n ≤ length s
    claim-inside = omega (arith, is-long, claim-is)

    pub claim-four : 4 ≤ length (part 0 n s)
    claim-four = omega (arith, claim-is, ap length (part-front n s), length-take-le n s claim-inside)

    -- with the mark before it and a command it is what is laid out so
    pub claim-form : Bytes s → get_or s 0 0 ≡ 0xC0 → one_of commands (get_or s 1 0) ≡ true → n ≡ nibe_form_len s
    unfolding nibe_form_len
    claim-form b a o = claim-is ∙ bytes-there (get_or s 2 0 + 4) s b is-long ∙ sym (only_yes _ _ (eq-eqb _ _ a) ∙ only_yes _ _ o)

    pub claim-end : n - 1 ≡ length (take n s) - 1
    claim-end = ap (λ (k : ℕ). k - 1) (sym (length-take-le n s claim-inside))

  pub pair-there : (n : ℕ) {c : Compared} → c ≡ nibe_pair (part 0 n s) → nibe_pair (take n s) ∷ [] ≡ c ∷ []
  pair-there n e = ap (λ (d : Compared). d ∷ []) (sym (e ∙ ap nibe_pair (part-front n s)))
