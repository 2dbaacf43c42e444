-- A payload laid out as a Homiq frame is one only where the payload is that of six fields within their limits, and then it is the
-- frame of these.
-- Assumes nothing.
use Rattle.std.specs.Prelude.{Err}
use mathlib.Core.Path.{◌≡◌, refl, sym, ap, ◌∙◌, subst}
use mathlib.Core.Bool.{false, true≢false}
use mathlib.Core.List.{List, [], ◌∷◌, ◌++◌, append_assoc, append_cancel_right}
use Prim.Native.Nat.{ℕ, suc, ◌+◌, ◌≤◌, ◌<◌}
use native.Mathlib.Nat.{le_refl}
use native.Mathlib.Omega.{arith}
use lib.Dec.{T}
use lib.ListN.{length, get_or, take, drop, length-append}
use lib.Seq.{take_all, get_or-append_seam}
use Rattle.digits.proofs.Laws.Decimal.{length-decimal}
use Rattle.digits.proofs.Laws.Parts.{part-front}
use Rattle.digits.specs.Paper.Ascii.{ascii}
use Rattle.digits.specs.Paper.Bytes.{part}
use Rattle.digits.specs.Paper.Decimal.{decimal}
use Rattle.digits.specs.Paper.Refusals.{refusal_order, First}
use Rattle.digits.specs.declared.refusal.Refusal.TheVariants.{OutOfLimits}
use Rattle.checks.proofs.Laws.Feed.{check-lt}
use Rattle.checks.specs.Paper.Buses.{homiq_crc}
use Rattle.checks.specs.Paper.Check.{check}
use Rattle.layouts.proofs.Laws.Buses.{first-agrees, one-lead}
use Rattle.layouts.proofs.Laws.Homiq.{payload-without-separators, homiq-bus}
use Rattle.layouts.proofs.Laws.HomiqFields.{decimal-figures}
use Rattle.layouts.proofs.Laws.Runs.{all-at}
use Rattle.layouts.specs.Paper.Chars.{all, CR, LF}
use Rattle.layouts.specs.Paper.Homiq as homiqs
use Rattle.layouts.specs.Paper.Homiq.{Homiq, homiq, without_separators}
use Rattle.std.specs.Prelude.{Option, Some, None}
use Rattle.layouts.specs.Paper.Layout.{all-agree, agree, bytes_of, frame_of, FrameBy, Leads, leads}
use Rattle.layouts.specs.declared.Frame.{Frame}
use Rattle.layouts.specs.Paper.Made.{Wire, closed, homiq_of, Payload}
use Rattle.layouts.specs.Work.Homiq.{is_figure}
use Rattle.puts.specs.Paper.Put.{Put}
use Rattle.puts.specs.Paper.Wrote.{RoomCause, Writes, Written}
use Rattle.puts.proofs.Laws.Puts.{put-length, front-count, front_bytes}
use Rattle.builds.specs.Paper.Builds.{HomiqCause, outside, short, HomiqBytes, BuildsHomiq}
use Rattle.builds.specs.Work.Homiq.{around}
use Rattle.layouts.proofs.Laws.Made.{homiq-fit}
use Rattle.puts.proofs.Laws.Right.{ours, first-5, first-4, no-cause, fronted-right, refused-5}

-- ---- a payload and a CRC, with what stands around them

abbrev wrap : List ℕ → ℕ → List ℕ
wrap p c = ascii "<;" ++ p ++ (ascii ";" ++ decimal c ++ ascii ";>" ++ (CR ∷ LF ∷ []))

around-wrap : (p : List ℕ) → around p ≡ wrap p (check homiq_crc (without_separators p))
around-wrap p = regroup (ascii "<;") p (ascii ";") (decimal (check homiq_crc (without_separators p))) (ascii ";>") (CR ∷ LF ∷ [])
  where
    regroup : (o p z d g e : List ℕ) → o ++ p ++ z ++ d ++ g ++ e ≡ o ++ p ++ (z ++ d ++ g ++ e)
    regroup o p z d g e = simp append_assoc

-- a digit is no separator
no-figure : (b y : List ℕ) → T (all is_figure (b ++ 59 ∷ y)) → ⊥
unfolding is_figure
no-figure b y t =
    let n : length (b ++ 59 ∷ y) ≡ length b + suc (length y) = length-append b (59 ∷ y) in
    let f : T (is_figure (get_or (b ++ 59 ∷ y) (length b) 0)) = all-at is_figure (b ++ 59 ∷ y) (length b) t (omega arith) in
    rw (get_or-append_seam b 59 y 0) at f

-- what stands before the last separator
before_last : (a b x y : List ℕ) → T (all is_figure x) → T (all is_figure y) → a ++ 59 ∷ x ≡ b ++ 59 ∷ y → a ≡ b
before_last [] [] x y f g e = refl
before_last [] (u ∷ b) x y f g e = let k : x ≡ b ++ 59 ∷ y = ap (drop 1) e in absurd (no-figure b y (subst (λ (l : List ℕ). T (all is_figure l)) k f))
before_last (v ∷ a) [] x y f g e = let k : y ≡ a ++ 59 ∷ x = sym (ap (drop 1) e) in absurd (no-figure a x (subst (λ (l : List ℕ). T (all is_figure l)) k g))
before_last (v ∷ a) (u ∷ b) x y f g e =
    let h : v ≡ u = ap (λ (l : List ℕ). get_or l 0 0) e in
    let k : a ≡ b = before_last a b x y f g (ap (drop 1) e) in
    rw (h, k)

wrap-payload : (p q : List ℕ) (c d : ℕ) → wrap p c ≡ wrap q d → p ≡ q
wrap-payload p q c d e =
    let end : List ℕ = ascii ";>" ++ (CR ∷ LF ∷ []) in
    before_last p q (decimal c) (decimal d) (decimal-figures c) (decimal-figures d)
    (append_cancel_right (p ++ 59 ∷ decimal c) (q ++ 59 ∷ decimal d) end (sym (inner p c) ∙ ap (drop 2) e ∙ inner q d))
  where
    inner : (p : List ℕ) (c : ℕ) → drop 2 (wrap p c) ≡ (p ++ 59 ∷ decimal c) ++ (ascii ";>" ++ (CR ∷ LF ∷ []))
    inner p c = regroup p (ascii ";") (decimal c) (ascii ";>") (CR ∷ LF ∷ [])
      where
        regroup : (p z d g e : List ℕ) → p ++ (z ++ d ++ g ++ e) ≡ (p ++ (z ++ d)) ++ (g ++ e)
        regroup p z d g e = simp append_assoc

-- ---- the frame with a payload

-- of six fields within their limits it is this one
pub whole-frame : {p : List ℕ} {w : Wire} → Payload p w → around p ≡ bytes_of homiq (homiq_of w)
whole-frame {p} {w} h =
    around-wrap p ∙ ap (λ (q : List ℕ). wrap q (check homiq_crc (without_separators q))) h.laid
    ∙ ap (λ (u : List ℕ). wrap (homiqs.payload (homiq_of w)) (check homiq_crc u)) (payload-without-separators (homiq_of w) h.limits)

pub one-bytes : (p a b : List ℕ) → HomiqBytes p a → HomiqBytes p b → a ≡ b
one-bytes p a b x y = x.bytes ∙ sym (whole-frame x.payload) ∙ whole-frame y.payload ∙ sym y.bytes

-- what is a frame is that of six fields
wire-of : Homiq → Wire
wire-of m = record { cmd = m.cmd; val = m.val; src = m.src; dst = m.dst; id = m.id; type = m.type }

framed : (p : List ℕ) → FrameBy homiq (around p) → HomiqBytes p (around p)
unfolding wire-of
framed p f =
    let m = f.form.fields in
    let w = wire-of m in
    let e : bytes_of homiq m ≡ bytes_of homiq (homiq_of w) = ap (λ (c : ℕ). bytes_of homiq (closed w c)) (first-agrees f.passes) in
    record {
      wire = w;
      payload =
          record {
            limits = homiq-fit w m.crc f.form.limits;
            laid = wrap-payload p (homiqs.payload m) (check homiq_crc (without_separators p)) m.crc (sym (around-wrap p) ∙ f.form.laid);
          };
      bytes = f.form.laid ∙ e;
    }

-- ---- how long they are

length-around : (p : List ℕ) → length (around p) ≤ length p + 10
length-around p =
    let c = check homiq_crc (without_separators p) in
    let h : c < 256 = check-lt homiq_crc (without_separators p) in
    let d : length (decimal c) ≤ 3 = length-decimal 2 c (omega arith) in
    let x : List ℕ = ascii "<;" ++ p in
    let y : List ℕ = x ++ ascii ";" in
    let z : List ℕ = y ++ decimal c in
    omega (arith, length-append (z ++ ascii ";>") (CR ∷ LF ∷ []), length-append z (ascii ";>"), length-append y (decimal c), length-append x (ascii ";"), length-append (ascii "<;") p)

-- a payload that may be one is laid out in 64 bytes
pub around-fits : (p : List ℕ) → length p ≤ 41 → length (around p) ≤ 64
around-fits p h = omega (arith, length-around p)

pub longest : {p : List ℕ} {w : Wire} → Payload p w → length p ≤ 41
longest {p} {w} h =
    let l = h.limits in
    let i : length (decimal w.id) ≤ 3 = length-decimal 2 w.id (omega (arith, l.id)) in
    let z : List ℕ = ascii ";" in
    let a₁ : List ℕ = w.cmd ++ z in
    let a₂ : List ℕ = a₁ ++ w.val in
    let a₃ : List ℕ = a₂ ++ z in
    let a₄ : List ℕ = a₃ ++ w.src in
    let a₅ : List ℕ = a₄ ++ z in
    let a₆ : List ℕ = a₅ ++ w.dst in
    let a₇ : List ℕ = a₆ ++ z in
    let a₈ : List ℕ = a₇ ++ decimal w.id in
    let a₉ : List ℕ = a₈ ++ z in
    omega (
      arith,
      ap length h.laid,
      length-append w.cmd z,
      length-append a₁ w.val,
      length-append a₂ z,
      length-append a₃ w.src,
      length-append a₄ z,
      length-append a₅ w.dst,
      length-append a₆ z,
      length-append a₇ (decimal w.id),
      length-append a₈ z,
      length-append a₉ (w.type ∷ []),
      l.cmd.short,
      l.val.short,
      l.src.short,
      l.dst.short,
    )

-- ---- the causes

module _ {p : List ℕ} {r : ℕ} where
  only : (k : ℕ) → ours k ≡ false → HomiqCause p r k → ⊥
  only k e (outside f) = true≢false e
  only k e (short h g) = true≢false e

  is-outside : ((w : Wire) → Payload p w → ⊥) → First (HomiqCause p r) refusal_order 5
  is-outside f = first-5 only (outside f)

  module _ {w : Wire} (h : Payload p w) where
    within : HomiqCause p r 5 → ⊥
    within (outside f) = f w h

    enough : length (around p) ≤ r → HomiqCause p r 4 → ⊥
    enough k (short x g) = omega (arith, ap length (whole-frame x))

    is-short : r < length (around p) → First (HomiqCause p r) refusal_order 4
    is-short k = first-4 only within (short h (omega (arith, ap length (whole-frame h))))

    is-clear : length (around p) ≤ r → First (HomiqCause p r) refusal_order 0
    is-clear k = no-cause only within (enough k)

-- ---- the answer

pub none-found : {v : Frame} → ◌≡◌ {A = Option Frame} None (Some v) → ⊥
none-found e = cc

pub one-found : {u v : Frame} → Some u ≡ Some v → u.len ≡ v.len
one-found {u} {v} e = let same : u ≡ v = cc in ap (λ (f : Frame). f.len) same

module _ (p room : List ℕ) where
  pub too_long : 41 < length p → BuildsHomiq p room (Err OutOfLimits) room
  too_long h = refused-5 (is-outside (λ w x. omega (arith, longest x)))

  -- the frame laid out in a room of its own, which is tried
  module _ {front whole : List ℕ} {n : ℕ} (put : Put front whole 0 n (around p)) (fits : length (around p) ≤ length front) where
    pub tried-bytes : part 0 n whole ≡ around p
    tried-bytes = part-front n whole ∙ front_bytes put fits

    pub tried-inside : n ≤ length whole
    tried-inside = omega (arith, put-length put, front-count put fits)

    module _ {o : Option Frame} (answer : Leads homiq (part 0 n whole) o) where
      answered : Leads homiq (around p) o
      answered = subst (λ (s : List ℕ). Leads homiq s o) tried-bytes answer

      -- no frame, or one that ends before the end
      pub no-frame : ((v : Frame) → o ≡ Some v → v.len ≡ n → ⊥) → BuildsHomiq p room (Err OutOfLimits) room
      no-frame f = refused-5 (is-outside (λ w x. f _ (found w x) (sym (front-count put fits))))
        where
          frame : (w : Wire) → Payload p w → FrameBy homiq (around p)
          frame w x = record { form = record { fields = homiq_of w; limits = x.limits; laid = whole-frame x }; passes = agree refl all-agree }

          all : (w : Wire) → Payload p w → FrameBy homiq (take (length (around p)) (around p))
          all w x = subst (FrameBy homiq) (sym (take_all (length (around p)) (around p) (le_refl (length (around p))))) (frame w x)

          found : (w : Wire) (x : Payload p w) → o ≡ Some (frame_of homiq (length (around p)) (all w x).form.fields)
          found w x = one-lead homiq-bus answered (leads (le_refl (length (around p))) (all w x))

      is-frame : {s : List ℕ} {v : Frame} → v.len ≡ length s → Leads homiq s (Some v) → FrameBy homiq s
      is-frame {s} e (leads {n = m} h f) = subst (FrameBy homiq) (take_all m s (omega arith)) f

      pub a-frame : {later : List ℕ} (r : Written) {v : Frame} → o ≡ Some v → v.len ≡ n
          → Writes (RoomCause (length room) (length (part 0 n whole))) (part 0 n whole) room r later → BuildsHomiq p room r later
      a-frame {later} r {v} is e w =
          let b : HomiqBytes p (around p) = framed p (is-frame (e ∙ front-count put fits) (subst (Leads homiq (around p)) is answered)) in
          fronted-right r b (is-clear b.payload) (is-short b.payload)
          (subst (λ (s : List ℕ). Writes (RoomCause (length room) (length s)) s room r later) tried-bytes w)
