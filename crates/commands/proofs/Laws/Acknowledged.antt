-- The acknowledgement of a Homiq frame, from its payload.
-- Assumes nothing.
use Rattle.std.specs.Prelude.{Result, Err}
use mathlib.Core.Path.{◌≡◌, refl, sym, ◌∙◌, ap, subst}
use mathlib.Core.Bool.{false, true≢false}
use mathlib.Core.List.{List, [], ◌∷◌, ◌++◌, append_assoc}
use Prim.Native.Nat.{ℕ, ◌+◌, ◌-◌, ◌≤◌, ◌<◌}
use native.Mathlib.Omega.{arith}
use lib.Dec.{lit≤}
use lib.ListN.{length, get_or, length-append}
use lib.Seq.{get_or-append_seam}
use Rattle.digits.specs.Paper.Ascii.{ascii}
use Rattle.digits.specs.Paper.Bytes.{part}
use Rattle.digits.specs.Paper.Decimal.{decimal}
use Rattle.digits.specs.Paper.Refusals.{refusal_number, refusal_order, First}
use Rattle.digits.specs.declared.refusal.Refusal.{Refusal}
use Rattle.digits.specs.declared.refusal.Refusal.TheVariants.{OutOfLimits}
use Rattle.digits.proofs.Laws.Parts.{part-front}
use Rattle.digits.proofs.Laws.Refusals.{cause-at, some_number}
use Rattle.puts.specs.Paper.Put.{Put}
use Rattle.puts.specs.Paper.Wrote.{Written}
use Rattle.puts.proofs.Laws.Puts.{put-length, front-count, front_bytes}
use Rattle.layouts.specs.Paper.Chars.{one_of}
use Rattle.layouts.specs.Paper.Homiq as homiqs
use Rattle.layouts.specs.Paper.Layout.{bytes_of}
use Rattle.layouts.specs.Paper.Made.{Wire, homiq_of, Payload}
use Rattle.layouts.proofs.Laws.Made.{homiq-fit}
use Rattle.layouts.proofs.Theorems.{one-homiq}
use Rattle.frames.specs.Paper.Kinds.{Frame, number_of}
use Rattle.frames.specs.declared.kinds.Kind.TheVariants.{Homiq}
use Rattle.frames.proofs.Laws.Kinds.{kind-known, of-kind, as-frame}
use Rattle.frames.specs.Paper.OneFrame as whole
use Rattle.frames.specs.Paper.OneFrame.{OneFrameCause, TestsOneFrame}
use Rattle.frames.specs.declared.FramePayload.{FramePayload}
use Rattle.builds.specs.Paper.Builds as builds
use Rattle.builds.specs.Paper.Builds.{HomiqCause, HomiqBytes, BuildsHomiq}
use Rattle.builds.proofs.Laws.Homiq.{whole-frame, one-bytes, longest}
use Rattle.puts.proofs.Laws.Right.{ours, first-5, recast, refused-5}
use Rattle.messages.specs.Paper.Content.{wire_of, content_at, laid, payload_in}
use Rattle.messages.specs.Paper.Content as content
use Rattle.messages.specs.Work.Content.{Fit}
use Rattle.messages.specs.Work.Answers.{Payloaded}
use Rattle.messages.proofs.Laws.Decode.{first-same, the-part}
use Rattle.messages.proofs.Laws.Frames.{content-fit, content-bytes, one-content, frame-of}
use Rattle.messages.proofs.Laws.HomiqFields.{payload-cmd, payload-val, payload-src, payload-dst, payload-id}
use Rattle.commands.specs.Paper.Acknowledge.{FrameOf, type_a, acknowledged, acknowledgement, AcknowledgeCause, no-frame, answered, short, AcknowledgementOf, Acknowledges}
use Rattle.commands.specs.Work.Homiq.{Laid, Answered, exchanged}

-- ---- a payload's type is its last character

last_of : (a : List ℕ) (x : ℕ) {p : List ℕ} → p ≡ a ++ (x ∷ []) → (1 ≤ length p) × (get_or p (length p - 1) 0 ≡ x)
last_of a x {p} e =
    let n : length p ≡ length a + 1 = ap length e ∙ length-append a (x ∷ []) in
    let z : length p - 1 ≡ length a = omega arith in
    (omega arith, ap (λ (i : ℕ). get_or p i 0) z ∙ ap (λ (s : List ℕ). get_or s (length a) 0) e ∙ get_or-append_seam a x [] 0)

last-type : {p : List ℕ} {w : Wire} → Payload p w → (1 ≤ length p) × (get_or p (length p - 1) 0 ≡ w.type)
last-type {p} {w} x =
    let z : List ℕ = ascii ";" in
    last_of (w.cmd ++ z ++ w.val ++ z ++ w.src ++ z ++ w.dst ++ z ++ decimal w.id ++ z) w.type x.laid

-- ---- SRC and DST exchanged, and `a`

put-together : (z t : List ℕ) {a b c d e a' b' c' d' e' : List ℕ} → a ≡ a' → b ≡ b' → c ≡ c' → d ≡ d' → e ≡ e'
    → a ++ z ++ (b ++ z) ++ (c ++ z) ++ (d ++ z) ++ (e ++ z) ++ t ≡ a' ++ z ++ b' ++ z ++ c' ++ z ++ d' ++ z ++ e' ++ z ++ t
put-together z t {a' = a} {b' = b} {c' = c} {d' = d} {e' = e} p q r s u = rw (p, q, r, s, u) (regroup a b c d e)
  where
    regroup : (a b c d e : List ℕ)
        → a ++ z ++ (b ++ z) ++ (c ++ z) ++ (d ++ z) ++ (e ++ z) ++ t ≡ a ++ z ++ b ++ z ++ c ++ z ++ d ++ z ++ e ++ z ++ t
    regroup a b c d e = simp append_assoc

exchanged-payload : {p : List ℕ} {w : Wire} → Payload p w → Payload (exchanged p) (acknowledged w)
unfolding one_of
exchanged-payload {p} {w} x =
    let l = x.limits in
    record {
      limits =
          homiq-fit (acknowledged w) 0
          (record { cmd = l.cmd; val = l.val; src = l.dst; dst = l.src; id = l.id; type = tt; crc = lit≤ tt });
      laid = put-together (ascii ";") (ascii "a") (payload-cmd x) (payload-val x) (payload-dst x) (payload-src x) (payload-id x);
    }

-- as long as it was
exchanged-length : {p : List ℕ} {w : Wire} → Payload p w → length (exchanged p) ≡ length p
exchanged-length {w = w} x =
    ap length (exchanged-payload x).laid ∙ as_long (ascii ";") (type_a ∷ []) (w.type ∷ []) w.cmd w.val w.dst w.src (decimal w.id) refl ∙ sym (ap length x.laid)
  where
    as_long : (z t u a b c d e : List ℕ) → length t ≡ length u
        → length (a ++ z ++ b ++ z ++ c ++ z ++ d ++ z ++ e ++ z ++ t) ≡ length (a ++ z ++ b ++ z ++ d ++ z ++ c ++ z ++ e ++ z ++ u)
    as_long z t u a b c d e q = simp length-append (omega arith)

-- laid out in a room that has a place for it
module _ {p own made : List ℕ} {n : ℕ} (l : Laid p) (put : Put own made 0 n (exchanged p)) (long : length own ≡ 64) where
  fits : length (exchanged p) ≤ length own
  fits = omega (arith, longest (exchanged-payload l.payload), long)

  ends : length p ≡ n
  ends = omega (arith, exchanged-length l.payload, front-count put fits)

  pub reply-inside : length p ≤ length made
  reply-inside = omega (arith, ends, put-length put, front-count put fits, fits)

  pub reply-bytes : part 0 (length p) made ≡ exchanged p
  reply-bytes = ap (λ (e : ℕ). part 0 e made) ends ∙ part-front n made ∙ front_bytes put fits

-- ---- the answers

only : {f : List ℕ} {n : ℕ} (k : ℕ) → ours k ≡ false → AcknowledgeCause f n k → ⊥
only k e (no-frame g) = true≢false e
only k e (answered q t) = true≢false e
only k e (short q h) = true≢false e

pub one-frame-of : {f : List ℕ} {v w : Wire} → FrameOf f v → FrameOf f w → v ≡ w
one-frame-of {f} {v} {w} q r = ap wire_of (one-homiq (homiq_of v) (homiq_of w) q.limits r.limits (sym q.frame ∙ r.frame))

module _ {p f : List ℕ} {w : Wire} (x : Payload p w) (is : FrameOf f w) where
  -- of type `a`
  pub of-type-a : {room : List ℕ} → get_or p (length p - 1) 0 ≡ type_a → Acknowledges f room (Err OutOfLimits) room
  of-type-a e = refused-5 (first-5 only (answered is (sym (last-type x).1 ∙ e)))

  -- and of type `s`
  module _ (other : get_or p (length p - 1) 0 ≡ type_a → ⊥) where
    same_size : (v : Wire) → Payload (exchanged p) v → length (bytes_of homiqs.homiq (homiq_of v)) ≡ length (acknowledgement w)
    same_size v y = ap length (sym (whole-frame y) ∙ whole-frame (exchanged-payload x))

    to : {n : ℕ} (no : ℕ) → HomiqCause (exchanged p) n no → AcknowledgeCause f n no
    to i (builds.outside g) = absurd (g (acknowledged w) (exchanged-payload x))
    to i (builds.short {w = v} y h) = short is (omega (arith, same_size v y, h))

    back : {n : ℕ} (no : ℕ) → AcknowledgeCause f n no → HomiqCause (exchanged p) n no
    back i (no-frame g) = absurd (g w is)
    back i (answered {w = v} q t) = absurd (other ((last-type x).1 ∙ ap (λ (u : Wire). u.type) (one-frame-of is q) ∙ t))
    back {n} i (short {w = v} q h) = builds.short (exchanged-payload x) (subst (λ (u : Wire). n < length (acknowledgement u)) (one-frame-of q is) h)

    still : (bs : List ℕ) → HomiqBytes (exchanged p) bs → AcknowledgementOf f bs
    still bs y =
        record {
          wire = w;
          frame = is;
          is = one-bytes (exchanged p) bs (acknowledgement w) y (record { wire = acknowledged w; payload = exchanged-payload x; bytes = refl });
        }

    pub of-type-s : {room later s : List ℕ} (r : Written) → s ≡ exchanged p → BuildsHomiq s room r later → Acknowledges f room r later
    of-type-s {room} {later} r e b =
        recast (first-same to back refusal_order) still (subst (λ (s : List ℕ). BuildsHomiq s room r later) e b)

-- ---- a frame and its payload

-- the frame of fields within their limits
pub framed : {p : List ℕ} {w : Wire} → Payload p w → FrameOf (bytes_of homiqs.homiq (homiq_of w)) w
framed x = record { limits = x.limits; frame = refl }

-- the number that the code asks for is Homiq's
pub tested : {k : ℕ} {f : List ℕ} (r : Result FramePayload Refusal) → k ≡ number_of Homiq → TestsOneFrame k f r → TestsOneFrame 5 f r
tested {f = f} r e a = subst (λ (k : ℕ). TestsOneFrame k f r) e a

module _ {f : List ℕ} {from to : ℕ} (o : Payloaded 5 f from to) where
  its-wire : (w : Wire) × (f ≡ bytes_of homiqs.homiq (homiq_of w)) × Payload (part from to f) w
  its-wire =
      let r = of-kind o.frame Homiq refl in
      let same : content_at o.frame ≡ content.homiq (wire_of r.form.fields) = one-content o.frame (as-frame Homiq r) in (
        wire_of r.form.fields,
        content-bytes o.frame ∙ ap laid same,
        record { limits = subst Fit same (content-fit o.frame); laid = the-part o ∙ ap payload_in same },
      )

  pub frame-laid : Laid (part from to f)
  frame-laid = record { wire = its-wire.0; payload = its-wire.2 }

  pub frame-answered : {room later : List ℕ} (r : Written) → Answered (part from to f) room r later → Acknowledges f room r later
  frame-answered {room} {later} r a =
      subst (λ (g : List ℕ). Acknowledges g room r later) (sym its-wire.1) (a its-wire.0 its-wire.2)

-- ---- no frame

module _ {f : List ℕ} (room : List ℕ) where
  by-cause : {no : ℕ} → OneFrameCause 5 f no → Acknowledges f room (Err OutOfLimits) room
  by-cause (whole.no_kind h) = absurd (true≢false (sym (kind-known Homiq) ∙ h))
  by-cause (whole.no-frame g) =
      refused-5 (first-5 only (no-frame (λ w q. g (subst (Frame 5) (sym q.frame) (frame-of (content.homiq w) q.limits)))))

  pub none-acknowledged : (why : Refusal) → First (OneFrameCause 5 f) refusal_order (refusal_number why) → Acknowledges f room (Err OutOfLimits) room
  none-acknowledged why c = by-cause (cause-at c (some_number why))
