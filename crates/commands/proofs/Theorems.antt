-- What decoding and encoding come to, for a reader: demand 2's round trips, and the acknowledgement.
-- Assumes nothing.
use mathlib.Core.Path.{◌≡◌, refl, sym, ◌∙◌, ap, subst}
use mathlib.Core.Bool.{true≢false}
use mathlib.Core.List.{List, ◌∷◌, ◌++◌}
use Prim.Native.Nat.{ℕ, ◌≤◌, ◌<◌}
use native.Mathlib.Decide.{ℕ_discrete}
use native.Mathlib.Omega.{arith}
use lib.Dec.{lit<}
use lib.ListN.{length, take, drop}
use Rattle.digits.specs.Paper.Bytes.{part}
use Rattle.digits.specs.Paper.LowFirst.{Width}
use Rattle.digits.specs.Paper.Refusals.{refusal_order, First, here, after}
use Rattle.digits.proofs.Laws.Refusals.{cause-at, cause-of, some_number}
use Rattle.puts.specs.Paper.Wrote.{written_refusal, written_count, Written}
use Rattle.puts.specs.Paper.Right.{WroteRight, wrote, refused}
use Rattle.puts.proofs.Laws.Right.{first_of, written-right}
use Rattle.layouts.specs.Paper.Chars.{one_of}
use Rattle.layouts.specs.Paper.Made.{Wire}
use Rattle.layouts.proofs.Laws.Made.{homiq-fit}
use Rattle.frames.specs.Paper.Kinds.{number_of}
use Rattle.frames.proofs.Laws.Kinds.{known_of, frame-known}
use Rattle.messages.specs.Paper.Answers.{Stands, DecodeCause, Said, Decodes}
use Rattle.messages.specs.Paper.Answers as decodes
use Rattle.messages.specs.Paper.Content.{homiq, kind_of, payload_in}
use Rattle.messages.specs.Paper.Message.{Message}
use Rattle.messages.specs.Paper.Says.{Says, of_homiq, kind_in}
use Rattle.messages.specs.Paper.Table.{content_of, bytes, HasWidth, in-reply, in-put, Limits, Above, Good}
use Rattle.messages.specs.Work.Homiq.{which_of}
use Rattle.messages.specs.Work.Look.{look}
use Rattle.messages.specs.declared.Decoded.{Decoded}
use Rattle.std.specs.Prelude.{Result, Ok, Err}
use Rattle.digits.specs.declared.refusal.Refusal.{Refusal}
use Rattle.messages.specs.declared.Message.{Message as Coded}
use Rattle.messages.proofs.Laws.Cases.{said_in}
use Rattle.messages.proofs.Laws.Decode.{stands-in}
use Rattle.messages.proofs.Laws.Frames.{frame-of}
use Rattle.messages.proofs.Laws.Says.{one-said, one-case}
use Rattle.messages.proofs.Theorems.{one-message-of, stands-bytes, stands-kind, bytes-stand, beside}
use Rattle.commands.specs.Paper.Acknowledge.{FrameOf, acknowledged, acknowledgement}
use Rattle.commands.specs.Paper.Answers.{MessageCause, outside, taken, short, EncodeCause, no_kind, no-width, other-kind, by-message, MeantBytes, Encodes}
use Rattle.commands.proofs.Laws.Kinds.{said-kind}

-- ---- a message of the table that is said is encoded, where the room is long enough

width-there : (m : Message) (w : ℕ) → Limits m → HasWidth m w → Width w
width-there m w l (in-reply {r = r} {v = v} e) = (subst Limits e l).1.known
width-there m w l (in-put {r = r} {v = v} e) = (subst Limits e l).1.known

module _ {k : ℕ} (e : Coded) (s room : List ℕ) (m : Message) (good : Good m) (kind : number_of (kind_of (content_of m)) ≡ k) (says : Says e s m)
    (enough : length (bytes m) ≤ length room) where
  not-by-message : {no : ℕ} → MessageCause (Says e s) (length room) no → ⊥
  not-by-message (outside f) = f m says good.limits
  not-by-message (taken {m = n} a h) = good.free (subst Above (one-said e s n m a says) h)
  not-by-message (short {m = n} a h) = let q : length (bytes n) ≡ length (bytes m) = ap (λ (x : Message). length (bytes x)) (one-said e s n m a says) in omega (arith, q, h, enough)

  no-cause : {no : ℕ} → EncodeCause k e s (length room) no → ⊥
  no-cause (no_kind h) = true≢false (sym (known_of (kind_of (content_of m)) kind) ∙ h)
  no-cause (no-width {m = n} {w = w} a h f) = f (width-there m w good.limits (subst (λ (x : Message). HasWidth x w) (one-said e s n m a says) h))
  no-cause (other-kind h) = h (ap number_of (sym (said-kind e s m says)) ∙ kind)
  no-cause (by-message c) = not-by-message c

  pub encoded : {no count : ℕ} {later : List ℕ} → WroteRight (EncodeCause k e s (length room)) (MeantBytes (Says e s)) room no count later
      → (no ≡ 0) × (count ≡ length (bytes m)) × (later ≡ bytes m ++ drop (length (bytes m)) room)
  encoded (wrote f b) =
      let q = b.is ∙ ap bytes (one-said e s b.message m b.meant says) in
      (refl, ap length q, ap (λ (x : List ℕ). x ++ drop (length x) room) q)
  encoded (refused p f) = absurd (no-cause (cause-at f p))

-- A FRAME, DECODED AND ENCODED, HAS THE SAME BYTES. Its payload stands beside what it is decoded to.
pub same_bytes : {k : ℕ} {f : List ℕ} {e : Coded} {from to : ℕ} (said : Said k f e from to) (room later : List ℕ) (r : Written) → length f ≤ length room
    → Encodes k e (part from to f) room r later → (written_refusal r ≡ 0) × (written_count r ≡ length f) × (later ≡ f ++ drop (length f) room)
same_bytes {k} {f} {e} {from} {to} said room later r h w =
    let t = said.stands in
    let s : Says e (part from to f) said.message = subst (λ (p : List ℕ). Says e p said.message) (sym (beside said)) said.says in
    let b : f ≡ bytes said.message = stands-bytes t in
    let q = encoded e (part from to f) room said.message t.good (stands-kind t) s (subst (λ (x : List ℕ). length x ≤ length room) b h) w in
    (q.0, q.1 ∙ ap length (sym b), q.2 ∙ ap (λ (x : List ℕ). x ++ drop (length x) room) (sym b))

-- what a message stands in is decoded
never-refused : {k no : ℕ} {f : List ℕ} {m : Message} → Stands k f m → DecodeCause k f no → ⊥
never-refused s (decodes.no_kind h) = true≢false (sym (frame-known s.frame) ∙ h)
never-refused {m = m} s (decodes.no-message h) = h m s

-- an answer of the decoder
abbrev pub decoded_as : Coded → ℕ → ℕ → Result Decoded Refusal
decoded_as e from to = Ok (record { message = e; from = from; to = to })

-- AN ENCODED MESSAGE DECODES TO ITSELF: the decoder answers the case that was encoded, and its message is the one
pub same-message : {k : ℕ} (e : Coded) (s : List ℕ) (m : Message) → Good m → number_of (kind_of (content_of m)) ≡ k → Says e s m → (r : Result Decoded Refusal)
    → Decodes k (bytes m) r → (from : ℕ) × (to : ℕ) × (r ≡ decoded_as e from to) × (said : Said k (bytes m) e from to) × (said.message ≡ m)
same-message {k} e s m g kind says (Ok v) a =
    let said = said_in a in
    let n = said.message in
    let q : n ≡ m = one-message-of n m said.stands (bytes-stand g kind refl) in
    let same : v.message ≡ e = one-case v.message e (payload_in (content_of n)) s m (subst (Says v.message (payload_in (content_of n))) q said.says) says in
    let back : Said k (bytes m) e v.from v.to = record {
      message = n;
      stands = said.stands;
      says = subst (λ (x : Coded). Says x (payload_in (content_of n)) n) same said.says;
      from_is = said.from_is;
      to_is = said.to_is;
    } in
    (v.from, v.to, ap (λ (x : Coded). decoded_as x v.from v.to) same, back, q)
same-message e s m g kind says (Err why) a = absurd (never-refused (bytes-stand g kind refl) (cause-at (cause-of a) (some_number why)))

-- ---- the same of what a call to `encode` has written

-- where 0 is answered, the causes in front do not apply
none_first : {Cause : ℕ → Type 0} {no first : ℕ} {later : List ℕ} → 0 < no → first ≡ 0 → First Cause (no ∷ later) first → (Cause no → ⊥) × First Cause later first
none_first p z (here c) = absurd (omega arith)
none_first p z (after n f) = (n, f)

-- a message that is not refused is of the kind asked
of-the-kind : {k n first : ℕ} (e : Coded) (s : List ℕ) → First (EncodeCause k e s n) refusal_order first → first ≡ 0 → number_of (kind_in e) ≡ k
of-the-kind {k} {n} e s f z = go (ℕ_discrete (number_of (kind_in e)) k)
  where
    not-5 : EncodeCause k e s n 5 → ⊥
    not-5 =
        let g = (none_first (lit< tt) z (none_first (lit< tt) z (none_first (lit< tt) z f).1).1).1 in
        (none_first (lit< tt) z (none_first (lit< tt) z (none_first (lit< tt) z (none_first (lit< tt) z g).1).1).1).0

    go : Dec (number_of (kind_in e) ≡ k) → number_of (kind_in e) ≡ k
    go (yes h) = h
    go (no h) = absurd (not-5 (other-kind h))

-- THE BYTES THAT `encode` WRITES DECODE TO WHAT WAS ENCODED: to the case itself, and the message is the one that it says with its content
pub encoded-decodes : {k : ℕ} (e : Coded) (s room later : List ℕ) (r : Written) → Encodes k e s room r later → written_refusal r ≡ 0
    → (d : Result Decoded Refusal) → Decodes k (take (written_count r) later) d
    → (from : ℕ) × (to : ℕ) × (d ≡ decoded_as e from to) × (said : Said k (take (written_count r) later) e from to) × Says e s said.message
encoded-decodes {k} e s room later r w z d a =
    let b = written-right w z in
    let m = b.message in
    let kind : number_of (kind_of (content_of m)) ≡ k = ap number_of (said-kind e s m b.meant) ∙ of-the-kind e s (first_of w) z in
    let q = same-message e s m b.good kind b.meant d (rw b.is at a) in
    rw b.is (q.0, q.1, q.2, q.3, subst (Says e s) (sym q.4) b.meant)

-- ---- THE ACKNOWLEDGEMENT of a frame

-- is itself a frame
pub acknowledgement-frame : {f : List ℕ} {w : Wire} → FrameOf f w → FrameOf (acknowledgement w) (acknowledged w)
unfolding one_of
acknowledgement-frame {w = w} o =
    let l = o.limits in
    record {
      limits = homiq-fit (acknowledged w) 0 (record {
        cmd = l.cmd;
        val = l.val;
        src = l.dst;
        dst = l.src;
        id = l.id;
        type = tt;
        crc = omega arith;
      });
      frame = refl;
    }

-- and decodes to the exchanged message: the same one, with SRC and DST exchanged and the type `a`
pub homiq-message : {f : List ℕ} {w : Wire} → FrameOf f w → Stands 5 f (of_homiq (which_of w.cmd w.val) w)
unfolding look
homiq-message {f} {w} o =
    subst (λ (g : List ℕ). Stands 5 g (of_homiq (which_of w.cmd w.val) w)) (sym o.frame) (stands-in (frame-of (homiq w) o.limits))

pub exchanged-message : {f : List ℕ} {w : Wire} → FrameOf f w → Stands 5 (acknowledgement w) (of_homiq (which_of w.cmd w.val) (acknowledged w))
exchanged-message o = homiq-message (acknowledgement-frame o)

-- and is refused, being of type `a`
pub of-type-a : (w : Wire) → (acknowledged w).type ≡ 97
of-type-a w = refl
