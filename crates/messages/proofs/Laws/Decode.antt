-- What the decoder answers, and the part of a frame that it hands back.
-- Assumes nothing.
use mathlib.Core.Path.{◌≡◌, refl, sym, ◌∙◌, ap, subst}
use mathlib.Core.List.{List, [], ◌∷◌, append_assoc}
use Prim.Native.Nat.{ℕ, ◌≤◌}
use native.Mathlib.Omega.{arith}
use denote.Ref.{Bor}
use lib.ListN.{length}
use Rattle.digits.specs.Paper.Bytes.{part}
use Rattle.digits.specs.Paper.Part.{zero_ends, IsPart}
use Rattle.digits.specs.Paper.Refusals.{refusal_number, refusal_order, First, clear, here, after}
use Rattle.digits.specs.declared.refusal.Refusal.{Refusal}
use Rattle.digits.proofs.Laws.Handed.{same_ends, hands-right, hands_none}
use Rattle.digits.proofs.Laws.Parts.{part-middle}
use Rattle.digits.proofs.Laws.Refusals.{answered, cause-of}
use Rattle.layouts.specs.Paper.Layout.{Layout, bytes_of}
use Rattle.layouts.specs.Paper.Layout as layout
use Rattle.frames.specs.Paper.Kinds.{layout_of, Frame}
use Rattle.frames.specs.Paper.OneFrame as whole
use Rattle.frames.specs.Paper.OneFrame.{OneFrameCause, TestsOneFrame}
use Rattle.frames.specs.declared.FramePayload.{FramePayload}
use Rattle.std.specs.Prelude.{Result, Ok, Err}
use Rattle.frames.proofs.Laws.Kinds.{payload-inside}
use Rattle.messages.specs.Paper.Answers.{Stands, DecodeCause, no_kind, no-message, Said, Contents}
use Rattle.messages.specs.Paper.Content.{Content, content_at, kind_of, made, laid, payload_in, payload_from, payload_to}
use Rattle.messages.specs.Work.Content.{Fit}
use Rattle.messages.specs.Paper.Message.{Message}
use Rattle.messages.specs.Paper.Says.{Says}
use Rattle.messages.specs.Paper.Table.{content_of}
use Rattle.messages.specs.Work.Answers.{Payloaded}
use Rattle.messages.specs.Work.Look.{look}
use Rattle.messages.specs.declared.Message.{Message as Coded}
use Rattle.messages.proofs.Laws.Frames.{content-fit, content-bytes, content-places}
use Rattle.messages.proofs.Laws.Table.{reads, good}

-- ---- the first cause

-- causes that apply together have the same first one
pub first-same : {A B : ℕ → Type 0} → ((no : ℕ) → A no → B no) → ((no : ℕ) → B no → A no) → (l : List ℕ) (no : ℕ) → First A l no → First B l no
first-same to back [] i clear = clear
first-same to back (k ∷ l) i (here c) = here (to k c)
first-same to back (k ∷ l) i (after n f) = after (λ c. n (back k c)) (first-same to back l i f)

-- ---- a frame and its message

-- COVERAGE: a frame has a message, the one that is found for its content
pub stands-in : {k : ℕ} {f : List ℕ} (r : Frame k f) → Stands k f (look (content_at r))
stands-in r = record { good = good (content_at r) (content-fit r); frame = r; content = sym (reads (content_at r) (content-fit r)).same }

pub message-of : {k : ℕ} {f : List ℕ} → Frame k f → (m : Message) × Stands k f m
message-of r = (look (content_at r), stands-in r)

-- and what a message stands in is a frame
pub is-frame : {k : ℕ} {f : List ℕ} {m : Message} → Stands k f m → Frame k f
is-frame s = s.frame

module _ {k : ℕ} {f : List ℕ} where
  to-decode : (no : ℕ) → OneFrameCause k f no → DecodeCause k f no
  to-decode i (whole.no_kind h) = no_kind h
  to-decode i (whole.no-frame h) = no-message (λ m s. h (is-frame s))

  to_whole : (no : ℕ) → DecodeCause k f no → OneFrameCause k f no
  to_whole i (no_kind h) = whole.no_kind h
  to_whole i (no-message h) = whole.no-frame (λ r. let q = message-of r in h q.0 q.1)

  pub first-decode : {no : ℕ} → First (OneFrameCause k f) refusal_order no → First (DecodeCause k f) refusal_order no
  first-decode {no = i} c = first-same to-decode to_whole refusal_order i c

  -- ---- the payload

  pub inside : {from to : ℕ} → Payloaded k f from to → (from ≤ to) × (to ≤ length f)
  inside o = let h = payload-inside o.frame in (omega (arith, h, o.from_is, o.to_is), omega (arith, h, o.from_is, o.to_is))

part_of : (l : Layout) (m : l.Fields) → part (layout.payload_from l m) (layout.payload_to l m) (bytes_of l m) ≡ l.payload m
part_of l m =
    ap (part (layout.payload_from l m) (layout.payload_to l m)) (append_assoc (l.before m) (l.payload m) (l.behind m))
    ∙ part-middle (l.before m) (l.payload m) (l.behind m) (layout.payload_from l m) (layout.payload_to l m) refl refl

pub payload-part : (c : Content) → part (payload_from c) (payload_to c) (laid c) ≡ payload_in c
payload-part c = part_of (layout_of (kind_of c)) (made c)

-- ---- the answers

module _ {k : ℕ} {f : List ℕ} where
  module _ {from to : ℕ} (o : Payloaded k f from to) where
    abbrev its : Content
    its = content_at o.frame

    its-fit : Fit its
    its-fit = content-fit o.frame

    starts-at : from ≡ payload_from its
    starts-at = o.from_is ∙ (content-places o.frame).0

    ends_at : to ≡ payload_to its
    ends_at = o.to_is ∙ (content-places o.frame).1

    pub the-part : part from to f ≡ payload_in its
    the-part =
        ap (λ (i : ℕ). part i to f) starts-at ∙ ap (λ (i : ℕ). part (payload_from its) i f) ends_at
        ∙ ap (part (payload_from its) (payload_to its)) (content-bytes o.frame) ∙ payload-part its

    -- the message that the code says with the payload beside it
    pub said_of : {e : Coded} → Says e (part from to f) (look its) → Said k f e from to
    said_of {e} s =
        let same : content_of (look its) ≡ its = (reads its its-fit).same in
        record {
          message = look its;
          stands = stands-in o.frame;
          says = subst (λ (p : List ℕ). Says e p (look its)) (the-part ∙ sym (ap payload_in same)) s;
          from_is = starts-at ∙ sym (ap payload_from same);
          to_is = ends_at ∙ sym (ap payload_to same);
        }

-- content: that part of the frame
module _ {k : ℕ} {s r : Bor (List ℕ)} where
  pub contents-part : {from to : ℕ} → Payloaded k s.now from to → First (OneFrameCause k s.now) refusal_order 0 → IsPart s (record { from = from; to = to }) r
      → Contents k s r
  contents-part o c i =
      let same : content_of (look (its o)) ≡ its o = (reads (its o) (its-fit o)).same in
      hands-right (first-decode c) (
        look (its o),
        stands-in o.frame,
        same_ends (starts-at o ∙ sym (ap payload_from same)) (ends_at o ∙ sym (ap payload_to same)),
      )
      i

  -- refused
  pub contents-nothing : (why : Refusal) → First (OneFrameCause k s.now) refusal_order (refusal_number why) → IsPart s zero_ends r → Contents k s r
  contents-nothing why c = hands_none why (first-decode c)

-- what is tested of the whole, case by case
module _ {k : ℕ} {f : List ℕ} {r : Result FramePayload Refusal} (a : TestsOneFrame k f r) where
  module _ {v : FramePayload} (e : r ≡ Ok v) where
    tested : TestsOneFrame k f (Ok v)
    tested = subst (TestsOneFrame k f) e a

    pub one-frame : Payloaded k f v.from v.to
    one-frame = answered tested refl

    pub no-first : First (OneFrameCause k f) refusal_order 0
    no-first = cause-of tested

  pub first_of : {why : Refusal} → r ≡ Err why → First (OneFrameCause k f) refusal_order (refusal_number why)
  first_of e = cause-of (subst (TestsOneFrame k f) e a)
