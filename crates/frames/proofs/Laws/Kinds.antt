-- The kinds as one: of every kind the recogniser finds the frames, and only those; and a number is that of one kind at most.
-- Assumes nothing.
use mathlib.Core.Bool.{Bool, true, false, cond, true≢false}
use mathlib.Core.List.{List, ◌++◌}
use mathlib.Core.Path.{◌≡◌, refl, sym, ◌∙◌, ap, ap₂, subst}
use Prim.Native.Nat.{ℕ, zero, suc, ◌+◌, ◌≤◌, ◌<◌}
use native.Mathlib.Nat.{add-sub_cancel_left}
use native.Mathlib.Omega.{arith}
use lib.Dec.{eqb, lit<}
use lib.ListN.{length, take, drop, length-append, length-drop, take-append-drop, get_or-append}
use lib.Seq.{length-take-le}
use borrow.Author.Tests.{eqb-true, le-leb}
use Rattle.std.specs.Option.{is_some, ok_or}
use Rattle.std.specs.Prelude.{Option, Some, None, Result, Ok, Err}
use Rattle.digits.proofs.Laws.Parts.{part-rest}
use Rattle.digits.proofs.Laws.Refusals.{answered, cause-at, cause-of, pass-over}
use Rattle.digits.specs.Paper.Bytes.{part}
use Rattle.digits.specs.Paper.Refusals.{refusal_order, clear, here, after, answers, refuses}
use Rattle.digits.specs.declared.refusal.Refusal.{Refusal}
use Rattle.layouts.specs.Paper.Chars.{one_of}
use Rattle.layouts.specs.Paper.Judged.{Judged}
use Rattle.layouts.specs.Paper.Layout.{Layout, Leads}
use Rattle.layouts.specs.Paper.Nest.{preamble}
use Rattle.layouts.specs.Work.Recogniser.{Recogniser, frame_len as found-len}
use Rattle.layouts.specs.declared.Failure.{Failure}
use Rattle.layouts.specs.declared.Frame.{Frame as Placed}
use Rattle.layouts.specs.declared.nest.Direction.TheVariants.{Command, Response}
use Rattle.layouts.proofs.Laws.Buses.{Bus, frame_right, leads-at, leads-none, one-lead}
use Rattle.layouts.proofs.Laws.Heads.{Right}
use Rattle.layouts.proofs.Laws.Homiq.{homiq-bus}
use Rattle.layouts.proofs.Laws.Nest.{nest-bus}
use Rattle.layouts.proofs.Laws.Nibe.{nibe-bus}
use Rattle.layouts.proofs.Laws.Nikobus.{nikobus-bus}
use Rattle.layouts.proofs.Theorems.{one-nikobus, one-nest, one-nibe, one-homiq}
use Rattle.layouts.proofs.Laws.Starts.{Begun, nikobus-begun, nikobus-second, nest-begun, nibe-begun, homiq-begun, nikobus-behind, nest-behind, nibe-behind, homiq-behind}
use Rattle.layouts.specs.Paper.Layout as layout
use Rattle.frames.specs.Paper.Kinds.{number_of, layout_of, known, KindCause, no_kind, Resolves, Frame, payload_from, payload_to}
use Rattle.frames.specs.Work.Frames.{recogniser, starts, frame_len, framed, len_at, frame_at, may_start}
use Rattle.frames.specs.Work.Seek.{among, resolved}
use Rattle.frames.specs.declared.kinds.Kind.{Kind}
use Rattle.frames.specs.declared.kinds.Kind.TheVariants.{Nikobus, NestCommand, NestResponse, Nibe, Homiq}

-- ---- a line a kind

resolved_number : (kind : Kind) → resolved (number_of kind) ≡ Some kind
unfolding resolved among
resolved_number Nikobus = refl
resolved_number NestCommand = refl
resolved_number NestResponse = refl
resolved_number Nibe = refl
resolved_number Homiq = refl

pub kind-known : (kind : Kind) → known (number_of kind) ≡ true
unfolding known one_of
kind-known Nikobus = refl
kind-known NestCommand = refl
kind-known NestResponse = refl
kind-known Nibe = refl
kind-known Homiq = refl

-- the preambles are not empty
some : {n : ℕ} → 0 < suc n
some = omega arith

-- THE RECOGNISERS OF A KIND are right for its layout
pub bus_of : (kind : Kind) → Bus (layout_of kind) (recogniser kind)
bus_of Nikobus = nikobus-bus
bus_of NestCommand = nest-bus (preamble Command) some
bus_of NestResponse = nest-bus (preamble Response) some
bus_of Nibe = nibe-bus
bus_of Homiq = homiq-bus

-- how a kind's frames begin, and that this does not depend on what stands behind them
pub begun : (kind : Kind) (f : List ℕ) → layout.Form (layout_of kind) f → Begun (starts kind) f
begun Nikobus f r = let q = nikobus-begun f r in record { four = q.four; mark = rw q.mark (le-leb _ _ (nikobus-second f r)) }
begun NestCommand f r = nest-begun Command f r
begun NestResponse f r = nest-begun Response f r
begun Nibe f r = nibe-begun f r
begun Homiq f r = homiq-begun f r

pub behind : (kind : Kind) (f t : List ℕ) → 3 ≤ length f → starts kind (f ++ t) ≡ starts kind f
behind Nikobus f t h = rw (nikobus-behind f t h, get_or-append f t 0 1 (omega arith))
behind NestCommand f t h = nest-behind f t h Command
behind NestResponse f t h = nest-behind f t h Response
behind Nibe f t h = nibe-behind f t h
behind Homiq f t h = homiq-behind f t h

-- no two fields have the same bytes
one-fields : (kind : Kind) (m n : (layout_of kind).Fields) → (layout_of kind).Limits m → (layout_of kind).Limits n
    → layout.bytes_of (layout_of kind) m ≡ layout.bytes_of (layout_of kind) n → m ≡ n
one-fields Nikobus m n f g e = one-nikobus m n f g e
one-fields NestCommand m n f g e = one-nest Command m n f g e
one-fields NestResponse m n f g e = one-nest Response m n f g e
one-fields Nibe m n f g e = one-nibe m n e
one-fields Homiq m n f g e = one-homiq m n f g e

-- ---- numbers and kinds

same_kind : {a b : Kind} → Some a ≡ Some b → a ≡ b
same_kind e = cc

pub one-kind : (a b : Kind) → number_of a ≡ number_of b → a ≡ b
one-kind a b e = same_kind (sym (resolved_number a) ∙ ap resolved e ∙ resolved_number b)

pub known_of : {k : ℕ} (kind : Kind) → number_of kind ≡ k → known k ≡ true
known_of kind e = ap known (sym e) ∙ kind-known kind

-- ---- what a number is resolved to

abbrev ours : ℕ → Bool
ours k = eqb k 2

only : {k : ℕ} (i : ℕ) → ours i ≡ false → KindCause k i → ⊥
only i e (no_kind h) = true≢false e

pub resolves-to : {k : ℕ} (kind : Kind) → number_of kind ≡ k → Resolves k (Some kind)
resolves-to {k} kind e = answers {v = number_of kind} (pass-over ours only refusal_order (after never clear)) e
  where
    never : KindCause k 2 → ⊥
    never (no_kind h) = true≢false (sym (known_of kind e) ∙ h)

pub resolves-none : {k : ℕ} → known k ≡ false → Resolves k None
resolves-none e = refuses (lit< tt) (pass-over ours only refusal_order (here (no_kind e)))

-- WHAT IS COMPUTED IS THE KIND OF A NUMBER
pub resolves : (k : ℕ) → Resolves k (resolved k)
unfolding resolved among known one_of
resolves k =
    step Nikobus _ (λ a. step NestCommand _ (λ b. step NestResponse _ (λ c. step Nibe _ (λ d. step Homiq _ (λ e. resolves-none (rw (a, b, c, d, e)))))))
  where
    step : (kind : Kind) (rest : Option Kind) → (eqb k (number_of kind) ≡ false → Resolves k rest) → Resolves k (cond (eqb k (number_of kind)) (Some kind) rest)
    step kind rest f = go (eqb k (number_of kind)) refl
      where
        go : (t : Bool) → eqb k (number_of kind) ≡ t → Resolves k (cond t (Some kind) rest)
        go true e = resolves-to kind (sym (eqb-true _ _ e))
        go false e = f e

pub frame-known : {k : ℕ} {f : List ℕ} → Frame k f → known k ≡ true
frame-known r = known_of r.kind r.number

-- a frame of the number of a kind is one of that kind
pub of-kind : {k : ℕ} {f : List ℕ} → Frame k f → (kind : Kind) → number_of kind ≡ k → layout.FrameBy (layout_of kind) f
of-kind {f = f} r kind e = subst (λ (x : Kind). layout.FrameBy (layout_of x) f) (one-kind r.kind kind (r.number ∙ sym e)) r.frame

abbrev pub as-frame : (kind : Kind) {f : List ℕ} → layout.FrameBy (layout_of kind) f → Frame (number_of kind) f
as-frame kind r = record { kind = kind; number = refl; frame = r }

-- OF EVERY KIND `frame_len` finds the frames, and only those
pub kind-right : (kind : Kind) → Right (layout.FrameBy (layout_of kind)) (frame_len kind)
kind-right kind = frame_right (bus_of kind)

-- THE SAME BYTES HAVE ONE READING: whatever is read off a frame's fields is the same however the bytes are shown to be a frame
pub one-reading : {A : Type 0} (read : (kind : Kind) → (layout_of kind).Fields → A) {k : ℕ} {f : List ℕ} (r q : Frame k f)
    → read r.kind r.frame.form.fields ≡ read q.kind q.frame.form.fields
one-reading read {f = f} r q = go r.kind q.kind (one-kind r.kind q.kind (r.number ∙ sym q.number)) r.frame q.frame
  where
    go : (a b : Kind) → a ≡ b → (x : layout.FrameBy (layout_of a) f) (y : layout.FrameBy (layout_of b) f)
        → read a x.form.fields ≡ read b y.form.fields
    go a b e x =
        subst (λ (b : Kind). (y : layout.FrameBy (layout_of b) f) → read a x.form.fields ≡ read b y.form.fields) e
        (λ y. ap (read a) (one-fields a x.form.fields y.form.fields x.form.limits y.form.limits (sym x.form.laid ∙ y.form.laid)))

-- ---- the payload's places

pub begins : {k : ℕ} {f : List ℕ} (r : Frame k f) → payload_from r ≡ (recogniser r.kind).from f
begins {f = f} r = (bus_of r.kind).begins f r.frame.form

pub ends : {k : ℕ} {f : List ℕ} (r : Frame k f) → payload_to r ≡ (recogniser r.kind).to f
ends {f = f} r = (bus_of r.kind).ends f r.frame.form

-- the same bytes have one payload
pub one-payload : {k : ℕ} {f g : List ℕ} → f ≡ g → (r : Frame k f) (q : Frame k g) → (payload_from r ≡ payload_from q) × (payload_to r ≡ payload_to q)
one-payload {f = f} {g = g} e r q =
    let same : r.kind ≡ q.kind = one-kind r.kind q.kind (r.number ∙ sym q.number) in (
      begins r ∙ ap₂ (λ (x : Kind) (s : List ℕ). (recogniser x).from s) same e ∙ sym (begins q),
      ends r ∙ ap₂ (λ (x : Kind) (s : List ℕ). (recogniser x).to s) same e ∙ sym (ends q),
    )

-- the payload lies in the bytes of the fields, and so in the frame
pub laid-holds : (l : Layout) (m : l.Fields) → (layout.payload_from l m ≤ layout.payload_to l m) × (layout.payload_to l m ≤ length (layout.bytes_of l m))
laid-holds l m = (omega arith, omega (arith, length-append (l.before m ++ l.payload m) (l.behind m), length-append (l.before m) (l.payload m)))

form-holds : {l : Layout} {f : List ℕ} (r : layout.Form l f)
    → (layout.payload_from l r.fields ≤ layout.payload_to l r.fields) × (layout.payload_to l r.fields ≤ length f)
form-holds {l} {f} r = let h = laid-holds l r.fields in (h.0, omega (arith, ap length r.laid, h))

pub payload-inside : {k : ℕ} {f : List ℕ} (r : Frame k f) → (payload_from r ≤ payload_to r) × (payload_to r ≤ length f)
payload-inside r = form-holds r.frame.form

-- ---- what the layouts' functions answer

module _ {l : Layout} {r : Recogniser} (b : Bus l r) (s : List ℕ) where
  leads-framed : Leads l s (framed r s (found-len r s))
  leads-framed = go (found-len r s) refl
    where
      go : (p : ℕ) → p ≡ found-len r s → Leads l s (framed r s p)
      go zero e = leads-none b s e
      go (suc p) e = leads-at b s (suc p) _ _ e (λ z. omega arith) refl refl

  lead-framed : {o : Option Placed} → Leads l s o → o ≡ framed r s (found-len r s)
  lead-framed a = one-lead b a leads-framed

-- what stands at a place
pub framed_at : (kind : Kind) (s : List ℕ) (i : ℕ) {u : List ℕ} {o : Option Placed} → u ≡ drop i s → Leads (layout_of kind) u o → o ≡ frame_at kind s i
unfolding len_at frame_at
framed_at kind s i {o = o} e a = lead-framed (bus_of kind) (drop i s) (subst (λ (w : List ℕ). Leads (layout_of kind) w o) e a)

-- as the code has it: the rest of the buffer, in the arm of a kind
pub framed-at-as : {kind it : Kind} (s : List ℕ) (i : ℕ) {o : Option Placed} → kind ≡ it → Leads (layout_of it) (part i (length s) s) o → o ≡ frame_at kind s i
framed-at-as {it = it} s i {o = o} e a = subst (λ (k : Kind). o ≡ frame_at k s i) (sym e) (framed_at it s i (part-rest i s) a)

-- at the head of s itself
pub headed-as : {kind it : Kind} {s : List ℕ} {o : Option Placed} → kind ≡ it → Leads (layout_of it) s o → o ≡ frame_at kind s 0
headed-as {it = it} {s = s} {o = o} e a = subst (λ (k : Kind). o ≡ frame_at k s 0) (sym e) (framed_at it s 0 refl a)

-- and the verdict on it
pub judged-as : {kind it : Kind} (s : List ℕ) (i : ℕ) {o : Option Failure} → kind ≡ it → Judged (layout_of it) (part i (length s) s) o
    → Judged (layout_of kind) (drop i s) o
judged-as {it = it} s i {o = o} e a =
    subst (λ (k : Kind). Judged (layout_of k) (drop i s) o) (sym e) (subst (λ (u : List ℕ). Judged (layout_of it) u o) (part-rest i s) a)

-- three bytes tell as much as all of them
pub may-start-as : {kind it : Kind} (s : List ℕ) (i : ℕ) → i + 3 ≤ length s → {r : Bool} → kind ≡ it → r ≡ starts it (part i (i + 3) s)
    → r ≡ may_start kind s i
unfolding may_start
may-start-as {it = it} s i l e h =
    let u = drop i s in
    let three : part i (i + 3) s ≡ take 3 u = rw (add-sub_cancel_left i 3) in
    let long : length (take 3 u) ≡ 3 = length-take-le 3 u (omega (arith, length-drop i s)) in
    h ∙ ap (starts it) three ∙ sym (behind it (take 3 u) (drop 3 u) (omega (arith, long)))
    ∙ ap (starts it) (take-append-drop 3 u) ∙ sym (ap (λ (k : Kind). starts k u) e)

-- what a number that was resolved says
pub kind-is : {k : ℕ} (kind : Kind) → Resolves k (Some kind) → number_of kind ≡ k
kind-is kind a = answered a refl

pub kind-not : {k : ℕ} → Resolves k None → known k ≡ false
kind-not {k} a = of (cause-at (cause-of a) (lit< tt))
  where
    of : {no : ℕ} → KindCause k no → known k ≡ false
    of (no_kind h) = h

pub resolved-known : {k : ℕ} {r : Option Kind} {kind : Kind} → Resolves k r → r ≡ Some kind → number_of kind ≡ k
resolved-known {k} {kind = kind} a q = kind-is kind (subst (Resolves k) q a)

pub resolved-unknown : {k : ℕ} {r : Option Kind} → Resolves k r → r ≡ None → known k ≡ false
resolved-unknown {k} a q = kind-not (subst (Resolves k) q a)

pub resolved-some : {k : ℕ} (r : Option Kind) → Resolves k r → is_some r ≡ known k
resolved-some (Some kind) a = sym (known_of kind (kind-is kind a))
resolved-some None a = sym (kind-not a)

-- and what it says behind a `?`
pub asked-kind : {k : ℕ} (r : Option Kind) (why : Refusal) {kind : Kind} → Resolves k r → ok_or r why ≡ Ok kind → number_of kind ≡ k
asked-kind {k} (Some found) why {kind} a e = let same : found ≡ kind = cc in subst (λ (x : Kind). number_of x ≡ k) same (kind-is found a)
asked-kind None why a e = cc

pub asked-none : {k : ℕ} (r : Option Kind) (why : Refusal) {got : Refusal} → Resolves k r → ok_or r why ≡ Err got
    → (known k ≡ false) × (got ≡ why)
asked-none (Some kind) why a e = cc
asked-none None why {got} a e = let same : got ≡ why = cc in (kind-not a, same)
