-- Frames and contents: every frame has a content within its limits, such a content makes a frame, and the same bytes have one content.
-- Assumes nothing.
use mathlib.Core.List.{List}
use mathlib.Core.Path.{◌≡◌, refl, ◌∙◌, ap}
use Prim.Native.Nat.{ℕ}
use Rattle.checks.specs.Paper.Buses.{nikobus_crc8}
use Rattle.checks.specs.Paper.Check.{check}
use Rattle.layouts.proofs.Laws.Made.{link-fit, nest-fit, nibe-fit, homiq-fit}
use Rattle.layouts.proofs.Laws.Buses.{first-agrees}
use Rattle.layouts.specs.Paper.Layout.{Agree, all-agree, agree, bytes_of}
use Rattle.layouts.specs.Paper.Layout as layout
use Rattle.layouts.specs.Paper.Homiq as homiqs
use Rattle.layouts.specs.Paper.Made.{link_of, nest_of}
use Rattle.layouts.specs.Paper.Nest as nests
use Rattle.layouts.specs.Paper.Nibe as nibes
use Rattle.layouts.specs.Paper.Nikobus as nikobuses
use Rattle.layouts.specs.declared.nest.Direction.TheVariants.{Command, Response}
use Rattle.frames.proofs.Laws.Kinds.{one-reading, as-frame}
use Rattle.frames.specs.Paper.Kinds.{number_of, layout_of, Frame}
use Rattle.frames.specs.Paper.Kinds as kinds
use Rattle.frames.specs.declared.kinds.Kind.{Kind}
use Rattle.frames.specs.declared.kinds.Kind.TheVariants.{Nikobus, NestCommand, NestResponse, Nibe, Homiq}
use Rattle.messages.specs.Paper.Content.{Content, link, press, tail, command, response, nibe, homiq, wire_of, content_in, content_at, kind_of, made, laid, payload_in, payload_from, payload_to}
use Rattle.messages.specs.Work.Content.{Fit}

-- ---- a line a content

-- the check values of what is made are right
pub made-passes : (c : Content) → Agree ((layout_of (kind_of c)).compared (made c))
made-passes (link p) = agree refl (agree refl all-agree)
made-passes (press d) = all-agree
made-passes tail = all-agree
made-passes (command i p) = agree refl all-agree
made-passes (response i p) = agree refl all-agree
made-passes (nibe c d) = agree refl all-agree
made-passes (homiq w) = agree refl all-agree

-- what is made of a content has that content
pub made-content : (c : Content) → content_in (kind_of c) (made c) ≡ c
made-content (link p) = refl
made-content (press d) = refl
made-content tail = refl
made-content (command i p) = refl
made-content (response i p) = refl
made-content (nibe c d) = refl
made-content (homiq w) = refl

-- ---- a line a kind

pub kind-in : (kind : Kind) (m : (layout_of kind).Fields) → kind_of (content_in kind m) ≡ kind
kind-in Nikobus (nikobuses.link p x y) = refl
kind-in Nikobus (nikobuses.press d) = refl
kind-in Nikobus nikobuses.tail = refl
kind-in NestCommand m = refl
kind-in NestResponse m = refl
kind-in Nibe m = refl
kind-in Homiq m = refl

-- check values that are right are those that are worked out
link-made : (p : List ℕ) (x y : ℕ) → Agree (nikobuses.compared (nikobuses.link p x y)) → nikobuses.link p x y ≡ link_of p
link-made p x y (agree d (agree e later)) =
    ap (λ (c : ℕ). nikobuses.link p x c) e ∙ ap (λ (c : ℕ). nikobuses.link p c (check nikobus_crc8 (nikobuses.link_checked p c))) d

nest-made : (m : nests.Nest) → Agree (nests.compared m) → m ≡ nest_of m.id m.payload
nest-made m e = ap (λ (c : ℕ). record { id = m.id; payload = m.payload; crc = c }) (first-agrees e)

-- a frame's bytes are those of its content
pub bytes-in : (kind : Kind) (m : (layout_of kind).Fields) → Agree ((layout_of kind).compared m) → bytes_of (layout_of kind) m ≡ laid (content_in kind m)
bytes-in Nikobus (nikobuses.link p x y) e = ap (bytes_of nikobuses.nikobus) (link-made p x y e)
bytes-in Nikobus (nikobuses.press d) e = refl
bytes-in Nikobus nikobuses.tail e = refl
bytes-in NestCommand m e = ap (bytes_of (nests.nest Command)) (nest-made m e)
bytes-in NestResponse m e = ap (bytes_of (nests.nest Response)) (nest-made m e)
bytes-in Nibe m e = ap (λ (x : ℕ). bytes_of nibes.nibe (record { command = m.command; content = m.content; xor = x })) (first-agrees e)
bytes-in Homiq m e =
    ap (λ (x : ℕ). bytes_of homiqs.homiq (record { cmd = m.cmd; val = m.val; src = m.src; dst = m.dst; id = m.id; type = m.type; crc = x })) (first-agrees e)

-- and so is its payload, whatever its check values are
pub payload-in : (kind : Kind) (m : (layout_of kind).Fields)
    → ((layout_of kind).payload m ≡ payload_in (content_in kind m))
    × (layout.payload_from (layout_of kind) m ≡ payload_from (content_in kind m)) × (layout.payload_to (layout_of kind) m ≡ payload_to (content_in kind m))
payload-in Nikobus (nikobuses.link p x y) = (refl, refl, refl)
payload-in Nikobus (nikobuses.press d) = (refl, refl, refl)
payload-in Nikobus nikobuses.tail = (refl, refl, refl)
payload-in NestCommand m = (refl, refl, refl)
payload-in NestResponse m = (refl, refl, refl)
payload-in Nibe m = (refl, refl, refl)
payload-in Homiq m = (refl, refl, refl)

-- its content is within the limits
nest-fits : (m : nests.Nest) → nests.Limits m → nests.Limits (nest_of m.id m.payload)
nest-fits m l = nest-fit m.id m.payload l.id l.short l.bytes

pub fit-in : (kind : Kind) (m : (layout_of kind).Fields) → (layout_of kind).Limits m → Fit (content_in kind m)
fit-in Nikobus (nikobuses.link p x y) (nikobuses.link-limits a b c d e) = link-fit p a b c
fit-in Nikobus (nikobuses.press d) l = l
fit-in Nikobus nikobuses.tail l = l
fit-in NestCommand m l = nest-fits m l
fit-in NestResponse m l = nest-fits m l
fit-in Nibe m l = nibe-fit m.command m.content l.command l.short l.bytes
fit-in Homiq m l = homiq-fit (wire_of m) m.crc l

-- ---- and what follows for every kind

module _ {k : ℕ} {f : List ℕ} (r : Frame k f) where
  pub content-fit : Fit (content_at r)
  content-fit = fit-in r.kind r.frame.form.fields r.frame.form.limits

  pub content-bytes : f ≡ laid (content_at r)
  content-bytes = r.frame.form.laid ∙ bytes-in r.kind r.frame.form.fields r.frame.passes

  pub content-kind : number_of (kind_of (content_at r)) ≡ k
  content-kind = ap number_of (kind-in r.kind r.frame.form.fields) ∙ r.number

  pub content-places : (kinds.payload_from r ≡ payload_from (content_at r)) × (kinds.payload_to r ≡ payload_to (content_at r))
  content-places = let q = payload-in r.kind r.frame.form.fields in (q.1, q.2)

-- THE SAME BYTES SAY ONE THING
pub one-content : {k : ℕ} {f : List ℕ} (r q : Frame k f) → content_at r ≡ content_at q
one-content = one-reading content_in

-- A CONTENT WITHIN ITS LIMITS MAKES A FRAME, and that says it
abbrev pub frame-of : (c : Content) → Fit c → Frame (number_of (kind_of c)) (laid c)
frame-of c f = as-frame (kind_of c) (record { form = record { fields = made c; limits = f; laid = refl }; passes = made-passes c })
