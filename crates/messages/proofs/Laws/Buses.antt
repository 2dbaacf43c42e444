-- The message of a frame, kind by kind, from what the code reads off it.
-- Assumes nothing.
use mathlib.Core.Path.{◌≡◌, refl, sym, ◌∙◌, ap, subst}
use mathlib.Core.List.{List}
use Prim.Native.Nat.{ℕ, ◌≤◌, ◌<◌}
use native.Mathlib.Omega.{arith}
use lib.ListN.{length, get_or}
use Rattle.digits.specs.Paper.Bytes.{part}
use Rattle.digits.specs.Paper.LowFirst.{low_byte_first}
use Rattle.layouts.specs.Paper.Homiq as homiqs
use Rattle.layouts.specs.Paper.Layout.{bytes_of}
use Rattle.layouts.specs.Paper.Layout as layout
use Rattle.layouts.specs.Paper.Made.{Wire, Payload}
use Rattle.layouts.specs.Paper.Nest as nests
use Rattle.layouts.specs.Paper.Nest.{Nest}
use Rattle.layouts.specs.declared.nest.Direction.TheVariants.{Command as AsCommand, Response as AsResponse}
use Rattle.layouts.proofs.Laws.Made.{homiq-fit}
use Rattle.frames.specs.Paper.Kinds.{number_of, layout_of}
use Rattle.frames.specs.declared.kinds.Kind.{Kind}
use Rattle.frames.specs.declared.kinds.Kind.TheVariants as kinds
use Rattle.frames.proofs.Laws.Kinds.{of-kind, as-frame, one-payload}
use Rattle.messages.specs.Paper.Answers.{Said}
use Rattle.messages.specs.Paper.Content.{wire_of, content_in, content_at, payload_in}
use Rattle.messages.specs.Paper.Homiq.{field_at}
use Rattle.messages.specs.Paper.Message as messages
use Rattle.messages.specs.Paper.Says.{of_response, of_nibe, of_homiq, Says, SaysHomiq}
use Rattle.messages.specs.Paper.Table.{u16_at}
use Rattle.messages.specs.Work.Answers.{Payloaded}
use Rattle.messages.specs.Work.Homiq.{which_of}
use Rattle.messages.specs.Work.Look.{look, look_response, look_nibe, look_homiq}
use Rattle.messages.specs.Work.Nikobus.{NikobusFrame, NikobusSaid}
use Rattle.messages.specs.declared.Message.{Message as Coded}
use Rattle.messages.specs.declared.Message.TheVariants.{Nikobus as OnNikobus, Command, Response, Nibe as OnNibe, Homiq as OnHomiq}
use Rattle.messages.specs.declared.homiq.Homiq.{Homiq}
use Rattle.messages.specs.declared.nest.Response.{Response as Responded}
use Rattle.messages.specs.declared.nibe.Nibe.{Nibe}
use Rattle.messages.specs.declared.nikobus.Nikobus.{Nikobus}
use Rattle.messages.proofs.Laws.Decode.{inside, the-part, said_of}
use Rattle.messages.proofs.Laws.Frames.{payload-in, one-content}
use Rattle.messages.proofs.Laws.HomiqFields.{payload-cmd, payload-val}

-- ---- where the fields stand

pub command-id : (m : Nest) → m.id < 65536 → u16_at 3 (bytes_of (nests.nest AsCommand) m) ≡ m.id
unfolding low_byte_first
command-id m h = omega arith

pub response-id : (m : Nest) → m.id < 65536 → u16_at 4 (bytes_of (nests.nest AsResponse) m) ≡ m.id
unfolding low_byte_first
response-id m h = omega arith

-- the six fields of a frame, and the payload that they have
pub wire-in : {f : List ℕ} (r : layout.FrameBy homiqs.homiq f) → Payload (homiqs.payload r.form.fields) (wire_of r.form.fields)
wire-in r =
    let m = r.form.fields in
    record { limits = homiq-fit (wire_of m) m.crc r.form.limits; laid = refl }

-- the message that a payload's first two fields are
pub which-fields : {p : List ℕ} {w : Wire} {e : Homiq} → Payload p w → e ≡ which_of (field_at 0 p) (field_at 1 p) → e ≡ which_of w.cmd w.val
which-fields {p} {w} l g = g ∙ ap (λ (c : List ℕ). which_of c (field_at 1 p)) (payload-cmd l) ∙ ap (which_of w.cmd) (payload-val l)

pub homiq-says : {p : List ℕ} {e : Homiq} {w : Wire} → Payload p w → e ≡ which_of (field_at 0 p) (field_at 1 p) → SaysHomiq e p (look_homiq w)
homiq-says {w = w} l g = record { wire = w; payload = l; is = ap (λ (x : Homiq). of_homiq x w) (sym (which-fields l g)) }

-- ---- a frame of a kind, as its layout has it

module _ {f : List ℕ} {from to : ℕ} where
  module _ (kind : Kind) (o : Payloaded (number_of kind) f from to) where
    own : layout.FrameBy (layout_of kind) f
    own = of-kind o.frame kind refl

    own-content : content_at o.frame ≡ content_in kind own.form.fields
    own-content = one-content o.frame (as-frame kind own)

    own-part : part from to f ≡ (layout_of kind).payload own.form.fields
    own-part = the-part o ∙ ap payload_in own-content ∙ sym (payload-in kind own.form.fields).0

    own-from : from ≡ layout.payload_from (layout_of kind) own.form.fields
    own-from = o.from_is ∙ (one-payload refl o.frame (as-frame kind own)).0

    own-said : {e : Coded} → Says e (part from to f) (look (content_in kind own.form.fields)) → Said (number_of kind) f e from to
    own-said {e} s = said_of o (subst (Says e (part from to f)) (ap look (sym own-content)) s)

  -- the arm of a kind
  module _ {kind : Kind} (o : Payloaded (number_of kind) f from to) where
    in-arm : {it : Kind} → kind ≡ it → Payloaded (number_of it) f from to
    in-arm h = subst (λ (k : Kind). Payloaded (number_of k) f from to) h o

    from-arm : {it : Kind} {e : Coded} → kind ≡ it → Said (number_of it) f e from to → Said (number_of kind) f e from to
    from-arm {e = e} h s = subst (λ (k : Kind). Said (number_of k) f e from to) (sym h) s

    -- ---- Nikobus

    pub nikobus-frame : kind ≡ kinds.Nikobus → NikobusFrame f (part from to f)
    nikobus-frame h = let q = in-arm h in record { frame = own kinds.Nikobus q; is = own-part kinds.Nikobus q }

    pub said-nikobus : {e : Nikobus} → kind ≡ kinds.Nikobus → NikobusSaid f (part from to f) e → Said (number_of kind) f (OnNikobus e) from to
    said-nikobus {e} h s =
        let q = in-arm h in
        let same = one-content q.frame (as-frame kinds.Nikobus s.frame.frame) in
        from-arm h (said_of q (subst (Says (OnNikobus e) (part from to f)) (ap look (sym same)) s.says))

    -- ---- Nest

    pub long-command : kind ≡ kinds.NestCommand → 5 ≤ length f
    unfolding low_byte_first
    long-command h = let q = in-arm h in omega (arith, inside q, own-from kinds.NestCommand q)

    pub said-command : kind ≡ kinds.NestCommand → (i : ℕ) → i ≡ u16_at 3 f → Said (number_of kind) f (Command i) from to
    unfolding look
    said-command h i e =
        let q = in-arm h in
        let r = own kinds.NestCommand q in
        let m = r.form.fields in
        let id : i ≡ m.id = e ∙ ap (u16_at 3) r.form.laid ∙ command-id m r.form.limits.id in
        from-arm h (own-said kinds.NestCommand q {e = Command i}
        (ap (λ (j : ℕ). messages.command j m.payload) (sym id) ∙ ap (messages.command i) (sym (own-part kinds.NestCommand q))))

    pub long-response : kind ≡ kinds.NestResponse → 6 ≤ length f
    unfolding low_byte_first
    long-response h = let q = in-arm h in omega (arith, inside q, own-from kinds.NestResponse q)

    pub said-response : {e : Responded} → kind ≡ kinds.NestResponse → (i : ℕ) → i ≡ u16_at 4 f
        → of_response e (part from to f) ≡ look_response i (part from to f) → Said (number_of kind) f (Response e) from to
    unfolding look
    said-response {e} h i d g =
        let q = in-arm h in
        let r = own kinds.NestResponse q in
        let m = r.form.fields in
        let id : i ≡ m.id = d ∙ ap (u16_at 4) r.form.laid ∙ response-id m r.form.limits.id in
        from-arm h (own-said kinds.NestResponse q {e = Response e}
        (ap (λ (j : ℕ). look_response j m.payload) (sym id) ∙ ap (look_response i) (sym (own-part kinds.NestResponse q)) ∙ sym g))

    -- ---- Nibe

    pub long-nibe : kind ≡ kinds.Nibe → 2 ≤ length f
    long-nibe h = let q = in-arm h in omega (arith, inside q, own-from kinds.Nibe q)

    pub said-nibe : {e : Nibe} → kind ≡ kinds.Nibe → (c : ℕ) → c ≡ get_or f 1 0
        → of_nibe e (part from to f) ≡ look_nibe c (part from to f) → Said (number_of kind) f (OnNibe e) from to
    unfolding look
    said-nibe {e} h c d g =
        let q = in-arm h in
        let r = own kinds.Nibe q in
        let m = r.form.fields in
        let id : c ≡ m.command = d ∙ ap (λ (s : List ℕ). get_or s 1 0) r.form.laid in
        from-arm h (own-said kinds.Nibe q {e = OnNibe e}
        (ap (λ (j : ℕ). look_nibe j m.content) (sym id) ∙ ap (look_nibe c) (sym (own-part kinds.Nibe q)) ∙ sym g))

    -- ---- Homiq

    pub said-homiq : {e : Homiq} → kind ≡ kinds.Homiq → e ≡ which_of (field_at 0 (part from to f)) (field_at 1 (part from to f))
        → Said (number_of kind) f (OnHomiq e) from to
    unfolding look
    said-homiq {e} h g =
        let q = in-arm h in
        let r = own kinds.Homiq q in
        let m = r.form.fields in
        from-arm h (own-said kinds.Homiq q {e = OnHomiq e} (homiq-says (subst (λ (s : List ℕ). Payload s (wire_of m)) (sym (own-part kinds.Homiq q)) (wire-in r)) g))
