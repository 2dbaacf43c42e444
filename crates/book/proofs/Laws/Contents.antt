-- What the frame of an entry says: by its kind, and by its first bytes.
-- Assumes nothing.
use Rattle.std.specs.Prelude.{Option, Some, IsSome}
use mathlib.Core.List.{List, [], ◌∷◌}
use mathlib.Core.Path.{◌≡◌, refl, sym, ap, ◌∙◌, subst}
use Prim.Native.Nat.{ℕ, suc, ◌+◌, ◌-◌, ◌/◌, ◌%◌, ◌≤◌, ◌<◌}
use native.Mathlib.Numerals.{add-one}
use native.Mathlib.Omega.{arith}
use lib.ListN.{length, get_or, take, drop}
use Rattle.digits.specs.Paper.LowFirst.{low_byte_first}
use Rattle.digits.proofs.Laws.Parts.{take-ats}
use Rattle.layouts.specs.Paper.Layout.{bytes_of}
use Rattle.layouts.specs.Paper.Layout as layout
use Rattle.layouts.specs.Paper.Nest as nests
use Rattle.layouts.specs.Paper.Nikobus as nikobuses
use Rattle.layouts.specs.declared.nest.Direction.TheVariants.{Command as Outward, Response as Inward}
use Rattle.layouts.proofs.Laws.Nest.{nest-size}
use Rattle.layouts.proofs.Laws.Nibe.{nibe-size}
use Rattle.frames.specs.Paper.Kinds.{number_of, layout_of, Resolves, Frame}
use Rattle.frames.specs.Paper.OneFrame.{OneFrame}
use Rattle.frames.specs.declared.kinds.Kind.{Kind}
use Rattle.frames.specs.declared.kinds.Kind.TheVariants.{Nikobus, NestCommand, NestResponse, Nibe, Homiq}
use Rattle.frames.proofs.Laws.Kinds.{of-kind, as-frame, frame-known, resolved-known, resolved-some}
use Rattle.messages.specs.Paper.Content.{wire_of, content_in, payload_in}
use Rattle.messages.specs.Paper.Content as content
use Rattle.messages.specs.Paper.Meant.{LinkWith, PressWith, ContentWith}
use Rattle.messages.specs.Paper.Table.{u16_at}
use Rattle.messages.specs.declared.Tag.{Tag}
use Rattle.messages.specs.declared.Tag.TheVariants.{Link, Press, Tail, Command, Response, Nibe as OfNibe, Homiq as OfHomiq}
use Rattle.messages.proofs.Laws.Buses.{command-id, response-id, wire-in}
use Rattle.messages.proofs.Laws.Links as links
use Rattle.book.specs.Work.Contents.{Tagged}
use Rattle.book.specs.Work.Reading.{NumberAt}

-- ---- a frame of a kind, as its layout has it

module _ (kind : Kind) {f : List ℕ} (x : Frame (number_of kind) f) where
  laid_out : layout.FrameBy (layout_of kind) f
  laid_out = of-kind x kind refl

  -- what it says has the tag that its fields have
  tagged : (tag : Tag) → ContentWith tag (payload_in (content_in kind laid_out.form.fields)) (content_in kind laid_out.form.fields) → Tagged (number_of kind) f tag
  tagged tag w = record { frame = as-frame kind laid_out; is = w }

-- ---- Nikobus

module _ {f : List ℕ} (x : Frame 1 f) where
  abbrev its-fields : nikobuses.Nikobus
  its-fields = (laid_out Nikobus x).form.fields

  pub two-long : 2 ≤ length f
  two-long = links.two-long (record { frame = laid_out Nikobus x; is = refl })

  pub link-tagged : get_or f 0 0 ≡ 36 → Tagged 1 f Link
  link-tagged mark = tagged Nikobus x Link (go its-fields (laid_out Nikobus x).form.laid)
    where
      go : (m : nikobuses.Nikobus) → f ≡ bytes_of nikobuses.nikobus m → LinkWith (payload_in (content_in Nikobus m)) (content_in Nikobus m)
      go (nikobuses.link q c d) e = record { payload = q; is = refl; digits = refl }
      go (nikobuses.press d) e = absurd (omega (arith, ap (λ (w : List ℕ). get_or w 0 0) e))
      go nikobuses.tail e = absurd (omega (arith, ap (λ (w : List ℕ). get_or w 0 0) e))

  module _ (other : get_or f 0 0 ≡ 36 → ⊥) where
    pub press-tagged : get_or f 1 0 ≡ 78 → Tagged 1 f Press
    press-tagged mark = tagged Nikobus x Press (go its-fields (laid_out Nikobus x).form.laid)
      where
        go : (m : nikobuses.Nikobus) → f ≡ bytes_of nikobuses.nikobus m → PressWith (payload_in (content_in Nikobus m)) (content_in Nikobus m)
        go (nikobuses.link q c d) e = absurd (other (ap (λ (w : List ℕ). get_or w 0 0) e))
        go (nikobuses.press d) e = refl
        go nikobuses.tail e = absurd (omega (arith, ap (λ (w : List ℕ). get_or w 1 0) e))

    pub tail-tagged : (get_or f 1 0 ≡ 78 → ⊥) → Tagged 1 f Tail
    tail-tagged mark = tagged Nikobus x Tail (go its-fields (laid_out Nikobus x).form.laid)
      where
        go : (m : nikobuses.Nikobus) → f ≡ bytes_of nikobuses.nikobus m → content_in Nikobus m ≡ content.tail
        go (nikobuses.link q c d) e = absurd (other (ap (λ (w : List ℕ). get_or w 0 0) e))
        go (nikobuses.press d) e = absurd (mark (ap (λ (w : List ℕ). get_or w 1 0) e))
        go nikobuses.tail e = refl

-- ---- the arm of a kind

module _ {kind : Kind} {f : List ℕ} (x : Frame (number_of kind) f) where
  pub in-arm : {it : Kind} → kind ≡ it → Frame (number_of it) f
  in-arm h = subst (λ (k : Kind). Frame (number_of k) f) h x

  pub from-arm : {it : Kind} {tag : Tag} → kind ≡ it → Tagged (number_of it) f tag → Tagged (number_of kind) f tag
  from-arm {tag = tag} h s = subst (λ (k : Kind). Tagged (number_of k) f tag) (sym h) s

  pub long-command : kind ≡ NestCommand → 9 ≤ length f
  long-command h = let q = laid_out NestCommand (in-arm h) in omega (arith, ap length q.form.laid, nest-size (nests.preamble Outward) q.form.fields)

  pub command-tagged : {i : ℕ} → kind ≡ NestCommand → i ≡ u16_at 3 f → Tagged (number_of kind) f (Command i)
  command-tagged {i} h e =
      let y = in-arm h in
      let q = laid_out NestCommand y in
      let id : i ≡ q.form.fields.id = e ∙ ap (u16_at 3) q.form.laid ∙ command-id q.form.fields q.form.limits.id in
      from-arm h (tagged NestCommand y (Command i) (ap (λ (n : ℕ). content.command n q.form.fields.payload) (sym id)))

  pub long-response : kind ≡ NestResponse → 10 ≤ length f
  long-response h = let q = laid_out NestResponse (in-arm h) in omega (arith, ap length q.form.laid, nest-size (nests.preamble Inward) q.form.fields)

  pub response-tagged : {i : ℕ} → kind ≡ NestResponse → i ≡ u16_at 4 f → Tagged (number_of kind) f (Response i)
  response-tagged {i} h e =
      let y = in-arm h in
      let q = laid_out NestResponse y in
      let id : i ≡ q.form.fields.id = e ∙ ap (u16_at 4) q.form.laid ∙ response-id q.form.fields q.form.limits.id in
      from-arm h (tagged NestResponse y (Response i) (ap (λ (n : ℕ). content.response n q.form.fields.payload) (sym id)))

  pub long-nibe : kind ≡ Nibe → 4 ≤ length f
  long-nibe h = let q = laid_out Nibe (in-arm h) in omega (arith, ap length q.form.laid, nibe-size q.form.fields)

  pub nibe-tagged : kind ≡ Nibe → Tagged (number_of kind) f (OfNibe (get_or f 1 0))
  nibe-tagged h =
      let y = in-arm h in
      let q = laid_out Nibe y in
      from-arm h (tagged Nibe y (OfNibe (get_or f 1 0)) (ap (λ (n : ℕ). content.nibe n q.form.fields.content) (sym (ap (λ (s : List ℕ). get_or s 1 0) q.form.laid))))

  pub homiq-tagged : kind ≡ Homiq → Tagged (number_of kind) f OfHomiq
  homiq-tagged h =
      let y = in-arm h in
      let q = laid_out Homiq y in
      from-arm h (tagged Homiq y OfHomiq (record { wire = wire_of q.form.fields; is = refl; payload = wire-in q }))

-- ---- the kind of a number

module _ {k : ℕ} {f : List ℕ} {from to : ℕ} (o : OneFrame k f (record { from = from; to = to })) {r : Option Kind} (a : Resolves k r) where
  pub of_number : {kind : Kind} → r ≡ Some kind → Frame (number_of kind) f
  of_number q = subst (λ (n : ℕ). Frame n f) (sym (resolved-known a q)) o.frame

  pub tagged-number : {kind : Kind} {tag : Tag} → r ≡ Some kind → Tagged (number_of kind) f tag → Tagged k f tag
  tagged-number {tag = tag} q s = subst (λ (n : ℕ). Tagged n f tag) (resolved-known a q) s

pub some_kind : {k : ℕ} {f : List ℕ} (x : Frame k f) (r : Option Kind) → Resolves k r → IsSome r
some_kind x r a = resolved-some r a ∙ frame-known x

-- ---- two bytes of a frame

pub word_at : {s : List ℕ} {at n : ℕ} → at + 2 ≤ length s → n < 65536 → NumberAt s at 2 n → n ≡ u16_at at s
unfolding low_byte_first
word_at {s} {at} {n} h few x =
    let w : (at + 2) - at ≡ 2 = omega arith in
    let e : get_or s at 0 ∷ get_or s (suc at) 0 ∷ [] ≡ low_byte_first 2 n = sym (take-ats s 2 at h) ∙ ap (λ (i : ℕ). take i (drop at s)) (sym w) ∙ x.bytes in
    let a : get_or s at 0 ≡ n % 256 = ap (λ (t : List ℕ). get_or t 0 0) e in
    let b : get_or s (at + 1) 0 ≡ n / 256 % 256 = ap (λ (i : ℕ). get_or s i 0) (add-one at) ∙ ap (λ (t : List ℕ). get_or t 1 0) e in
    omega arith
