-- Frames at places of a buffer: at one place at most one length makes a frame.
-- Assumes nothing.
use mathlib.Core.Bool.{true}
use mathlib.Core.List.{List}
use mathlib.Core.Path.{◌≡◌, refl, sym, ◌∙◌, ap, ap₂, subst}
use Prim.Native.Nat.{ℕ, zero, suc, ◌+◌, ◌-◌, ◌≤◌, ◌<◌}
use native.Mathlib.Nat.{add-sub_cancel_left}
use native.Mathlib.Omega.{arith}
use lib.ListN.{length, take, drop, length-drop}
use lib.Seq.{length-take-le}
use Rattle.std.specs.Prelude.{Some, None}
use Rattle.digits.proofs.Laws.Parts.{part-all}
use Rattle.digits.specs.Paper.Bytes.{part}
use Rattle.layouts.specs.Paper.Layout as layout
use Rattle.layouts.specs.declared.Frame.{Frame as Placed}
use Rattle.layouts.proofs.Laws.Heads.{taken, inside, found}
use Rattle.frames.specs.Paper.Kinds.{number_of, layout_of, known, Frame, payload_from, payload_to}
use Rattle.frames.specs.Paper.Search.{FrameAt}
use Rattle.frames.specs.Work.Frames.{recogniser, framed, len_at, frame_at}
use Rattle.frames.specs.declared.kinds.Kind.{Kind}
use Rattle.frames.proofs.Laws.Kinds.{kind-right, frame-known, of-kind, as-frame, one-kind, begins, ends}

pub part-take : (i n : ℕ) (s : List ℕ) → part i (i + n) s ≡ take n (drop i s)
part-take i n s = rw (add-sub_cancel_left i n)

-- what stands at a place is what the recogniser finds there
pub at_place : {k : ℕ} {s : List ℕ} {i n : ℕ} → FrameAt k s i n → (kind : Kind) → number_of kind ≡ k → len_at kind s i ≡ n
unfolding len_at
at_place {k} {s} {i} {n} q kind e =
    let f : layout.FrameBy (layout_of kind) (take n (drop i s)) = subst (layout.FrameBy (layout_of kind)) (part-take i n s) (of-kind q.frame kind e) in
    found (kind-right kind) (drop i s) n (omega (arith, length-drop i s, q.inside)) f

pub one-length : {k : ℕ} {s : List ℕ} {i n m : ℕ} → FrameAt k s i n → FrameAt k s i m → n ≡ m
one-length a b = let r = a.frame in sym (at_place a r.kind r.number) ∙ at_place b r.kind r.number

pub size-at : {k : ℕ} {s : List ℕ} {i n : ℕ} → FrameAt k s i n → length (part i (i + n) s) ≡ n
size-at {k} {s} {i} {n} q = ap length (part-take i n s) ∙ length-take-le n (drop i s) (omega (arith, length-drop i s, q.inside))

pub never-empty : {k : ℕ} {f : List ℕ} → Frame k f → 0 < length f
never-empty r = (kind-right r.kind).some r.frame

pub positive : {k : ℕ} {s : List ℕ} {i n : ℕ} → FrameAt k s i n → 0 < n
positive q = let h = never-empty q.frame in omega (arith, size-at q)

pub known_at : {k : ℕ} {s : List ℕ} {i n : ℕ} → FrameAt k s i n → known k ≡ true
known_at q = frame-known q.frame

-- a frame stands at the front of its own bytes, and only that
pub all_of : (f : List ℕ) → part 0 (0 + length f) f ≡ f
all_of f = let n : 0 + length f ≡ length f = omega arith in ap (λ (m : ℕ). part 0 m f) n ∙ part-all f

module _ {k : ℕ} {f : List ℕ} where
  pub frame-alone : Frame k f → FrameAt k f 0 (length f)
  frame-alone r = record { inside = omega arith; frame = subst (Frame k) (sym (all_of f)) r }

  pub alone-frame : FrameAt k f 0 (length f) → Frame k f
  alone-frame q = subst (Frame k) (all_of f) q.frame

-- and what the recogniser finds stands there
pub stands : (kind : Kind) (s : List ℕ) (i n : ℕ) → i ≤ length s → len_at kind s i ≡ suc n → FrameAt (number_of kind) s i (suc n)
unfolding len_at
stands kind s i n h e =
    let r = kind-right kind in
    let p : 0 < len_at kind s i = omega (arith, e) in
    let f : layout.FrameBy (layout_of kind) (take (suc n) (drop i s)) = subst (λ (m : ℕ). layout.FrameBy (layout_of kind) (take m (drop i s))) e (taken r (drop i s) p) in
    record {
      inside = omega (arith, e, inside r (drop i s), length-drop i s);
      frame = as-frame kind (subst (layout.FrameBy (layout_of kind)) (sym (part-take i (suc n) s)) f);
    }

-- of no length, no frame
pub none-at : (kind : Kind) (s : List ℕ) (i : ℕ) → len_at kind s i ≡ 0 → frame_at kind s i ≡ None
unfolding frame_at
none-at kind s i e = ap (framed (recogniser kind) (drop i s)) e

-- the payload's places, as the recogniser has them
module _ (kind : Kind) {s : List ℕ} {i n : ℕ} (q : FrameAt (number_of kind) s i (suc n)) where
  same_kind : q.frame.kind ≡ kind
  same_kind = one-kind q.frame.kind kind q.frame.number

  -- what is read off the frame there
  read-there : (place : Kind → List ℕ → ℕ) → place q.frame.kind (part i (i + suc n) s) ≡ place kind (take (suc n) (drop i s))
  read-there place = ap (λ (x : Kind). place x (part i (i + suc n) s)) same_kind ∙ ap (place kind) (part-take i (suc n) s)

  pub frame-there : frame_at kind s i ≡ Some (record { len = suc n; from = payload_from q.frame; to = payload_to q.frame })
  unfolding frame_at
  frame-there =
      ap (framed (recogniser kind) (drop i s)) (at_place q kind refl)
      ∙ ap₂ (λ (x y : ℕ). Some (record { len = suc n; from = x; to = y }))
      (sym (begins q.frame ∙ read-there (λ x. (recogniser x).from))) (sym (ends q.frame ∙ read-there (λ x. (recogniser x).to)))

-- a frame of the buffer, with its payload's places in it
pub record Standing (kind : Kind) (s : List ℕ) (i : ℕ) (f : Placed) : Type 0 where
  pub stands : FrameAt (number_of kind) s i f.len
  pub from_is : f.from ≡ payload_from stands.frame
  pub to_is : f.to ≡ payload_to stands.frame

-- WHAT IS FOUND AT A PLACE stands there, and where none is found none stands
module _ (kind : Kind) (s : List ℕ) (i : ℕ) where
  pub standing : {f : Placed} → i ≤ length s → Some f ≡ frame_at kind s i → Standing kind s i f
  standing {f} h e = go (len_at kind s i) refl
    where
      go : (n : ℕ) → len_at kind s i ≡ n → Standing kind s i f
      go zero z = let never : Some f ≡ None = e ∙ none-at kind s i z in absurd (cc)
      go (suc n) z =
          let q = stands kind s i n h z in
          let it : Placed = record { len = suc n; from = payload_from q.frame; to = payload_to q.frame } in
          let there : Some f ≡ Some it = e ∙ frame-there kind q in
          let same : it ≡ f = cc in
          subst (Standing kind s i) same (record { stands = q; from_is = refl; to_is = refl })

  pub none-stands : {n : ℕ} → None ≡ frame_at kind s i → FrameAt (number_of kind) s i n → ⊥
  none-stands {n = zero} e q = let p = positive q in omega arith
  none-stands {n = suc n} e q = let never = e ∙ frame-there kind q in cc
