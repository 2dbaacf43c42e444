-- DEMAND 3, over the frames.
-- Assumes nothing.
use mathlib.Core.List.{List, Memᴰ}
use mathlib.Core.Option.{Option, none, some}
use mathlib.Core.Path.{◌≡◌, refl, sym, ◌∙◌, ap, subst}
use Prim.Native.Nat.{ℕ}
use lib.ListN.{length}
use Rattle.digits.specs.Paper.Bytes.{Bytes}
use Rattle.checks.proofs.Theorems.{burst-found-on-the-buses}
use Rattle.checks.specs.Paper.Bits.{high_bit_first, bits_of_bytes}
use Rattle.checks.specs.Paper.Buses.{nikobus_crc16, nest_crc, nibe_xor, homiq_crc, checks}
use Rattle.checks.specs.Paper.Check.{Check, check}
use Rattle.checks.specs.Paper.Stretch.{FitIn, Burst}
use Rattle.frames.specs.Paper.Demand.{checked_in, Carrying, stretch, bit_order, Carries}
use Rattle.frames.specs.Paper.Kinds.{layout_of, Frame}
use Rattle.frames.specs.declared.kinds.Kind.{Kind}
use Rattle.frames.specs.declared.kinds.Kind.TheVariants.{Nikobus, NestCommand, NestResponse, Nibe, Homiq}
use Rattle.frames.proofs.Laws.Kinds.{one-kind, one-reading}
use Rattle.layouts.proofs.Laws.Buses.{first-agrees}
use Rattle.layouts.proofs.Laws.HomiqOne.{joined_bytes}
use Rattle.layouts.proofs.Laws.Nest.{covered-bytes}
use Rattle.layouts.proofs.Laws.Nibe as nibe-laws
use Rattle.layouts.specs.Paper.Layout.{Agree, Checked}
use Rattle.layouts.specs.Paper.Nest as nests
use Rattle.layouts.specs.Paper.Nikobus as N

-- ---- what a frame that carries a check value says: it is the value of its bytes, under one of the buses' checks

record Carried (kind : Kind) (v : Checked) : Type 0 where
  value : v.value ≡ check v.check v.bytes
  bytes : Bytes v.bytes
  one_of : Memᴰ v.check checks
  wide : v.check.width ≡ stretch kind
  ordered : v.check.order ≡ bit_order kind

-- what is not there says all
abbrev CarriedBy : Kind → Option Checked → Type 0
CarriedBy kind none = Unit
CarriedBy kind (some v) = Carried kind v

abbrev third : Memᴰ nest_crc checks
third = Memᴰ.tail (Memᴰ.tail (Memᴰ.head refl))

nest-carried : (kind : Kind) (m : nests.Nest) → nests.Limits m → Agree (nests.compared m) → 16 ≡ stretch kind → high_bit_first ≡ bit_order kind
    → Carried kind (nests.checked m)
nest-carried kind m l p w o = record { value = first-agrees p; bytes = covered-bytes m.id m.payload l.bytes; one_of = third; wide = w; ordered = o }

carried-in : (kind : Kind) (m : (layout_of kind).Fields) → (layout_of kind).Limits m → Agree ((layout_of kind).compared m) → CarriedBy kind (checked_in kind m)
carried-in Nikobus (N.link p crc16 crc8) (N.link-limits a b c d f) q =
    record { value = first-agrees q; bytes = c; one_of = Memᴰ.head refl; wide = refl; ordered = refl }
carried-in Nikobus (N.press d) l q = tt
carried-in Nikobus N.tail l q = tt
carried-in NestCommand m l q = nest-carried NestCommand m l q refl refl
carried-in NestResponse m l q = nest-carried NestResponse m l q refl refl
carried-in Nibe m l q =
    record {
      value = first-agrees q ∙ sym (nibe-laws.covered-xor m.content l.short l.bytes);
      bytes = nibe-laws.covered-bytes m.content l.short l.bytes;
      one_of = Memᴰ.tail (Memᴰ.tail (Memᴰ.tail (Memᴰ.head refl)));
      wide = refl;
      ordered = refl;
    }
carried-in Homiq m l q =
    record {
      value = first-agrees q;
      bytes = joined_bytes m l;
      one_of = Memᴰ.tail (Memᴰ.tail (Memᴰ.tail (Memᴰ.tail (Memᴰ.head refl))));
      wide = refl;
      ordered = refl;
    }

carried : {k : ℕ} {f : List ℕ} {c : Check} {x : List ℕ} {v : ℕ} (a : Carries k f c x v)
    → Carried a.frame.kind (record { check = c; bytes = x; value = v })
carried a =
    let r = a.frame.frame in
    subst (CarriedBy a.frame.kind) a.carries (carried-in a.frame.kind r.form.fields r.form.limits r.passes)

-- THE VALUE THAT STANDS IN THE FRAME IS THE CHECK'S VALUE of those bytes
pub passes : {k : ℕ} {f : List ℕ} {c : Check} {x : List ℕ} {v : ℕ} → Carries k f c x v → v ≡ check c x
passes a = (carried a).value

-- ---- which frames carry one, and that it is one

-- `checked_in` has a check value where `does` holds, and only there
abbrev Exactly : Type 0 → Option Checked → Type 0
Exactly does none = does → ⊥
Exactly does (some v) = does

exactly : (kind : Kind) (m : (layout_of kind).Fields) → Exactly (Carrying kind m) (checked_in kind m)
exactly Nikobus (N.link p crc16 crc8) = tt
exactly Nikobus (N.press d) = λ h. h
exactly Nikobus N.tail = λ h. h
exactly NestCommand m = tt
exactly NestResponse m = tt
exactly Nibe m = tt
exactly Homiq m = tt

same : {u v : Checked} → some u ≡ some v → u ≡ v
same e = cc

module _ {k : ℕ} {f : List ℕ} where
  -- EACH FRAME OF KINDS 2 TO 5, AND EACH LINK, CARRIES a check value
  pub each-carries : (h : Frame k f) → Carrying h.kind h.frame.form.fields
      → (c : Check) × (bytes : List ℕ) × (value : ℕ) × Carries k f c bytes value
  each-carries h does = go (checked_in h.kind h.frame.form.fields) refl (exactly h.kind h.frame.form.fields)
    where
      go : (v : Option Checked) → checked_in h.kind h.frame.form.fields ≡ v → Exactly (Carrying h.kind h.frame.form.fields) v
          → (c : Check) × (bytes : List ℕ) × (value : ℕ) × Carries k f c bytes value
      go none e not = absurd (not does)
      go (some v) e does = (v.check, v.bytes, v.value, record { frame = h; carries = e })

  module _ {c : Check} {x : List ℕ} {v : ℕ} (a : Carries k f c x v) where
    -- WHAT CARRIES IS A FRAME
    pub what-carries : Frame k f
    what-carries = a.frame

    -- and one of those: PRESSES AND TAILS CARRY NONE
    pub only-those : (h : Frame k f) → Carrying h.kind h.frame.form.fields
    only-those h =
        subst (Exactly (Carrying h.kind h.frame.form.fields)) (one-reading checked_in h a.frame ∙ a.carries)
        (exactly h.kind h.frame.form.fields)

    -- A FRAME CARRIES ONE check value
    pub one-carried : {d : Check} {y : List ℕ} {w : ℕ} → Carries k f d y w → (c ≡ d) × (x ≡ y) × (v ≡ w)
    one-carried b =
        let e = same (sym a.carries ∙ one-reading checked_in a.frame b.frame ∙ b.carries) in
        (ap (λ (u : Checked). u.check) e, ap (λ (u : Checked). u.bytes) e, ap (λ (u : Checked). u.value) e)

-- a kind has one such check
abbrev checked-by : Kind → Check
checked-by Nikobus = nikobus_crc16
checked-by NestCommand = nest_crc
checked-by NestResponse = nest_crc
checked-by Nibe = nibe_xor
checked-by Homiq = homiq_crc

abbrev By : Check → Option Checked → Type 0
By c none = Unit
By c (some v) = v.check ≡ c

by_kind : (kind : Kind) (m : (layout_of kind).Fields) → By (checked-by kind) (checked_in kind m)
by_kind Nikobus (N.link p crc16 crc8) = refl
by_kind Nikobus (N.press d) = tt
by_kind Nikobus N.tail = tt
by_kind NestCommand m = refl
by_kind NestResponse m = refl
by_kind Nibe m = refl
by_kind Homiq m = refl

the-check : {k : ℕ} {f : List ℕ} {c : Check} {x : List ℕ} {v : ℕ} (a : Carries k f c x v) → c ≡ checked-by a.frame.kind
the-check a = subst (By (checked-by a.frame.kind)) a.carries (by_kind a.frame.kind a.frame.frame.form.fields)

pub one-check : {k : ℕ} {f g : List ℕ} {c d : Check} {x y : List ℕ} {v w : ℕ} → Carries k f c x v → Carries k g d y w → c ≡ d
one-check a b = the-check a ∙ ap checked-by (one-kind a.frame.kind b.frame.kind (a.frame.number ∙ sym b.frame.number)) ∙ sym (the-check b)

-- TWO FRAMES OF ONE KIND THAT CARRY A CHECK VALUE: if their checked bytes are equally long and their check values equal, but the checked
-- bytes differ, then the differing bits, in the kind's order, do not fit in the kind's stretch
pub demand-3 : {k : ℕ} {f g : List ℕ} {c d : Check} {x y : List ℕ} {v w : ℕ} (a : Carries k f c x v) → Carries k g d y w
    → length x ≡ length y → v ≡ w → ¬ (x ≡ y)
    → ¬ FitIn (stretch a.frame.kind) (bits_of_bytes (bit_order a.frame.kind) x) (bits_of_bytes (bit_order a.frame.kind) y)
demand-3 {c = c} {d = d} {x = x} {y = y} a b l e differ fits =
    let p = carried a in
    let q = carried b in
    let same : d ≡ c = one-check b a in
    let burst : Burst c x y = rw (Carried.wide p, Carried.ordered p) fits in
    differ (burst-found-on-the-buses c p.one_of x y p.bytes q.bytes l burst (sym p.value ∙ e ∙ q.value ∙ ap (λ (h : Check). check h y) same))
