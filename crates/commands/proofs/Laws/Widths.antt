-- The width of a message's value, where it has one.
-- Assumes nothing.
use Rattle.std.specs.Prelude.{Err}
use mathlib.Core.Path.{◌≡◌, refl, sym, ◌∙◌, ap, subst}
use mathlib.Core.Bool.{Bool, true, false, not}
use mathlib.Core.List.{List}
use Prim.Native.Nat.{ℕ, ◌≤◌}
use borrow.Author.Tests.{not-true, not-false}
use native.Mathlib.Omega.{arith}
use lib.Dec.{eqb}
use Rattle.std.proofs.lemmas.Bool.{eqb-true, eqb-false}
use Rattle.digits.specs.Paper.LowFirst.{Width, one, two}
use Rattle.digits.specs.Paper.Read.{Decides, holds}
use Rattle.digits.specs.declared.refusal.Refusal.TheVariants.{BadForm, OutOfLimits}
use Rattle.digits.proofs.Laws.Tests.{told, untold}
use Rattle.puts.specs.Paper.Wrote.{Written}
use Rattle.frames.specs.Paper.Kinds.{known, number_of}
use Rattle.messages.specs.Paper.Message.{reply, put}
use Rattle.messages.specs.Paper.Says.{Says, kind_in}
use Rattle.messages.specs.Paper.Table.{in-reply, in-put}
use Rattle.messages.specs.declared.Message.{Message as Coded}
use Rattle.messages.specs.declared.Message.TheVariants.{Nikobus as OnNikobus, Command, Response as AsResponse, Nibe as OnNibe, Homiq as OnHomiq}
use Rattle.messages.specs.declared.nibe.Nibe.{Nibe}
use Rattle.messages.specs.declared.nibe.Valued.{Valued}
use Rattle.messages.specs.declared.nibe.Nibe.TheVariants.{Ask, Reply, Put, Done, Other}
use Rattle.messages.proofs.Laws.Says.{case_of, case-of}
use Rattle.commands.specs.Paper.Answers.{Encodes}
use Rattle.commands.specs.Work.Answers.{NibeWidth, WidthIn, WritesMeant}
use Rattle.commands.proofs.Laws.Encode.{Widths, bad-width, of-other-kind, as_written}

-- where the code's test holds, each width is one that there is: only replies and puts have one
pub widths : (e : Coded) (s : List ℕ) → WidthIn e → Widths e s
widths e s u m w a (in-reply h) = subst WidthIn (sym (case-of e s m a) ∙ ap case_of h) u
widths e s u m w a (in-put h) = subst WidthIn (sym (case-of e s m a) ∙ ap case_of h) u

-- and where it fails, one is not
nibe-refused : (k : ℕ) (e : Nibe) (s room : List ℕ) → known k ≡ true → (WidthIn (OnNibe e) → ⊥) → Encodes k (OnNibe e) s room (Err BadForm) room
nibe-refused k (Ask r) s room h f = absurd (f tt)
nibe-refused k (Reply v) s room h f = bad-width k (OnNibe (Reply v)) s room h (reply v.register v.width v.value) v.width refl (in-reply refl) f
nibe-refused k (Put v) s room h f = bad-width k (OnNibe (Put v)) s room h (put v.register v.width v.value) v.width refl (in-put refl) f
nibe-refused k (Done ok) s room h f = absurd (f tt)
nibe-refused k (Other c) s room h f = absurd (f tt)

pub width-refused : (k : ℕ) (e : Coded) (s room : List ℕ) → known k ≡ true → (WidthIn e → ⊥) → Encodes k e s room (Err BadForm) room
width-refused k (OnNikobus e) s room h f = absurd (f tt)
width-refused k (Command i) s room h f = absurd (f tt)
width-refused k (AsResponse e) s room h f = absurd (f tt)
width-refused k (OnNibe e) s room h f = nibe-refused k e s room h f
width-refused k (OnHomiq e) s room h f = absurd (f tt)

-- ---- what the encoder answers, by its tests

module _ (k : ℕ) (d : Coded) (s room : List ℕ) {a b : Bool} (ea : a ≡ known k) (tb : Decides (WidthIn d) b) where
  module _ (ha : not a ≡ false) where
    is_known : known k ≡ true
    is_known = sym ea ∙ not-false a ha

    pub by_width : not b ≡ true → Encodes k d s room (Err BadForm) room
    by_width h = width-refused k d s room is_known (untold tb (not-true b h))

    module _ (hb : not b ≡ false) {i : ℕ} (ei : i ≡ number_of (kind_in d)) where
      pub by-other-kind : (i ≡ k → ⊥) → Encodes k d s room (Err OutOfLimits) room
      by-other-kind h = of-other-kind k d s room is_known (widths d s (told tb (not-false b hb))) (λ e. h (ei ∙ e))

      -- the message's own writer answers
      pub by-writer : {later : List ℕ} (r : Written) → i ≡ k → WritesMeant (Says d s) room r later → Encodes k d s room r later
      by-writer r hk w = as_written k d s room is_known (widths d s (told tb (not-false b hb))) (sym ei ∙ hk) w

-- ---- a message's width

pub one-or-two : {w : ℕ} → 1 ≤ w → w ≤ 2 → Width w
one-or-two {w} a b = go (eqb w 1) refl
  where
    go : (t : Bool) → eqb w 1 ≡ t → Width w
    go true e = subst Width (sym (eqb-true w 1 e)) one
    go false e =
        let n = eqb-false w 1 e in
        let k : w ≡ 2 = omega (arith, n) in
        subst Width (sym k) two

pub no-width-in : (e : Coded) → ((m : Nibe) → e ≡ OnNibe m → ⊥) → Decides (WidthIn e) true
no-width-in (OnNikobus m) n = holds tt
no-width-in (Command i) n = holds tt
no-width-in (AsResponse m) n = holds tt
no-width-in (OnNibe m) n = absurd (n m refl)
no-width-in (OnHomiq m) n = holds tt

pub no-nibe-width : (e : Nibe) → ((v : Valued) → e ≡ Reply v → ⊥) → ((v : Valued) → e ≡ Put v → ⊥) → Decides (NibeWidth e) true
no-nibe-width (Ask r) n m = holds tt
no-nibe-width (Reply v) n m = absurd (n v refl)
no-nibe-width (Put v) n m = absurd (m v refl)
no-nibe-width (Done ok) n m = holds tt
no-nibe-width (Other c) n m = holds tt
