-- What a call answers that writes a message: a frame that is built for it, and the answer where it is none of the table.
-- Assumes nothing.
use Rattle.std.specs.Prelude.{Result, Ok, Err}
use mathlib.Core.Path.{◌≡◌, refl, sym, ◌∙◌, ap, subst}
use mathlib.Core.Bool.{Bool, false, ◌||◌, true≢false}
use mathlib.Core.List.{List}
use Prim.Native.Nat.{ℕ, ◌≤◌}
use native.Mathlib.Omega.{arith}
use lib.Dec.{eqb}
use lib.ListN.{length}
use Rattle.digits.specs.Paper.Refusals.{refusal_order, First, clear, here, after}
use Rattle.digits.specs.declared.refusal.Refusal.{Refusal}
use Rattle.digits.proofs.Laws.Refusals.{answered, cause-at, cause-of, one-first, pass-over, some_number}
use Rattle.puts.specs.Paper.Right as right
use Rattle.puts.specs.Paper.Wrote as puts
use Rattle.puts.specs.Paper.Wrote.{Wrote, RoomCause, wrote, refused, Written}
use Rattle.puts.proofs.Laws.Right.{fronted-right}
use Rattle.builds.specs.Paper.Builds as builds
use Rattle.builds.specs.Paper.Builds.{BuildCause, Builds}
use Rattle.frames.specs.Paper.Kinds.{layout_of}
use Rattle.messages.specs.Paper.Allowed as allowed
use Rattle.messages.specs.Paper.Allowed.{StandingCause, Allows}
use Rattle.messages.specs.Paper.Content.{Content, kind_of, made, laid}
use Rattle.messages.specs.Paper.Message.{Message}
use Rattle.messages.specs.Paper.Says.{Says}
use Rattle.messages.specs.Paper.Table.{content_of, bytes, Above, Good}
use Rattle.messages.specs.Work.Answers.{Only}
use Rattle.messages.specs.Work.Content.{Fit}
use Rattle.messages.specs.declared.Message.{Message as Coded}
use Rattle.messages.proofs.Laws.Allowed.{is-outside}
use Rattle.messages.proofs.Laws.Decode.{first-same}
use Rattle.messages.proofs.Laws.Says.{one-said}
use Rattle.messages.proofs.Laws.Table.{fit}
use Rattle.commands.specs.Paper.Answers.{MessageCause, outside, taken, short}
use Rattle.commands.specs.Work.Answers.{WritesMeant, WritesMessage}

-- ---- a frame that is built for a message within its limits

-- causes that apply together refuse together
pub recause : {A B : ℕ → Type 0} {bs room later : List ℕ} {no count : ℕ} → ((k : ℕ) → A k → B k) → ((k : ℕ) → B k → A k)
    → Wrote A bs room no count later → Wrote B bs room no count later
recause to back (wrote f) = wrote (first-same to back refusal_order 0 f)
recause to back (refused {no = k} p f) = refused p (first-same to back refusal_order k f)

-- of fields within their limits all is written, or nothing
all-or-none : {L : Type 0} {bs room later : List ℕ} {no count : ℕ} → L → Wrote (BuildCause L (length room) (length bs)) bs room no count later
    → Wrote (RoomCause (length room) (length bs)) bs room no count later
all-or-none {L} {bs} {room} l w = recause to back w
  where
    to : (k : ℕ) → BuildCause L (length room) (length bs) k → RoomCause (length room) (length bs) k
    to k (builds.outside f) = absurd (f l)
    to k (builds.short h) = puts.short h

    back : (k : ℕ) → RoomCause (length room) (length bs) k → BuildCause L (length room) (length bs) k
    back k (puts.short h) = builds.short h

-- THE FRAME WITH A MESSAGE'S CONTENT writes the message
pub built : (m : Message) (c : Content) {room later : List ℕ} (r : Written) → c ≡ content_of m → Builds (layout_of (kind_of c)) (made c) room r later
    → WritesMessage (Only m) room r later
built m c {room} {later} r same b q e l =
    let n : c ≡ content_of q = same ∙ ap content_of (sym e) in
    subst (λ (x : Content). puts.Writes (RoomCause (length room) (length (laid x))) (laid x) room r later) n (all-or-none (subst Fit (sym n) (fit q l)) b)

-- the message of a case
pub in-case : {E : Type 0} (Means : E → Message → Type 0) {e d : E} {room later : List ℕ} (r : Written) → e ≡ d
    → WritesMessage (Means d) room r later → WritesMessage (Means e) room r later
in-case Means {room = room} {later = later} r same w = subst (λ x. WritesMessage (Means x) room r later) (sym same) w

-- ---- the first cause

abbrev ours : ℕ → Bool
ours k = eqb k 5 || (eqb k 6 || eqb k 4)

module _ {Means : Message → Type 0} {n : ℕ} where
  only : (k : ℕ) → ours k ≡ false → MessageCause Means n k → ⊥
  only k e (outside f) = true≢false e
  only k e (taken s a) = true≢false e
  only k e (short s h) = true≢false e

  refusing : (k : ℕ) → First (StandingCause Means) refusal_order k → StandingCause Means k → First (MessageCause Means n) refusal_order k
  refusing k f (allowed.outside g) = pass-over ours only refusal_order (here (outside g))
  refusing k f (allowed.taken s a) = pass-over ours only refusal_order (after not-5 (here (taken s a)))
    where
      not-5 : MessageCause Means n 5 → ⊥
      not-5 (outside g) = let e = one-first f (cause-of (is-outside g)) in omega arith

-- ---- the answers

module _ (e : Coded) (s room : List ℕ) where
  -- none of the table
  pub not-allowed : (t : Result (Unit {0}) Refusal) (why : Refusal) → t ≡ Err why → Allows e s t → WritesMeant (Says e s) room (Err why) room
  not-allowed t why same a =
      let f = cause-of (subst (Allows e s) same a) in
      right.refused (some_number why) (refusing _ f (cause-at f (some_number why)))

  -- one of the table: all its bytes are written, or none
  module _ (m : Message) (meant : Says e s m) (good : Good m) where
    not-5 : MessageCause (Says e s) (length room) 5 → ⊥
    not-5 (outside f) = f m meant good.limits

    not-6 : MessageCause (Says e s) (length room) 6 → ⊥
    not-6 (taken {m = q} t a) = good.free (subst Above (one-said e s q m t meant) a)

    not-4 : length (bytes m) ≤ length room → MessageCause (Says e s) (length room) 4 → ⊥
    not-4 h (short {m = q} t k) =
        let same : length (bytes q) ≡ length (bytes m) = ap (λ (x : Message). length (bytes x)) (one-said e s q m t meant) in omega arith

    as-meant : {later : List ℕ} (r : Written) → WritesMessage (Says e s) room r later → WritesMeant (Says e s) room r later
    as-meant r w =
        fronted-right r (record { message = m; meant = meant; good = good; is = refl })
        (λ h. pass-over ours only refusal_order (after not-5 (after not-6 (after (not-4 h) clear))))
        (λ h. pass-over ours only refusal_order (after not-5 (after not-6 (here (short meant h))))) (w m meant good.limits)

  pub allowed-written : {later : List ℕ} (t : Result (Unit {0}) Refusal) (r : Written) {u : Unit {0}} → t ≡ Ok u → Allows e s t → WritesMessage (Says e s) room r later
      → WritesMeant (Says e s) room r later
  allowed-written t r same a w = let x = answered (subst (Allows e s) same a) refl in as-meant x.0 x.1 x.2 r w
