-- Homiq: the frame with a payload is the frame of the message that is said with it.
-- Assumes nothing.
use mathlib.Core.List.{List}
use mathlib.Core.Path.{◌≡◌, refl, sym, ◌∙◌, ap, subst}
use Prim.Native.Nat.{ℕ, ◌<◌}
use lib.ListN.{length}
use Rattle.layouts.specs.Paper.Made.{Wire, Payload}
use Rattle.puts.specs.Paper.Right as right
use Rattle.puts.specs.Paper.Right.{WroteRight}
use Rattle.puts.specs.Paper.Wrote as puts
use Rattle.puts.specs.Paper.Wrote.{Wrote, RoomCause, Written}
use Rattle.builds.specs.Paper.Builds.{HomiqCause, outside, short, HomiqBytes, BuildsHomiq}
use Rattle.builds.proofs.Laws.Homiq.{one-bytes}
use Rattle.messages.specs.Paper.Content.{laid}
use Rattle.messages.specs.Paper.Content as content
use Rattle.messages.specs.Paper.Says.{SaysHomiq}
use Rattle.messages.specs.Paper.Table.{content_of, bytes}
use Rattle.messages.specs.declared.homiq.Homiq.{Homiq}
use Rattle.messages.proofs.Laws.Allowed.{homiq-content}
use Rattle.commands.specs.Work.Answers.{WritesMessage}
use Rattle.commands.proofs.Laws.Written.{recause}

-- where only these bytes are right, they are written
the-right : {Cause : ℕ → Type 0} {Right : List ℕ → Type 0} {bs room later : List ℕ} {no count : ℕ} → ((a : List ℕ) → Right a → a ≡ bs)
    → WroteRight Cause Right room no count later → Wrote Cause bs room no count later
the-right {Cause} one (right.wrote {bs = a} f x) = rw (sym (one a x)) (puts.wrote f)
the-right one (right.refused p f) = puts.refused p f

module _ {s : List ℕ} {w : Wire} (p : Payload s w) where
  abbrev frame : List ℕ
  frame = laid (content.homiq w)

  its-frame : (a : List ℕ) → HomiqBytes s a → a ≡ frame
  its-frame a h = one-bytes s a frame h (record { wire = w; payload = p; bytes = refl })

  to : {n : ℕ} (k : ℕ) → HomiqCause s n k → RoomCause n (length frame) k
  to k (outside f) = absurd (f w p)
  to {n} k (short {w = v} q h) = puts.short (subst (λ (x : List ℕ). n < length x) (its-frame _ (record { wire = v; payload = q; bytes = refl })) h)

  back : {n : ℕ} (k : ℕ) → RoomCause n (length frame) k → HomiqCause s n k
  back k (puts.short h) = short p h

  framed : {room later : List ℕ} {no count : ℕ} → WroteRight (HomiqCause s (length room)) (HomiqBytes s) room no count later
      → Wrote (RoomCause (length room) (length frame)) frame room no count later
  framed b = recause to back (the-right its-frame b)

pub homiq-written : (e : Homiq) (s : List ℕ) {room later : List ℕ} (r : Written) → BuildsHomiq s room r later → WritesMessage (SaysHomiq e s) room r later
homiq-written e s {room} {later} r b m a l =
    let same : laid (content.homiq a.wire) ≡ bytes m = sym (ap laid (ap content_of a.is ∙ homiq-content e a.wire)) in
    subst (λ (x : List ℕ). puts.Writes (RoomCause (length room) (length x)) x room r later) same (framed a.payload b)
