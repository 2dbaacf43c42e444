-- Whether a line fits, and all or nothing of it at a place of a room.
-- Assumes nothing.
use Rattle.std.specs.Prelude.{Ok, Err}
use mathlib.Core.Bool.{Bool, true, false}
use mathlib.Core.List.{List}
use mathlib.Core.Option.{Option}
use mathlib.Core.Path.{◌≡◌, refl, sym, ◌∙◌, subst}
use Prim.Native.Nat.{ℕ, ◌-◌, ◌≤◌, ◌<◌}
use native.Mathlib.Omega.{arith}
use lib.Dec.{leb, lit<}
use lib.ListN.{length}
use borrow.Author.Tests.{leb-true, leb-false, le-leb}
use Rattle.digits.specs.declared.refusal.Refusal.TheVariants.{NoRoom}
use Rattle.digits.proofs.Laws.Stores.{sets-front}
use Rattle.puts.specs.Paper.Put.{Put, largest_place}
use Rattle.puts.specs.Paper.Wrote.{wrote, refused, RoomCause, Writes, Written}
use Rattle.puts.proofs.Laws.Wrote.{too_short, room_for}
use Rattle.sheet.specs.Paper.Sheet.{Lookup}
use Rattle.lines.specs.Work.Put.{Bounded, AllOrNone, all, none}
use Rattle.lines.specs.Work.Tried.{Surely}

-- ---- whether it fits

-- a line that is shorter than what is left, by the bound
pub surely : {sheet : Option Lookup} {t : List ℕ} {beside left : ℕ} (b : Bool) → Bounded sheet t beside → Surely sheet false beside left b → b ≡ true → true ≡ leb (length t) left
surely {sheet} {t} {beside} {left} b x y e =
    let m = (subst (Surely sheet false beside left) e y).may-put refl in sym (le-leb (length t) left (omega (arith, x.most)))

module _ {bs room : List ℕ} {to left : ℕ} {fits : Bool} (l : left ≡ length room - to) (f : fits ≡ leb (length bs) left) where
  pub not-placed : fits ≡ false → AllOrNone bs room to (Err NoRoom) room
  not-placed e = let h : left < length bs = leb-false (length bs) left (sym f ∙ e) in none (omega arith)

  pub all_placed : {later : List ℕ} {behind : ℕ} → fits ≡ true → Put room later to behind bs → to ≤ largest_place → AllOrNone bs room to (Ok (behind - to)) later
  all_placed {behind = behind} e p k =
      let h : length bs ≤ left = leb-true (length bs) left (sym f ∙ e) in
      let n : behind - to ≡ length bs = omega (arith, p.behind, p.slice) in
      rw (n, p.room-is) (all (omega arith))

-- ---- what is written then

-- at the front of the room
pub at_front : {bs room later : List ℕ} {w : Written} → AllOrNone bs room 0 w later → Writes (RoomCause (length room) (length bs)) bs room w later
at_front {bs} {room} (all h) = rw (sets-front bs room (omega arith)) (wrote (room_for (omega arith)))
at_front (none h) = refused (lit< tt) (too_short (omega arith))
