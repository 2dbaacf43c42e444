-- The public functions of `list`: each keeps its claim.
-- Assumes nothing.
use mathlib.Core.Bool.{false, true≢false}
use mathlib.Core.List.{List, [], ◌∷◌}
use mathlib.Core.Option.{Option}
use mathlib.Core.Path.{◌≡◌, ap, refl}
use Prim.Native.Nat.{ℕ, ◌≤◌}
use lib.Dec.{eqb}
use lib.ListN.{length}
use native.Mathlib.Omega.{arith}
use Rattle.digits.specs.Paper.Refusals.{refusal_order, clear, here, after}
use Rattle.digits.proofs.Laws.Refusals.{pass-over}
use Rattle.puts.specs.Paper.Right.{WroteRight}
use Rattle.puts.proofs.Laws.Right.{as-right, one-wrote}
use Rattle.puts.proofs.Laws.Wrote.{after-tests}
use Rattle.list.specs.Paper.Answers.{WroteListing}
use Rattle.list.specs.Paper.Listing.{Listing}
use Rattle.list.proofs.Laws.One.{OneGiven, one_none, one_map, one-text}
use Rattle.list.proofs.Theorems.{one-listing}
use Rattle.sheet.specs.Paper.Sheet.{Lookup}
use Rattle.list.proofs as list
use Rattle.claims.specs.Paper.Causes.{ListingCause, short}
use Rattle.claims.specs.Paper.Claim.{OneOf}
use Rattle.claims.specs.Paper.Row.{Row, Proper, Every, none, and, promise}
use Rattle.claims.specs.Paper.Function.{function_of}
use Rattle.claims.specs.Paper.Table.List as claims
use Rattle.claims.proofs.Laws.Forms.{fronted, unfronted, placed}
use Rattle.claims.proofs.Laws.Keeps.{keeps-as}
use Rattle.claims.proofs.Occur as inputs

pub stated : {Given : Option Lookup → Type 0} {s : List ℕ} {room no : ℕ} → ListingCause Given s room no → OneOf no (4 ∷ [])
stated (short l h) = OneOf.here

-- the promise in the writers' form: an input has one listing, so a room is too short for that one, or for none
pub right : {Given : Option Lookup → Type 0} → OneGiven Given → {s room later : List ℕ} {no count : ℕ} → WroteListing Given s room no count later
    → WroteRight (ListingCause Given s (length room)) (Listing Given s) room no count later
right {Given} one {s} {room} w =
    as-right w.lists
    (after-tests (λ h. pass-over (λ k. eqb k 4) only refusal_order (after (enough h) clear))
    (λ h. pass-over (λ k. eqb k 4) only refusal_order (here (short w.lists h))) w.written)
  where
    only : (k : ℕ) → eqb k 4 ≡ false → ListingCause Given s (length room) k → ⊥
    only k e (short l h) = true≢false e

    enough : length w.listing ≤ length room → ListingCause Given s (length room) 4 → ⊥
    enough h (short l g) = omega (arith, h, g, ap length (one-listing one l w.lists))

abbrev pub write : Row
write =
    record {
      function = function_of list.write.Symbol.symbol list.write.Kinds.ps list.write.Kinds.r list.write.Symbol.code;
      claim = λ κs. claims.write;
      args = λ κs a. record { input = a.0.now; room = a.1.0.now };
      later = λ κs s. s.1.0.now;
    }

pub write-proper : Proper write
write-proper =
    record {
      named = λ κs. refl;
      keeps = keeps-as write.function list.write.Reads.Post (promise write) (λ κs a r ws p. fronted (right one_none p))
          (λ w. list.write.Met.met w.𝓤 w.𝓛 w.𝓜 w.𝓡);
      stated = λ κs a no c. stated c;
      occurs = λ κs. inputs.listing;
      one = λ κs a r q ws vs x y. placed (λ (l : List ℕ). (tt, (l, tt)))
          (one-wrote (λ t u i j. one-listing one_none i j) {r = r} {q = q} (unfronted x) (unfronted y));
    }

abbrev pub write-mapped : Row
write-mapped =
    record {
      function = function_of list.write_mapped.Symbol.symbol list.write_mapped.Kinds.ps list.write_mapped.Kinds.r list.write_mapped.Symbol.code;
      claim = λ κs. claims.write-mapped;
      args = λ κs a. record { input = a.0.now; map = a.1.0.now; room = a.1.1.0.now };
      later = λ κs s. s.1.1.0.now;
    }

pub write-mapped-proper : Proper write-mapped
write-mapped-proper =
    record {
      named = λ κs. refl;
      keeps = keeps-as write-mapped.function list.write_mapped.Reads.Post (promise write-mapped) (λ κs a r ws p. fronted (right (one_map a.1.0.now) p))
          (λ w. list.write_mapped.Met.met w.𝓤 w.𝓛 w.𝓜 w.𝓡);
      stated = λ κs a no c. stated c;
      occurs = λ κs. inputs.listing-mapped;
      one = λ κs a r q ws vs x y. placed (λ (l : List ℕ). (tt, (tt, (l, tt))))
          (one-wrote (λ t u i j. one-listing (one_map a.1.0.now) i j) {r = r} {q = q} (unfronted x) (unfronted y));
    }

abbrev pub write-with : Row
write-with =
    record {
      function = function_of list.write_with.Symbol.symbol list.write_with.Kinds.ps list.write_with.Kinds.r list.write_with.Symbol.code;
      claim = λ κs. claims.write-with;
      args = λ κs a. record { input = a.0.now; text = a.1.0.now; room = a.1.1.0.now };
      later = λ κs s. s.1.1.0.now;
    }

pub write-with-proper : Proper write-with
write-with-proper =
    record {
      named = λ κs. refl;
      keeps = keeps-as write-with.function list.write_with.Reads.Post (promise write-with) (λ κs a r ws p. fronted (right (one-text a.1.0.now) p))
          (λ w. list.write_with.Met.met w.𝓤 w.𝓛 w.𝓜 w.𝓡);
      stated = λ κs a no c. stated c;
      occurs = λ κs. inputs.listing-with;
      one = λ κs a r q ws vs x y. placed (λ (l : List ℕ). (tt, (tt, (l, tt))))
          (one-wrote (λ t u i j. one-listing (one-text a.1.0.now) i j) {r = r} {q = q} (unfronted x) (unfronted y));
    }

-- ---- all of them

abbrev pub rows : List Row
rows = write ∷ write-mapped ∷ write-with ∷ []

pub rows-proper : Every Proper rows
rows-proper =
    and write-proper
    (and write-mapped-proper
    (and write-with-proper none))
