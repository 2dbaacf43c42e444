-- The public functions of `sheet`: each keeps its claim.
-- Assumes nothing.
use mathlib.Core.Path.{refl}
use mathlib.Core.List.{List, [], ◌∷◌}
use Prim.Native.Nat.{ℕ}
use Rattle.sheet.specs.Paper.Sheet.{Lookup}
use Rattle.sheet.specs.Paper.Answers.{OpenCause, TypeInCause, TypeCause, MapCause, SplitCause, JoinCause}
use Rattle.sheet.proofs as sheet
use Rattle.sheet.proofs.Unique as unique
use Rattle.claims.specs.Paper.Claim.{OneOf, here, there}
use Rattle.claims.specs.Paper.Row.{Row, Proper, Every, none, and, promise}
use Rattle.claims.specs.Paper.Function.{function_of}
use Rattle.claims.specs.Paper.Table.Sheet as claims
use Rattle.claims.proofs.Laws.Forms.{fronted, unfronted, placed}
use Rattle.claims.proofs.Laws.Keeps.{keeps-as}
use Rattle.claims.proofs.Occur as inputs

pub opening-stated : {text : List ℕ} {no : ℕ} → OpenCause text no → OneOf no (10 ∷ [])
opening-stated (OpenCause.bad-sheet f) = here

pub type-of-stated : {text : List ℕ} {register no : ℕ} → TypeCause text register no → OneOf no (10 ∷ 9 ∷ [])
type-of-stated (TypeCause.bad-sheet f) = here
type-of-stated (TypeCause.unlisted w e) = there here

pub split-stated : {command room no : ℕ} {content text : List ℕ} → SplitCause command content text room no → OneOf no (5 ∷ 10 ∷ 9 ∷ 4 ∷ [])
split-stated (SplitCause.other-command f) = here
split-stated (SplitCause.bad-sheet f) = there here
split-stated (SplitCause.no-split w f) = there (there here)
split-stated (SplitCause.short w v h) = there (there (there here))

pub join-stated : {command room no : ℕ} {pairs text : List ℕ} → JoinCause command pairs text room no → OneOf no (5 ∷ 10 ∷ 9 ∷ 4 ∷ [])
join-stated (JoinCause.other-command f) = here
join-stated (JoinCause.not-in-tens f) = here
join-stated (JoinCause.not-held w p l f) = here
join-stated (JoinCause.bad-sheet f) = there here
join-stated (JoinCause.unlisted w p f) = there (there here)
join-stated (JoinCause.short w p v h) = there (there (there here))

pub map-stated : {text : List ℕ} {room no : ℕ} → MapCause text room no → OneOf no (10 ∷ 4 ∷ [])
map-stated (MapCause.bad-sheet f) = here
map-stated (MapCause.short h) = there here

pub type-in-stated : {look : Lookup} {register no : ℕ} → TypeInCause look register no → OneOf no (9 ∷ [])
type-in-stated (TypeInCause.unlisted e) = here

abbrev pub opening : Row
opening =
    record {
      function = function_of sheet.open.Symbol.symbol sheet.open.Kinds.ps sheet.open.Kinds.r sheet.open.Symbol.code;
      claim = λ κs. claims.opening;
      args = λ κs a. record { text = a.0.now };
      later = λ κs s. [];
    }

pub opening-proper : Proper opening
opening-proper =
    record {
      named = λ κs. refl;
      keeps = λ w. sheet.open.Met.met w.𝓤 w.𝓛 w.𝓜 w.𝓡;
      stated = λ κs a no c. opening-stated c;
      occurs = λ κs. inputs.sheet-opening;
      one = λ κs a r q ws vs x y. (unique.opened _ r q x y, refl);
    }

abbrev pub type-of : Row
type-of =
    record {
      function = function_of sheet.type_of.Symbol.symbol sheet.type_of.Kinds.ps sheet.type_of.Kinds.r sheet.type_of.Symbol.code;
      claim = λ κs. claims.type-of;
      args = λ κs a. record { text = a.0.now; register = a.1.0 };
      later = λ κs s. [];
    }

pub type-of-proper : Proper type-of
type-of-proper =
    record {
      named = λ κs. refl;
      keeps = λ w. sheet.type_of.Met.met w.𝓤 w.𝓛 w.𝓜 w.𝓡;
      stated = λ κs a no c. type-of-stated c;
      occurs = λ κs. inputs.sheet-type-of;
      one = λ κs a r q ws vs x y. (unique.type-of _ _ r q x y, refl);
    }

abbrev pub split : Row
split =
    record {
      function = function_of sheet.split.Symbol.symbol sheet.split.Kinds.ps sheet.split.Kinds.r sheet.split.Symbol.code;
      claim = λ κs. claims.split;
      args = λ κs a. record { command = a.0; content = a.1.0.now; text = a.1.1.0.now; room = a.1.1.1.0.now };
      later = λ κs s. s.1.1.1.0.now;
    }

pub split-proper : Proper split
split-proper =
    record {
      named = λ κs. refl;
      keeps = keeps-as split.function sheet.split.Reads.Post (promise split) (λ κs a r ws p. fronted p)
          (λ w. sheet.split.Met.met w.𝓤 w.𝓛 w.𝓜 w.𝓡);
      stated = λ κs a no c. split-stated c;
      occurs = λ κs. inputs.sheet-split;
      one = λ κs a r q ws vs x y. placed (λ (l : List ℕ). (tt, (tt, (tt, (l, tt)))))
          (unique.split _ _ _ _ r q _ _ (unfronted x) (unfronted y));
    }

abbrev pub join : Row
join =
    record {
      function = function_of sheet.join.Symbol.symbol sheet.join.Kinds.ps sheet.join.Kinds.r sheet.join.Symbol.code;
      claim = λ κs. claims.join;
      args = λ κs a. record { command = a.0; pairs = a.1.0.now; text = a.1.1.0.now; room = a.1.1.1.0.now };
      later = λ κs s. s.1.1.1.0.now;
    }

pub join-proper : Proper join
join-proper =
    record {
      named = λ κs. refl;
      keeps = keeps-as join.function sheet.join.Reads.Post (promise join) (λ κs a r ws p. fronted p)
          (λ w. sheet.join.Met.met w.𝓤 w.𝓛 w.𝓜 w.𝓡);
      stated = λ κs a no c. join-stated c;
      occurs = λ κs. inputs.sheet-join;
      one = λ κs a r q ws vs x y. placed (λ (l : List ℕ). (tt, (tt, (tt, (l, tt)))))
          (unique.joined _ _ _ _ r q _ _ (unfronted x) (unfronted y));
    }

abbrev pub map : Row
map =
    record {
      function = function_of sheet.map.Symbol.symbol sheet.map.Kinds.ps sheet.map.Kinds.r sheet.map.Symbol.code;
      claim = λ κs. claims.map;
      args = λ κs a. record { text = a.0.now; map = a.1.0.now };
      later = λ κs s. s.1.0.now;
    }

pub map-proper : Proper map
map-proper =
    record {
      named = λ κs. refl;
      keeps = keeps-as map.function sheet.map.Reads.Post (promise map) (λ κs a r ws p. fronted p)
          (λ w. sheet.map.Met.met w.𝓤 w.𝓛 w.𝓜 w.𝓡);
      stated = λ κs a no c. map-stated c;
      occurs = λ κs. inputs.sheet-map;
      one = λ κs a r q ws vs x y. placed (λ (l : List ℕ). (tt, (l, tt)))
          (unique.mapped _ _ r q _ _ (unfronted x) (unfronted y));
    }

abbrev pub type-in : Row
type-in =
    record {
      function = function_of sheet.type_in.Symbol.symbol sheet.type_in.Kinds.ps sheet.type_in.Kinds.r sheet.type_in.Symbol.code;
      claim = λ κs. claims.type-in;
      args = λ κs a. record { map = a.0.now; register = a.1.0 };
      later = λ κs s. [];
    }

pub type-in-proper : Proper type-in
type-in-proper =
    record {
      named = λ κs. refl;
      keeps = λ w. sheet.type_in.Met.met w.𝓤 w.𝓛 w.𝓜 w.𝓡;
      stated = λ κs a no c. type-in-stated c;
      occurs = λ κs. inputs.sheet-type-in;
      one = λ κs a r q ws vs x y. (unique.type-in _ _ r q x y, refl);
    }

abbrev pub splits : Row
splits =
    record {
      function = function_of sheet.splits.Symbol.symbol sheet.splits.Kinds.ps sheet.splits.Kinds.r sheet.splits.Symbol.code;
      claim = λ κs. claims.splits;
      args = λ κs a. record { map = a.0.now; content = a.1.0.now };
      later = λ κs s. [];
    }

pub splits-proper : Proper splits
splits-proper =
    record {
      named = λ κs. refl;
      keeps = λ w. sheet.splits.Met.met w.𝓤 w.𝓛 w.𝓜 w.𝓡;
      stated = λ κs a no c. absurd c;
      occurs = λ κs. tt;
      one = λ κs a r q ws vs x y. (unique.splits _ _ r q x y, refl);
    }

abbrev pub unsolicited : Row
unsolicited =
    record {
      function = function_of sheet.unsolicited.Symbol.symbol sheet.unsolicited.Kinds.ps sheet.unsolicited.Kinds.r sheet.unsolicited.Symbol.code;
      claim = λ κs. claims.unsolicited;
      args = λ κs a. record { command = a.0 };
      later = λ κs s. [];
    }

pub unsolicited-proper : Proper unsolicited
unsolicited-proper =
    record {
      named = λ κs. refl;
      keeps = λ w. sheet.unsolicited.Met.met w.𝓤 w.𝓛 w.𝓜 w.𝓡;
      stated = λ κs a no c. absurd c;
      occurs = λ κs. tt;
      one = λ κs a r q ws vs x y. (unique.unsolicited a.0 r q x y, refl);
    }

abbrev pub fault : Row
fault =
    record {
      function = function_of sheet.fault.Symbol.symbol sheet.fault.Kinds.ps sheet.fault.Kinds.r sheet.fault.Symbol.code;
      claim = λ κs. claims.fault;
      args = λ κs a. record { text = a.0.now };
      later = λ κs s. [];
    }

pub fault-proper : Proper fault
fault-proper =
    record {
      named = λ κs. refl;
      keeps = λ w. sheet.fault.Met.met w.𝓤 w.𝓛 w.𝓜 w.𝓡;
      stated = λ κs a no c. absurd c;
      occurs = λ κs. tt;
      one = λ κs a r q ws vs x y. (unique.fault _ r q x y, refl);
    }

-- ---- all of them

abbrev pub rows : List Row
rows = opening ∷ type-of ∷ split ∷ join ∷ map ∷ type-in ∷ splits ∷ unsolicited ∷ fault ∷ []

pub rows-proper : Every Proper rows
rows-proper =
    and opening-proper
    (and type-of-proper
    (and split-proper
    (and join-proper
    (and map-proper
    (and type-in-proper
    (and splits-proper
    (and unsolicited-proper
    (and fault-proper none))))))))
