-- The public functions of `jsontext`: each keeps its claim.
-- Assumes nothing.
use mathlib.Core.Path.{refl}
use mathlib.Core.List.{List, [], ◌∷◌}
use Prim.Native.Nat.{ℕ}
use Rattle.jsontext.specs.Paper.Members.{CountCause, ValueCause, CharactersCause}
use Rattle.jsontext.proofs as jsontext
use Rattle.jsontext.proofs.Unique as unique
use Rattle.claims.specs.Paper.Claim.{OneOf, here, there}
use Rattle.claims.specs.Paper.Row.{Row, Proper, Every, none, and, promise}
use Rattle.claims.specs.Paper.Function.{function_of}
use Rattle.claims.specs.Paper.Table.Jsontext as claims
use Rattle.claims.proofs.Laws.Forms.{fronted, unfronted, placed}
use Rattle.claims.proofs.Laws.Keeps.{keeps-as}
use Rattle.claims.proofs.Occur as inputs

pub count-stated : {text : List ℕ} {no : ℕ} → CountCause text no → OneOf no (12 ∷ [])
count-stated (CountCause.no-object f) = here

pub value-of-stated : {text name : List ℕ} {no : ℕ} → ValueCause text name no → OneOf no (12 ∷ [])
value-of-stated (ValueCause.no_value f) = here

pub characters-stated : {text : List ℕ} {room no : ℕ} → CharactersCause text room no → OneOf no (12 ∷ 4 ∷ [])
characters-stated (CharactersCause.no-string f) = here
characters-stated (CharactersCause.short x h) = there here

abbrev pub accepts : Row
accepts =
    record {
      function = function_of jsontext.accepts.Symbol.symbol jsontext.accepts.Kinds.ps jsontext.accepts.Kinds.r jsontext.accepts.Symbol.code;
      claim = λ κs. claims.accepts;
      args = λ κs a. record { text = a.0.now };
      later = λ κs s. [];
    }

pub accepts-proper : Proper accepts
accepts-proper =
    record {
      named = λ κs. refl;
      keeps = λ w. jsontext.accepts.Met.met w.𝓤 w.𝓛 w.𝓜 w.𝓡;
      stated = λ κs a no c. absurd c;
      occurs = λ κs. tt;
      one = λ κs a r q ws vs x y. (unique.accepts _ r q x y, refl);
    }

abbrev pub fault : Row
fault =
    record {
      function = function_of jsontext.fault.Symbol.symbol jsontext.fault.Kinds.ps jsontext.fault.Kinds.r jsontext.fault.Symbol.code;
      claim = λ κs. claims.fault;
      args = λ κs a. record { text = a.0.now };
      later = λ κs s. [];
    }

pub fault-proper : Proper fault
fault-proper =
    record {
      named = λ κs. refl;
      keeps = λ w. jsontext.fault.Met.met w.𝓤 w.𝓛 w.𝓜 w.𝓡;
      stated = λ κs a no c. absurd c;
      occurs = λ κs. tt;
      one = λ κs a r q ws vs x y. (unique.fault _ r q x y, refl);
    }

abbrev pub count : Row
count =
    record {
      function = function_of jsontext.members.count.Symbol.symbol jsontext.members.count.Kinds.ps jsontext.members.count.Kinds.r jsontext.members.count.Symbol.code;
      claim = λ κs. claims.count;
      args = λ κs a. record { text = a.0.now };
      later = λ κs s. [];
    }

pub count-proper : Proper count
count-proper =
    record {
      named = λ κs. refl;
      keeps = λ w. jsontext.members.count.Met.met w.𝓤 w.𝓛 w.𝓜 w.𝓡;
      stated = λ κs a no c. count-stated c;
      occurs = λ κs. inputs.text-count;
      one = λ κs a r q ws vs x y. (unique.count _ r q x y, refl);
    }

abbrev pub value_of : Row
value_of =
    record {
      function = function_of jsontext.members.value_of.Symbol.symbol jsontext.members.value_of.Kinds.ps jsontext.members.value_of.Kinds.r jsontext.members.value_of.Symbol.code;
      claim = λ κs. claims.value_of;
      args = λ κs a. record { text = a.0.now; name = a.1.0.now };
      later = λ κs s. [];
    }

pub value-of-proper : Proper value_of
value-of-proper =
    record {
      named = λ κs. refl;
      keeps = λ w. jsontext.members.value_of.Met.met w.𝓤 w.𝓛 w.𝓜 w.𝓡;
      stated = λ κs a no c. value-of-stated c;
      occurs = λ κs. inputs.text-value-of;
      one = λ κs a r q ws vs x y. (unique.value_of _ _ r q x y, refl);
    }

abbrev pub characters : Row
characters =
    record {
      function = function_of jsontext.members.characters.Symbol.symbol jsontext.members.characters.Kinds.ps jsontext.members.characters.Kinds.r jsontext.members.characters.Symbol.code;
      claim = λ κs. claims.characters;
      args = λ κs a. record { text = a.0.now; room = a.1.0.now };
      later = λ κs s. s.1.0.now;
    }

pub characters-proper : Proper characters
characters-proper =
    record {
      named = λ κs. refl;
      keeps = keeps-as characters.function jsontext.members.characters.Reads.Post (promise characters) (λ κs a r ws p. fronted p)
          (λ w. jsontext.members.characters.Met.met w.𝓤 w.𝓛 w.𝓜 w.𝓡);
      stated = λ κs a no c. characters-stated c;
      occurs = λ κs. inputs.text-characters;
      one = λ κs a r q ws vs x y. placed (λ (l : List ℕ). (tt, (l, tt)))
          (unique.characters _ _ r q _ _ (unfronted x) (unfronted y));
    }

-- ---- all of them

abbrev pub rows : List Row
rows = accepts ∷ fault ∷ count ∷ value_of ∷ characters ∷ []

pub rows-proper : Every Proper rows
rows-proper = and accepts-proper (and fault-proper (and count-proper (and value-of-proper (and characters-proper none))))
