-- The public functions of `shapes`: each keeps its claim.
-- Assumes nothing.
use mathlib.Core.Path.{refl, sym, ◌∙◌}
use mathlib.Core.List.{List, [], ◌∷◌}
use Prim.Native.Nat.{ℕ}
use Rattle.shapes.specs.Paper.Members.{NameCause}
use Rattle.shapes.proofs as shapes
use Rattle.puts.proofs.Unique.{one_written}
use Rattle.claims.specs.Paper.Claim.{OneOf, here, there}
use Rattle.claims.specs.Paper.Row.{Row, Proper, Every, none, and, promise}
use Rattle.claims.specs.Paper.Function.{function_of}
use Rattle.claims.specs.Paper.Table.Shapes as claims
use Rattle.claims.proofs.Laws.Forms.{fronted-these, these-fronted, placed}
use Rattle.claims.proofs.Laws.Keeps.{keeps-as}
use Rattle.claims.proofs.Occur as inputs

abbrev pub name_of : Row
name_of =
    record {
      function = function_of shapes.name_of.Symbol.symbol shapes.name_of.Kinds.ps shapes.name_of.Kinds.r shapes.name_of.Symbol.code;
      claim = λ κs. claims.name_of;
      args = λ κs a. record { row = a.0; member = a.1.0; room = a.1.1.0.now };
      later = λ κs s. s.1.1.0.now;
    }

pub name-of-stated : {ns : List (List ℕ)} {i n no : ℕ} → NameCause ns i n no → OneOf no (5 ∷ 4 ∷ [])
name-of-stated (NameCause.no_name h) = here
name-of-stated (NameCause.short h k) = there here

pub name-of-proper : Proper name_of
name-of-proper =
    record {
      named = λ κs. refl;
      keeps = keeps-as name_of.function shapes.name_of.Reads.Post (promise name_of) (λ κs a r ws p. fronted-these p)
          (λ w. shapes.name_of.Met.met w.𝓤 w.𝓛 w.𝓜 w.𝓡);
      stated = λ κs a no c. name-of-stated c;
      occurs = λ κs. inputs.name_of;
      one = λ κs a r q ws vs x y. placed (λ (l : List ℕ). (tt, (tt, (l, tt))))
          (one_written {r = r} {q = q} (these-fronted x) (these-fronted y));
    }

abbrev pub sort-of : Row
sort-of =
    record {
      function = function_of shapes.sort_of.Symbol.symbol shapes.sort_of.Kinds.ps shapes.sort_of.Kinds.r shapes.sort_of.Symbol.code;
      claim = λ κs. claims.sort-of;
      args = λ κs a. record { row = a.0; member = a.1.0 };
      later = λ κs s. [];
    }

pub sort-of-proper : Proper sort-of
sort-of-proper =
    record {
      named = λ κs. refl;
      keeps = λ w. shapes.sort_of.Met.met w.𝓤 w.𝓛 w.𝓜 w.𝓡;
      stated = λ κs a no c. absurd c;
      occurs = λ κs. tt;
      one = λ κs a r q ws vs x y. (x ∙ sym y, refl);
    }

abbrev pub rows : List Row
rows = name_of ∷ sort-of ∷ []

pub rows-proper : Every Proper rows
rows-proper = and name-of-proper (and sort-of-proper none)
