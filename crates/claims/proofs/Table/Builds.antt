-- The public functions of `builds`: each keeps its claim.
-- Assumes nothing.
use Rattle.puts.proofs.Unique.{one_written}
use mathlib.Core.Path.{refl}
use mathlib.Core.List.{List, [], ◌∷◌}
use Prim.Native.Nat.{ℕ}
use lib.ListN.{length}
use Rattle.layouts.specs.Paper.Layout.{Layout, bytes_of}
use Rattle.layouts.specs.Paper.Nest.{nest}
use Rattle.layouts.specs.Paper.Nibe.{nibe}
use Rattle.layouts.specs.Paper.Nikobus.{nikobus, press, tail, Limits, tail-limits}
use Rattle.builds.specs.Paper.Builds.{BuildCause, HomiqCause}
use Rattle.builds.proofs as builds
use Rattle.builds.proofs.Unique as unique
use Rattle.claims.specs.Paper.Claim.{OneOf, here, there}
use Rattle.claims.specs.Paper.Row.{Row, Proper, Every, none, and, promise}
use Rattle.claims.specs.Paper.Function.{function_of}
use Rattle.claims.specs.Paper.Table.Builds as claims
use Rattle.claims.proofs.Laws.Forms.{fronted, unfronted, fronted-these, these-fronted, placed}
use Rattle.claims.proofs.Laws.Keeps.{keeps-as}
use Rattle.claims.proofs.Occur as inputs

-- why the frame of these fields is not built into a room
abbrev pub Unbuilt : (l : Layout) → l.Fields → List ℕ → ℕ → Type 0
Unbuilt l m room = BuildCause (l.Limits m) (length room) (length (bytes_of l m))

stated : {Limits : Type 0} {room bytes no : ℕ} → BuildCause Limits room bytes no → OneOf no (5 ∷ 4 ∷ [])
stated (BuildCause.outside f) = here
stated (BuildCause.short h) = there here

homiq-stated : {p : List ℕ} {room no : ℕ} → HomiqCause p room no → OneOf no (5 ∷ 4 ∷ [])
homiq-stated (HomiqCause.outside f) = here
homiq-stated (HomiqCause.short p h) = there here

abbrev pub homiq-frame : Row
homiq-frame =
    record {
      function = function_of builds.homiq.frame.Symbol.symbol builds.homiq.frame.Kinds.ps builds.homiq.frame.Kinds.r
          builds.homiq.frame.Symbol.code;
      claim = λ κs. claims.homiq-frame;
      args = λ κs a. record { payload = a.0.now; room = a.1.0.now };
      later = λ κs s. s.1.0.now;
    }

pub homiq-frame-proper : Proper homiq-frame
homiq-frame-proper =
    record {
      named = λ κs. refl;
      keeps = keeps-as homiq-frame.function builds.homiq.frame.Reads.Post (promise homiq-frame) (λ κs a r ws p. fronted p)
          (λ w. builds.homiq.frame.Met.met w.𝓤 w.𝓛 w.𝓜 w.𝓡);
      stated = λ κs a no c. homiq-stated c;
      occurs = λ κs. inputs.homiq-frame;
      one = λ κs a r q ws vs x y. placed (λ (l : List ℕ). (tt, (l, tt)))
          (unique.homiq-frame a.0.now a.1.0.now r q (unfronted x) (unfronted y));
    }

abbrev pub nest-frame : Row
nest-frame =
    record {
      function = function_of builds.nest.frame.Symbol.symbol builds.nest.frame.Kinds.ps builds.nest.frame.Kinds.r
          builds.nest.frame.Symbol.code;
      claim = λ κs. claims.nest-frame;
      args = λ κs a. record { direction = a.0; id = a.1.0; payload = a.1.1.0.now; room = a.1.1.1.0.now };
      later = λ κs s. s.1.1.1.0.now;
    }

pub nest-frame-proper : Proper nest-frame
nest-frame-proper =
    record {
      named = λ κs. refl;
      keeps = keeps-as nest-frame.function builds.nest.frame.Reads.Post (promise nest-frame)
          (λ κs a r ws p. fronted-these p) (λ w. builds.nest.frame.Met.met w.𝓤 w.𝓛 w.𝓜 w.𝓡);
      stated = λ κs a no c. stated c;
      occurs = λ κs. inputs.nest-frame;
      one = λ κs a r q ws vs x y. placed (λ (l : List ℕ). (tt, (tt, (tt, (l, tt)))))
          (one_written {r = r} {q = q} (these-fronted x) (these-fronted y));
    }

abbrev pub nibe-frame : Row
nibe-frame =
    record {
      function = function_of builds.nibe.frame.Symbol.symbol builds.nibe.frame.Kinds.ps builds.nibe.frame.Kinds.r
          builds.nibe.frame.Symbol.code;
      claim = λ κs. claims.nibe-frame;
      args = λ κs a. record { command = a.0; content = a.1.0.now; room = a.1.1.0.now };
      later = λ κs s. s.1.1.0.now;
    }

pub nibe-frame-proper : Proper nibe-frame
nibe-frame-proper =
    record {
      named = λ κs. refl;
      keeps = keeps-as nibe-frame.function builds.nibe.frame.Reads.Post (promise nibe-frame)
          (λ κs a r ws p. fronted-these p) (λ w. builds.nibe.frame.Met.met w.𝓤 w.𝓛 w.𝓜 w.𝓡);
      stated = λ κs a no c. stated c;
      occurs = λ κs. inputs.nibe-frame;
      one = λ κs a r q ws vs x y. placed (λ (l : List ℕ). (tt, (tt, (l, tt))))
          (one_written {r = r} {q = q} (these-fronted x) (these-fronted y));
    }

abbrev pub nikobus-link : Row
nikobus-link =
    record {
      function = function_of builds.nikobus.link.Symbol.symbol builds.nikobus.link.Kinds.ps builds.nikobus.link.Kinds.r
          builds.nikobus.link.Symbol.code;
      claim = λ κs. claims.nikobus-link;
      args = λ κs a. record { payload = a.0.now; room = a.1.0.now };
      later = λ κs s. s.1.0.now;
    }

pub nikobus-link-proper : Proper nikobus-link
nikobus-link-proper =
    record {
      named = λ κs. refl;
      keeps = keeps-as nikobus-link.function builds.nikobus.link.Reads.Post (promise nikobus-link)
          (λ κs a r ws p. fronted-these p) (λ w. builds.nikobus.link.Met.met w.𝓤 w.𝓛 w.𝓜 w.𝓡);
      stated = λ κs a no c. stated c;
      occurs = λ κs. inputs.nikobus-link;
      one = λ κs a r q ws vs x y. placed (λ (l : List ℕ). (tt, (l, tt)))
          (one_written {r = r} {q = q} (these-fronted x) (these-fronted y));
    }

abbrev pub nikobus-press : Row
nikobus-press =
    record {
      function = function_of builds.nikobus.press.Symbol.symbol builds.nikobus.press.Kinds.ps builds.nikobus.press.Kinds.r
          builds.nikobus.press.Symbol.code;
      claim = λ κs. claims.nikobus-press;
      args = λ κs a. record { digits = a.0.now; room = a.1.0.now };
      later = λ κs s. s.1.0.now;
    }

pub nikobus-press-proper : Proper nikobus-press
nikobus-press-proper =
    record {
      named = λ κs. refl;
      keeps = keeps-as nikobus-press.function builds.nikobus.press.Reads.Post (promise nikobus-press)
          (λ κs a r ws p. fronted-these p)
          (λ w. builds.nikobus.press.Met.met w.𝓤 w.𝓛 w.𝓜 w.𝓡);
      stated = λ κs a no c. stated c;
      occurs = λ κs. inputs.nikobus-press;
      one = λ κs a r q ws vs x y. placed (λ (l : List ℕ). (tt, (l, tt)))
          (one_written {r = r} {q = q} (these-fronted x) (these-fronted y));
    }

tail-stated : {room bytes no : ℕ} → BuildCause (Limits tail) room bytes no → OneOf no (4 ∷ [])
tail-stated (BuildCause.outside f) = absurd (f tail-limits)
tail-stated (BuildCause.short h) = here

abbrev pub nikobus-tail : Row
nikobus-tail =
    record {
      function = function_of builds.nikobus.tail.Symbol.symbol builds.nikobus.tail.Kinds.ps builds.nikobus.tail.Kinds.r
          builds.nikobus.tail.Symbol.code;
      claim = λ κs. claims.nikobus-tail;
      args = λ κs a. record { room = a.0.now };
      later = λ κs s. s.0.now;
    }

pub nikobus-tail-proper : Proper nikobus-tail
nikobus-tail-proper =
    record {
      named = λ κs. refl;
      keeps = keeps-as nikobus-tail.function builds.nikobus.tail.Reads.Post (promise nikobus-tail)
          (λ κs a r ws p. fronted-these p) (λ w. builds.nikobus.tail.Met.met w.𝓤 w.𝓛 w.𝓜 w.𝓡);
      stated = λ κs a no c. tail-stated c;
      occurs = λ κs. inputs.nikobus-tail;
      one = λ κs a r q ws vs x y. placed (λ (l : List ℕ). (l, tt))
          (one_written {r = r} {q = q} (these-fronted x) (these-fronted y));
    }

-- ---- all of them

abbrev pub rows : List Row
rows = homiq-frame ∷ nest-frame ∷ nibe-frame ∷ nikobus-link ∷ nikobus-press ∷ nikobus-tail ∷ []

pub rows-proper : Every Proper rows
rows-proper =
    and homiq-frame-proper
    (and nest-frame-proper
    (and nibe-frame-proper
    (and nikobus-link-proper
    (and nikobus-press-proper
    (and nikobus-tail-proper none)))))
