-- The public functions of `puts`: each keeps its claim.
-- Assumes nothing.
use mathlib.Core.Path.{refl}
use mathlib.Core.List.{List, [], ◌∷◌}
use Prim.Native.Nat.{ℕ}
use Rattle.puts.specs.Paper.Wrote.{RoomCause, short}
use Rattle.puts.proofs as puts
use Rattle.puts.proofs.Unique.{one-put, one_written}
use Rattle.claims.specs.Paper.Claim.{OneOf, here}
use Rattle.claims.specs.Paper.Row.{Row, Proper, Every, none, and, promise}
use Rattle.claims.specs.Paper.Function.{function_of}
use Rattle.claims.specs.Paper.Table.Puts as claims
use Rattle.claims.proofs.Laws.Forms.{fronted-these, these-fronted, placed}
use Rattle.claims.proofs.Laws.Keeps.{keeps-as}
use Rattle.claims.proofs.Occur as inputs

front-stated : {room bytes no : ℕ} → RoomCause room bytes no → OneOf no (4 ∷ [])
front-stated (short h) = here

abbrev pub front : Row
front =
    record {
      function = function_of puts.front.Symbol.symbol puts.front.Kinds.ps puts.front.Kinds.r puts.front.Symbol.code;
      claim = λ κs. claims.front;
      args = λ κs a. record { s = a.0.now; room = a.1.0.now };
      later = λ κs s. s.1.0.now;
    }

pub front-proper : Proper front
front-proper =
    record {
      named = λ κs. refl;
      keeps = keeps-as front.function puts.front.Reads.Post (promise front) (λ κs a r ws p. fronted-these p)
          (λ w. puts.front.Met.met w.𝓤 w.𝓛 w.𝓜 w.𝓡);
      stated = λ κs a no c. front-stated c;
      occurs = λ κs. inputs.front;
      one = λ κs a r q ws vs x y. placed (λ (l : List ℕ). (tt, (l, tt)))
          (one_written {r = r} {q = q} (these-fronted x) (these-fronted y));
    }

abbrev pub byte : Row
byte =
    record {
      function = function_of puts.byte.Symbol.symbol puts.byte.Kinds.ps puts.byte.Kinds.r puts.byte.Symbol.code;
      claim = λ κs. claims.byte;
      args = λ κs a. record { b = a.0; room = a.1.0.now; at = a.1.1.0 };
      later = λ κs s. s.1.0.now;
    }

pub byte-proper : Proper byte
byte-proper =
    record {
      named = λ κs. refl;
      keeps = λ w. puts.byte.Met.met w.𝓤 w.𝓛 w.𝓜 w.𝓡;
      stated = λ κs a no c. absurd c;
      occurs = λ κs. tt;
      one = λ κs a r q ws vs x y. placed (λ (l : List ℕ). (tt, (l, (tt, tt)))) (one-put x y);
    }

abbrev pub bytes : Row
bytes =
    record {
      function = function_of puts.bytes.Symbol.symbol puts.bytes.Kinds.ps puts.bytes.Kinds.r puts.bytes.Symbol.code;
      claim = λ κs. claims.bytes;
      args = λ κs a. record { s = a.0.now; room = a.1.0.now; at = a.1.1.0 };
      later = λ κs s. s.1.0.now;
    }

pub bytes-proper : Proper bytes
bytes-proper =
    record {
      named = λ κs. refl;
      keeps = λ w. puts.bytes.Met.met w.𝓤 w.𝓛 w.𝓜 w.𝓡;
      stated = λ κs a no c. absurd c;
      occurs = λ κs. tt;
      one = λ κs a r q ws vs x y. placed (λ (l : List ℕ). (tt, (l, (tt, tt)))) (one-put x y);
    }

abbrev pub whole : Row
whole =
    record {
      function = function_of puts.whole.Symbol.symbol puts.whole.Kinds.ps puts.whole.Kinds.r puts.whole.Symbol.code;
      claim = λ κs. claims.whole;
      args = λ κs a. record { n = a.0; room = a.1.0.now; at = a.1.1.0 };
      later = λ κs s. s.1.0.now;
    }

pub whole-proper : Proper whole
whole-proper =
    record {
      named = λ κs. refl;
      keeps = λ w. puts.whole.Met.met w.𝓤 w.𝓛 w.𝓜 w.𝓡;
      stated = λ κs a no c. absurd c;
      occurs = λ κs. tt;
      one = λ κs a r q ws vs x y. placed (λ (l : List ℕ). (tt, (l, (tt, tt)))) (one-put x y);
    }

abbrev pub hex : Row
hex =
    record {
      function = function_of puts.hex.Symbol.symbol puts.hex.Kinds.ps puts.hex.Kinds.r puts.hex.Symbol.code;
      claim = λ κs. claims.hex;
      args = λ κs a. record { s = a.0.now; room = a.1.0.now; at = a.1.1.0 };
      later = λ κs s. s.1.0.now;
    }

pub hex-proper : Proper hex
hex-proper =
    record {
      named = λ κs. refl;
      keeps = λ w. puts.hex.Met.met w.𝓤 w.𝓛 w.𝓜 w.𝓡;
      stated = λ κs a no c. absurd c;
      occurs = λ κs. tt;
      one = λ κs a r q ws vs x y. placed (λ (l : List ℕ). (tt, (l, (tt, tt)))) (one-put x y);
    }

-- ---- all of them

abbrev pub rows : List Row
rows = front ∷ byte ∷ bytes ∷ whole ∷ hex ∷ []

pub rows-proper : Every Proper rows
rows-proper =
    and front-proper
    (and byte-proper
    (and bytes-proper
    (and whole-proper
    (and hex-proper none))))
