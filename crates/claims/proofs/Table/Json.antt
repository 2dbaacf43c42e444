-- The public functions of `json`: each keeps its claim.
-- Assumes nothing.
use Rattle.puts.proofs.Unique.{one-put}
use mathlib.Core.Path.{refl}
use Prim.Native.Nat.{ℕ}
use mathlib.Core.List.{List, [], ◌∷◌}
use Rattle.json_values.proofs as json
use Rattle.claims.specs.Paper.Row.{Row, Proper, Every, none, and}
use Rattle.claims.specs.Paper.Function.{function_of}
use Rattle.claims.specs.Paper.Table.Json as claims
use Rattle.claims.proofs.Laws.Forms.{placed}

abbrev pub hex : Row
hex =
    record {
      function = function_of json.hex.Symbol.symbol json.hex.Kinds.ps json.hex.Kinds.r json.hex.Symbol.code;
      claim = λ κs. claims.hex;
      args = λ κs a. record { s = a.0.now; room = a.1.0.now; at = a.1.1.0 };
      later = λ κs s. s.1.0.now;
    }

pub hex-proper : Proper hex
hex-proper =
    record {
      named = λ κs. refl;
      keeps = λ w. json.hex.Met.met w.𝓤 w.𝓛 w.𝓜 w.𝓡;
      stated = λ κs a no c. absurd c;
      occurs = λ κs. tt;
      one = λ κs a r q ws vs x y. placed (λ (l : List ℕ). (tt, (l, (tt, tt)))) (one-put x y);
    }

abbrev pub chars : Row
chars =
    record {
      function = function_of json.chars.Symbol.symbol json.chars.Kinds.ps json.chars.Kinds.r json.chars.Symbol.code;
      claim = λ κs. claims.chars;
      args = λ κs a. record { s = a.0.now; room = a.1.0.now; at = a.1.1.0 };
      later = λ κs s. s.1.0.now;
    }

pub chars-proper : Proper chars
chars-proper =
    record {
      named = λ κs. refl;
      keeps = λ w. json.chars.Met.met w.𝓤 w.𝓛 w.𝓜 w.𝓡;
      stated = λ κs a no c. absurd c;
      occurs = λ κs. tt;
      one = λ κs a r q ws vs x y. placed (λ (l : List ℕ). (tt, (l, (tt, tt)))) (one-put x y);
    }

abbrev pub truth : Row
truth =
    record {
      function = function_of json.truth.Symbol.symbol json.truth.Kinds.ps json.truth.Kinds.r json.truth.Symbol.code;
      claim = λ κs. claims.truth;
      args = λ κs a. record { b = a.0; room = a.1.0.now; at = a.1.1.0 };
      later = λ κs s. s.1.0.now;
    }

pub truth-proper : Proper truth
truth-proper =
    record {
      named = λ κs. refl;
      keeps = λ w. json.truth.Met.met w.𝓤 w.𝓛 w.𝓜 w.𝓡;
      stated = λ κs a no c. absurd c;
      occurs = λ κs. tt;
      one = λ κs a r q ws vs x y. placed (λ (l : List ℕ). (tt, (l, (tt, tt)))) (one-put x y);
    }

abbrev pub signed : Row
signed =
    record {
      function = function_of json.signed.Symbol.symbol json.signed.Kinds.ps json.signed.Kinds.r json.signed.Symbol.code;
      claim = λ κs. claims.signed;
      args = λ κs a. record { raw = a.0; decimals = a.1.0; room = a.1.1.0.now; at = a.1.1.1.0 };
      later = λ κs s. s.1.1.0.now;
    }

pub signed-proper : Proper signed
signed-proper =
    record {
      named = λ κs. refl;
      keeps = λ w. json.signed.Met.met w.𝓤 w.𝓛 w.𝓜 w.𝓡;
      stated = λ κs a no c. absurd c;
      occurs = λ κs. tt;
      one = λ κs a r q ws vs x y. placed (λ (l : List ℕ). (tt, (tt, (l, (tt, tt))))) (one-put x y);
    }

abbrev pub unsigned : Row
unsigned =
    record {
      function = function_of json.unsigned.Symbol.symbol json.unsigned.Kinds.ps json.unsigned.Kinds.r json.unsigned.Symbol.code;
      claim = λ κs. claims.unsigned;
      args = λ κs a. record { raw = a.0; decimals = a.1.0; room = a.1.1.0.now; at = a.1.1.1.0 };
      later = λ κs s. s.1.1.0.now;
    }

pub unsigned-proper : Proper unsigned
unsigned-proper =
    record {
      named = λ κs. refl;
      keeps = λ w. json.unsigned.Met.met w.𝓤 w.𝓛 w.𝓜 w.𝓡;
      stated = λ κs a no c. absurd c;
      occurs = λ κs. tt;
      one = λ κs a r q ws vs x y. placed (λ (l : List ℕ). (tt, (tt, (l, (tt, tt))))) (one-put x y);
    }

-- ---- all of them

abbrev pub rows : List Row
rows = hex ∷ chars ∷ truth ∷ signed ∷ unsigned ∷ []

pub rows-proper : Every Proper rows
rows-proper =
    and hex-proper
    (and chars-proper
    (and truth-proper
    (and signed-proper
    (and unsigned-proper none))))
