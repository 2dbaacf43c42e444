-- The public functions of `checks`: each keeps its claim.
-- Assumes nothing.
use mathlib.Core.Path.{refl}
use mathlib.Core.List.{List, [], ◌∷◌}
use Rattle.digits.proofs.Unique.{equation}
use Rattle.checks.proofs.Unique.{rule-unique, homiq-unique, nest-unique, nibe-unique, nikobus16-unique, nikobus8-unique}
use Rattle.checks.proofs as checks
use Rattle.claims.specs.Paper.Row.{Row, Proper, Every, none, and}
use Rattle.claims.specs.Paper.Function.{function_of}
use Rattle.claims.specs.Paper.Table.Checks as claims

abbrev pub homiq-rule : Row
homiq-rule =
    record {
      function = function_of checks.homiq.Crc.rule.Symbol.symbol checks.homiq.Crc.rule.Kinds.ps checks.homiq.Crc.rule.Kinds.r
          checks.homiq.Crc.rule.Symbol.code;
      claim = λ κs. claims.homiq-rule;
      args = λ κs a. tt;
      later = λ κs s. [];
    }

pub homiq-rule-proper : Proper homiq-rule
homiq-rule-proper =
    record {
      named = λ κs. refl;
      keeps = λ w. checks.homiq.Crc.rule.Met.met w.𝓤 w.𝓛 w.𝓜 w.𝓡;
      stated = λ κs a no c. absurd c;
      occurs = λ κs. tt;
      one = λ κs a r q ws vs x y. (rule-unique _ r q x y, refl);
    }

abbrev pub homiq-new : Row
homiq-new =
    record {
      function = function_of checks.homiq.Crc.new.Symbol.symbol checks.homiq.Crc.new.Kinds.ps checks.homiq.Crc.new.Kinds.r
          checks.homiq.Crc.new.Symbol.code;
      claim = λ κs. claims.homiq-new;
      args = λ κs a. tt;
      later = λ κs s. [];
    }

pub homiq-new-proper : Proper homiq-new
homiq-new-proper =
    record {
      named = λ κs. refl;
      keeps = λ w. checks.homiq.Crc.new.Met.met w.𝓤 w.𝓛 w.𝓜 w.𝓡;
      stated = λ κs a no c. absurd c;
      occurs = λ κs. tt;
      one = λ κs a r q ws vs x y. (homiq-unique _ r q x y, refl);
    }

abbrev pub homiq-byte : Row
homiq-byte =
    record {
      function = function_of checks.homiq.Crc.byte.Symbol.symbol checks.homiq.Crc.byte.Kinds.ps checks.homiq.Crc.byte.Kinds.r
          checks.homiq.Crc.byte.Symbol.code;
      claim = λ κs. claims.homiq-byte;
      args = λ κs a. record { self = a.0; b = a.1.0 };
      later = λ κs s. [];
    }

pub homiq-byte-proper : Proper homiq-byte
homiq-byte-proper =
    record {
      named = λ κs. refl;
      keeps = λ w. checks.homiq.Crc.byte.Met.met w.𝓤 w.𝓛 w.𝓜 w.𝓡;
      stated = λ κs a no c. absurd c;
      occurs = λ κs. tt;
      one = λ κs a r q ws vs x y. (homiq-unique _ r q x y, refl);
    }

abbrev pub homiq-bytes : Row
homiq-bytes =
    record {
      function = function_of checks.homiq.Crc.bytes.Symbol.symbol checks.homiq.Crc.bytes.Kinds.ps checks.homiq.Crc.bytes.Kinds.r
          checks.homiq.Crc.bytes.Symbol.code;
      claim = λ κs. claims.homiq-bytes;
      args = λ κs a. record { self = a.0; s = a.1.0.now };
      later = λ κs s. [];
    }

pub homiq-bytes-proper : Proper homiq-bytes
homiq-bytes-proper =
    record {
      named = λ κs. refl;
      keeps = λ w. checks.homiq.Crc.bytes.Met.met w.𝓤 w.𝓛 w.𝓜 w.𝓡;
      stated = λ κs a no c. absurd c;
      occurs = λ κs. tt;
      one = λ κs a r q ws vs x y. (homiq-unique _ r q x y, refl);
    }

abbrev pub homiq-of : Row
homiq-of =
    record {
      function = function_of checks.homiq.Crc.of.Symbol.symbol checks.homiq.Crc.of.Kinds.ps checks.homiq.Crc.of.Kinds.r
          checks.homiq.Crc.of.Symbol.code;
      claim = λ κs. claims.homiq-of;
      args = λ κs a. record { s = a.0.now };
      later = λ κs s. [];
    }

pub homiq-of-proper : Proper homiq-of
homiq-of-proper =
    record {
      named = λ κs. refl;
      keeps = λ w. checks.homiq.Crc.of.Met.met w.𝓤 w.𝓛 w.𝓜 w.𝓡;
      stated = λ κs a no c. absurd c;
      occurs = λ κs. tt;
      one = λ κs a r q ws vs x y. (equation x y, refl);
    }

abbrev pub nest-rule : Row
nest-rule =
    record {
      function = function_of checks.nest.Crc.rule.Symbol.symbol checks.nest.Crc.rule.Kinds.ps checks.nest.Crc.rule.Kinds.r
          checks.nest.Crc.rule.Symbol.code;
      claim = λ κs. claims.nest-rule;
      args = λ κs a. tt;
      later = λ κs s. [];
    }

pub nest-rule-proper : Proper nest-rule
nest-rule-proper =
    record {
      named = λ κs. refl;
      keeps = λ w. checks.nest.Crc.rule.Met.met w.𝓤 w.𝓛 w.𝓜 w.𝓡;
      stated = λ κs a no c. absurd c;
      occurs = λ κs. tt;
      one = λ κs a r q ws vs x y. (rule-unique _ r q x y, refl);
    }

abbrev pub nest-new : Row
nest-new =
    record {
      function = function_of checks.nest.Crc.new.Symbol.symbol checks.nest.Crc.new.Kinds.ps checks.nest.Crc.new.Kinds.r
          checks.nest.Crc.new.Symbol.code;
      claim = λ κs. claims.nest-new;
      args = λ κs a. tt;
      later = λ κs s. [];
    }

pub nest-new-proper : Proper nest-new
nest-new-proper =
    record {
      named = λ κs. refl;
      keeps = λ w. checks.nest.Crc.new.Met.met w.𝓤 w.𝓛 w.𝓜 w.𝓡;
      stated = λ κs a no c. absurd c;
      occurs = λ κs. tt;
      one = λ κs a r q ws vs x y. (nest-unique _ r q x y, refl);
    }

abbrev pub nest-byte : Row
nest-byte =
    record {
      function = function_of checks.nest.Crc.byte.Symbol.symbol checks.nest.Crc.byte.Kinds.ps checks.nest.Crc.byte.Kinds.r
          checks.nest.Crc.byte.Symbol.code;
      claim = λ κs. claims.nest-byte;
      args = λ κs a. record { self = a.0; b = a.1.0 };
      later = λ κs s. [];
    }

pub nest-byte-proper : Proper nest-byte
nest-byte-proper =
    record {
      named = λ κs. refl;
      keeps = λ w. checks.nest.Crc.byte.Met.met w.𝓤 w.𝓛 w.𝓜 w.𝓡;
      stated = λ κs a no c. absurd c;
      occurs = λ κs. tt;
      one = λ κs a r q ws vs x y. (nest-unique _ r q x y, refl);
    }

abbrev pub nest-bytes : Row
nest-bytes =
    record {
      function = function_of checks.nest.Crc.bytes.Symbol.symbol checks.nest.Crc.bytes.Kinds.ps checks.nest.Crc.bytes.Kinds.r
          checks.nest.Crc.bytes.Symbol.code;
      claim = λ κs. claims.nest-bytes;
      args = λ κs a. record { self = a.0; s = a.1.0.now };
      later = λ κs s. [];
    }

pub nest-bytes-proper : Proper nest-bytes
nest-bytes-proper =
    record {
      named = λ κs. refl;
      keeps = λ w. checks.nest.Crc.bytes.Met.met w.𝓤 w.𝓛 w.𝓜 w.𝓡;
      stated = λ κs a no c. absurd c;
      occurs = λ κs. tt;
      one = λ κs a r q ws vs x y. (nest-unique _ r q x y, refl);
    }

abbrev pub nest-of : Row
nest-of =
    record {
      function = function_of checks.nest.Crc.of.Symbol.symbol checks.nest.Crc.of.Kinds.ps checks.nest.Crc.of.Kinds.r
          checks.nest.Crc.of.Symbol.code;
      claim = λ κs. claims.nest-of;
      args = λ κs a. record { s = a.0.now };
      later = λ κs s. [];
    }

pub nest-of-proper : Proper nest-of
nest-of-proper =
    record {
      named = λ κs. refl;
      keeps = λ w. checks.nest.Crc.of.Met.met w.𝓤 w.𝓛 w.𝓜 w.𝓡;
      stated = λ κs a no c. absurd c;
      occurs = λ κs. tt;
      one = λ κs a r q ws vs x y. (equation x y, refl);
    }

abbrev pub nibe-rule : Row
nibe-rule =
    record {
      function = function_of checks.nibe.Xor.rule.Symbol.symbol checks.nibe.Xor.rule.Kinds.ps checks.nibe.Xor.rule.Kinds.r
          checks.nibe.Xor.rule.Symbol.code;
      claim = λ κs. claims.nibe-rule;
      args = λ κs a. tt;
      later = λ κs s. [];
    }

pub nibe-rule-proper : Proper nibe-rule
nibe-rule-proper =
    record {
      named = λ κs. refl;
      keeps = λ w. checks.nibe.Xor.rule.Met.met w.𝓤 w.𝓛 w.𝓜 w.𝓡;
      stated = λ κs a no c. absurd c;
      occurs = λ κs. tt;
      one = λ κs a r q ws vs x y. (rule-unique _ r q x y, refl);
    }

abbrev pub nibe-new : Row
nibe-new =
    record {
      function = function_of checks.nibe.Xor.new.Symbol.symbol checks.nibe.Xor.new.Kinds.ps checks.nibe.Xor.new.Kinds.r
          checks.nibe.Xor.new.Symbol.code;
      claim = λ κs. claims.nibe-new;
      args = λ κs a. tt;
      later = λ κs s. [];
    }

pub nibe-new-proper : Proper nibe-new
nibe-new-proper =
    record {
      named = λ κs. refl;
      keeps = λ w. checks.nibe.Xor.new.Met.met w.𝓤 w.𝓛 w.𝓜 w.𝓡;
      stated = λ κs a no c. absurd c;
      occurs = λ κs. tt;
      one = λ κs a r q ws vs x y. (nibe-unique _ r q x y, refl);
    }

abbrev pub nibe-byte : Row
nibe-byte =
    record {
      function = function_of checks.nibe.Xor.byte.Symbol.symbol checks.nibe.Xor.byte.Kinds.ps checks.nibe.Xor.byte.Kinds.r
          checks.nibe.Xor.byte.Symbol.code;
      claim = λ κs. claims.nibe-byte;
      args = λ κs a. record { self = a.0; b = a.1.0 };
      later = λ κs s. [];
    }

pub nibe-byte-proper : Proper nibe-byte
nibe-byte-proper =
    record {
      named = λ κs. refl;
      keeps = λ w. checks.nibe.Xor.byte.Met.met w.𝓤 w.𝓛 w.𝓜 w.𝓡;
      stated = λ κs a no c. absurd c;
      occurs = λ κs. tt;
      one = λ κs a r q ws vs x y. (nibe-unique _ r q x y, refl);
    }

abbrev pub nibe-bytes : Row
nibe-bytes =
    record {
      function = function_of checks.nibe.Xor.bytes.Symbol.symbol checks.nibe.Xor.bytes.Kinds.ps checks.nibe.Xor.bytes.Kinds.r
          checks.nibe.Xor.bytes.Symbol.code;
      claim = λ κs. claims.nibe-bytes;
      args = λ κs a. record { self = a.0; s = a.1.0.now };
      later = λ κs s. [];
    }

pub nibe-bytes-proper : Proper nibe-bytes
nibe-bytes-proper =
    record {
      named = λ κs. refl;
      keeps = λ w. checks.nibe.Xor.bytes.Met.met w.𝓤 w.𝓛 w.𝓜 w.𝓡;
      stated = λ κs a no c. absurd c;
      occurs = λ κs. tt;
      one = λ κs a r q ws vs x y. (nibe-unique _ r q x y, refl);
    }

abbrev pub nibe-of : Row
nibe-of =
    record {
      function = function_of checks.nibe.Xor.of.Symbol.symbol checks.nibe.Xor.of.Kinds.ps checks.nibe.Xor.of.Kinds.r
          checks.nibe.Xor.of.Symbol.code;
      claim = λ κs. claims.nibe-of;
      args = λ κs a. record { s = a.0.now };
      later = λ κs s. [];
    }

pub nibe-of-proper : Proper nibe-of
nibe-of-proper =
    record {
      named = λ κs. refl;
      keeps = λ w. checks.nibe.Xor.of.Met.met w.𝓤 w.𝓛 w.𝓜 w.𝓡;
      stated = λ κs a no c. absurd c;
      occurs = λ κs. tt;
      one = λ κs a r q ws vs x y. (equation x y, refl);
    }

abbrev pub nikobus16-rule : Row
nikobus16-rule =
    record {
      function = function_of checks.nikobus.Crc16.rule.Symbol.symbol checks.nikobus.Crc16.rule.Kinds.ps
          checks.nikobus.Crc16.rule.Kinds.r checks.nikobus.Crc16.rule.Symbol.code;
      claim = λ κs. claims.nikobus16-rule;
      args = λ κs a. tt;
      later = λ κs s. [];
    }

pub nikobus16-rule-proper : Proper nikobus16-rule
nikobus16-rule-proper =
    record {
      named = λ κs. refl;
      keeps = λ w. checks.nikobus.Crc16.rule.Met.met w.𝓤 w.𝓛 w.𝓜 w.𝓡;
      stated = λ κs a no c. absurd c;
      occurs = λ κs. tt;
      one = λ κs a r q ws vs x y. (rule-unique _ r q x y, refl);
    }

abbrev pub nikobus16-new : Row
nikobus16-new =
    record {
      function = function_of checks.nikobus.Crc16.new.Symbol.symbol checks.nikobus.Crc16.new.Kinds.ps
          checks.nikobus.Crc16.new.Kinds.r checks.nikobus.Crc16.new.Symbol.code;
      claim = λ κs. claims.nikobus16-new;
      args = λ κs a. tt;
      later = λ κs s. [];
    }

pub nikobus16-new-proper : Proper nikobus16-new
nikobus16-new-proper =
    record {
      named = λ κs. refl;
      keeps = λ w. checks.nikobus.Crc16.new.Met.met w.𝓤 w.𝓛 w.𝓜 w.𝓡;
      stated = λ κs a no c. absurd c;
      occurs = λ κs. tt;
      one = λ κs a r q ws vs x y. (nikobus16-unique _ r q x y, refl);
    }

abbrev pub nikobus16-byte : Row
nikobus16-byte =
    record {
      function = function_of checks.nikobus.Crc16.byte.Symbol.symbol checks.nikobus.Crc16.byte.Kinds.ps
          checks.nikobus.Crc16.byte.Kinds.r checks.nikobus.Crc16.byte.Symbol.code;
      claim = λ κs. claims.nikobus16-byte;
      args = λ κs a. record { self = a.0; b = a.1.0 };
      later = λ κs s. [];
    }

pub nikobus16-byte-proper : Proper nikobus16-byte
nikobus16-byte-proper =
    record {
      named = λ κs. refl;
      keeps = λ w. checks.nikobus.Crc16.byte.Met.met w.𝓤 w.𝓛 w.𝓜 w.𝓡;
      stated = λ κs a no c. absurd c;
      occurs = λ κs. tt;
      one = λ κs a r q ws vs x y. (nikobus16-unique _ r q x y, refl);
    }

abbrev pub nikobus16-bytes : Row
nikobus16-bytes =
    record {
      function = function_of checks.nikobus.Crc16.bytes.Symbol.symbol checks.nikobus.Crc16.bytes.Kinds.ps
          checks.nikobus.Crc16.bytes.Kinds.r checks.nikobus.Crc16.bytes.Symbol.code;
      claim = λ κs. claims.nikobus16-bytes;
      args = λ κs a. record { self = a.0; s = a.1.0.now };
      later = λ κs s. [];
    }

pub nikobus16-bytes-proper : Proper nikobus16-bytes
nikobus16-bytes-proper =
    record {
      named = λ κs. refl;
      keeps = λ w. checks.nikobus.Crc16.bytes.Met.met w.𝓤 w.𝓛 w.𝓜 w.𝓡;
      stated = λ κs a no c. absurd c;
      occurs = λ κs. tt;
      one = λ κs a r q ws vs x y. (nikobus16-unique _ r q x y, refl);
    }

abbrev pub nikobus16-of : Row
nikobus16-of =
    record {
      function = function_of checks.nikobus.Crc16.of.Symbol.symbol checks.nikobus.Crc16.of.Kinds.ps checks.nikobus.Crc16.of.Kinds.r
          checks.nikobus.Crc16.of.Symbol.code;
      claim = λ κs. claims.nikobus16-of;
      args = λ κs a. record { s = a.0.now };
      later = λ κs s. [];
    }

pub nikobus16-of-proper : Proper nikobus16-of
nikobus16-of-proper =
    record {
      named = λ κs. refl;
      keeps = λ w. checks.nikobus.Crc16.of.Met.met w.𝓤 w.𝓛 w.𝓜 w.𝓡;
      stated = λ κs a no c. absurd c;
      occurs = λ κs. tt;
      one = λ κs a r q ws vs x y. (equation x y, refl);
    }

abbrev pub nikobus8-rule : Row
nikobus8-rule =
    record {
      function = function_of checks.nikobus.Crc8.rule.Symbol.symbol checks.nikobus.Crc8.rule.Kinds.ps
          checks.nikobus.Crc8.rule.Kinds.r checks.nikobus.Crc8.rule.Symbol.code;
      claim = λ κs. claims.nikobus8-rule;
      args = λ κs a. tt;
      later = λ κs s. [];
    }

pub nikobus8-rule-proper : Proper nikobus8-rule
nikobus8-rule-proper =
    record {
      named = λ κs. refl;
      keeps = λ w. checks.nikobus.Crc8.rule.Met.met w.𝓤 w.𝓛 w.𝓜 w.𝓡;
      stated = λ κs a no c. absurd c;
      occurs = λ κs. tt;
      one = λ κs a r q ws vs x y. (rule-unique _ r q x y, refl);
    }

abbrev pub nikobus8-new : Row
nikobus8-new =
    record {
      function = function_of checks.nikobus.Crc8.new.Symbol.symbol checks.nikobus.Crc8.new.Kinds.ps checks.nikobus.Crc8.new.Kinds.r
          checks.nikobus.Crc8.new.Symbol.code;
      claim = λ κs. claims.nikobus8-new;
      args = λ κs a. tt;
      later = λ κs s. [];
    }

pub nikobus8-new-proper : Proper nikobus8-new
nikobus8-new-proper =
    record {
      named = λ κs. refl;
      keeps = λ w. checks.nikobus.Crc8.new.Met.met w.𝓤 w.𝓛 w.𝓜 w.𝓡;
      stated = λ κs a no c. absurd c;
      occurs = λ κs. tt;
      one = λ κs a r q ws vs x y. (nikobus8-unique _ r q x y, refl);
    }

abbrev pub nikobus8-byte : Row
nikobus8-byte =
    record {
      function = function_of checks.nikobus.Crc8.byte.Symbol.symbol checks.nikobus.Crc8.byte.Kinds.ps
          checks.nikobus.Crc8.byte.Kinds.r checks.nikobus.Crc8.byte.Symbol.code;
      claim = λ κs. claims.nikobus8-byte;
      args = λ κs a. record { self = a.0; b = a.1.0 };
      later = λ κs s. [];
    }

pub nikobus8-byte-proper : Proper nikobus8-byte
nikobus8-byte-proper =
    record {
      named = λ κs. refl;
      keeps = λ w. checks.nikobus.Crc8.byte.Met.met w.𝓤 w.𝓛 w.𝓜 w.𝓡;
      stated = λ κs a no c. absurd c;
      occurs = λ κs. tt;
      one = λ κs a r q ws vs x y. (nikobus8-unique _ r q x y, refl);
    }

abbrev pub nikobus8-bytes : Row
nikobus8-bytes =
    record {
      function = function_of checks.nikobus.Crc8.bytes.Symbol.symbol checks.nikobus.Crc8.bytes.Kinds.ps
          checks.nikobus.Crc8.bytes.Kinds.r checks.nikobus.Crc8.bytes.Symbol.code;
      claim = λ κs. claims.nikobus8-bytes;
      args = λ κs a. record { self = a.0; s = a.1.0.now };
      later = λ κs s. [];
    }

pub nikobus8-bytes-proper : Proper nikobus8-bytes
nikobus8-bytes-proper =
    record {
      named = λ κs. refl;
      keeps = λ w. checks.nikobus.Crc8.bytes.Met.met w.𝓤 w.𝓛 w.𝓜 w.𝓡;
      stated = λ κs a no c. absurd c;
      occurs = λ κs. tt;
      one = λ κs a r q ws vs x y. (nikobus8-unique _ r q x y, refl);
    }

abbrev pub nikobus8-of : Row
nikobus8-of =
    record {
      function = function_of checks.nikobus.Crc8.of.Symbol.symbol checks.nikobus.Crc8.of.Kinds.ps checks.nikobus.Crc8.of.Kinds.r
          checks.nikobus.Crc8.of.Symbol.code;
      claim = λ κs. claims.nikobus8-of;
      args = λ κs a. record { s = a.0.now };
      later = λ κs s. [];
    }

pub nikobus8-of-proper : Proper nikobus8-of
nikobus8-of-proper =
    record {
      named = λ κs. refl;
      keeps = λ w. checks.nikobus.Crc8.of.Met.met w.𝓤 w.𝓛 w.𝓜 w.𝓡;
      stated = λ κs a no c. absurd c;
      occurs = λ κs. tt;
      one = λ κs a r q ws vs x y. (equation x y, refl);
    }

-- ---- all of them

abbrev pub rows : List Row
rows = homiq-rule ∷ homiq-new ∷ homiq-byte ∷ homiq-bytes ∷ homiq-of ∷ nest-rule ∷ nest-new ∷ nest-byte ∷ nest-bytes ∷ nest-of ∷ nibe-rule ∷ nibe-new ∷ nibe-byte ∷ nibe-bytes ∷ nibe-of ∷ nikobus16-rule ∷ nikobus16-new ∷ nikobus16-byte ∷ nikobus16-bytes ∷ nikobus16-of ∷ nikobus8-rule ∷ nikobus8-new ∷ nikobus8-byte ∷ nikobus8-bytes ∷ nikobus8-of ∷ []

pub rows-proper : Every Proper rows
rows-proper =
    and homiq-rule-proper
    (and homiq-new-proper
    (and homiq-byte-proper
    (and homiq-bytes-proper
    (and homiq-of-proper
    (and nest-rule-proper
    (and nest-new-proper
    (and nest-byte-proper
    (and nest-bytes-proper
    (and nest-of-proper
    (and nibe-rule-proper
    (and nibe-new-proper
    (and nibe-byte-proper
    (and nibe-bytes-proper
    (and nibe-of-proper
    (and nikobus16-rule-proper
    (and nikobus16-new-proper
    (and nikobus16-byte-proper
    (and nikobus16-bytes-proper
    (and nikobus16-of-proper
    (and nikobus8-rule-proper
    (and nikobus8-new-proper
    (and nikobus8-byte-proper
    (and nikobus8-bytes-proper
    (and nikobus8-of-proper none))))))))))))))))))))))))
