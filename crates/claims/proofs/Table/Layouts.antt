-- The public functions of `layouts`: each keeps its claim.
-- Assumes nothing.
use mathlib.Core.Path.{refl}
use mathlib.Core.List.{List, [], ◌∷◌}
use Rattle.digits.proofs.Unique.{equation}
use Rattle.layouts.proofs.Unique as unique
use Rattle.layouts.proofs as layouts
use Rattle.claims.specs.Paper.Row.{Row, Proper, Every, none, and}
use Rattle.claims.specs.Paper.Function.{function_of}
use Rattle.claims.specs.Paper.Table.Layouts as claims

abbrev pub homiq-frame : Row
homiq-frame =
    record {
      function = function_of layouts.homiq.frame.Symbol.symbol layouts.homiq.frame.Kinds.ps layouts.homiq.frame.Kinds.r
          layouts.homiq.frame.Symbol.code;
      claim = λ κs. claims.homiq-frame;
      args = λ κs a. record { s = a.0.now };
      later = λ κs s. [];
    }

pub homiq-frame-proper : Proper homiq-frame
homiq-frame-proper =
    record {
      named = λ κs. refl;
      keeps = λ w. layouts.homiq.frame.Met.met w.𝓤 w.𝓛 w.𝓜 w.𝓡;
      stated = λ κs a no c. absurd c;
      occurs = λ κs. tt;
      one = λ κs a r q ws vs x y. (unique.homiq-frame r q x y, refl);
    }

abbrev pub homiq-crc : Row
homiq-crc =
    record {
      function = function_of layouts.homiq.crc.Symbol.symbol layouts.homiq.crc.Kinds.ps layouts.homiq.crc.Kinds.r
          layouts.homiq.crc.Symbol.code;
      claim = λ κs. claims.homiq-crc;
      args = λ κs a. record { s = a.0.now };
      later = λ κs s. [];
    }

pub homiq-crc-proper : Proper homiq-crc
homiq-crc-proper =
    record {
      named = λ κs. refl;
      keeps = λ w. layouts.homiq.crc.Met.met w.𝓤 w.𝓛 w.𝓜 w.𝓡;
      stated = λ κs a no c. absurd c;
      occurs = λ κs. tt;
      one = λ κs a r q ws vs x y. (unique.homiq-crc _ x y, refl);
    }

abbrev pub homiq-may-start : Row
homiq-may-start =
    record {
      function = function_of layouts.homiq.may_start.Symbol.symbol layouts.homiq.may_start.Kinds.ps layouts.homiq.may_start.Kinds.r
          layouts.homiq.may_start.Symbol.code;
      claim = λ κs. claims.homiq-may-start;
      args = λ κs a. record { s = a.0.now };
      later = λ κs s. [];
    }

pub homiq-may-start-proper : Proper homiq-may-start
homiq-may-start-proper =
    record {
      named = λ κs. refl;
      keeps = λ w. layouts.homiq.may_start.Met.met w.𝓤 w.𝓛 w.𝓜 w.𝓡;
      stated = λ κs a no c. absurd c;
      occurs = λ κs. tt;
      one = λ κs a r q ws vs x y. (equation x y, refl);
    }

abbrev pub homiq-is-payload : Row
homiq-is-payload =
    record {
      function = function_of layouts.homiq.is_payload.Symbol.symbol layouts.homiq.is_payload.Kinds.ps
          layouts.homiq.is_payload.Kinds.r layouts.homiq.is_payload.Symbol.code;
      claim = λ κs. claims.homiq-is-payload;
      args = λ κs a. record { p = a.0.now };
      later = λ κs s. [];
    }

pub homiq-is-payload-proper : Proper homiq-is-payload
homiq-is-payload-proper =
    record {
      named = λ κs. refl;
      keeps = λ w. layouts.homiq.is_payload.Met.met w.𝓤 w.𝓛 w.𝓜 w.𝓡;
      stated = λ κs a no c. absurd c;
      occurs = λ κs. tt;
      one = λ κs a r q ws vs x y. (unique.homiq-is-payload _ x y, refl);
    }

abbrev pub nest-frame : Row
nest-frame =
    record {
      function = function_of layouts.nest.frame.Symbol.symbol layouts.nest.frame.Kinds.ps layouts.nest.frame.Kinds.r
          layouts.nest.frame.Symbol.code;
      claim = λ κs. claims.nest-frame;
      args = λ κs a. record { direction = a.0; s = a.1.0.now };
      later = λ κs s. [];
    }

pub nest-frame-proper : Proper nest-frame
nest-frame-proper =
    record {
      named = λ κs. refl;
      keeps = λ w. layouts.nest.frame.Met.met w.𝓤 w.𝓛 w.𝓜 w.𝓡;
      stated = λ κs a no c. absurd c;
      occurs = λ κs. tt;
      one = λ κs a r q ws vs x y. (unique.nest-frame a.0 r q x y, refl);
    }

abbrev pub nest-may-start : Row
nest-may-start =
    record {
      function = function_of layouts.nest.may_start.Symbol.symbol layouts.nest.may_start.Kinds.ps layouts.nest.may_start.Kinds.r
          layouts.nest.may_start.Symbol.code;
      claim = λ κs. claims.nest-may-start;
      args = λ κs a. record { direction = a.0; s = a.1.0.now };
      later = λ κs s. [];
    }

pub nest-may-start-proper : Proper nest-may-start
nest-may-start-proper =
    record {
      named = λ κs. refl;
      keeps = λ w. layouts.nest.may_start.Met.met w.𝓤 w.𝓛 w.𝓜 w.𝓡;
      stated = λ κs a no c. absurd c;
      occurs = λ κs. tt;
      one = λ κs a r q ws vs x y. (equation x y, refl);
    }

abbrev pub nibe-frame : Row
nibe-frame =
    record {
      function = function_of layouts.nibe.frame.Symbol.symbol layouts.nibe.frame.Kinds.ps layouts.nibe.frame.Kinds.r
          layouts.nibe.frame.Symbol.code;
      claim = λ κs. claims.nibe-frame;
      args = λ κs a. record { s = a.0.now };
      later = λ κs s. [];
    }

pub nibe-frame-proper : Proper nibe-frame
nibe-frame-proper =
    record {
      named = λ κs. refl;
      keeps = λ w. layouts.nibe.frame.Met.met w.𝓤 w.𝓛 w.𝓜 w.𝓡;
      stated = λ κs a no c. absurd c;
      occurs = λ κs. tt;
      one = λ κs a r q ws vs x y. (unique.nibe-frame r q x y, refl);
    }

abbrev pub nibe-may-start : Row
nibe-may-start =
    record {
      function = function_of layouts.nibe.may_start.Symbol.symbol layouts.nibe.may_start.Kinds.ps layouts.nibe.may_start.Kinds.r
          layouts.nibe.may_start.Symbol.code;
      claim = λ κs. claims.nibe-may-start;
      args = λ κs a. record { s = a.0.now };
      later = λ κs s. [];
    }

pub nibe-may-start-proper : Proper nibe-may-start
nibe-may-start-proper =
    record {
      named = λ κs. refl;
      keeps = λ w. layouts.nibe.may_start.Met.met w.𝓤 w.𝓛 w.𝓜 w.𝓡;
      stated = λ κs a no c. absurd c;
      occurs = λ κs. tt;
      one = λ κs a r q ws vs x y. (equation x y, refl);
    }

abbrev pub nibe-is-command : Row
nibe-is-command =
    record {
      function = function_of layouts.nibe.is_command.Symbol.symbol layouts.nibe.is_command.Kinds.ps layouts.nibe.is_command.Kinds.r
          layouts.nibe.is_command.Symbol.code;
      claim = λ κs. claims.nibe-is-command;
      args = λ κs a. record { c = a.0 };
      later = λ κs s. [];
    }

pub nibe-is-command-proper : Proper nibe-is-command
nibe-is-command-proper =
    record {
      named = λ κs. refl;
      keeps = λ w. layouts.nibe.is_command.Met.met w.𝓤 w.𝓛 w.𝓜 w.𝓡;
      stated = λ κs a no c. absurd c;
      occurs = λ κs. tt;
      one = λ κs a r q ws vs x y. (equation x y, refl);
    }

abbrev pub nikobus-frame : Row
nikobus-frame =
    record {
      function = function_of layouts.nikobus.frame.Symbol.symbol layouts.nikobus.frame.Kinds.ps layouts.nikobus.frame.Kinds.r
          layouts.nikobus.frame.Symbol.code;
      claim = λ κs. claims.nikobus-frame;
      args = λ κs a. record { s = a.0.now };
      later = λ κs s. [];
    }

pub nikobus-frame-proper : Proper nikobus-frame
nikobus-frame-proper =
    record {
      named = λ κs. refl;
      keeps = λ w. layouts.nikobus.frame.Met.met w.𝓤 w.𝓛 w.𝓜 w.𝓡;
      stated = λ κs a no c. absurd c;
      occurs = λ κs. tt;
      one = λ κs a r q ws vs x y. (unique.nikobus-frame r q x y, refl);
    }

abbrev pub nikobus-may-start : Row
nikobus-may-start =
    record {
      function = function_of layouts.nikobus.may_start.Symbol.symbol layouts.nikobus.may_start.Kinds.ps
          layouts.nikobus.may_start.Kinds.r layouts.nikobus.may_start.Symbol.code;
      claim = λ κs. claims.nikobus-may-start;
      args = λ κs a. record { s = a.0.now };
      later = λ κs s. [];
    }

pub nikobus-may-start-proper : Proper nikobus-may-start
nikobus-may-start-proper =
    record {
      named = λ κs. refl;
      keeps = λ w. layouts.nikobus.may_start.Met.met w.𝓤 w.𝓛 w.𝓜 w.𝓡;
      stated = λ κs a no c. absurd c;
      occurs = λ κs. tt;
      one = λ κs a r q ws vs x y. (equation x y, refl);
    }

abbrev pub nikobus-all-digits : Row
nikobus-all-digits =
    record {
      function = function_of layouts.nikobus.all_digits.Symbol.symbol layouts.nikobus.all_digits.Kinds.ps
          layouts.nikobus.all_digits.Kinds.r layouts.nikobus.all_digits.Symbol.code;
      claim = λ κs. claims.nikobus-all-digits;
      args = λ κs a. record { s = a.0.now };
      later = λ κs s. [];
    }

pub nikobus-all-digits-proper : Proper nikobus-all-digits
nikobus-all-digits-proper =
    record {
      named = λ κs. refl;
      keeps = λ w. layouts.nikobus.all_digits.Met.met w.𝓤 w.𝓛 w.𝓜 w.𝓡;
      stated = λ κs a no c. absurd c;
      occurs = λ κs. tt;
      one = λ κs a r q ws vs x y. (equation x y, refl);
    }

-- ---- all of them

abbrev pub rows : List Row
rows = homiq-frame ∷ homiq-crc ∷ homiq-may-start ∷ homiq-is-payload ∷ nest-frame ∷ nest-may-start ∷ nibe-frame ∷ nibe-may-start ∷ nibe-is-command ∷ nikobus-frame ∷ nikobus-may-start ∷ nikobus-all-digits ∷ []

pub rows-proper : Every Proper rows
rows-proper =
    and homiq-frame-proper
    (and homiq-crc-proper
    (and homiq-may-start-proper
    (and homiq-is-payload-proper
    (and nest-frame-proper
    (and nest-may-start-proper
    (and nibe-frame-proper
    (and nibe-may-start-proper
    (and nibe-is-command-proper
    (and nikobus-frame-proper
    (and nikobus-may-start-proper
    (and nikobus-all-digits-proper none)))))))))))
