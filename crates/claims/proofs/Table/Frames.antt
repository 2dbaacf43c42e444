-- The public functions of `frames`: each keeps its claim.
-- Assumes nothing.
use mathlib.Core.Path.{refl}
use mathlib.Core.List.{List, [], ◌∷◌}
use Prim.Native.Nat.{ℕ}
use Rattle.digits.proofs.Unique.{equation}
use Rattle.frames.specs.Paper.Kinds.{KindCause}
use Rattle.frames.specs.Paper.Search.{SearchCause, frame_ends, payload_ends}
use Rattle.frames.specs.Paper.OneFrame.{OneFrameCause}
use Rattle.frames.specs.Paper.Why.{WhyCause}
use Rattle.frames.proofs as frames
use Rattle.frames.proofs.Unique.{searched-one, handed-one, whole-one, why-one, resolved-one}
use Rattle.claims.specs.Paper.Claim.{OneOf, here, there}
use Rattle.claims.specs.Paper.Row.{Row, Proper, Every, none, and}
use Rattle.claims.specs.Paper.Function.{function_of}
use Rattle.claims.specs.Paper.Table.Frames as claims
use Rattle.claims.proofs.Occur as inputs

pub search-stated : {k : ℕ} {s : List ℕ} {place no : ℕ} → SearchCause k s place no → OneOf no (2 ∷ 3 ∷ 1 ∷ [])
search-stated (SearchCause.no_kind e) = here
search-stated (SearchCause.no_place h) = there here
search-stated (SearchCause.no-frame h) = there (there here)

pub whole-stated : {k : ℕ} {s : List ℕ} {no : ℕ} → OneFrameCause k s no → OneOf no (2 ∷ 5 ∷ [])
whole-stated (OneFrameCause.no_kind e) = here
whole-stated (OneFrameCause.no-frame f) = there here

abbrev pub search : Row
search =
    record {
      function = function_of frames.search.Symbol.symbol frames.search.Kinds.ps frames.search.Kinds.r frames.search.Symbol.code;
      claim = λ κs. claims.search;
      args = λ κs a. record { kind = a.0; buffer = a.1.0.now; place = a.1.1.0 };
      later = λ κs s. [];
    }

pub search-proper : Proper search
search-proper =
    record {
      named = λ κs. refl;
      keeps = λ w. frames.search.Met.met w.𝓤 w.𝓛 w.𝓜 w.𝓡;
      stated = λ κs a no c. search-stated c;
      occurs = λ κs. inputs.search;
      one = λ κs a r q ws vs x y. (searched-one r q x y, refl);
    }

abbrev pub frame : Row
frame =
    record {
      function = function_of frames.frame.Symbol.symbol frames.frame.Kinds.ps frames.frame.Kinds.r frames.frame.Symbol.code;
      claim = λ κs. claims.frame;
      args = λ κs a. record { kind = a.0; buffer = a.1.0; place = a.1.1.0 };
      later = λ κs s. [];
    }

pub frame-proper : Proper frame
frame-proper =
    record {
      named = λ κs. refl;
      keeps = λ w. frames.frame.Met.met w.𝓤 w.𝓛 w.𝓜 w.𝓡;
      stated = λ κs a no c. search-stated c;
      occurs = λ κs. inputs.frame;
      one = λ κs a r q ws vs x y. (handed-one frame_ends r q x y, refl);
    }

abbrev pub payload : Row
payload =
    record {
      function = function_of frames.payload.Symbol.symbol frames.payload.Kinds.ps frames.payload.Kinds.r frames.payload.Symbol.code;
      claim = λ κs. claims.payload;
      args = λ κs a. record { kind = a.0; buffer = a.1.0; place = a.1.1.0 };
      later = λ κs s. [];
    }

pub payload-proper : Proper payload
payload-proper =
    record {
      named = λ κs. refl;
      keeps = λ w. frames.payload.Met.met w.𝓤 w.𝓛 w.𝓜 w.𝓡;
      stated = λ κs a no c. search-stated c;
      occurs = λ κs. inputs.payload;
      one = λ κs a r q ws vs x y. (handed-one payload_ends r q x y, refl);
    }

abbrev pub one-frame : Row
one-frame =
    record {
      function = function_of frames.one_frame.Symbol.symbol frames.one_frame.Kinds.ps frames.one_frame.Kinds.r
          frames.one_frame.Symbol.code;
      claim = λ κs. claims.one-frame;
      args = λ κs a. record { kind = a.0; s = a.1.0.now };
      later = λ κs s. [];
    }

pub one-frame-proper : Proper one-frame
one-frame-proper =
    record {
      named = λ κs. refl;
      keeps = λ w. frames.one_frame.Met.met w.𝓤 w.𝓛 w.𝓜 w.𝓡;
      stated = λ κs a no c. whole-stated c;
      occurs = λ κs. inputs.one-frame;
      one = λ κs a r q ws vs x y. (whole-one r q x y, refl);
    }

pub why-stated : {k : ℕ} {s : List ℕ} {place no : ℕ} → WhyCause k s place no → OneOf no (2 ∷ 3 ∷ [])
why-stated (WhyCause.no_kind e) = here
why-stated (WhyCause.no_place h) = there here

abbrev pub why : Row
why =
    record {
      function = function_of frames.why.Symbol.symbol frames.why.Kinds.ps frames.why.Kinds.r frames.why.Symbol.code;
      claim = λ κs. claims.why;
      args = λ κs a. record { kind = a.0; buffer = a.1.0.now; place = a.1.1.0 };
      later = λ κs s. [];
    }

pub why-proper : Proper why
why-proper =
    record {
      named = λ κs. refl;
      keeps = λ w. frames.why.Met.met w.𝓤 w.𝓛 w.𝓜 w.𝓡;
      stated = λ κs a no c. why-stated c;
      occurs = λ κs. inputs.why;
      one = λ κs a r q ws vs x y. (why-one r q x y, refl);
    }

kinds-of-stated : {k no : ℕ} → KindCause k no → OneOf no (2 ∷ [])
kinds-of-stated (KindCause.no_kind e) = here

abbrev pub kinds-of : Row
kinds-of =
    record {
      function = function_of frames.kinds.of.Symbol.symbol frames.kinds.of.Kinds.ps frames.kinds.of.Kinds.r
          frames.kinds.of.Symbol.code;
      claim = λ κs. claims.kinds-of;
      args = λ κs a. record { number = a.0 };
      later = λ κs s. [];
    }

pub kinds-of-proper : Proper kinds-of
kinds-of-proper =
    record {
      named = λ κs. refl;
      keeps = λ w. frames.kinds.of.Met.met w.𝓤 w.𝓛 w.𝓜 w.𝓡;
      stated = λ κs a no c. kinds-of-stated c;
      occurs = λ κs. inputs.kinds-of;
      one = λ κs a r q ws vs x y. (resolved-one r q x y, refl);
    }

abbrev pub kinds-number : Row
kinds-number =
    record {
      function = function_of frames.kinds.number.Symbol.symbol frames.kinds.number.Kinds.ps frames.kinds.number.Kinds.r
          frames.kinds.number.Symbol.code;
      claim = λ κs. claims.kinds-number;
      args = λ κs a. record { kind = a.0 };
      later = λ κs s. [];
    }

pub kinds-number-proper : Proper kinds-number
kinds-number-proper =
    record {
      named = λ κs. refl;
      keeps = λ w. frames.kinds.number.Met.met w.𝓤 w.𝓛 w.𝓜 w.𝓡;
      stated = λ κs a no c. absurd c;
      occurs = λ κs. tt;
      one = λ κs a r q ws vs x y. (equation x y, refl);
    }

abbrev pub kinds-known : Row
kinds-known =
    record {
      function = function_of frames.kinds.known.Symbol.symbol frames.kinds.known.Kinds.ps frames.kinds.known.Kinds.r
          frames.kinds.known.Symbol.code;
      claim = λ κs. claims.kinds-known;
      args = λ κs a. record { number = a.0 };
      later = λ κs s. [];
    }

pub kinds-known-proper : Proper kinds-known
kinds-known-proper =
    record {
      named = λ κs. refl;
      keeps = λ w. frames.kinds.known.Met.met w.𝓤 w.𝓛 w.𝓜 w.𝓡;
      stated = λ κs a no c. absurd c;
      occurs = λ κs. tt;
      one = λ κs a r q ws vs x y. (equation x y, refl);
    }

-- ---- all of them

abbrev pub rows : List Row
rows = search ∷ frame ∷ payload ∷ one-frame ∷ why ∷ kinds-of ∷ kinds-number ∷ kinds-known ∷ []

pub rows-proper : Every Proper rows
rows-proper =
    and search-proper
    (and frame-proper
    (and payload-proper
    (and one-frame-proper
    (and why-proper
    (and kinds-of-proper
    (and kinds-number-proper
    (and kinds-known-proper none)))))))
