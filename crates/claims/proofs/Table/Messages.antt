-- The public functions of `messages`: each keeps its claim.
-- Assumes nothing.
use mathlib.Core.Path.{refl, sym, ◌∙◌}
use mathlib.Core.List.{List, [], ◌∷◌}
use Prim.Native.Nat.{ℕ}
use Rattle.messages.specs.Paper.Allowed.{StandingCause}
use Rattle.messages.specs.Paper.Answers.{DecodeCause}
use Rattle.messages.specs.Paper.Content.{Content}
use Rattle.messages.specs.Paper.Meant.{MeantCause}
use Rattle.messages.specs.Paper.Message.{Message}
use Rattle.messages.specs.Paper.NextId.{NextIdCause}
use Rattle.messages.specs.Paper.Panel.{PairCause, VoltsCause}
use Rattle.messages.specs.declared.nest.Response.{Response}
use Rattle.digits.proofs.Laws.Handed.{one-part}
use Rattle.messages.proofs as messages
use Rattle.messages.proofs.Unique as unique
use Rattle.claims.specs.Paper.Claim.{OneOf, here, there}
use Rattle.claims.specs.Paper.Row.{Row, Proper, Every, none, and, promise}
use Rattle.claims.specs.Paper.Function.{function_of}
use Rattle.claims.specs.Paper.Table.Messages as claims
use Rattle.claims.proofs.Table.Frames.{search-stated}
use Rattle.claims.proofs.Occur as inputs
use Rattle.claims.proofs.Laws.Forms.{handed}
use Rattle.claims.proofs.Laws.Keeps.{keeps-as}

decode-stated : {k : ℕ} {f : List ℕ} {no : ℕ} → DecodeCause k f no → OneOf no (2 ∷ 5 ∷ [])
decode-stated (DecodeCause.no_kind e) = here
decode-stated (DecodeCause.no-message f) = there here

abbrev pub decode : Row
decode =
    record {
      function = function_of messages.decode.Symbol.symbol messages.decode.Kinds.ps messages.decode.Kinds.r
          messages.decode.Symbol.code;
      claim = λ κs. claims.decode;
      args = λ κs a. record { kind = a.0; frame = a.1.0.now };
      later = λ κs s. [];
    }

pub decode-proper : Proper decode
decode-proper =
    record {
      named = λ κs. refl;
      keeps = λ w. messages.decode.Met.met w.𝓤 w.𝓛 w.𝓜 w.𝓡;
      stated = λ κs a no c. decode-stated c;
      occurs = λ κs. inputs.decode;
      one = λ κs a r q ws vs x y. (unique.decode a.0 a.1.0.now r q x y, refl);
    }

abbrev pub find : Row
find =
    record {
      function = function_of messages.find.Symbol.symbol messages.find.Kinds.ps messages.find.Kinds.r messages.find.Symbol.code;
      claim = λ κs. claims.find;
      args = λ κs a. record { kind = a.0; buffer = a.1.0.now; place = a.1.1.0 };
      later = λ κs s. [];
    }

pub find-proper : Proper find
find-proper =
    record {
      named = λ κs. refl;
      keeps = λ w. messages.find.Met.met w.𝓤 w.𝓛 w.𝓜 w.𝓡;
      stated = λ κs a no c. search-stated c;
      occurs = λ κs. inputs.find;
      one = λ κs a r q ws vs x y. (unique.find a.0 a.1.0.now a.1.1.0 r q x y, refl);
    }

pub of_stated : {With : Content → Type 0} {no : ℕ} → MeantCause With no → OneOf no (5 ∷ [])
of_stated (MeantCause.no-message f) = here

abbrev pub content : Row
content =
    record {
      function = function_of messages.content.Symbol.symbol messages.content.Kinds.ps messages.content.Kinds.r
          messages.content.Symbol.code;
      claim = λ κs. claims.content;
      args = λ κs a. record { kind = a.0; frame = a.1.0 };
      later = λ κs s. [];
    }

pub content-proper : Proper content
content-proper =
    record {
      named = λ κs. refl;
      keeps = λ w. messages.content.Met.met w.𝓤 w.𝓛 w.𝓜 w.𝓡;
      stated = λ κs a no c. decode-stated c;
      occurs = λ κs. inputs.content;
      one = λ κs a r q ws vs x y. (unique.content a.0 a.1.0 r q x y, refl);
    }

abbrev pub homiq-field : Row
homiq-field =
    record {
      function = function_of messages.homiq.field.Symbol.symbol messages.homiq.field.Kinds.ps messages.homiq.field.Kinds.r
          messages.homiq.field.Symbol.code;
      claim = λ κs. claims.homiq-field;
      args = λ κs a. record { content = a.0; number = a.1.0 };
      later = λ κs s. [];
    }

pub homiq-field-proper : Proper homiq-field
homiq-field-proper =
    record {
      named = λ κs. refl;
      keeps = keeps-as homiq-field.function messages.homiq.field.Reads.Post (promise homiq-field) (λ κs a r ws p. handed p)
          (λ w. messages.homiq.field.Met.met w.𝓤 w.𝓛 w.𝓜 w.𝓡);
      stated = λ κs a no c. absurd c;
      occurs = λ κs. tt;
      one = λ κs a r q ws vs x y. (one-part (λ d e p q. p ∙ sym q) x y, refl);
    }

abbrev pub of : Row
of =
    record {
      function = function_of messages.of.Symbol.symbol messages.of.Kinds.ps messages.of.Kinds.r messages.of.Symbol.code;
      claim = λ κs. claims.of;
      args = λ κs a. record { tag = a.0; payload = a.1.0.now };
      later = λ κs s. [];
    }

pub of-proper : Proper of
of-proper =
    record {
      named = λ κs. refl;
      keeps = λ w. messages.of.Met.met w.𝓤 w.𝓛 w.𝓜 w.𝓡;
      stated = λ κs a no c. of_stated c;
      occurs = λ κs. inputs.of;
      one = λ κs a r q ws vs x y. (unique.of a.0 a.1.0.now r q x y, refl);
    }

allowed-stated : {Means : Message → Type 0} {no : ℕ} → StandingCause Means no → OneOf no (5 ∷ 6 ∷ [])
allowed-stated (StandingCause.outside f) = here
allowed-stated (StandingCause.taken s a) = there here

abbrev pub allowed : Row
allowed =
    record {
      function = function_of messages.allowed.Symbol.symbol messages.allowed.Kinds.ps messages.allowed.Kinds.r
          messages.allowed.Symbol.code;
      claim = λ κs. claims.allowed;
      args = λ κs a. record { message = a.0; content = a.1.0.now };
      later = λ κs s. [];
    }

pub allowed-proper : Proper allowed
allowed-proper =
    record {
      named = λ κs. refl;
      keeps = λ w. messages.allowed.Met.met w.𝓤 w.𝓛 w.𝓜 w.𝓡;
      stated = λ κs a no c. allowed-stated c;
      occurs = λ κs. inputs.allowed;
      one = λ κs a r q ws vs x y. (unique.allowed a.0 a.1.0.now r q x y, refl);
    }

homiq-next-id-stated : {i no : ℕ} → NextIdCause i no → OneOf no (5 ∷ [])
homiq-next-id-stated (NextIdCause.no-id h) = here

abbrev pub homiq-next-id : Row
homiq-next-id =
    record {
      function = function_of messages.homiq.next_id.Symbol.symbol messages.homiq.next_id.Kinds.ps messages.homiq.next_id.Kinds.r
          messages.homiq.next_id.Symbol.code;
      claim = λ κs. claims.homiq-next-id;
      args = λ κs a. record { id = a.0 };
      later = λ κs s. [];
    }

pub homiq-next-id-proper : Proper homiq-next-id
homiq-next-id-proper =
    record {
      named = λ κs. refl;
      keeps = λ w. messages.homiq.next_id.Met.met w.𝓤 w.𝓛 w.𝓜 w.𝓡;
      stated = λ κs a no c. homiq-next-id-stated c;
      occurs = λ κs. inputs.homiq-next-id;
      one = λ κs a r q ws vs x y. (unique.next-id a.0 r q x y, refl);
    }

nest-for-panel-stated : {e : Response} {no : ℕ} → PairCause e no → OneOf no (5 ∷ [])
nest-for-panel-stated (PairCause.other f) = here

abbrev pub nest-for-panel : Row
nest-for-panel =
    record {
      function = function_of messages.nest.for_panel.Symbol.symbol messages.nest.for_panel.Kinds.ps messages.nest.for_panel.Kinds.r
          messages.nest.for_panel.Symbol.code;
      claim = λ κs. claims.nest-for-panel;
      args = λ κs a. record { message = a.0 };
      later = λ κs s. [];
    }

pub nest-for-panel-proper : Proper nest-for-panel
nest-for-panel-proper =
    record {
      named = λ κs. refl;
      keeps = λ w. messages.nest.for_panel.Met.met w.𝓤 w.𝓛 w.𝓜 w.𝓡;
      stated = λ κs a no c. nest-for-panel-stated c;
      occurs = λ κs. inputs.nest-for-panel;
      one = λ κs a r q ws vs x y. (unique.for-panel a.0 r q x y, refl);
    }

nest-voltages-stated : {p : List ℕ} {no : ℕ} → VoltsCause p no → OneOf no (5 ∷ [])
nest-voltages-stated (VoltsCause.short h) = here

abbrev pub nest-voltages : Row
nest-voltages =
    record {
      function = function_of messages.nest.voltages.Symbol.symbol messages.nest.voltages.Kinds.ps messages.nest.voltages.Kinds.r
          messages.nest.voltages.Symbol.code;
      claim = λ κs. claims.nest-voltages;
      args = λ κs a. record { payload = a.0.now };
      later = λ κs s. [];
    }

pub nest-voltages-proper : Proper nest-voltages
nest-voltages-proper =
    record {
      named = λ κs. refl;
      keeps = λ w. messages.nest.voltages.Met.met w.𝓤 w.𝓛 w.𝓜 w.𝓡;
      stated = λ κs a no c. nest-voltages-stated c;
      occurs = λ κs. inputs.nest-voltages;
      one = λ κs a r q ws vs x y. (unique.voltages a.0.now r q x y, refl);
    }

-- ---- all of them

abbrev pub rows : List Row
rows = decode ∷ find ∷ content ∷ of ∷ allowed ∷ homiq-field ∷ homiq-next-id ∷ nest-for-panel ∷ nest-voltages ∷ []

pub rows-proper : Every Proper rows
rows-proper =
    and decode-proper
    (and find-proper
    (and content-proper
    (and of-proper
    (and allowed-proper
    (and homiq-field-proper
    (and homiq-next-id-proper
    (and nest-for-panel-proper
    (and nest-voltages-proper none))))))))
