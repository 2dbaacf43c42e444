-- The public functions of `commands`: each keeps its claim.
-- Assumes nothing.
use mathlib.Core.Path.{refl}
use mathlib.Core.List.{List, [], ◌∷◌}
use Prim.Native.Nat.{ℕ}
use Rattle.messages.specs.Paper.Message.{Message}
use Rattle.messages.specs.declared.Message.{Message as Coded}
use Rattle.commands.specs.Paper.Acknowledge.{AcknowledgeCause}
use Rattle.commands.specs.Paper.Answers.{MessageCause, EncodeCause}
use Rattle.commands.proofs as commands
use Rattle.commands.proofs.Unique as unique
use Rattle.claims.specs.Paper.Claim.{OneOf, here, there}
use Rattle.claims.specs.Paper.Row.{Row, Proper, Every, none, and, promise}
use Rattle.claims.specs.Paper.Function.{function_of}
use Rattle.claims.specs.Paper.Table.Commands as claims
use Rattle.claims.proofs.Laws.Forms.{fronted, unfronted, placed}
use Rattle.claims.proofs.Laws.Keeps.{keeps-as}
use Rattle.claims.proofs.Occur as inputs

of-message : {Means : Message → Type 0} {n no : ℕ} → MessageCause Means n no → OneOf no (2 ∷ 7 ∷ 5 ∷ 6 ∷ 4 ∷ [])
of-message (MessageCause.outside f) = there (there here)
of-message (MessageCause.taken m a) = there (there (there here))
of-message (MessageCause.short m h) = there (there (there (there here)))

encode-stated : {k : ℕ} {e : Coded} {s : List ℕ} {n no : ℕ} → EncodeCause k e s n no → OneOf no (2 ∷ 7 ∷ 5 ∷ 6 ∷ 4 ∷ [])
encode-stated (EncodeCause.no_kind e) = here
encode-stated (EncodeCause.no-width m w f) = there here
encode-stated (EncodeCause.other-kind f) = there (there here)
encode-stated (EncodeCause.by-message c) = of-message c

abbrev pub encode : Row
encode =
    record {
      function = function_of commands.encode.Symbol.symbol commands.encode.Kinds.ps commands.encode.Kinds.r
          commands.encode.Symbol.code;
      claim = λ κs. claims.encode;
      args = λ κs a. record { kind = a.0; message = a.1.0; content = a.1.1.0.now; room = a.1.1.1.0.now };
      later = λ κs s. s.1.1.1.0.now;
    }

pub encode-proper : Proper encode
encode-proper =
    record {
      named = λ κs. refl;
      keeps = keeps-as encode.function commands.encode.Reads.Post (promise encode) (λ κs a r ws p. fronted p)
          (λ w. commands.encode.Met.met w.𝓤 w.𝓛 w.𝓜 w.𝓡);
      stated = λ κs a no c. encode-stated c;
      occurs = λ κs. inputs.encode;
      one = λ κs a r q ws vs x y. placed (λ (l : List ℕ). (tt, (tt, (tt, (l, tt)))))
          (unique.encode a.0 a.1.0 a.1.1.0.now a.1.1.1.0.now r q (unfronted x) (unfronted y));
    }

pub acknowledge-stated : {f : List ℕ} {n no : ℕ} → AcknowledgeCause f n no → OneOf no (5 ∷ 4 ∷ [])
acknowledge-stated (AcknowledgeCause.no-frame f) = here
acknowledge-stated (AcknowledgeCause.answered w e) = here
acknowledge-stated (AcknowledgeCause.short w h) = there here

abbrev pub acknowledge : Row
acknowledge =
    record {
      function = function_of commands.acknowledge.Symbol.symbol commands.acknowledge.Kinds.ps commands.acknowledge.Kinds.r
          commands.acknowledge.Symbol.code;
      claim = λ κs. claims.acknowledge;
      args = λ κs a. record { frame = a.0.now; room = a.1.0.now };
      later = λ κs s. s.1.0.now;
    }

pub acknowledge-proper : Proper acknowledge
acknowledge-proper =
    record {
      named = λ κs. refl;
      keeps = keeps-as acknowledge.function commands.acknowledge.Reads.Post (promise acknowledge)
          (λ κs a r ws p. fronted p) (λ w. commands.acknowledge.Met.met w.𝓤 w.𝓛 w.𝓜 w.𝓡);
      stated = λ κs a no c. acknowledge-stated c;
      occurs = λ κs. inputs.acknowledge;
      one = λ κs a r q ws vs x y. placed (λ (l : List ℕ). (tt, (l, tt)))
          (unique.acknowledge a.0.now a.1.0.now r q (unfronted x) (unfronted y));
    }

-- ---- all of them

abbrev pub rows : List Row
rows = encode ∷ acknowledge ∷ []

pub rows-proper : Every Proper rows
rows-proper =
    and encode-proper
    (and acknowledge-proper none)
