-- The public functions of `asked`: each keeps its claim.
-- Assumes nothing.
use mathlib.Core.Path.{refl}
use mathlib.Core.List.{List, [], ◌∷◌}
use Prim.Native.Nat.{ℕ}
use Rattle.messages.specs.Paper.Allowed.{StandingCause}
use Rattle.messages.specs.Paper.Message.{Message}
use Rattle.commands.specs.Paper.Answers.{MessageCause}
use Rattle.asked.specs.Paper.Answers.{AskedCause, ReadCause}
use Rattle.asked.proofs as asked
use Rattle.asked.proofs.Unique as unique
use Rattle.claims.specs.Paper.Claim.{OneOf, here, there}
use Rattle.claims.specs.Paper.Row.{Row, Proper, Every, none, and, promise}
use Rattle.claims.specs.Paper.Function.{function_of}
use Rattle.claims.specs.Paper.Table.Asked as claims
use Rattle.claims.proofs.Laws.Forms.{fronted, unfronted, placed}
use Rattle.claims.proofs.Laws.Keeps.{keeps-as}
use Rattle.claims.proofs.Occur as inputs

of-message : {Means : Message → Type 0} {n no : ℕ} → MessageCause Means n no → OneOf no (11 ∷ 12 ∷ 5 ∷ 6 ∷ 4 ∷ [])
of-message (MessageCause.outside f) = there (there here)
of-message (MessageCause.taken m a) = there (there (there here))
of-message (MessageCause.short m h) = there (there (there (there here)))

of-standing : {Means : Message → Type 0} {no : ℕ} → StandingCause Means no → OneOf no (11 ∷ 12 ∷ 5 ∷ 6 ∷ 4 ∷ [])
of-standing (StandingCause.outside f) = there (there here)
of-standing (StandingCause.taken m a) = there (there (there here))

of-read : {s : List ℕ} {n no : ℕ} → ReadCause s n no → OneOf no (11 ∷ 12 ∷ 5 ∷ 6 ∷ 4 ∷ [])
of-read (ReadCause.standing c) = of-standing c
of-read (ReadCause.short m a h) = there (there (there (there here)))

asked-stated : {s : List ℕ} {Cause : ℕ → Type 0} → ((no : ℕ) → Cause no → OneOf no (11 ∷ 12 ∷ 5 ∷ 6 ∷ 4 ∷ [])) → {no : ℕ} → AskedCause s Cause no
    → OneOf no (11 ∷ 12 ∷ 5 ∷ 6 ∷ 4 ∷ [])
asked-stated f (AskedCause.not-json n) = here
asked-stated f (AskedCause.no-message n) = there here
asked-stated f (AskedCause.by-message {no = k} c) = f k c

pub encode-stated : {s : List ℕ} {Means : Message → Type 0} {n no : ℕ} → AskedCause s (MessageCause Means n) no → OneOf no (11 ∷ 12 ∷ 5 ∷ 6 ∷ 4 ∷ [])
encode-stated c = asked-stated (λ no x. of-message x) c

abbrev pub read : Row
read =
    record {
      function = function_of asked.read.Symbol.symbol asked.read.Kinds.ps asked.read.Kinds.r asked.read.Symbol.code;
      claim = λ κs. claims.read;
      args = λ κs a. record { text = a.0.now; room = a.1.0.now };
      later = λ κs s. s.1.0.now;
    }

pub read-proper : Proper read
read-proper =
    record {
      named = λ κs. refl;
      keeps = λ w. asked.read.Met.met w.𝓤 w.𝓛 w.𝓜 w.𝓡;
      stated = λ κs a no c. asked-stated (λ no x. of-read x) c;
      occurs = λ κs. inputs.asked-read;
      one = λ κs a r q ws vs x y. placed (λ (l : List ℕ). (tt, (l, tt))) (unique.read a.0.now a.1.0.now r q x y);
    }

abbrev pub encode : Row
encode =
    record {
      function = function_of asked.encode.Symbol.symbol asked.encode.Kinds.ps asked.encode.Kinds.r asked.encode.Symbol.code;
      claim = λ κs. claims.encode;
      args = λ κs a. record { text = a.0.now; room = a.1.0.now };
      later = λ κs s. s.1.0.now;
    }

pub encode-proper : Proper encode
encode-proper =
    record {
      named = λ κs. refl;
      keeps = keeps-as encode.function asked.encode.Reads.Post (promise encode) (λ κs a r ws p. fronted p)
          (λ w. asked.encode.Met.met w.𝓤 w.𝓛 w.𝓜 w.𝓡);
      stated = λ κs a no c. encode-stated c;
      occurs = λ κs. inputs.asked-encode;
      one = λ κs a r q ws vs x y. placed (λ (l : List ℕ). (tt, (l, tt))) (unique.encode a.0.now a.1.0.now r q (unfronted x) (unfronted y));
    }

abbrev pub first : Row
first =
    record {
      function = function_of asked.lacks.first.Symbol.symbol asked.lacks.first.Kinds.ps asked.lacks.first.Kinds.r asked.lacks.first.Symbol.code;
      claim = λ κs. claims.first;
      args = λ κs a. record { text = a.0.now };
      later = λ κs s. [];
    }

pub first-proper : Proper first
first-proper =
    record {
      named = λ κs. refl;
      keeps = λ w. asked.lacks.first.Met.met w.𝓤 w.𝓛 w.𝓜 w.𝓡;
      stated = λ κs a no c. absurd c;
      occurs = λ κs. tt;
      one = λ κs a r q ws vs x y. (unique.first a.0.now r q x y, refl);
    }

abbrev pub rows : List Row
rows = read ∷ encode ∷ first ∷ []

pub rows-proper : Every Proper rows
rows-proper =
    and read-proper
    (and encode-proper
    (and first-proper none))
