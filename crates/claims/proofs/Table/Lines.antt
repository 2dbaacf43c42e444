-- The public functions of `lines`: each keeps its claim.
-- Assumes nothing.
use mathlib.Core.List.{List, [], ◌∷◌}
use mathlib.Core.Option.{Option, none as without}
use mathlib.Core.Path.{refl}
use Prim.Native.Nat.{ℕ}
use Rattle.sheet.specs.Paper.Map.{sheet_in}
use Rattle.sheet.specs.Paper.Sheet.{Lookup}
use Rattle.lines.specs.Paper.Answers.{LineCause, LineByTextCause, SaidCause, NextCause}
use Rattle.frames.specs.Paper.Search.{SearchCause}
use Rattle.messages.specs.Paper.Message.{Message}
use Rattle.lines.proofs as lines
use Rattle.lines.proofs.Unique as unique
use Rattle.claims.specs.Paper.Claim.{OneOf, here, there}
use Rattle.claims.specs.Paper.Row.{Row, Proper, Every, none, and, promise}
use Rattle.claims.specs.Paper.Function.{function_of}
use Rattle.claims.specs.Paper.Table.Lines as claims
use Rattle.claims.proofs.Laws.Forms.{fronted, unfronted, placed}
use Rattle.claims.proofs.Laws.Keeps.{keeps-as}
use Rattle.claims.proofs.Occur as inputs
use Rattle.claims.proofs.Table.Frames.{search-stated}
use Rattle.claims.proofs.Table.Messages.{of_stated}

said-stated : {sheet : Option Lookup} {IsSaid : Message → Type 0} {at len left no : ℕ} → SaidCause sheet IsSaid at len left no → OneOf no (5 ∷ 4 ∷ [])
said-stated (SaidCause.no-message f) = here
said-stated (SaidCause.short l h) = there here

pub write-stated : {sheet : Option Lookup} {k : ℕ} {f : List ℕ} {at room no : ℕ} → LineCause sheet k f at room no → OneOf no (2 ∷ 5 ∷ 4 ∷ [])
write-stated (LineCause.no_kind e) = here
write-stated (LineCause.no-frame f) = there here
write-stated (LineCause.short l h) = there (there here)

with-stated : {k : ℕ} {f : List ℕ} {at : ℕ} {text : List ℕ} {room no : ℕ} → LineByTextCause k f at text room no → OneOf no (2 ∷ 5 ∷ 10 ∷ 4 ∷ [])
with-stated (LineByTextCause.no_kind e) = here
with-stated (LineByTextCause.no-frame f) = there here
with-stated (LineByTextCause.bad-sheet f) = there (there here)
with-stated (LineByTextCause.short l h) = there (there (there here))

pub next-stated : {sheet : Option Lookup} {k : ℕ} {s : List ℕ} {place left no : ℕ} → NextCause sheet k s place left no → OneOf no (2 ∷ 3 ∷ 4 ∷ 1 ∷ [])
next-stated (NextCause.searched (SearchCause.no_kind e)) = here
next-stated (NextCause.searched (SearchCause.no_place h)) = there here
next-stated (NextCause.searched (SearchCause.no-frame h)) = there (there (there here))
next-stated (NextCause.short f l h) = there (there here)

abbrev pub write : Row
write =
    record {
      function = function_of lines.write.Symbol.symbol lines.write.Kinds.ps lines.write.Kinds.r lines.write.Symbol.code;
      claim = λ κs. claims.write;
      args = λ κs a. record { kind = a.0; frame = a.1.0.now; at = a.1.1.0; room = a.1.1.1.0.now };
      later = λ κs s. s.1.1.1.0.now;
    }

pub write-proper : Proper write
write-proper =
    record {
      named = λ κs. refl;
      keeps = keeps-as write.function lines.write.Reads.Post (promise write) (λ κs a r ws p. fronted p)
          (λ w. lines.write.Met.met w.𝓤 w.𝓛 w.𝓜 w.𝓡);
      stated = λ κs a no c. write-stated c;
      occurs = λ κs. inputs.write;
      one = λ κs a r q ws vs x y. placed (λ (l : List ℕ). (tt, (tt, (tt, (l, tt)))))
          (unique.write without a.0 a.1.0.now a.1.1.0 a.1.1.1.0.now {r = r} {q = q} (unfronted x) (unfronted y));
    }

abbrev pub write-mapped : Row
write-mapped =
    record {
      function = function_of lines.write_mapped.Symbol.symbol lines.write_mapped.Kinds.ps lines.write_mapped.Kinds.r lines.write_mapped.Symbol.code;
      claim = λ κs. claims.write-mapped;
      args = λ κs a. record { kind = a.0; frame = a.1.0.now; at = a.1.1.0; map = a.1.1.1.0.now; room = a.1.1.1.1.0.now };
      later = λ κs s. s.1.1.1.1.0.now;
    }

pub write-mapped-proper : Proper write-mapped
write-mapped-proper =
    record {
      named = λ κs. refl;
      keeps = keeps-as write-mapped.function lines.write_mapped.Reads.Post (promise write-mapped) (λ κs a r ws p. fronted p)
          (λ w. lines.write_mapped.Met.met w.𝓤 w.𝓛 w.𝓜 w.𝓡);
      stated = λ κs a no c. write-stated c;
      occurs = λ κs. inputs.write-mapped;
      one = λ κs a r q ws vs x y. placed (λ (l : List ℕ). (tt, (tt, (tt, (tt, (l, tt))))))
          (unique.write (sheet_in a.1.1.1.0.now) a.0 a.1.0.now a.1.1.0 a.1.1.1.1.0.now {r = r} {q = q} (unfronted x) (unfronted y));
    }

abbrev pub write-with : Row
write-with =
    record {
      function = function_of lines.write_with.Symbol.symbol lines.write_with.Kinds.ps lines.write_with.Kinds.r lines.write_with.Symbol.code;
      claim = λ κs. claims.write-with;
      args = λ κs a. record { kind = a.0; frame = a.1.0.now; at = a.1.1.0; text = a.1.1.1.0.now; room = a.1.1.1.1.0.now };
      later = λ κs s. s.1.1.1.1.0.now;
    }

pub write-with-proper : Proper write-with
write-with-proper =
    record {
      named = λ κs. refl;
      keeps = keeps-as write-with.function lines.write_with.Reads.Post (promise write-with) (λ κs a r ws p. fronted p)
          (λ w. lines.write_with.Met.met w.𝓤 w.𝓛 w.𝓜 w.𝓡);
      stated = λ κs a no c. with-stated c;
      occurs = λ κs. inputs.write-with;
      one = λ κs a r q ws vs x y. placed (λ (l : List ℕ). (tt, (tt, (tt, (tt, (l, tt))))))
          (unique.write-with a.0 a.1.0.now a.1.1.0 a.1.1.1.0.now a.1.1.1.1.0.now {r = r} {q = q} (unfronted x) (unfronted y));
    }

abbrev pub next : Row
next =
    record {
      function = function_of lines.next.Symbol.symbol lines.next.Kinds.ps lines.next.Kinds.r lines.next.Symbol.code;
      claim = λ κs. claims.next;
      args = λ κs a. record { kind = a.0; capture = a.1.0.now; place = a.1.1.0; map = a.1.1.1.0.now; room = a.1.1.1.1.0.now; to = a.1.1.1.1.1.0 };
      later = λ κs s. s.1.1.1.1.0.now;
    }

pub next-proper : Proper next
next-proper =
    record {
      named = λ κs. refl;
      keeps = λ w. lines.next.Met.met w.𝓤 w.𝓛 w.𝓜 w.𝓡;
      stated = λ κs a no c. next-stated c;
      occurs = λ κs. inputs.next;
      one = λ κs a r q ws vs x y. placed (λ (l : List ℕ). (tt, (tt, (tt, (tt, (l, (tt, tt)))))))
          (unique.next (sheet_in a.1.1.1.0.now) a.0 a.1.0.now a.1.1.0 a.1.1.1.1.0.now a.1.1.1.1.1.0 r q x y);
    }

abbrev pub measure : Row
measure =
    record {
      function = function_of lines.measure.Symbol.symbol lines.measure.Kinds.ps lines.measure.Kinds.r lines.measure.Symbol.code;
      claim = λ κs. claims.measure;
      args = λ κs a. record { kind = a.0; capture = a.1.0.now; place = a.1.1.0; map = a.1.1.1.0.now };
      later = λ κs s. [];
    }

pub measure-proper : Proper measure
measure-proper =
    record {
      named = λ κs. refl;
      keeps = λ w. lines.measure.Met.met w.𝓤 w.𝓛 w.𝓜 w.𝓡;
      stated = λ κs a no c. search-stated c;
      occurs = λ κs. inputs.measure;
      one = λ κs a r q ws vs x y. (unique.measure (sheet_in a.1.1.1.0.now) a.0 a.1.0.now a.1.1.0 r q x y, refl);
    }

abbrev pub of : Row
of =
    record {
      function = function_of lines.of.Symbol.symbol lines.of.Kinds.ps lines.of.Kinds.r lines.of.Symbol.code;
      claim = λ κs. claims.of;
      args = λ κs a. record { message = a.0; content = a.1.0.now; at = a.1.1.0; len = a.1.1.1.0; room = a.1.1.1.1.0.now; to = a.1.1.1.1.1.0 };
      later = λ κs s. s.1.1.1.1.0.now;
    }

pub of-proper : Proper of
of-proper =
    record {
      named = λ κs. refl;
      keeps = λ w. lines.of.Met.met w.𝓤 w.𝓛 w.𝓜 w.𝓡;
      stated = λ κs a no c. said-stated c;
      occurs = λ κs. inputs.of-message;
      one = λ κs a r q ws vs x y. placed (λ (l : List ℕ). (tt, (tt, (tt, (tt, (l, (tt, tt)))))))
          (unique.of a.0 a.1.0.now r q x y);
    }

abbrev pub put-content : Row
put-content =
    record {
      function = function_of lines.put_content.Symbol.symbol lines.put_content.Kinds.ps lines.put_content.Kinds.r
          lines.put_content.Symbol.code;
      claim = λ κs. claims.put-content;
      args = λ κs a. record { tag = a.0; payload = a.1.0.now; at = a.1.1.0; len = a.1.1.1.0; map = a.1.1.1.1.0.now; room = a.1.1.1.1.1.0.now; to = a.1.1.1.1.1.1.0 };
      later = λ κs s. s.1.1.1.1.1.0.now;
    }

pub put-content-proper : Proper put-content
put-content-proper =
    record {
      named = λ κs. refl;
      keeps = λ w. lines.put_content.Met.met w.𝓤 w.𝓛 w.𝓜 w.𝓡;
      stated = λ κs a no c. of_stated c;
      occurs = λ κs. inputs.put-content;
      one = λ κs a r q ws vs x y. placed (λ (l : List ℕ). (tt, (tt, (tt, (tt, (tt, (l, (tt, tt))))))))
          (unique.put-content a.0 a.1.0.now r q x y);
    }

-- ---- all of them

abbrev pub rows : List Row
rows = write ∷ write-mapped ∷ write-with ∷ next ∷ measure ∷ of ∷ put-content ∷ []

pub rows-proper : Every Proper rows
rows-proper =
    and write-proper
    (and write-mapped-proper
    (and write-with-proper
    (and next-proper
    (and measure-proper
    (and of-proper
    (and put-content-proper none))))))
