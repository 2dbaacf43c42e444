-- The public functions of `book`: each keeps its claim.
-- Assumes nothing.
use mathlib.Core.Path.{refl}
use mathlib.Core.List.{List, [], ◌∷◌}
use mathlib.Core.Option.{Option}
use Prim.Native.Nat.{ℕ}
use Rattle.sheet.specs.Paper.Sheet.{Lookup}
use Rattle.book.specs.Paper.Answers.{OpenCause, EntryCause, EntryLineCause, EntryLineByTextCause, ListCause, ListByTextCause, AddCause}
use Rattle.book.specs.Paper.Book.{Entry}
use Rattle.book.proofs as book
use Rattle.book.proofs.Unique as unique
use Rattle.claims.specs.Paper.Claim.{OneOf, here, there}
use Rattle.claims.specs.Paper.Row.{Row, Proper, Every, none, and, promise}
use Rattle.claims.specs.Paper.Function.{function_of}
use Rattle.claims.specs.Paper.Table.Book as claims
use Rattle.claims.proofs.Laws.Forms.{fronted, unfronted, placed}
use Rattle.claims.proofs.Laws.Keeps.{keeps-as}
use Rattle.claims.proofs.Occur as inputs

pub entry-stated : {s : List ℕ} {number no : ℕ} → EntryCause s number no → OneOf no (8 ∷ 3 ∷ [])
entry-stated (EntryCause.no-book f) = here
entry-stated (EntryCause.no-entry b h) = there here

pub opening-stated : {s : List ℕ} {no : ℕ} → OpenCause s no → OneOf no (8 ∷ [])
opening-stated (OpenCause.no-book f) = here

abbrev pub opening : Row
opening =
    record {
      function = function_of book.open.Symbol.symbol book.open.Kinds.ps book.open.Kinds.r book.open.Symbol.code;
      claim = λ κs. claims.opening;
      args = λ κs a. record { book = a.0.now };
      later = λ κs s. [];
    }

pub opening-proper : Proper opening
opening-proper =
    record {
      named = λ κs. refl;
      keeps = λ w. book.open.Met.met w.𝓤 w.𝓛 w.𝓜 w.𝓡;
      stated = λ κs a no c. opening-stated c;
      occurs = λ κs. inputs.opening;
      one = λ κs a r q ws vs x y. (unique.open-one r q x y, refl);
    }

abbrev pub entry : Row
entry =
    record {
      function = function_of book.entry.Symbol.symbol book.entry.Kinds.ps book.entry.Kinds.r book.entry.Symbol.code;
      claim = λ κs. claims.entry;
      args = λ κs a. record { book = a.0.now; number = a.1.0 };
      later = λ κs s. [];
    }

pub entry-proper : Proper entry
entry-proper =
    record {
      named = λ κs. refl;
      keeps = λ w. book.entry.Met.met w.𝓤 w.𝓛 w.𝓜 w.𝓡;
      stated = λ κs a no c. entry-stated c;
      occurs = λ κs. inputs.entry;
      one = λ κs a r q ws vs x y. (unique.entry-one r q x y, refl);
    }

abbrev pub frame : Row
frame =
    record {
      function = function_of book.frame.Symbol.symbol book.frame.Kinds.ps book.frame.Kinds.r book.frame.Symbol.code;
      claim = λ κs. claims.frame;
      args = λ κs a. record { book = a.0; number = a.1.0 };
      later = λ κs s. [];
    }

pub frame-proper : Proper frame
frame-proper =
    record {
      named = λ κs. refl;
      keeps = λ w. book.frame.Met.met w.𝓤 w.𝓛 w.𝓜 w.𝓡;
      stated = λ κs a no c. entry-stated c;
      occurs = λ κs. inputs.book-frame;
      one = λ κs a r q ws vs x y. (unique.frame-one r q x y, refl);
    }

pub line-stated : {sheet : Option Lookup} {s : List ℕ} {number room no : ℕ} → EntryLineCause sheet s number room no → OneOf no (8 ∷ 3 ∷ 4 ∷ [])
line-stated (EntryLineCause.no-book f) = here
line-stated (EntryLineCause.no-entry b h) = there here
line-stated (EntryLineCause.short l h) = there (there here)

abbrev pub line : Row
line =
    record {
      function = function_of book.line.Symbol.symbol book.line.Kinds.ps book.line.Kinds.r book.line.Symbol.code;
      claim = λ κs. claims.line;
      args = λ κs a. record { book = a.0.now; number = a.1.0; room = a.1.1.0.now };
      later = λ κs s. s.1.1.0.now;
    }

pub line-proper : Proper line
line-proper =
    record {
      named = λ κs. refl;
      keeps = keeps-as line.function book.line.Reads.Post (promise line) (λ κs a r ws p. fronted p)
          (λ w. book.line.Met.met w.𝓤 w.𝓛 w.𝓜 w.𝓡);
      stated = λ κs a no c. line-stated c;
      occurs = λ κs. inputs.entry-line-of;
      one = λ κs a r q ws vs x y. placed (λ (l : List ℕ). (tt, (tt, (l, tt))))
          (unique.line-one r q (unfronted x) (unfronted y));
    }

abbrev pub line-mapped : Row
line-mapped =
    record {
      function = function_of book.line_mapped.Symbol.symbol book.line_mapped.Kinds.ps book.line_mapped.Kinds.r book.line_mapped.Symbol.code;
      claim = λ κs. claims.line-mapped;
      args = λ κs a. record { book = a.0.now; number = a.1.0; map = a.1.1.0.now; room = a.1.1.1.0.now };
      later = λ κs s. s.1.1.1.0.now;
    }

pub line-mapped-proper : Proper line-mapped
line-mapped-proper =
    record {
      named = λ κs. refl;
      keeps = keeps-as line-mapped.function book.line_mapped.Reads.Post (promise line-mapped) (λ κs a r ws p. fronted p)
          (λ w. book.line_mapped.Met.met w.𝓤 w.𝓛 w.𝓜 w.𝓡);
      stated = λ κs a no c. line-stated c;
      occurs = λ κs. inputs.entry-line-mapped;
      one = λ κs a r q ws vs x y. placed (λ (l : List ℕ). (tt, (tt, (tt, (l, tt)))))
          (unique.line-one r q (unfronted x) (unfronted y));
    }

pub line-with-stated : {s : List ℕ} {number : ℕ} {text : List ℕ} {room no : ℕ} → EntryLineByTextCause s number text room no → OneOf no (8 ∷ 3 ∷ 10 ∷ 4 ∷ [])
line-with-stated (EntryLineByTextCause.no-book f) = here
line-with-stated (EntryLineByTextCause.no-entry b h) = there here
line-with-stated (EntryLineByTextCause.bad-sheet f) = there (there here)
line-with-stated (EntryLineByTextCause.short l h) = there (there (there here))

abbrev pub line-with : Row
line-with =
    record {
      function = function_of book.line_with.Symbol.symbol book.line_with.Kinds.ps book.line_with.Kinds.r book.line_with.Symbol.code;
      claim = λ κs. claims.line-with;
      args = λ κs a. record { book = a.0.now; number = a.1.0; text = a.1.1.0.now; room = a.1.1.1.0.now };
      later = λ κs s. s.1.1.1.0.now;
    }

pub line-with-proper : Proper line-with
line-with-proper =
    record {
      named = λ κs. refl;
      keeps = keeps-as line-with.function book.line_with.Reads.Post (promise line-with) (λ κs a r ws p. fronted p)
          (λ w. book.line_with.Met.met w.𝓤 w.𝓛 w.𝓜 w.𝓡);
      stated = λ κs a no c. line-with-stated c;
      occurs = λ κs. inputs.entry-line-with;
      one = λ κs a r q ws vs x y. placed (λ (l : List ℕ). (tt, (tt, (tt, (l, tt)))))
          (unique.line-with-one r q (unfronted x) (unfronted y));
    }

pub list-stated : {sheet : Option Lookup} {s : List ℕ} {room no : ℕ} → ListCause sheet s room no → OneOf no (8 ∷ 4 ∷ [])
list-stated (ListCause.no-book f) = here
list-stated (ListCause.short l h) = there here

abbrev pub list : Row
list =
    record {
      function = function_of book.list.Symbol.symbol book.list.Kinds.ps book.list.Kinds.r book.list.Symbol.code;
      claim = λ κs. claims.list;
      args = λ κs a. record { book = a.0.now; room = a.1.0.now };
      later = λ κs s. s.1.0.now;
    }

pub list-proper : Proper list
list-proper =
    record {
      named = λ κs. refl;
      keeps = keeps-as list.function book.list.Reads.Post (promise list) (λ κs a r ws p. fronted p)
          (λ w. book.list.Met.met w.𝓤 w.𝓛 w.𝓜 w.𝓡);
      stated = λ κs a no c. list-stated c;
      occurs = λ κs. inputs.list;
      one = λ κs a r q ws vs x y. placed (λ (l : List ℕ). (tt, (l, tt))) (unique.list-one r q (unfronted x) (unfronted y));
    }

abbrev pub list-mapped : Row
list-mapped =
    record {
      function = function_of book.list_mapped.Symbol.symbol book.list_mapped.Kinds.ps book.list_mapped.Kinds.r book.list_mapped.Symbol.code;
      claim = λ κs. claims.list-mapped;
      args = λ κs a. record { book = a.0.now; map = a.1.0.now; room = a.1.1.0.now };
      later = λ κs s. s.1.1.0.now;
    }

pub list-mapped-proper : Proper list-mapped
list-mapped-proper =
    record {
      named = λ κs. refl;
      keeps = keeps-as list-mapped.function book.list_mapped.Reads.Post (promise list-mapped) (λ κs a r ws p. fronted p)
          (λ w. book.list_mapped.Met.met w.𝓤 w.𝓛 w.𝓜 w.𝓡);
      stated = λ κs a no c. list-stated c;
      occurs = λ κs. inputs.list-mapped;
      one = λ κs a r q ws vs x y. placed (λ (l : List ℕ). (tt, (tt, (l, tt))))
          (unique.list-one r q (unfronted x) (unfronted y));
    }

pub list-with-stated : {s text : List ℕ} {room no : ℕ} → ListByTextCause s text room no → OneOf no (8 ∷ 10 ∷ 4 ∷ [])
list-with-stated (ListByTextCause.no-book f) = here
list-with-stated (ListByTextCause.bad-sheet f) = there here
list-with-stated (ListByTextCause.short l h) = there (there here)

abbrev pub list-with : Row
list-with =
    record {
      function = function_of book.list_with.Symbol.symbol book.list_with.Kinds.ps book.list_with.Kinds.r book.list_with.Symbol.code;
      claim = λ κs. claims.list-with;
      args = λ κs a. record { book = a.0.now; text = a.1.0.now; room = a.1.1.0.now };
      later = λ κs s. s.1.1.0.now;
    }

pub list-with-proper : Proper list-with
list-with-proper =
    record {
      named = λ κs. refl;
      keeps = keeps-as list-with.function book.list_with.Reads.Post (promise list-with) (λ κs a r ws p. fronted p)
          (λ w. book.list_with.Met.met w.𝓤 w.𝓛 w.𝓜 w.𝓡);
      stated = λ κs a no c. list-with-stated c;
      occurs = λ κs. inputs.list-with;
      one = λ κs a r q ws vs x y. placed (λ (l : List ℕ). (tt, (tt, (l, tt))))
          (unique.list-with-one r q (unfronted x) (unfronted y));
    }

pub add-stated : {s : List ℕ} {e : Entry} {room no : ℕ} → AddCause s e room no → OneOf no (8 ∷ 2 ∷ 5 ∷ 4 ∷ [])
add-stated (AddCause.no-book f) = here
add-stated (AddCause.no_kind e) = there here
add-stated (AddCause.no-frame f) = there (there here)
add-stated (AddCause.too_many b h) = there (there here)
add-stated (AddCause.too_long b h) = there (there here)
add-stated (AddCause.short a h) = there (there (there here))

abbrev pub add : Row
add =
    record {
      function = function_of book.add.Symbol.symbol book.add.Kinds.ps book.add.Kinds.r book.add.Symbol.code;
      claim = λ κs. claims.add;
      args = λ κs a. record { book = a.0.now; kind = a.1.0; frame = a.1.1.0.now; room = a.1.1.1.0.now };
      later = λ κs s. s.1.1.1.0.now;
    }

pub add-proper : Proper add
add-proper =
    record {
      named = λ κs. refl;
      keeps = keeps-as add.function book.add.Reads.Post (promise add) (λ κs a r ws p. fronted p)
          (λ w. book.add.Met.met w.𝓤 w.𝓛 w.𝓜 w.𝓡);
      stated = λ κs a no c. add-stated c;
      occurs = λ κs. inputs.add;
      one = λ κs a r q ws vs x y. placed (λ (l : List ℕ). (tt, (tt, (tt, (l, tt)))))
          (unique.add-one r q (unfronted x) (unfronted y));
    }

-- ---- all of them

abbrev pub rows : List Row
rows = opening ∷ entry ∷ frame ∷ line ∷ line-mapped ∷ line-with ∷ list ∷ list-mapped ∷ list-with ∷ add ∷ []

pub rows-proper : Every Proper rows
rows-proper =
    and opening-proper
    (and entry-proper
    (and frame-proper
    (and line-proper
    (and line-mapped-proper
    (and line-with-proper
    (and list-proper
    (and list-mapped-proper
    (and list-with-proper
    (and add-proper none)))))))))
