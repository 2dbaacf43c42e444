-- The public functions of `host`, `host_lines`, `host_list`, `host_sheet`, `host_asked` and `host_book`: each keeps its claim.
-- Assumes nothing.
use mathlib.Core.List.{List, [], ◌∷◌}
use mathlib.Core.Path.{refl}
use Prim.Native.Nat.{ℕ}
use native.Mathlib.Omega.{arith}
use lib.IntN.{ℤ}
use Rattle.digits.proofs.Unique.{equation}
use Rattle.commands.proofs.Unique.{acknowledgement-one}
use Rattle.lines.proofs.Theorems.{one_line}
use Rattle.list.proofs.Laws.One.{one_none, one_map}
use Rattle.list.proofs.Theorems.{one-listing}
use Rattle.book.proofs.Theorems.{one-book-lines}
use Rattle.book.proofs.Unique.{entry-line-one, adds_one}
use Rattle.host.specs.Paper.Panel.{ClimateCause}
use Rattle.host.proofs as host
use Rattle.host_lines.proofs as host-lines
use Rattle.host_list.proofs as host-list
use Rattle.host_sheet.proofs as host-sheet
use Rattle.host_asked.proofs as host-asked
use Rattle.host_book.proofs as host-book
use Rattle.host.proofs.Unique as unique
use Rattle.host_lines.proofs.Unique as lines-unique
use Rattle.host_list.proofs.Unique as list-unique
use Rattle.host_sheet.proofs.Unique as sheet-unique
use Rattle.host_asked.proofs.Unique as asked-unique
use Rattle.host_book.proofs.Unique as book-unique
use Rattle.claims.specs.Paper.Claim.{OneOf, here, there}
use Rattle.claims.specs.Paper.Row.{Row, Proper, Every, none, and, promise}
use Rattle.claims.specs.Paper.Function.{function_of}
use Rattle.claims.specs.Paper.Table.Host as claims
use Rattle.claims.proofs.Laws.Forms.{fronted, unfronted, fronted-these, these-fronted, answers-read, reads-answered, read-stated, placed}
use Rattle.claims.proofs.Laws.Keeps.{keeps-as}
use Rattle.claims.proofs.Table.Book as book
use Rattle.claims.proofs.Table.Commands.{acknowledge-stated}
use Rattle.claims.proofs.Table.Frames.{search-stated, whole-stated, why-stated}
use Rattle.claims.proofs.Table.Lines as lines
use Rattle.claims.proofs.Table.List as list
use Rattle.claims.proofs.Table.Numbers.{text-stated, byte-values-write-stated, byte-values-read-stated, out_of_range}
use Rattle.claims.proofs.Table.Sheet.{map-stated}
use Rattle.claims.proofs.Occur as inputs
use Rattle.claims.proofs.Table.Asked as askeds

climate-stated : {t h : ℤ} {no : ℕ} → ClimateCause t h no → OneOf no (5 ∷ [])
climate-stated (ClimateCause.not-signed f) = OneOf.here
climate-stated (ClimateCause.not-unsigned f) = OneOf.here

abbrev pub refusal-number : Row
refusal-number =
    record {
      function = function_of host.answers.refusal_number.Symbol.symbol host.answers.refusal_number.Kinds.ps host.answers.refusal_number.Kinds.r host.answers.refusal_number.Symbol.code;
      claim = λ κs. claims.refusal-number;
      args = λ κs a. record { why = a.0 };
      later = λ κs s. [];
    }

pub refusal-number-proper : Proper refusal-number
refusal-number-proper =
    record {
      named = λ κs. refl;
      keeps = λ w. host.answers.refusal_number.Met.met w.𝓤 w.𝓛 w.𝓜 w.𝓡;
      stated = λ κs a no c. absurd c;
      occurs = λ κs. tt;
      one = λ κs a r q ws vs x y. (equation x y, refl);
    }

abbrev pub counted : Row
counted =
    record {
      function = function_of host.answers.counted.Symbol.symbol host.answers.counted.Kinds.ps host.answers.counted.Kinds.r host.answers.counted.Symbol.code;
      claim = λ κs. claims.counted;
      args = λ κs a. record { w = a.0 };
      later = λ κs s. [];
    }

pub counted-proper : Proper counted
counted-proper =
    record {
      named = λ κs. refl;
      keeps = λ w. host.answers.counted.Met.met w.𝓤 w.𝓛 w.𝓜 w.𝓡;
      stated = λ κs a no c. absurd c;
      occurs = λ κs. tt;
      one = λ κs a r q ws vs x y. (unique.counted a.0 r q x y, refl);
    }

abbrev pub kind-byte : Row
kind-byte =
    record {
      function = function_of host.answers.kind_byte.Symbol.symbol host.answers.kind_byte.Kinds.ps host.answers.kind_byte.Kinds.r host.answers.kind_byte.Symbol.code;
      claim = λ κs. claims.kind-byte;
      args = λ κs a. record { kind = a.0 };
      later = λ κs s. [];
    }

pub kind-byte-proper : Proper kind-byte
kind-byte-proper =
    record {
      named = λ κs. refl;
      keeps = λ w. host.answers.kind_byte.Met.met w.𝓤 w.𝓛 w.𝓜 w.𝓡;
      stated = λ κs a no c. absurd c;
      occurs = λ κs. tt;
      one = λ κs a r q ws vs x y. (unique.kind-byte x y, refl);
    }

abbrev pub version : Row
version =
    record {
      function = function_of host.bolsterweft_version.Symbol.symbol host.bolsterweft_version.Kinds.ps host.bolsterweft_version.Kinds.r
          host.bolsterweft_version.Symbol.code;
      claim = λ κs. claims.version;
      args = λ κs a. tt;
      later = λ κs s. [];
    }

pub version-proper : Proper version
version-proper =
    record {
      named = λ κs. refl;
      keeps = λ w. host.bolsterweft_version.Met.met w.𝓤 w.𝓛 w.𝓜 w.𝓡;
      stated = λ κs a no c. absurd c;
      occurs = λ κs. tt;
      one = λ κs a r q ws vs x y. (equation x y, refl);
    }

abbrev pub search : Row
search =
    record {
      function = function_of host.frame_calls.bolsterweft_search.Symbol.symbol host.frame_calls.bolsterweft_search.Kinds.ps host.frame_calls.bolsterweft_search.Kinds.r
          host.frame_calls.bolsterweft_search.Symbol.code;
      claim = λ κs. claims.search;
      args = λ κs a. record { kind = a.0; buffer = a.1.0.now; place = a.1.1.0 };
      later = λ κs s. [];
    }

pub search-proper : Proper search
search-proper =
    record {
      named = λ κs. refl;
      keeps = λ w. host.frame_calls.bolsterweft_search.Met.met w.𝓤 w.𝓛 w.𝓜 w.𝓡;
      stated = λ κs a no c. search-stated c;
      occurs = λ κs. inputs.host-search;
      one = λ κs a r q ws vs x y. (unique.search r q x y, refl);
    }

abbrev pub one-frame : Row
one-frame =
    record {
      function = function_of host.frame_calls.bolsterweft_one_frame.Symbol.symbol host.frame_calls.bolsterweft_one_frame.Kinds.ps host.frame_calls.bolsterweft_one_frame.Kinds.r
          host.frame_calls.bolsterweft_one_frame.Symbol.code;
      claim = λ κs. claims.one-frame;
      args = λ κs a. record { kind = a.0; frame = a.1.0.now };
      later = λ κs s. [];
    }

pub one-frame-proper : Proper one-frame
one-frame-proper =
    record {
      named = λ κs. refl;
      keeps = λ w. host.frame_calls.bolsterweft_one_frame.Met.met w.𝓤 w.𝓛 w.𝓜 w.𝓡;
      stated = λ κs a no c. whole-stated c;
      occurs = λ κs. inputs.host-one-frame;
      one = λ κs a r q ws vs x y. (unique.one-frame r q x y, refl);
    }

abbrev pub why : Row
why =
    record {
      function = function_of host.frame_calls.bolsterweft_why.Symbol.symbol host.frame_calls.bolsterweft_why.Kinds.ps host.frame_calls.bolsterweft_why.Kinds.r
          host.frame_calls.bolsterweft_why.Symbol.code;
      claim = λ κs. claims.why;
      args = λ κs a. record { kind = a.0; buffer = a.1.0.now; place = a.1.1.0 };
      later = λ κs s. [];
    }

pub why-proper : Proper why
why-proper =
    record {
      named = λ κs. refl;
      keeps = λ w. host.frame_calls.bolsterweft_why.Met.met w.𝓤 w.𝓛 w.𝓜 w.𝓡;
      stated = λ κs a no c. why-stated c;
      occurs = λ κs. inputs.host-why;
      one = λ κs a r q ws vs x y. (unique.why r q x y, refl);
    }

abbrev pub text-of : Row
text-of =
    record {
      function = function_of host.number_calls.bolsterweft_text.Symbol.symbol host.number_calls.bolsterweft_text.Kinds.ps host.number_calls.bolsterweft_text.Kinds.r
          host.number_calls.bolsterweft_text.Symbol.code;
      claim = λ κs. claims.text-of;
      args = λ κs a. record { raw = a.0; decimals = a.1.0; room = a.1.1.0.now };
      later = λ κs s. s.1.1.0.now;
    }

pub text-of-proper : Proper text-of
text-of-proper =
    record {
      named = λ κs. refl;
      keeps = keeps-as text-of.function host.number_calls.bolsterweft_text.Reads.Post (promise text-of)
          (λ κs a r ws p. fronted-these p)
          (λ w. host.number_calls.bolsterweft_text.Met.met w.𝓤 w.𝓛 w.𝓜 w.𝓡);
      stated = λ κs a no c. text-stated c;
      occurs = λ κs. inputs.host-text-of;
      one = λ κs a r q ws vs x y. placed (λ (l : List ℕ). (tt, (tt, (l, tt))))
          (unique.these-written r q (these-fronted x) (these-fronted y));
    }

abbrev pub number_of : Row
number_of =
    record {
      function = function_of host.number_calls.bolsterweft_number.Symbol.symbol host.number_calls.bolsterweft_number.Kinds.ps host.number_calls.bolsterweft_number.Kinds.r
          host.number_calls.bolsterweft_number.Symbol.code;
      claim = λ κs. claims.number_of;
      args = λ κs a. record { text = a.0.now };
      later = λ κs s. [];
    }

pub number-of-proper : Proper number_of
number-of-proper =
    record {
      named = λ κs. refl;
      keeps = keeps-as number_of.function host.number_calls.bolsterweft_number.Reads.Post (promise number_of)
          (λ κs a r ws p. answers-read refl (omega arith) p)
          (λ w. host.number_calls.bolsterweft_number.Met.met w.𝓤 w.𝓛 w.𝓜 w.𝓡);
      stated = λ κs a no c. read-stated c;
      occurs = λ κs. inputs.host-number-of;
      one = λ κs a r q ws vs x y. (unique.number_read r q (reads-answered x) (reads-answered y), refl);
    }

abbrev pub value : Row
value =
    record {
      function = function_of host.number_calls.bolsterweft_value.Symbol.symbol host.number_calls.bolsterweft_value.Kinds.ps host.number_calls.bolsterweft_value.Kinds.r
          host.number_calls.bolsterweft_value.Symbol.code;
      claim = λ κs. claims.value;
      args = λ κs a. record { raw = a.0; width = a.1.0; is_signed = a.1.1.0; room = a.1.1.1.0.now };
      later = λ κs s. s.1.1.1.0.now;
    }

pub value-proper : Proper value
value-proper =
    record {
      named = λ κs. refl;
      keeps = keeps-as value.function host.number_calls.bolsterweft_value.Reads.Post (promise value)
          (λ κs a r ws p. fronted-these p)
          (λ w. host.number_calls.bolsterweft_value.Met.met w.𝓤 w.𝓛 w.𝓜 w.𝓡);
      stated = λ κs a no c. byte-values-write-stated c;
      occurs = λ κs. inputs.host-value;
      one = λ κs a r q ws vs x y. placed (λ (l : List ℕ). (tt, (tt, (tt, (l, tt)))))
          (unique.these-written r q (these-fronted x) (these-fronted y));
    }

abbrev pub value_read : Row
value_read =
    record {
      function = function_of host.number_calls.bolsterweft_value_read.Symbol.symbol host.number_calls.bolsterweft_value_read.Kinds.ps host.number_calls.bolsterweft_value_read.Kinds.r
          host.number_calls.bolsterweft_value_read.Symbol.code;
      claim = λ κs. claims.value_read;
      args = λ κs a. record { bytes = a.0.now; width = a.1.0; is_signed = a.1.1.0 };
      later = λ κs s. [];
    }

pub value-read-proper : Proper value_read
value-read-proper =
    record {
      named = λ κs. refl;
      keeps = λ w. host.number_calls.bolsterweft_value_read.Met.met w.𝓤 w.𝓛 w.𝓜 w.𝓡;
      stated = λ κs a no c. byte-values-read-stated c;
      occurs = λ κs. inputs.host-value-read;
      one = λ κs a r q ws vs x y. (unique.value_read r q x y, refl);
    }

abbrev pub fits : Row
fits =
    record {
      function = function_of host.number_calls.bolsterweft_fits.Symbol.symbol host.number_calls.bolsterweft_fits.Kinds.ps host.number_calls.bolsterweft_fits.Kinds.r
          host.number_calls.bolsterweft_fits.Symbol.code;
      claim = λ κs. claims.fits;
      args = λ κs a. record { raw = a.0 };
      later = λ κs s. [];
    }

pub fits-proper : Proper fits
fits-proper =
    record {
      named = λ κs. refl;
      keeps = λ w. host.number_calls.bolsterweft_fits.Met.met w.𝓤 w.𝓛 w.𝓜 w.𝓡;
      stated = λ κs a no c. out_of_range c;
      occurs = λ κs. inputs.host-fits;
      one = λ κs a r q ws vs x y. (unique.fits r q x y, refl);
    }

abbrev pub panel : Row
panel =
    record {
      function = function_of host.number_calls.bolsterweft_panel.Symbol.symbol host.number_calls.bolsterweft_panel.Kinds.ps host.number_calls.bolsterweft_panel.Kinds.r
          host.number_calls.bolsterweft_panel.Symbol.code;
      claim = λ κs. claims.panel;
      args = λ κs a. record { raw = a.0 };
      later = λ κs s. [];
    }

pub panel-proper : Proper panel
panel-proper =
    record {
      named = λ κs. refl;
      keeps = λ w. host.number_calls.bolsterweft_panel.Met.met w.𝓤 w.𝓛 w.𝓜 w.𝓡;
      stated = λ κs a no c. out_of_range c;
      occurs = λ κs. inputs.host-panel;
      one = λ κs a r q ws vs x y. (unique.panel r q x y, refl);
    }

abbrev pub climate : Row
climate =
    record {
      function = function_of host.number_calls.bolsterweft_climate.Symbol.symbol host.number_calls.bolsterweft_climate.Kinds.ps host.number_calls.bolsterweft_climate.Kinds.r
          host.number_calls.bolsterweft_climate.Symbol.code;
      claim = λ κs. claims.climate;
      args = λ κs a. record { temperature = a.0; humidity = a.1.0 };
      later = λ κs s. [];
    }

pub climate-proper : Proper climate
climate-proper =
    record {
      named = λ κs. refl;
      keeps = λ w. host.number_calls.bolsterweft_climate.Met.met w.𝓤 w.𝓛 w.𝓜 w.𝓡;
      stated = λ κs a no c. climate-stated c;
      occurs = λ κs. inputs.host-climate;
      one = λ κs a r q ws vs x y. (unique.climate r q x y, refl);
    }

abbrev pub line : Row
line =
    record {
      function = function_of host-lines.bolsterweft_line.Symbol.symbol host-lines.bolsterweft_line.Kinds.ps host-lines.bolsterweft_line.Kinds.r
          host-lines.bolsterweft_line.Symbol.code;
      claim = λ κs. claims.line;
      args = λ κs a. record { kind = a.0; frame = a.1.0.now; at = a.1.1.0; room = a.1.1.1.0.now };
      later = λ κs s. s.1.1.1.0.now;
    }

pub line-proper : Proper line
line-proper =
    record {
      named = λ κs. refl;
      keeps = keeps-as line.function host-lines.bolsterweft_line.Reads.Post (promise line)
          (λ κs a r ws p. fronted p)
          (λ w. host-lines.bolsterweft_line.Met.met w.𝓤 w.𝓛 w.𝓜 w.𝓡);
      stated = λ κs a no c. lines.write-stated c;
      occurs = λ κs. inputs.host-line;
      one = λ κs a r q ws vs x y. placed (λ (l : List ℕ). (tt, (tt, (tt, (l, tt)))))
          (unique.right-written one_line r q (unfronted x) (unfronted y));
    }

abbrev pub line-with : Row
line-with =
    record {
      function = function_of host-sheet.bolsterweft_line_with.Symbol.symbol host-sheet.bolsterweft_line_with.Kinds.ps host-sheet.bolsterweft_line_with.Kinds.r
          host-sheet.bolsterweft_line_with.Symbol.code;
      claim = λ κs. claims.line-with;
      args = λ κs a. record { kind = a.0; frame = a.1.0.now; at = a.1.1.0; map = a.1.1.1.0.now; room = a.1.1.1.1.0.now };
      later = λ κs s. s.1.1.1.1.0.now;
    }

pub line-with-proper : Proper line-with
line-with-proper =
    record {
      named = λ κs. refl;
      keeps = keeps-as line-with.function host-sheet.bolsterweft_line_with.Reads.Post (promise line-with)
          (λ κs a r ws p. fronted p)
          (λ w. host-sheet.bolsterweft_line_with.Met.met w.𝓤 w.𝓛 w.𝓜 w.𝓡);
      stated = λ κs a no c. lines.write-stated c;
      occurs = λ κs. inputs.host-line-with;
      one = λ κs a r q ws vs x y. placed (λ (l : List ℕ). (tt, (tt, (tt, (tt, (l, tt))))))
          (unique.right-written one_line r q (unfronted x) (unfronted y));
    }

abbrev pub line-next : Row
line-next =
    record {
      function = function_of host-lines.bolsterweft_line_next.Symbol.symbol host-lines.bolsterweft_line_next.Kinds.ps host-lines.bolsterweft_line_next.Kinds.r
          host-lines.bolsterweft_line_next.Symbol.code;
      claim = λ κs. claims.line-next;
      args = λ κs a. record { kind = a.0; capture = a.1.0.now; place = a.1.1.0; room = a.1.1.1.0.now };
      later = λ κs s. s.1.1.1.0.now;
    }

pub line-next-proper : Proper line-next
line-next-proper =
    record {
      named = λ κs. refl;
      keeps = λ w. host-lines.bolsterweft_line_next.Met.met w.𝓤 w.𝓛 w.𝓜 w.𝓡;
      stated = λ κs a no c. lines.next-stated c;
      occurs = λ κs. inputs.host-line-next;
      one = λ κs a r q ws vs x y. placed (λ (l : List ℕ). (tt, (tt, (tt, (l, tt)))))
          (lines-unique.line-next r q x y);
    }

abbrev pub line-next-with : Row
line-next-with =
    record {
      function = function_of host-sheet.bolsterweft_line_next_with.Symbol.symbol host-sheet.bolsterweft_line_next_with.Kinds.ps host-sheet.bolsterweft_line_next_with.Kinds.r
          host-sheet.bolsterweft_line_next_with.Symbol.code;
      claim = λ κs. claims.line-next-with;
      args = λ κs a. record { kind = a.0; capture = a.1.0.now; place = a.1.1.0; map = a.1.1.1.0.now; room = a.1.1.1.1.0.now };
      later = λ κs s. s.1.1.1.1.0.now;
    }

pub line-next-with-proper : Proper line-next-with
line-next-with-proper =
    record {
      named = λ κs. refl;
      keeps = λ w. host-sheet.bolsterweft_line_next_with.Met.met w.𝓤 w.𝓛 w.𝓜 w.𝓡;
      stated = λ κs a no c. lines.next-stated c;
      occurs = λ κs. inputs.host-line-next-with;
      one = λ κs a r q ws vs x y. placed (λ (l : List ℕ). (tt, (tt, (tt, (tt, (l, tt))))))
          (lines-unique.line-next r q x y);
    }

abbrev pub next-mapped : Row
next-mapped =
    record {
      function = function_of host-lines.next_mapped.Symbol.symbol host-lines.next_mapped.Kinds.ps host-lines.next_mapped.Kinds.r
          host-lines.next_mapped.Symbol.code;
      claim = λ κs. claims.next-mapped;
      args = λ κs a. record { kind = a.0; capture = a.1.0.now; place = a.1.1.0; map = a.1.1.1.0.now; room = a.1.1.1.1.0.now };
      later = λ κs s. s.1.1.1.1.0.now;
    }

pub next-mapped-proper : Proper next-mapped
next-mapped-proper =
    record {
      named = λ κs. refl;
      keeps = λ w. host-lines.next_mapped.Met.met w.𝓤 w.𝓛 w.𝓜 w.𝓡;
      stated = λ κs a no c. lines.next-stated c;
      occurs = λ κs. inputs.host-next-mapped;
      one = λ κs a r q ws vs x y. placed (λ (l : List ℕ). (tt, (tt, (tt, (tt, (l, tt))))))
          (lines-unique.line-next r q x y);
    }

abbrev pub listing : Row
listing =
    record {
      function = function_of host-list.bolsterweft_list.Symbol.symbol host-list.bolsterweft_list.Kinds.ps host-list.bolsterweft_list.Kinds.r
          host-list.bolsterweft_list.Symbol.code;
      claim = λ κs. claims.listing;
      args = λ κs a. record { input = a.0.now; room = a.1.0.now };
      later = λ κs s. s.1.0.now;
    }

pub listing-proper : Proper listing
listing-proper =
    record {
      named = λ κs. refl;
      keeps = keeps-as listing.function host-list.bolsterweft_list.Reads.Post (promise listing)
          (λ κs a r ws p. fronted (list.right one_none p))
          (λ w. host-list.bolsterweft_list.Met.met w.𝓤 w.𝓛 w.𝓜 w.𝓡);
      stated = λ κs a no c. list.stated c;
      occurs = λ κs. inputs.host-listing;
      one = λ κs a r q ws vs x y. placed (λ (l : List ℕ). (tt, (l, tt)))
          (unique.right-written (λ s t. one-listing one_none) r q (unfronted x) (unfronted y));
    }

abbrev pub listing-with : Row
listing-with =
    record {
      function = function_of host-list.bolsterweft_list_with.Symbol.symbol host-list.bolsterweft_list_with.Kinds.ps host-list.bolsterweft_list_with.Kinds.r
          host-list.bolsterweft_list_with.Symbol.code;
      claim = λ κs. claims.listing-with;
      args = λ κs a. record { input = a.0.now; map = a.1.0.now; room = a.1.1.0.now };
      later = λ κs s. s.1.1.0.now;
    }

pub listing-with-proper : Proper listing-with
listing-with-proper =
    record {
      named = λ κs. refl;
      keeps = keeps-as listing-with.function host-list.bolsterweft_list_with.Reads.Post (promise listing-with)
          (λ κs a r ws p. fronted (list.right (one_map a.1.0.now) p))
          (λ w. host-list.bolsterweft_list_with.Met.met w.𝓤 w.𝓛 w.𝓜 w.𝓡);
      stated = λ κs a no c. list.stated c;
      occurs = λ κs. inputs.host-listing-with;
      one = λ κs a r q ws vs x y. placed (λ (l : List ℕ). (tt, (tt, (l, tt))))
          (unique.right-written (λ s t. one-listing (one_map a.1.0.now)) r q (unfronted x) (unfronted y));
    }

abbrev pub acknowledge : Row
acknowledge =
    record {
      function = function_of host-lines.bolsterweft_acknowledge.Symbol.symbol host-lines.bolsterweft_acknowledge.Kinds.ps host-lines.bolsterweft_acknowledge.Kinds.r
          host-lines.bolsterweft_acknowledge.Symbol.code;
      claim = λ κs. claims.acknowledge;
      args = λ κs a. record { frame = a.0.now; room = a.1.0.now };
      later = λ κs s. s.1.0.now;
    }

pub acknowledge-proper : Proper acknowledge
acknowledge-proper =
    record {
      named = λ κs. refl;
      keeps = keeps-as acknowledge.function host-lines.bolsterweft_acknowledge.Reads.Post (promise acknowledge)
          (λ κs a r ws p. fronted p)
          (λ w. host-lines.bolsterweft_acknowledge.Met.met w.𝓤 w.𝓛 w.𝓜 w.𝓡);
      stated = λ κs a no c. acknowledge-stated c;
      occurs = λ κs. inputs.host-acknowledge;
      one = λ κs a r q ws vs x y. placed (λ (l : List ℕ). (tt, (l, tt)))
          (unique.right-written acknowledgement-one r q (unfronted x) (unfronted y));
    }

abbrev pub encode : Row
encode =
    record {
      function = function_of host-asked.bolsterweft_encode.Symbol.symbol host-asked.bolsterweft_encode.Kinds.ps host-asked.bolsterweft_encode.Kinds.r
          host-asked.bolsterweft_encode.Symbol.code;
      claim = λ κs. claims.encode;
      args = λ κs a. record { text = a.0.now; room = a.1.0.now };
      later = λ κs s. s.1.0.now;
    }

pub encode-proper : Proper encode
encode-proper =
    record {
      named = λ κs. refl;
      keeps = keeps-as encode.function host-asked.bolsterweft_encode.Reads.Post (promise encode)
          (λ κs a r ws p. fronted p)
          (λ w. host-asked.bolsterweft_encode.Met.met w.𝓤 w.𝓛 w.𝓜 w.𝓡);
      stated = λ κs a no c. askeds.encode-stated c;
      occurs = λ κs. inputs.host-encode;
      one = λ κs a r q ws vs x y. placed (λ (l : List ℕ). (tt, (l, tt)))
          (asked-unique.encoded r q (unfronted x) (unfronted y));
    }

abbrev pub sheet-map : Row
sheet-map =
    record {
      function = function_of host-sheet.bolsterweft_sheet_map.Symbol.symbol host-sheet.bolsterweft_sheet_map.Kinds.ps host-sheet.bolsterweft_sheet_map.Kinds.r
          host-sheet.bolsterweft_sheet_map.Symbol.code;
      claim = λ κs. claims.sheet-map;
      args = λ κs a. record { text = a.0.now; map = a.1.0.now };
      later = λ κs s. s.1.0.now;
    }

pub sheet-map-proper : Proper sheet-map
sheet-map-proper =
    record {
      named = λ κs. refl;
      keeps = keeps-as sheet-map.function host-sheet.bolsterweft_sheet_map.Reads.Post (promise sheet-map)
          (λ κs a r ws p. fronted p)
          (λ w. host-sheet.bolsterweft_sheet_map.Met.met w.𝓤 w.𝓛 w.𝓜 w.𝓡);
      stated = λ κs a no c. map-stated c;
      occurs = λ κs. inputs.host-sheet-map;
      one = λ κs a r q ws vs x y. placed (λ (l : List ℕ). (tt, (l, tt)))
          (sheet-unique.mapped r q (unfronted x) (unfronted y));
    }

abbrev pub sheet-fault : Row
sheet-fault =
    record {
      function = function_of host-sheet.bolsterweft_sheet_fault.Symbol.symbol host-sheet.bolsterweft_sheet_fault.Kinds.ps host-sheet.bolsterweft_sheet_fault.Kinds.r
          host-sheet.bolsterweft_sheet_fault.Symbol.code;
      claim = λ κs. claims.sheet-fault;
      args = λ κs a. record { text = a.0.now };
      later = λ κs s. [];
    }

pub sheet-fault-proper : Proper sheet-fault
sheet-fault-proper =
    record {
      named = λ κs. refl;
      keeps = λ w. host-sheet.bolsterweft_sheet_fault.Met.met w.𝓤 w.𝓛 w.𝓜 w.𝓡;
      stated = λ κs a no c. absurd c;
      occurs = λ κs. tt;
      one = λ κs a r q ws vs x y. (sheet-unique.fault r q x y, refl);
    }

abbrev pub book-open : Row
book-open =
    record {
      function = function_of host-book.bolsterweft_book_open.Symbol.symbol host-book.bolsterweft_book_open.Kinds.ps host-book.bolsterweft_book_open.Kinds.r
          host-book.bolsterweft_book_open.Symbol.code;
      claim = λ κs. claims.book-open;
      args = λ κs a. record { book = a.0.now };
      later = λ κs s. [];
    }

pub book-open-proper : Proper book-open
book-open-proper =
    record {
      named = λ κs. refl;
      keeps = λ w. host-book.bolsterweft_book_open.Met.met w.𝓤 w.𝓛 w.𝓜 w.𝓡;
      stated = λ κs a no c. book.opening-stated c;
      occurs = λ κs. inputs.host-book-open;
      one = λ κs a r q ws vs x y. (book-unique.entries r q x y, refl);
    }

abbrev pub book-entry : Row
book-entry =
    record {
      function = function_of host-book.bolsterweft_book_entry.Symbol.symbol host-book.bolsterweft_book_entry.Kinds.ps host-book.bolsterweft_book_entry.Kinds.r
          host-book.bolsterweft_book_entry.Symbol.code;
      claim = λ κs. claims.book-entry;
      args = λ κs a. record { book = a.0.now; number = a.1.0 };
      later = λ κs s. [];
    }

pub book-entry-proper : Proper book-entry
book-entry-proper =
    record {
      named = λ κs. refl;
      keeps = λ w. host-book.bolsterweft_book_entry.Met.met w.𝓤 w.𝓛 w.𝓜 w.𝓡;
      stated = λ κs a no c. book.entry-stated c;
      occurs = λ κs. inputs.host-book-entry;
      one = λ κs a r q ws vs x y. (book-unique.entry r q x y, refl);
    }

abbrev pub book-line : Row
book-line =
    record {
      function = function_of host-book.bolsterweft_book_line.Symbol.symbol host-book.bolsterweft_book_line.Kinds.ps host-book.bolsterweft_book_line.Kinds.r
          host-book.bolsterweft_book_line.Symbol.code;
      claim = λ κs. claims.book-line;
      args = λ κs a. record { book = a.0.now; number = a.1.0; room = a.1.1.0.now };
      later = λ κs s. s.1.1.0.now;
    }

pub book-line-proper : Proper book-line
book-line-proper =
    record {
      named = λ κs. refl;
      keeps = keeps-as book-line.function host-book.bolsterweft_book_line.Reads.Post (promise book-line)
          (λ κs a r ws p. fronted p)
          (λ w. host-book.bolsterweft_book_line.Met.met w.𝓤 w.𝓛 w.𝓜 w.𝓡);
      stated = λ κs a no c. book.line-stated c;
      occurs = λ κs. inputs.host-book-line;
      one = λ κs a r q ws vs x y. placed (λ (l : List ℕ). (tt, (tt, (l, tt))))
          (unique.right-written entry-line-one r q (unfronted x) (unfronted y));
    }

abbrev pub book-line-with : Row
book-line-with =
    record {
      function = function_of host-book.bolsterweft_book_line_with.Symbol.symbol host-book.bolsterweft_book_line_with.Kinds.ps host-book.bolsterweft_book_line_with.Kinds.r
          host-book.bolsterweft_book_line_with.Symbol.code;
      claim = λ κs. claims.book-line-with;
      args = λ κs a. record { book = a.0.now; number = a.1.0; map = a.1.1.0.now; room = a.1.1.1.0.now };
      later = λ κs s. s.1.1.1.0.now;
    }

pub book-line-with-proper : Proper book-line-with
book-line-with-proper =
    record {
      named = λ κs. refl;
      keeps = keeps-as book-line-with.function host-book.bolsterweft_book_line_with.Reads.Post (promise book-line-with)
          (λ κs a r ws p. fronted p)
          (λ w. host-book.bolsterweft_book_line_with.Met.met w.𝓤 w.𝓛 w.𝓜 w.𝓡);
      stated = λ κs a no c. book.line-stated c;
      occurs = λ κs. inputs.host-book-line-with;
      one = λ κs a r q ws vs x y. placed (λ (l : List ℕ). (tt, (tt, (tt, (l, tt)))))
          (unique.right-written entry-line-one r q (unfronted x) (unfronted y));
    }

abbrev pub book-list : Row
book-list =
    record {
      function = function_of host-book.bolsterweft_book_list.Symbol.symbol host-book.bolsterweft_book_list.Kinds.ps host-book.bolsterweft_book_list.Kinds.r
          host-book.bolsterweft_book_list.Symbol.code;
      claim = λ κs. claims.book-list;
      args = λ κs a. record { book = a.0.now; room = a.1.0.now };
      later = λ κs s. s.1.0.now;
    }

pub book-list-proper : Proper book-list
book-list-proper =
    record {
      named = λ κs. refl;
      keeps = keeps-as book-list.function host-book.bolsterweft_book_list.Reads.Post (promise book-list)
          (λ κs a r ws p. fronted p)
          (λ w. host-book.bolsterweft_book_list.Met.met w.𝓤 w.𝓛 w.𝓜 w.𝓡);
      stated = λ κs a no c. book.list-stated c;
      occurs = λ κs. inputs.host-book-list;
      one = λ κs a r q ws vs x y. placed (λ (l : List ℕ). (tt, (l, tt)))
          (unique.right-written (λ s t. one-book-lines) r q (unfronted x) (unfronted y));
    }

abbrev pub book-list-with : Row
book-list-with =
    record {
      function = function_of host-book.bolsterweft_book_list_with.Symbol.symbol host-book.bolsterweft_book_list_with.Kinds.ps host-book.bolsterweft_book_list_with.Kinds.r
          host-book.bolsterweft_book_list_with.Symbol.code;
      claim = λ κs. claims.book-list-with;
      args = λ κs a. record { book = a.0.now; map = a.1.0.now; room = a.1.1.0.now };
      later = λ κs s. s.1.1.0.now;
    }

pub book-list-with-proper : Proper book-list-with
book-list-with-proper =
    record {
      named = λ κs. refl;
      keeps = keeps-as book-list-with.function host-book.bolsterweft_book_list_with.Reads.Post (promise book-list-with)
          (λ κs a r ws p. fronted p)
          (λ w. host-book.bolsterweft_book_list_with.Met.met w.𝓤 w.𝓛 w.𝓜 w.𝓡);
      stated = λ κs a no c. book.list-stated c;
      occurs = λ κs. inputs.host-book-list-with;
      one = λ κs a r q ws vs x y. placed (λ (l : List ℕ). (tt, (tt, (l, tt))))
          (unique.right-written (λ s t. one-book-lines) r q (unfronted x) (unfronted y));
    }

abbrev pub book-add : Row
book-add =
    record {
      function = function_of host-book.bolsterweft_book_add.Symbol.symbol host-book.bolsterweft_book_add.Kinds.ps host-book.bolsterweft_book_add.Kinds.r
          host-book.bolsterweft_book_add.Symbol.code;
      claim = λ κs. claims.book-add;
      args = λ κs a. record { book = a.0.now; kind = a.1.0; frame = a.1.1.0.now; room = a.1.1.1.0.now };
      later = λ κs s. s.1.1.1.0.now;
    }

pub book-add-proper : Proper book-add
book-add-proper =
    record {
      named = λ κs. refl;
      keeps = keeps-as book-add.function host-book.bolsterweft_book_add.Reads.Post (promise book-add)
          (λ κs a r ws p. fronted p)
          (λ w. host-book.bolsterweft_book_add.Met.met w.𝓤 w.𝓛 w.𝓜 w.𝓡);
      stated = λ κs a no c. book.add-stated c;
      occurs = λ κs. inputs.host-book-add;
      one = λ κs a r q ws vs x y. placed (λ (l : List ℕ). (tt, (tt, (tt, (l, tt)))))
          (unique.right-written adds_one r q (unfronted x) (unfronted y));
    }

-- ---- all of them

abbrev pub rows : List Row
rows =
    refusal-number
    ∷ counted
    ∷ kind-byte
    ∷ version
    ∷ search
    ∷ one-frame
    ∷ why
    ∷ text-of
    ∷ number_of
    ∷ value
    ∷ value_read
    ∷ fits
    ∷ panel
    ∷ climate
    ∷ line
    ∷ line-with
    ∷ line-next
    ∷ line-next-with
    ∷ next-mapped
    ∷ listing
    ∷ listing-with
    ∷ acknowledge
    ∷ encode
    ∷ sheet-map
    ∷ sheet-fault
    ∷ book-open
    ∷ book-entry
    ∷ book-line
    ∷ book-line-with
    ∷ book-list
    ∷ book-list-with
    ∷ book-add
    ∷ []

pub rows-proper : Every Proper rows
rows-proper =
    and refusal-number-proper
    (and counted-proper
    (and kind-byte-proper
    (and version-proper
    (and search-proper
    (and one-frame-proper
    (and why-proper
    (and text-of-proper
    (and number-of-proper
    (and value-proper
    (and value-read-proper
    (and fits-proper
    (and panel-proper
    (and climate-proper
    (and line-proper
    (and line-with-proper
    (and line-next-proper
    (and line-next-with-proper
    (and next-mapped-proper
    (and listing-proper
    (and listing-with-proper
    (and acknowledge-proper
    (and encode-proper
    (and sheet-map-proper
    (and sheet-fault-proper
    (and book-open-proper
    (and book-entry-proper
    (and book-line-proper
    (and book-line-with-proper
    (and book-list-proper
    (and book-list-with-proper
    (and book-add-proper none)))))))))))))))))))))))))))))))
