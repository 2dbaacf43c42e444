-- The public functions of `host`, `host_lines`, `host_list`, `host_sheet`, `host_asked` and `host_book`, which a
-- program in C calls.
-- Assumes nothing.
use Rattle.std.specs.Prelude.{not, List, [], ◌∷◌, ◌≡◌, ℕ, eqb, ℤ, pos, length}
use Rattle.std.proofs.Math.Option.{none}
use Rattle.digits.specs.Paper.Part.{zero_ends}
use Rattle.digits.specs.Paper.Refusals.{refusal_number}
use Rattle.digits.specs.declared.refusal.Refusal.{Refusal}
use Rattle.numbers.specs.Paper.Answers.{TextCause, zero_number, ValueCause, BytesCause, ValueIn, RangeCause}
use Rattle.numbers.specs.Paper.ByteValues.{value_bytes}
use Rattle.numbers.specs.Paper.Single.{fits_single}
use Rattle.numbers.specs.Paper.Text.{InLimits, text}
use Rattle.frames.specs.Paper.Search.{Leftmost, SearchCause, zero_hit}
use Rattle.frames.specs.Paper.OneFrame.{OneFrame, OneFrameCause}
use Rattle.frames.specs.Paper.Why.{WhyCause}
use Rattle.commands.specs.Paper.Acknowledge.{AcknowledgeCause, AcknowledgementOf}
use Rattle.commands.specs.Paper.Answers.{MessageCause, MeantBytes}
use Rattle.asked.specs.Paper.Answers.{AskedCause}
use Rattle.asked.specs.Paper.Means.{Means}
use Rattle.lines.specs.Paper.Answers.{LineCause, LineOf, NextCause, NextLine, zero_placed}
use Rattle.book.specs.Paper.Answers.{OpenCause, Counts, EntryCause, EntryOf, zero_location, EntryLineCause, EntryLine}
use Rattle.book.specs.Paper.Answers.{ListCause, BookLines, AddCause, Adds}
use Rattle.list.specs.Paper.Listing.{NoSheet, OfMap, Listing}
use Rattle.sheet.specs.Paper.Answers.{MapCause, IsMap}
use Rattle.sheet.specs.Paper.Map.{sheet_in}
use Rattle.puts.specs.Paper.Wrote.{written_refusal, written_count, Written}
use Rattle.host.specs.Paper.Answers.{hit_in, ends_in, number_in, flag}
use Rattle.host.specs.Paper.Kind.{KindByte}
use Rattle.host_lines.specs.Paper.Answers.{placed_in}
use Rattle.host_book.specs.Paper.Answers.{location_in}
use Rattle.host_sheet.specs.Paper.Answers.{ToldFault}
use Rattle.host.specs.Paper.Panel.{zero_shown, ShownOf, shown_in, zero_climate, ClimateCause, ClimateOf, climate_in}
use Rattle.host.specs.Paper.Version as host
use Rattle.host.specs.Paper.Why.{JudgementAt, judgement_in, zero_judgement}
use Rattle.host.specs.declared.answers.Climate.{Climate}
use Rattle.host.specs.declared.answers.Count.{Count}
use Rattle.host_book.specs.declared.Entries.{Entries}
use Rattle.host_book.specs.declared.Entry.{Entry}
use Rattle.host_sheet.specs.declared.Fault.{Fault}
use Rattle.host.specs.declared.answers.Fit.{Fit}
use Rattle.host.specs.declared.answers.Found.{Found}
use Rattle.host_lines.specs.declared.Listed.{Listed}
use Rattle.host.specs.declared.answers.PanelValue.{PanelValue}
use Rattle.host.specs.declared.answers.Payload.{Payload}
use Rattle.host.specs.declared.answers.Raw.{Raw}
use Rattle.host.specs.declared.answers.Reading.{Reading}
use Rattle.host.specs.declared.answers.Verdict.{Verdict}
use Rattle.claims.specs.Paper.Causes.{ListingCause}
use Rattle.claims.specs.Paper.Claim.{Form, Claim, answering, reading, refuses, writes, Fronted}

-- a writer from the front of a lent room
abbrev pub counts : {Args : Type 0} (room : Args → List ℕ) (Right : Args → List ℕ → Type 0)
    → Form Args Count
counts room Right =
    writes
    (record {
      refusal = λ (r : Count). r.refusal;
      value = λ (r : Count). r.length;
      zeros = 0;
      room = room;
      Right = λ a. Fronted (Right a) (room a);
    })

-- A refusal's number, as an answer has it.
pub record RefusalNumberArgs : Type 0 where
  pub why : Refusal

abbrev pub refusal-number : Claim ℕ
refusal-number =
    answering {Args = RefusalNumberArgs} "host::answers::refusal_number" (λ a r. r ≡ refusal_number a.why)

-- What was written, as an answer.
pub record CountedArgs : Type 0 where
  pub w : Written

abbrev pub counted : Claim Count
counted =
    answering {Args = CountedArgs} "host::answers::counted"
    (λ a r. (r.refusal ≡ written_refusal a.w) × (r.length ≡ written_count a.w))

-- The byte of a kind; 0 if no byte holds it.
pub record KindByteArgs : Type 0 where
  pub kind : ℕ

abbrev pub kind-byte : Claim ℕ
kind-byte = answering {Args = KindByteArgs} "host::answers::kind_byte" (λ a r. KindByte a.kind r)

-- The version of the library.
abbrev pub version : Claim ℕ
version = answering {Args = Unit {0}} "host::bolsterweft_version" (λ a r. r ≡ host.version)

-- The frame with the smallest start at or after the place.
pub record SearchArgs : Type 0 where
  pub kind : ℕ
  pub buffer : List ℕ
  pub place : ℕ

abbrev pub search : Claim Found
search =
    record {
      name = "host::frame_calls::bolsterweft_search";
      Args = SearchArgs;
      refusals = 2 ∷ 3 ∷ 1 ∷ [];
      Cause = λ a. SearchCause a.kind a.buffer a.place;
      form = refuses
          (record {
            refusal = λ (r : Found). r.refusal;
            value = hit_in;
            zeros = zero_hit;
            Right = λ a. Leftmost a.kind a.buffer a.place;
          });
    }

-- Whether bytes are one frame and no byte more.
pub record OneFrameArgs : Type 0 where
  pub kind : ℕ
  pub frame : List ℕ

abbrev pub one-frame : Claim Payload
one-frame =
    record {
      name = "host::frame_calls::bolsterweft_one_frame";
      Args = OneFrameArgs;
      refusals = 2 ∷ 5 ∷ [];
      Cause = λ a. OneFrameCause a.kind a.frame;
      form = refuses
          (record {
            refusal = λ (r : Payload). r.refusal;
            value = ends_in;
            zeros = zero_ends;
            Right = λ a. OneFrame a.kind a.frame;
          });
    }

-- The first test that a frame at the place fails.
pub record WhyArgs : Type 0 where
  pub kind : ℕ
  pub buffer : List ℕ
  pub place : ℕ

abbrev pub why : Claim Verdict
why =
    record {
      name = "host::frame_calls::bolsterweft_why";
      Args = WhyArgs;
      refusals = 2 ∷ 3 ∷ [];
      Cause = λ a. WhyCause a.kind a.buffer a.place;
      form = refuses
          (record {
            refusal = λ (r : Verdict). r.refusal;
            value = judgement_in;
            zeros = zero_judgement;
            Right = λ a. JudgementAt a.kind a.buffer a.place;
          });
    }

-- Writes the text of a raw number from the front of the room.
pub record TextOfArgs : Type 0 where
  pub raw : ℤ
  pub decimals : ℕ
  pub room : List ℕ

abbrev pub text-of : Claim Count
text-of =
    record {
      name = "host::number_calls::bolsterweft_text";
      Args = TextOfArgs;
      refusals = 7 ∷ 5 ∷ 4 ∷ [];
      Cause = λ a. TextCause a.raw a.decimals (length a.room);
      form = counts (λ a. a.room) (λ a bs. bs ≡ text a.raw a.decimals);
    }

-- The raw number whose text it is, with its decimals.
pub record NumberOfArgs : Type 0 where
  pub text : List ℕ

abbrev pub number_of : Claim Reading
number_of =
    reading {Args = NumberOfArgs} "host::number_calls::bolsterweft_number"
    (record {
      refuses-with = 7;
      refusal = λ (r : Reading). r.refusal;
      value = number_in;
      zeros = zero_number;
      Limits = λ a. InLimits;
      write = λ a n. text n.raw n.decimals;
      text = λ a. a.text;
    })

-- Writes a number as `width` bytes from the front of the room, signed unless `is_signed` is 0.
pub record ValueArgs : Type 0 where
  pub raw : ℤ
  pub width : ℕ
  pub is_signed : ℕ
  pub room : List ℕ

abbrev pub value : Claim Count
value =
    record {
      name = "host::number_calls::bolsterweft_value";
      Args = ValueArgs;
      refusals = 7 ∷ 5 ∷ 4 ∷ [];
      Cause = λ a. ValueCause a.width (not (eqb a.is_signed 0)) a.raw (length a.room);
      form = counts (λ a. a.room) (λ a bs. bs ≡ value_bytes a.width a.raw);
    }

-- The number that `width` bytes are.
pub record ValueReadArgs : Type 0 where
  pub bytes : List ℕ
  pub width : ℕ
  pub is_signed : ℕ

abbrev pub value_read : Claim Raw
value_read =
    record {
      name = "host::number_calls::bolsterweft_value_read";
      Args = ValueReadArgs;
      refusals = 7 ∷ 5 ∷ [];
      Cause = λ a. BytesCause a.width a.bytes;
      form = refuses
          (record {
            refusal = λ (r : Raw). r.refusal;
            value = λ (r : Raw). r.raw;
            zeros = pos 0;
            Right = λ a. ValueIn a.width (not (eqb a.is_signed 0)) a.bytes;
          });
    }

-- Whether a single float holds the raw number: 1 or 0.
pub record FitsArgs : Type 0 where
  pub raw : ℤ

abbrev pub fits : Claim Fit
fits =
    record {
      name = "host::number_calls::bolsterweft_fits";
      Args = FitsArgs;
      refusals = 5 ∷ [];
      Cause = λ a. RangeCause a.raw;
      form = refuses
          (record {
            refusal = λ (r : Fit). r.refusal;
            value = λ (r : Fit). r.fits;
            zeros = 0;
            Right = λ a n. n ≡ flag (fits_single a.raw);
          });
    }

-- The raw number for the panel.
pub record PanelArgs : Type 0 where
  pub raw : ℤ

abbrev pub panel : Claim PanelValue
panel =
    record {
      name = "host::number_calls::bolsterweft_panel";
      Args = PanelArgs;
      refusals = 5 ∷ [];
      Cause = λ a. RangeCause a.raw;
      form = refuses
          (record {
            refusal = λ (r : PanelValue). r.refusal;
            value = shown_in;
            zeros = zero_shown;
            Right = λ a. ShownOf a.raw;
          });
    }

-- A climate message's counts for the panel.
pub record ClimateArgs : Type 0 where
  pub temperature : ℤ
  pub humidity : ℕ

abbrev pub climate : Claim Climate
climate =
    record {
      name = "host::number_calls::bolsterweft_climate";
      Args = ClimateArgs;
      refusals = 5 ∷ [];
      Cause = λ a. ClimateCause a.temperature (pos a.humidity);
      form = refuses
          (record {
            refusal = λ (r : Climate). r.refusal;
            value = climate_in;
            zeros = zero_climate;
            Right = λ a. ClimateOf a.temperature (pos a.humidity);
          });
    }

-- Writes the line of one frame, which stands at a place of a capture, from the front of the room.
pub record LineArgs : Type 0 where
  pub kind : ℕ
  pub frame : List ℕ
  pub at : ℕ
  pub room : List ℕ

abbrev pub line : Claim Count
line =
    record {
      name = "host_lines::bolsterweft_line";
      Args = LineArgs;
      refusals = 2 ∷ 5 ∷ 4 ∷ [];
      Cause = λ a. LineCause none a.kind a.frame a.at (length a.room);
      form = counts (λ a. a.room) (λ a. LineOf none a.kind a.frame a.at);
    }

-- The same by a register map.
pub record LineWithArgs : Type 0 where
  pub kind : ℕ
  pub frame : List ℕ
  pub at : ℕ
  pub map : List ℕ
  pub room : List ℕ

abbrev pub line-with : Claim Count
line-with =
    record {
      name = "host_sheet::bolsterweft_line_with";
      Args = LineWithArgs;
      refusals = 2 ∷ 5 ∷ 4 ∷ [];
      Cause = λ a. LineCause (sheet_in a.map) a.kind a.frame a.at (length a.room);
      form = counts (λ a. a.room) (λ a. LineOf (sheet_in a.map) a.kind a.frame a.at);
    }

-- Writes the line of the frame with the smallest start at or after the place, from the front of the room.
pub record LineNextArgs : Type 0 where
  pub kind : ℕ
  pub capture : List ℕ
  pub place : ℕ
  pub room : List ℕ

abbrev pub line-next : Claim Listed
line-next =
    record {
      name = "host_lines::bolsterweft_line_next";
      Args = LineNextArgs;
      refusals = 2 ∷ 3 ∷ 4 ∷ 1 ∷ [];
      Cause = λ a. NextCause none a.kind a.capture a.place (length a.room);
      form = writes
          (record {
            refusal = λ (r : Listed). r.refusal;
            value = placed_in;
            zeros = zero_placed;
            room = λ a. a.room;
            Right = λ a. NextLine none a.kind a.capture a.place a.room 0;
          });
    }

-- The same by a register map.
pub record LineNextWithArgs : Type 0 where
  pub kind : ℕ
  pub capture : List ℕ
  pub place : ℕ
  pub map : List ℕ
  pub room : List ℕ

abbrev pub line-next-with : Claim Listed
line-next-with =
    record {
      name = "host_sheet::bolsterweft_line_next_with";
      Args = LineNextWithArgs;
      refusals = 2 ∷ 3 ∷ 4 ∷ 1 ∷ [];
      Cause = λ a. NextCause (sheet_in a.map) a.kind a.capture a.place (length a.room);
      form = writes
          (record {
            refusal = λ (r : Listed). r.refusal;
            value = placed_in;
            zeros = zero_placed;
            room = λ a. a.room;
            Right = λ a. NextLine (sheet_in a.map) a.kind a.capture a.place a.room 0;
          });
    }

-- The same, for another object of the archive.
abbrev pub next-mapped : Claim Listed
next-mapped =
    record {
      name = "host_lines::next_mapped";
      Args = LineNextWithArgs;
      refusals = 2 ∷ 3 ∷ 4 ∷ 1 ∷ [];
      Cause = λ a. NextCause (sheet_in a.map) a.kind a.capture a.place (length a.room);
      form = writes
          (record {
            refusal = λ (r : Listed). r.refusal;
            value = placed_in;
            zeros = zero_placed;
            room = λ a. a.room;
            Right = λ a. NextLine (sheet_in a.map) a.kind a.capture a.place a.room 0;
          });
    }

-- Writes the listing of an input from the front of the room.
pub record ListingArgs : Type 0 where
  pub input : List ℕ
  pub room : List ℕ

abbrev pub listing : Claim Count
listing =
    record {
      name = "host_list::bolsterweft_list";
      Args = ListingArgs;
      refusals = 4 ∷ [];
      Cause = λ a. ListingCause NoSheet a.input (length a.room);
      form = counts (λ a. a.room) (λ a. Listing NoSheet a.input);
    }

-- The same by a register map.
pub record ListingWithArgs : Type 0 where
  pub input : List ℕ
  pub map : List ℕ
  pub room : List ℕ

abbrev pub listing-with : Claim Count
listing-with =
    record {
      name = "host_list::bolsterweft_list_with";
      Args = ListingWithArgs;
      refusals = 4 ∷ [];
      Cause = λ a. ListingCause (OfMap a.map) a.input (length a.room);
      form = counts (λ a. a.room) (λ a. Listing (OfMap a.map) a.input);
    }

-- Writes the acknowledgement of a Homiq frame of type `s` from the front of the room.
pub record AcknowledgeArgs : Type 0 where
  pub frame : List ℕ
  pub room : List ℕ

abbrev pub acknowledge : Claim Count
acknowledge =
    record {
      name = "host_lines::bolsterweft_acknowledge";
      Args = AcknowledgeArgs;
      refusals = 5 ∷ 4 ∷ [];
      Cause = λ a. AcknowledgeCause a.frame (length a.room);
      form = counts (λ a. a.room) (λ a. AcknowledgementOf a.frame);
    }

-- Writes the frame of the message that a text of JSON means from the front of the room.
pub record EncodeArgs : Type 0 where
  pub text : List ℕ
  pub room : List ℕ

abbrev pub encode : Claim Count
encode =
    record {
      name = "host_asked::bolsterweft_encode";
      Args = EncodeArgs;
      refusals = 11 ∷ 12 ∷ 5 ∷ 6 ∷ 4 ∷ [];
      Cause = λ a. AskedCause a.text (MessageCause (Means a.text) (length a.room));
      form = counts (λ a. a.room) (λ a. MeantBytes (Means a.text));
    }

-- Reads a sheet into a map, one byte a register.
pub record SheetMapArgs : Type 0 where
  pub text : List ℕ
  pub map : List ℕ

abbrev pub sheet-map : Claim Count
sheet-map =
    record {
      name = "host_sheet::bolsterweft_sheet_map";
      Args = SheetMapArgs;
      refusals = 10 ∷ 4 ∷ [];
      Cause = λ a. MapCause a.text (length a.map);
      form = counts (λ a. a.map) (λ a. IsMap a.text);
    }

-- The first line of a sheet that is wrong, and the first test that it fails.
pub record SheetFaultArgs : Type 0 where
  pub text : List ℕ

abbrev pub sheet-fault : Claim Fault
sheet-fault =
    answering {Args = SheetFaultArgs} "host_sheet::bolsterweft_sheet_fault" (λ a r. ToldFault a.text r)

-- How many entries a book has.
pub record BookOpenArgs : Type 0 where
  pub book : List ℕ

abbrev pub book-open : Claim Entries
book-open =
    record {
      name = "host_book::bolsterweft_book_open";
      Args = BookOpenArgs;
      refusals = 8 ∷ [];
      Cause = λ a. OpenCause a.book;
      form = refuses
          (record {
            refusal = λ (r : Entries). r.refusal;
            value = λ (r : Entries). r.count;
            zeros = 0;
            Right = λ a. Counts a.book;
          });
    }

-- The entry of a number, counted from 0.
pub record BookEntryArgs : Type 0 where
  pub book : List ℕ
  pub number : ℕ

abbrev pub book-entry : Claim Entry
book-entry =
    record {
      name = "host_book::bolsterweft_book_entry";
      Args = BookEntryArgs;
      refusals = 8 ∷ 3 ∷ [];
      Cause = λ a. EntryCause a.book a.number;
      form = refuses
          (record {
            refusal = λ (r : Entry). r.refusal;
            value = location_in;
            zeros = zero_location;
            Right = λ a. EntryOf a.book a.number;
          });
    }

-- Writes that entry's line from the front of the room.
pub record BookLineArgs : Type 0 where
  pub book : List ℕ
  pub number : ℕ
  pub room : List ℕ

abbrev pub book-line : Claim Count
book-line =
    record {
      name = "host_book::bolsterweft_book_line";
      Args = BookLineArgs;
      refusals = 8 ∷ 3 ∷ 4 ∷ [];
      Cause = λ a. EntryLineCause none a.book a.number (length a.room);
      form = counts (λ a. a.room) (λ a. EntryLine none a.book a.number);
    }

-- The same by the sheet that a map is.
pub record BookLineWithArgs : Type 0 where
  pub book : List ℕ
  pub number : ℕ
  pub map : List ℕ
  pub room : List ℕ

abbrev pub book-line-with : Claim Count
book-line-with =
    record {
      name = "host_book::bolsterweft_book_line_with";
      Args = BookLineWithArgs;
      refusals = 8 ∷ 3 ∷ 4 ∷ [];
      Cause = λ a. EntryLineCause (sheet_in a.map) a.book a.number (length a.room);
      form = counts (λ a. a.room) (λ a. EntryLine (sheet_in a.map) a.book a.number);
    }

-- Writes the lines of all entries from the front of the room.
pub record BookListArgs : Type 0 where
  pub book : List ℕ
  pub room : List ℕ

abbrev pub book-list : Claim Count
book-list =
    record {
      name = "host_book::bolsterweft_book_list";
      Args = BookListArgs;
      refusals = 8 ∷ 4 ∷ [];
      Cause = λ a. ListCause none a.book (length a.room);
      form = counts (λ a. a.room) (λ a. BookLines none a.book);
    }

-- The same by the sheet that a map is.
pub record BookListWithArgs : Type 0 where
  pub book : List ℕ
  pub map : List ℕ
  pub room : List ℕ

abbrev pub book-list-with : Claim Count
book-list-with =
    record {
      name = "host_book::bolsterweft_book_list_with";
      Args = BookListWithArgs;
      refusals = 8 ∷ 4 ∷ [];
      Cause = λ a. ListCause (sheet_in a.map) a.book (length a.room);
      form = counts (λ a. a.room) (λ a. BookLines (sheet_in a.map) a.book);
    }

-- Writes the whole new book, with an entry more, from the front of the room.
pub record BookAddArgs : Type 0 where
  pub book : List ℕ
  pub kind : ℕ
  pub frame : List ℕ
  pub room : List ℕ

abbrev pub book-add : Claim Count
book-add =
    record {
      name = "host_book::bolsterweft_book_add";
      Args = BookAddArgs;
      refusals = 8 ∷ 2 ∷ 5 ∷ 4 ∷ [];
      Cause = λ a. AddCause a.book (record { kind = a.kind; frame = a.frame }) (length a.room);
      form = counts (λ a. a.room) (λ a. Adds a.book (record { kind = a.kind; frame = a.frame }));
    }
