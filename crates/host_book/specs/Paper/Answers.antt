-- What the members of an answer say, in the words of the promises. An answer gives the start and the length of a
-- frame, and so its end. Its first member, the refusal number, is not spoken of here.
-- Assumes nothing.
use Rattle.std.specs.Prelude.{◌+◌}
use Rattle.book.specs.Paper.Answers.{Location}
use Rattle.host_book.specs.declared.Entry.{Entry}

abbrev pub location_in : Entry → Location
location_in r =
    record {
      kind = r.kind;
      offset = r.offset;
      from = r.frame_start;
      to = r.frame_start + r.frame_length;
    }
