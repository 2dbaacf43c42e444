-- WHAT IS CLAIMED OF EVERY PUBLIC FUNCTION, in a file for each crate.
--
-- One claim in plain words, that of `lines::write` (Table/Lines). Its arguments are a kind, a frame, a place and a
-- room.
--   It refuses with 2 if the kind is not known, with 5 if the bytes are not one frame of that kind, and with 4 if the
--   room is too short. They are tested in this order.
--   A refused call answers 0 bytes, and the room is as it was.
--   Otherwise the frame's line, as document 01 spells it, stands at the front of the room. The rest of the room is as
--   it was, and the answer is the length of the line.
-- That the code does so for all arguments, and always ends, is proved in its row (proofs/Table/Lines).
--
-- What a new public function needs:
--   1. here, in the file of its crate: a record of its arguments, with the names of its parameters; and its claim;
--   2. in Functions: its name, and the numbers that it refuses with, in the order in which they are tested;
--   3. in proofs/Occur: for each of these numbers, arguments with its cause;
--   4. in proofs/Table, in the file of its crate: its row, the proof that the row is `Proper`, and both in the lists at
--      the end of the file.
-- tests/claimed.py reports what is missing.
pub mod Book
pub mod Builds
pub mod Checks
pub mod Commands
pub mod Asked
pub mod Digits
pub mod Frames
pub mod Host
pub mod Json
pub mod Jsontext
pub mod Layouts
pub mod Lines
pub mod List
pub mod Messages
pub mod Numbers
pub mod Puts
pub mod Shapes
pub mod Sheet
