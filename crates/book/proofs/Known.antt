-- 01, "Known points" (k): the empty book; and the book of the reset frame alone, "22 bytes, back distance 10". The bytes are computed from
-- the definitions. By `one-book` of Theorems each is the book of these entries alone.
-- Assumes nothing.
use mathlib.Core.List.{List, [], ◌∷◌}
use mathlib.Core.Path.{◌≡◌, refl}
use Prim.Native.Nat.{ℕ}
use lib.Dec.{lit≤}
use lib.ListN.{length}
use Rattle.digits.specs.Paper.LowFirst.{low_byte_first}
use Rattle.messages.proofs.Known as messages
use Rattle.messages.proofs.Laws.Decode.{is-frame}
use Rattle.book.specs.Paper.Book.{Entry, head, entry_bytes, entries, offsets, trailer, book, none, also, Book}

-- (k) "the empty book is `00 00 06 00 00 00`"
pub k : Book (0x00 ∷ 0x00 ∷ 0x06 ∷ 0x00 ∷ 0x00 ∷ 0x00 ∷ []) []
unfolding book entries trailer offsets low_byte_first
k = record { within = record { framed = none; few = lit≤ tt; small = lit≤ tt }; is = refl }

abbrev reset : Entry
reset = record { kind = 2; frame = 0xD5 ∷ 0xAA ∷ 0x96 ∷ 0xFF ∷ 0x00 ∷ 0x00 ∷ 0x00 ∷ 0xA3 ∷ 0x4B ∷ [] }

-- kind, length and frame; its offset; the count; the distance back
abbrev pub reset_book : List ℕ
reset_book =
    0x02 ∷ 0x09 ∷ 0x00 ∷ 0xD5 ∷ 0xAA ∷ 0x96 ∷ 0xFF ∷ 0x00 ∷ 0x00 ∷ 0x00 ∷ 0xA3 ∷ 0x4B
    ∷ 0x00 ∷ 0x00 ∷ 0x00 ∷ 0x00
    ∷ 0x01 ∷ 0x00
    ∷ 0x0A ∷ 0x00 ∷ 0x00 ∷ 0x00
    ∷ []

pub reset-alone : Book reset_book (reset ∷ [])
unfolding book entries trailer offsets entry_bytes head low_byte_first
reset-alone = record { within = record { framed = also (is-frame messages.c) none; few = lit≤ tt; small = lit≤ tt }; is = refl }

pub reset-size : length reset_book ≡ 22
reset-size = refl
