-- A kind that no byte holds is refused like kind 0 by the call that adds to a book, too.
-- Assumes nothing.
use mathlib.Core.List.{List}
use Prim.Native.Nat.{ℕ}
use lib.ListN.{length}
use Rattle.puts.specs.Paper.Right.{WroteRight}
use Rattle.book.specs.Paper.Answers.{AddCause, Adds}
use Rattle.book.specs.Paper.Book.{Entry}
use Rattle.host.specs.Paper.Kind.{KindByte}
use Rattle.host.proofs.Laws.Unknown.{wrote-alike}

pub add-alike : {j k no n : ℕ} {s f room later : List ℕ} → KindByte k j
    → WroteRight (AddCause s (record { kind = j; frame = f }) (length room)) (Adds s (record { kind = j; frame = f })) room no n later
    → WroteRight (AddCause s (record { kind = k; frame = f }) (length room)) (Adds s (record { kind = k; frame = f })) room no n later
add-alike {s = s} {f = f} {room = room} =
    wrote-alike (λ k. AddCause s (record { kind = k; frame = f }) (length room)) (λ k e. AddCause.no_kind e) (λ j k c. as-book c)
    (λ k. Adds s (record { kind = k; frame = f }))
  where
    as-book : {d e : Entry} → AddCause s d (length room) 8 → AddCause s e (length room) 8
    as-book (AddCause.no-book b) = AddCause.no-book b
