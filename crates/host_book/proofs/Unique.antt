-- For `bolsterweft_book_open` and `bolsterweft_book_entry`: two answers that meet the promise are the same. (Of the others see
-- `right-written` of `host`.)
-- Assumes nothing.
use mathlib.Core.List.{List}
use mathlib.Core.Path.{◌≡◌, ap, ap₂}
use Prim.Native.Nat.{ℕ}
use Rattle.digits.specs.Paper.Refusals.{Answers}
use Rattle.digits.proofs.Laws.Refusals.{one_answer}
use Rattle.book.specs.Paper.Answers.{OpenCause, Counts, Location, zero_location, EntryCause, EntryOf}
use Rattle.book.proofs.Unique.{counts-one, told-one}
use Rattle.host.proofs.Unique.{same_length}
use Rattle.host_book.specs.Paper.Answers.{location_in}
use Rattle.host_book.specs.declared.Entries.{Entries}
use Rattle.host_book.specs.declared.Entry.{Entry}

abbrev entry_of : ℕ → ℕ → ℕ → ℕ → ℕ → Entry
entry_of i a m b n = record { refusal = i; kind = a; offset = m; frame_start = b; frame_length = n }

same-entry : (r q : Entry) → r.refusal ≡ q.refusal → location_in r ≡ location_in q → r ≡ q
same-entry r q e f =
    let start : r.frame_start ≡ q.frame_start = ap (λ (v : Location). v.from) f in
    go r.refusal q.refusal r.kind q.kind r.offset q.offset r.frame_start q.frame_start r.frame_length q.frame_length e
    (ap (λ (v : Location). v.kind) f) (ap (λ (v : Location). v.offset) f) start (same_length start (ap (λ (v : Location). v.to) f))
  where
    go : (i j a b m n c d k l : ℕ) → i ≡ j → a ≡ b → m ≡ n → c ≡ d → k ≡ l → entry_of i a m c k ≡ entry_of j b n d l
    go i j a b m n c d k l x y z u v = rw (x, y, z, u, v)

pub entries : {s : List ℕ} (r q : Entries) → Answers 0 (OpenCause s) (Counts s) r.refusal r.count → Answers 0 (OpenCause s) (Counts s) q.refusal q.count → r ≡ q
entries r q a b = let e = one_answer counts-one a b in ap₂ (λ (i n : ℕ). record { refusal = i; count = n }) e.0 e.1

pub entry : {s : List ℕ} {number : ℕ} (r q : Entry) → Answers zero_location (EntryCause s number) (EntryOf s number) r.refusal (location_in r)
    → Answers zero_location (EntryCause s number) (EntryOf s number) q.refusal (location_in q) → r ≡ q
entry r q a b = let e = one_answer told-one a b in same-entry r q e.0 e.1
