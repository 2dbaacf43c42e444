-- For each public function: two answers that meet its promise are the same answer, and the rooms afterwards are the same.
-- Assumes nothing.
use mathlib.Core.List.{List, [], ◌∷◌, ◌++◌}
use mathlib.Core.Option.{Option}
use mathlib.Core.Path.{◌≡◌, refl, sym, ap, ap₂, ◌∙◌, subst}
use Prim.Native.Nat.{ℕ, ◌+◌}
use denote.Ref.{Bor}
use lib.ListN.{length}
use Rattle.std.specs.Prelude.{Result, Ok, Err}
use Rattle.digits.specs.declared.refusal.Refusal.{Refusal}
use Rattle.digits.proofs.Laws.Handed.{one-part}
use Rattle.digits.proofs.Laws.Refusals.{same_answer, one_answer}
use Rattle.lines.proofs.Laws.ByText.{one-line-by-text}
use Rattle.lines.proofs.Theorems.{one_line}
use Rattle.puts.specs.Paper.Wrote.{Written}
use Rattle.puts.proofs.Laws.Right.{one-wrote}
use Rattle.sheet.specs.Paper.Sheet.{Lookup}
use Rattle.book.specs.Paper.Answers.{Counts, opened_refusal, opened_count, Opens, Location, EntryOf, located_refusal, located_value, LocatesEntry, location_ends, HandsFrame, Adds, WritesAdded}
use Rattle.book.specs.Paper.Answers.{EntryLine, WritesEntryLine, EntryLineByText, WritesEntryLineByText, WritesBookLines, WritesBookLinesByText}
use Rattle.book.specs.Paper.Book.{Entry, head, entry_bytes, book, EntryAt}
use Rattle.book.specs.declared.Located.{Located}
use Rattle.book.proofs.Laws.BookLines.{one-book-lines}
use Rattle.book.proofs.Laws.ByText.{the-line-by-text, one-lines-by-text}
use Rattle.book.proofs.Laws.EntryLines.{the-line}
use Rattle.book.proofs.Laws.One.{one-book, one-numbered}

-- ---- book::open

pub counts-one : {s : List ℕ} (m n : ℕ) → Counts s m → Counts s n → m ≡ n
counts-one m n a b = a.is ∙ ap (λ (es : List Entry). length es) (one-book a.valid b.valid) ∙ sym b.is

result-cases : {A : Type 0} (P : Result A Refusal → Type 0) → ((v : A) → P (Ok v)) → ((why : Refusal) → P (Err why)) → (r : Result A Refusal) → P r
result-cases P f g (Ok v) = f v
result-cases P f g (Err why) = g why

opened-answer : (r q : Result ℕ Refusal) → opened_refusal r ≡ opened_refusal q → opened_count r ≡ opened_count q → r ≡ q
opened-answer = same_answer Ok Err opened_refusal opened_count (λ n. refl) (λ why. refl) (λ n. refl) result-cases

pub open-one : {s : List ℕ} (r q : Result ℕ Refusal) → Opens s r → Opens s q → r ≡ q
open-one r q a b = let e = one_answer counts-one a b in opened-answer r q e.0 e.1

-- ---- book::entry

abbrev told : (kind offset from to : ℕ) → Location
told k o x y = record { kind = k; offset = o; from = x; to = y }

-- a number of a book has one entry, and all that is told is the entry's
pub told-one : {s : List ℕ} {number : ℕ} (u v : Location) → EntryOf s number u → EntryOf s number v → u ≡ v
told-one {s} {number} u v a b =
    let n : EntryAt b.all number a.entry u.offset = subst (λ (es : List Entry). EntryAt es number a.entry u.offset) (one-book a.valid b.valid) a.numbered in
    let q = one-numbered n b.numbered in
    let k : u.kind ≡ v.kind = a.kind-is ∙ ap (λ (e : Entry). e.kind) q.0 ∙ sym b.kind-is in
    let x : u.from ≡ v.from = a.from_is ∙ ap₂ (λ (o : ℕ) (e : Entry). o + length (head e)) q.1 q.0 ∙ sym b.from_is in
    let y : u.to ≡ v.to = a.to_is ∙ ap₂ (λ (o : ℕ) (e : Entry). o + length (entry_bytes e)) q.1 q.0 ∙ sym b.to_is in
    same u.kind v.kind u.offset v.offset u.from v.from u.to v.to k q.1 x y
  where
    same : (k k' o o' x x' y y' : ℕ) → k ≡ k' → o ≡ o' → x ≡ x' → y ≡ y' → told k o x y ≡ told k' o' x' y'
    same k k' o o' x x' y y' c p q r = rw (c, p, q, r)

located-answer : (r q : Result Located Refusal) → located_refusal r ≡ located_refusal q → located_value r ≡ located_value q → r ≡ q
located-answer = same_answer Ok Err located_refusal located_value (λ v. refl) (λ why. refl) (λ v. refl) result-cases

pub entry-one : {s : List ℕ} {number : ℕ} (r q : Result Located Refusal) → LocatesEntry s number r → LocatesEntry s number q → r ≡ q
entry-one r q a b = let e = one_answer told-one a b in located-answer r q e.0 e.1

-- ---- book::frame

pub frame-one : {s : Bor (List ℕ)} {number : ℕ} (p q : Bor (List ℕ)) → HandsFrame s number p → HandsFrame s number q → (p.ref_ptr ≡ q.ref_ptr) × (p.now ≡ q.now)
frame-one p q = one-part (λ d e x y. x.2 ∙ ap location_ends (told-one x.0 y.0 x.1 y.1) ∙ sym y.2)

-- ---- book::line, book::line_mapped

pub entry-line-one : {sheet : Option Lookup} {s : List ℕ} {number : ℕ} (t u : List ℕ) → EntryLine sheet s number t → EntryLine sheet s number u → t ≡ u
entry-line-one t u a b = one_line t u (the-line b.valid b.numbered a) b.line

pub line-one : {sheet : Option Lookup} {s : List ℕ} {number : ℕ} {room later end : List ℕ} (r q : Written) → WritesEntryLine sheet s number room r later
    → WritesEntryLine sheet s number room q end → (r ≡ q) × (later ≡ end)
line-one r q a b = one-wrote entry-line-one a b

-- ---- book::line_with

pub entry-line-by-text-one : {s : List ℕ} {number : ℕ} {text : List ℕ} (t u : List ℕ) → EntryLineByText s number text t → EntryLineByText s number text u → t ≡ u
entry-line-by-text-one t u a b =
    let l = b.line in
    one-line-by-text t u (the-line-by-text l.valid l.numbered a) (record { rows = b.rows; is = b.is; line = l.line })

pub line-with-one : {s : List ℕ} {number : ℕ} {text room later end : List ℕ} (r q : Written) → WritesEntryLineByText s number text room r later
    → WritesEntryLineByText s number text room q end → (r ≡ q) × (later ≡ end)
line-with-one r q a b = one-wrote entry-line-by-text-one a b

-- ---- book::list, book::list_mapped

pub list-one : {sheet : Option Lookup} {s room later end : List ℕ} (r q : Written) → WritesBookLines sheet s room r later → WritesBookLines sheet s room q end → (r ≡ q) × (later ≡ end)
list-one r q a b = one-wrote (λ t u x y. one-book-lines x y) a b

-- ---- book::list_with

pub list-with-one : {s text room later end : List ℕ} (r q : Written) → WritesBookLinesByText s text room r later → WritesBookLinesByText s text room q end
    → (r ≡ q) × (later ≡ end)
list-with-one r q a b = one-wrote one-lines-by-text a b

-- ---- book::add

pub adds_one : {s : List ℕ} {e : Entry} (x y : List ℕ) → Adds s e x → Adds s e y → x ≡ y
adds_one {e = e} x y a b = a.new.is ∙ ap (λ (es : List Entry). book (es ++ e ∷ [])) (one-book a.valid b.valid) ∙ sym b.new.is

pub add-one : {s : List ℕ} {e : Entry} {room later end : List ℕ} (r q : Written) → WritesAdded s e room r later → WritesAdded s e room q end → (r ≡ q) × (later ≡ end)
add-one r q a b = one-wrote adds_one a b
