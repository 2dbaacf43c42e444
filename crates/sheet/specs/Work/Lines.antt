-- What the functions on lines say of their parts.
-- Assumes nothing.
use Rattle.std.specs.Prelude.{◌≡◌, Bool, cond, List, [], ◌∷◌, ◌++◌, ℕ, suc, ◌+◌, ◌≤◌, ◌<◌, eqb, length, drop}
use Rattle.std.specs.Prelude.{Option, Some, None, option_map, Result, Ok, Err}
use Rattle.digits.specs.Paper.Decimal.{decimal}
use Rattle.digits.specs.Paper.LowFirst.{Width}
use Rattle.digits.specs.Paper.Refusals.{First}
use Rattle.sheet.specs.Paper.Sheet.{Row, type_name, comma, LF, fields, sheet, InLimits, Rising, most_rows}
use Rattle.sheet.specs.Paper.Map.{type_number, type_byte}
use Rattle.sheet.specs.Paper.Fault.{count, line, first_field, second_field, third_field, Fails, tests, FirstFault}
use Rattle.sheet.specs.Paper.Answers.{test_number}
use Rattle.sheet.specs.Work.Carried.{Carried}
use Rattle.sheet.specs.declared.faults.Test.{Test}
use Rattle.sheet.specs.declared.faults.Fault.{Fault}
use Rattle.sheet.specs.declared.reader.Line.{Line}

-- ---- fields

-- the number below `most` whose digits s is, if there is one
pub data NumberBelow (most : ℕ) (s : List ℕ) : Option ℕ → Type 0 where
  is : {n : ℕ} → n < most → decimal n ≡ s → NumberBelow most s (Some n)
  none : ((n : ℕ) → n < most → decimal n ≡ s → ⊥) → NumberBelow most s None

-- the number of the type of that name, if there is one
pub data TypeNumbered (name : List ℕ) : Option ℕ → Type 0 where
  is : {w : ℕ} (signed : Bool) → Width w → type_name w signed ≡ name → TypeNumbered name (Some (type_number w signed))
  none : ((w : ℕ) (signed : Bool) → Width w → type_name w signed ≡ name → ⊥) → TypeNumbered name None

-- three fields that say a register and its type's byte; or the test that they fail
pub record FieldsSay (a b c : List ℕ) (register byte : ℕ) : Type 0 where
  pub row : Row
  pub limits : InLimits row
  pub first : decimal row.register ≡ a
  pub second : type_name row.is.width row.is.signed ≡ b
  pub third : decimal row.is.decimals ≡ c
  pub register-is : register ≡ row.register
  pub byte-is : byte ≡ type_byte row.is

pub data FieldsFail (a b c : List ℕ) : ℕ → Type 0 where
  no_register : ((n : ℕ) → n < 65536 → decimal n ≡ a → ⊥) → FieldsFail a b c 2
  no-type : {n : ℕ} → n < 65536 → decimal n ≡ a → ((w : ℕ) (signed : Bool) → Width w → type_name w signed ≡ b → ⊥)
      → FieldsFail a b c 3
  no-decimals : {n w : ℕ} → n < 65536 → decimal n ≡ a → (signed : Bool) → Width w → type_name w signed ≡ b
      → ((d : ℕ) → d < 4 → decimal d ≡ c → ⊥) → FieldsFail a b c 4

abbrev pub FieldsAre : (a b c : List ℕ) → Result (ℕ × ℕ) Test → Type 0
FieldsAre a b c (Ok r) = FieldsSay a b c r.0 r.1
FieldsAre a b c (Err t) = FieldsFail a b c (test_number t)

-- where the first line of s has its first comma, if it has one
unfoldable pub comma_at : List ℕ → Option ℕ
comma_at [] = None
comma_at (x ∷ s) = cond (eqb x comma) (Some 0) (cond (eqb x LF) None (option_map suc (comma_at s)))

-- a line of three fields, its size without its LF; or the test that it fails, that of its form first
pub record LineSays (l : List ℕ) (register byte size : ℕ) : Type 0 where
  pub form : count comma l ≡ 2
  pub fields : FieldsSay (first_field l) (second_field l) (third_field l) register byte
  pub size_is : size ≡ length l

pub data LineFails (l : List ℕ) : ℕ → Type 0 where
  no-form : (count comma l ≡ 2 → ⊥) → LineFails l 1
  has-form : {t : ℕ} → count comma l ≡ 2 → FieldsFail (first_field l) (second_field l) (third_field l) t → LineFails l t

abbrev pub FirstLine : List ℕ → Result Line Test → Type 0
FirstLine s (Ok l) = LineSays (line s) l.register l.byte l.length
FirstLine s (Err t) = LineFails (line s) (test_number t)

-- ---- the first line of s

-- it passes all tests, and so it is a row's
pub record Passes (least number : ℕ) (s : List ℕ) (register byte size : ℕ) : Type 0 where
  pub row : Row
  pub limits : InLimits row
  pub rising : least ≤ row.register
  pub few : number ≤ most_rows
  pub written : s ≡ fields row ++ LF ∷ drop size s
  pub size_is : size ≡ suc (length (fields row))
  pub register-is : register ≡ row.register
  pub byte-is : byte ≡ type_byte row.is

abbrev pub ReadsLine : (least number : ℕ) → List ℕ → Result Line Test → Type 0
ReadsLine least number s (Ok l) =
    First (Fails least number s) tests 0 × Passes least number s l.register l.byte l.length
ReadsLine least number s (Err t) = First (Fails least number s) tests (test_number t)

-- ---- the lines of s

-- s is what these rows write, the first being the line of that number
pub record RowsFrom (least number : ℕ) (s : List ℕ) (rows : List Row) : Type 0 where
  pub written : sheet rows ≡ s
  pub rising : Rising least rows
  pub few : number + length rows ≤ suc most_rows

-- the lines before those left have passed all tests
pub record Scanning (text left : List ℕ) (least number : ℕ) : Type 0 where
  pub some : 1 ≤ number
  pub few : number ≤ suc most_rows
  pub low : least ≤ 65536
  pub fault : (l test : ℕ) → FirstFault least number left l test → FirstFault 0 1 text l test
  pub rows : Carried (RowsFrom 0 1 text) (RowsFrom least number left) number

-- what a text comes to: a sheet's rows, or its first fault
pub record HasLines (text : List ℕ) (n : ℕ) : Type 0 where
  pub fault : FirstFault 0 1 text 0 0
  pub rows : List Row
  pub are : RowsFrom 0 1 text rows
  pub count : n ≡ length rows

pub record HasFault (text : List ℕ) (l test : ℕ) : Type 0 where
  pub fault : FirstFault 0 1 text l test
  pub no-sheet : (rows : List Row) → RowsFrom 0 1 text rows → ⊥

abbrev pub Scans : List ℕ → Result ℕ Fault → Type 0
Scans text (Ok n) = HasLines text n
Scans text (Err f) = HasFault text f.line (test_number f.test)
