-- What the definitions of commands come to, for a reader.
-- Assumes nothing.
use mathlib.Core.List.{List}
use mathlib.Core.Logic.{◌↔◌}
use mathlib.Core.Path.{◌≡◌}
use Prim.Native.Nat.{ℕ}
use lib.ListN.{length}
use Rattle.std.specs.Prelude.{Option, Some, None, Result}
use Rattle.digits.proofs.Laws.Refusals.{cause-of}
use Rattle.digits.specs.declared.refusal.Refusal.{Refusal}
use Rattle.jsontext.specs.Paper.Names.{InGrammar}
use Rattle.messages.specs.Paper.Message.{Message}
use Rattle.messages.specs.Paper.Table.{Good}
use Rattle.asked.specs.Paper.Line.{command_line}
use Rattle.puts.proofs.Laws.Right.{first_of}
use Rattle.puts.specs.Paper.Wrote.{written_refusal, Written}
use Rattle.asked.specs.Paper.Answers.{EncodesAsked, ReadsAsked, asked_refusal}
use Rattle.shapes.specs.Paper.Fields.{Field}
use Rattle.asked.specs.Paper.Lacks.{LackOf}
use Rattle.asked.specs.Paper.Means.{HeadOf, Fills, Means, state_row}
use Rattle.asked.specs.declared.Asked.{Asked}
use Rattle.asked.specs.declared.lacks.Lack.{Lack}
use Rattle.asked.specs.declared.lacks.Lack.TheVariants.{Text, Volts}
use Rattle.asked.proofs.Laws.Asked.{encode-causes, read-causes}
use Rattle.asked.proofs.Laws.LineMeans as lines
use Rattle.asked.proofs.Laws.OneMeaning as meaning
use Rattle.asked.proofs.Laws.Refused.{told_of, refused-11, refused-12, text-told, text-lacking, nothing-told, filled-told, volts-head}

-- A TEXT MEANS ONE MESSAGE AT MOST
pub one-meaning : (s : List ℕ) (m n : Message) → Means s m → Means s n → m ≡ n
one-meaning = meaning.one-meaning

-- "Reading a line of 01, with those members exchanged, gives its message": the line of each message of the table, with
-- `kind` in place of `at` and `len`, is in the grammar, has at most 8,192 bytes, and means that message and no other
pub line-means : (m : Message) → Good m → Means (command_line m) m
line-means = lines.line-means

pub line-only : (m n : Message) → Good m → Means (command_line m) n → n ≡ m
line-only = meaning.line-only

-- A TEXT LACKS NOTHING exactly if it fills a shape, whatever its limits; it lacks the grammar exactly if it is not in it;
-- and only a state can lack voltages that agree
pub lacks-nothing : (s : List ℕ) (l : Option Lack) → LackOf s l → (l ≡ None) ↔ ((r : ℕ) × (fs : List Field) × Fills s r fs)
lacks-nothing s l x = ((λ e. let (r, f) = nothing-told (told_of x) e in (r, f.fields, f.fills)), (λ (r, fs, f). filled-told (told_of x) (record { fields = fs; fills = f })))

pub lacks-grammar : (s : List ℕ) (l : Option Lack) → LackOf s l → (l ≡ Some Text) ↔ (InGrammar s → ⊥)
lacks-grammar s l x = (text-told (told_of x), text-lacking (told_of x))

pub lacks-volts : (s : List ℕ) → LackOf s (Some Volts) → HeadOf s state_row
lacks-volts s x = volts-head x

-- so `encode` and `read` refuse a text with 11 exactly if it lacks the grammar, and with 12 exactly if it lacks something
-- else
pub encode-11 : (s room : List ℕ) (r : Written) (later : List ℕ) (l : Option Lack) → EncodesAsked s room r later → LackOf s l
    → (written_refusal r ≡ 11) ↔ (l ≡ Some Text)
encode-11 s room r later l a x = refused-11 (encode-causes s (length room)) (first_of a) (told_of x)

pub encode-12 : (s room : List ℕ) (r : Written) (later : List ℕ) (l : Option Lack) → EncodesAsked s room r later → LackOf s l
    → (written_refusal r ≡ 12) ↔ ((l ≡ Some Text → ⊥) × (l ≡ None → ⊥))
encode-12 s room r later l a x = refused-12 (encode-causes s (length room)) (first_of a) (told_of x)

pub read-11 : (s room : List ℕ) (r : Result Asked Refusal) (later : List ℕ) (l : Option Lack) → ReadsAsked s room r later → LackOf s l
    → (asked_refusal r ≡ 11) ↔ (l ≡ Some Text)
read-11 s room r later l a x = refused-11 (read-causes s (length room)) (cause-of a) (told_of x)

pub read-12 : (s room : List ℕ) (r : Result Asked Refusal) (later : List ℕ) (l : Option Lack) → ReadsAsked s room r later → LackOf s l
    → (asked_refusal r ≡ 12) ↔ ((l ≡ Some Text → ⊥) × (l ≡ None → ⊥))
read-12 s room r later l a x = refused-12 (read-causes s (length room)) (cause-of a) (told_of x)
