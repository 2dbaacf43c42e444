-- The members of a line as a table: for each message its name, the names of its members with how their values are
-- spelt, and the message that such values make. The laws show that the lines are those of document 01, so that a line
-- can be read back.
-- Assumes nothing.
use Rattle.std.specs.Prelude.{Bool, true, false, cond, ◌&&◌, List, [], ◌∷◌, ℕ, ◌+◌, ◌*◌, eqb, ℤ, pos, nat_abs, get_or}
use Rattle.std.proofs.Math.Option.{Option}
use Rattle.digits.specs.Paper.Ascii.{ascii}
use Rattle.layouts.specs.Paper.Made.{Wire}
use Rattle.messages.specs.Paper.Message.{Message, read, set, answer, press, tail, link, command, climate, state}
use Rattle.messages.specs.Paper.Message.{break, end, text, response, ask, reply, put, done, nibe, output, input}
use Rattle.messages.specs.Paper.Message.{shutter, beat, homiq}
use Rattle.messages.specs.Paper.Table.{v_in, v_op, v_bat}
use Rattle.json_values.specs.Paper.Json.{Member, ◌∶◌, number, hex, chars, truth, reading}
use Rattle.sheet.specs.Paper.Sheet.{RegisterType, Lookup}
use Rattle.lines.specs.Paper.Line.{high_byte_first}
use Rattle.lines.specs.Paper.WithSheet.{type_in, value_reading}

-- ---- columns

-- how a value is spelt
pub data Spelling : Type 0 where
  as_number : Spelling
  as_hex : Spelling
  as_chars : Spelling
  as_truth : Spelling
  as_reading : (decimals : ℕ) → Spelling
  -- a register's value of w bytes, by its type if the sheet says one
  as_value : (type : Option RegisterType) (w : ℕ) → Spelling

-- what is spelt so
abbrev pub Of : Spelling → Type 0
Of as_number = ℕ
Of as_hex = List ℕ
Of as_chars = List ℕ
Of as_truth = Bool
Of (as_reading d) = ℤ
Of (as_value type w) = ℕ

abbrev pub spelt : (k : Spelling) → Of k → List ℕ
spelt as_number n = number n
spelt as_hex s = hex s
spelt as_chars s = chars s
spelt as_truth b = truth b
spelt (as_reading d) z = reading z d
spelt (as_value type w) v = value_reading type w v

-- members' names, and how their values are spelt, which the values before may decide
pub data Columns : Type 0 where
  close : Columns
  column : (name : List ℕ) (k : Spelling) → (Of k → Columns) → Columns

-- a name and a spelling
pub record Column : Type 0 where
  pub name : List ℕ
  pub spelling : Spelling

infixl 70 ◌by◌
abbrev pub ◌by◌ : List ℕ → Spelling → Column
n by k = record { name = n; spelling = k }

-- a column that decides nothing
infixr 60 ◌and◌
abbrev pub ◌and◌ : Column → Columns → Columns
c and cs = column c.name c.spelling (λ x. cs)

abbrev pub Values : Columns → Type 0
Values close = Unit
Values (column n k cs) = (x : Of k) × Values (cs x)

abbrev pub members_of : (cs : Columns) → Values cs → List Member
members_of close v = []
members_of (column n k cs) v = n ∶ spelt k v.0 ∷ members_of (cs v.0) v.1

-- ---- forms

-- a message's name, its columns, and the message with such values
pub record Form : Type 0 where
  pub name : List ℕ
  pub columns : Columns
  pub message : Values columns → Message

-- the number whose bytes are these two, high byte first
abbrev pub of_high_byte_first : List ℕ → ℕ
of_high_byte_first s = get_or s 0 0 * 256 + get_or s 1 0

abbrev pub wire_columns : Columns
wire_columns =
    ascii "cmd" by as_chars
    and ascii "val" by as_chars
    and ascii "src" by as_chars
    and ascii "dst" by as_chars
    and ascii "id" by as_number
    and ascii "type" by as_chars and close

abbrev pub wire_values : Wire → Values wire_columns
wire_values w = (w.cmd, (w.val, (w.src, (w.dst, (w.id, (w.type ∷ [], tt))))))

abbrev pub wire_of : Values wire_columns → Wire
wire_of v =
    record {
      cmd = v.0;
      val = v.1.0;
      src = v.1.1.0;
      dst = v.1.1.1.0;
      id = v.1.1.1.1.0;
      type = get_or v.1.1.1.1.1.0 0 0;
    }

abbrev pub wire_form : List ℕ → (Wire → Message) → Form
wire_form n f = record { name = n; columns = wire_columns; message = λ v. f (wire_of v) }

abbrev pub valued_form : Option Lookup → List ℕ → (ℕ → ℕ → ℕ → Message) → Form
valued_form sheet n f =
    record {
      name = n;
      columns =
          column (ascii "reg") as_number
          (λ r. column (ascii "width") as_number (λ w. ascii "value" by as_value (type_in sheet r) w and close));
      message = λ v. f v.0 v.1.0 v.1.1.0;
    }

abbrev pub payload_form : List ℕ → (ℕ → List ℕ → Message) → Form
payload_form n f =
    record {
      name = n;
      columns = ascii "id" by as_number and ascii "data" by as_hex and close;
      message = λ v. f v.0 v.1.0;
    }

abbrev pub bare_form : List ℕ → Message → Form
bare_form n m = record { name = n; columns = close; message = λ v. m }

abbrev pub form_of : Option Lookup → Message → Form
form_of sheet (read g a) =
    record {
      name = ascii "read";
      columns = ascii "group" by as_number and ascii "addr" by as_hex and close;
      message = λ v. read v.0 (of_high_byte_first v.1.0);
    }
form_of sheet (set g a out) =
    record {
      name = ascii "set";
      columns = ascii "group" by as_number and ascii "addr" by as_hex and ascii "out" by as_hex and close;
      message = λ v. set v.0 (of_high_byte_first v.1.0) v.1.1.0;
    }
form_of sheet (answer a third out) =
    record {
      name = ascii "answer";
      columns = ascii "addr" by as_hex and ascii "third" by as_number and ascii "out" by as_hex and close;
      message = λ v. answer (of_high_byte_first v.0) v.1.0 v.1.1.0;
    }
form_of sheet (press d) =
    record {
      name = ascii "press";
      columns = ascii "addr" by as_chars and close;
      message = λ v. press v.0;
    }
form_of sheet tail = bare_form (ascii "tail") tail
form_of sheet (link p) =
    record {
      name = ascii "link";
      columns = ascii "data" by as_hex and close;
      message = λ v. link v.0;
    }
form_of sheet (command i p) = payload_form (ascii "command") command
form_of sheet (climate t h) =
    record {
      name = ascii "climate";
      columns = ascii "temp" by as_reading 2 and ascii "hum" by as_reading 1 and close;
      message = λ v. climate v.0 (nat_abs v.1.0);
    }
form_of sheet (state p) =
    record {
      name = ascii "state";
      columns = ascii "vin" by as_reading 2 and ascii "vop" by as_reading 3
          and ascii "vbat" by as_reading 3 and ascii "data" by as_hex and close;
      message = λ v. state v.1.1.1.0;
    }
form_of sheet break = bare_form (ascii "break") break
form_of sheet end = bare_form (ascii "end") end
form_of sheet (text i p) =
    record {
      name = ascii "text";
      columns = ascii "id" by as_number and ascii "text" by as_chars and close;
      message = λ v. text v.0 v.1.0;
    }
form_of sheet (response i p) = payload_form (ascii "response") response
form_of sheet (ask r) =
    record {
      name = ascii "ask";
      columns = ascii "reg" by as_number and close;
      message = λ v. ask v.0;
    }
form_of sheet (reply r w v) = valued_form sheet (ascii "reply") reply
form_of sheet (put r w v) = valued_form sheet (ascii "put") put
form_of sheet (done ok) =
    record {
      name = ascii "done";
      columns = ascii "ok" by as_truth and close;
      message = λ v. done v.0;
    }
form_of sheet (nibe c d) =
    record {
      name = ascii "nibe";
      columns = ascii "cmd" by as_number and ascii "data" by as_hex and close;
      message = λ v. nibe v.0 v.1.0;
    }
form_of sheet (output w) = wire_form (ascii "output") output
form_of sheet (input w) = wire_form (ascii "input") input
form_of sheet (shutter w) = wire_form (ascii "shutter") shutter
form_of sheet (beat w) = wire_form (ascii "beat") beat
form_of sheet (homiq w) = wire_form (ascii "homiq") homiq

-- a message's own
abbrev pub values : (sheet : Option Lookup) (m : Message) → Values (form_of sheet m).columns
values sheet (read g a) = (g, (high_byte_first a, tt))
values sheet (set g a out) = (g, (high_byte_first a, (out, tt)))
values sheet (answer a third out) = (high_byte_first a, (third, (out, tt)))
values sheet (press d) = (d, tt)
values sheet tail = tt
values sheet (link p) = (p, tt)
values sheet (command i p) = (i, (p, tt))
values sheet (climate t h) = (t, (pos h, tt))
values sheet (state p) = (pos (v_in p), (pos (v_op p), (pos (v_bat p), (p, tt))))
values sheet break = tt
values sheet end = tt
values sheet (text i p) = (i, (p, tt))
values sheet (response i p) = (i, (p, tt))
values sheet (ask r) = (r, tt)
values sheet (reply r w v) = (r, (w, (v, tt)))
values sheet (put r w v) = (r, (w, (v, tt)))
values sheet (done ok) = (ok, tt)
values sheet (nibe c d) = (c, (d, tt))
values sheet (output w) = wire_values w
values sheet (input w) = wire_values w
values sheet (shutter w) = wire_values w
values sheet (beat w) = wire_values w
values sheet (homiq w) = wire_values w

-- ---- a form by its name

unfoldable pub same_text : List ℕ → List ℕ → Bool
same_text [] [] = true
same_text [] (y ∷ t) = false
same_text (x ∷ s) [] = false
same_text (x ∷ s) (y ∷ t) = eqb x y && same_text s t

unfoldable pub form_in : Form → List Form → List ℕ → Form
form_in other [] n = other
form_in other (f ∷ fs) n = cond (same_text f.name n) f (form_in other fs n)

-- the form of each message, which is the same whatever its fields are
abbrev pub forms : Option Lookup → Wire → List Form
forms sheet w =
    form_of sheet (read 0 0)
    ∷ form_of sheet (set 0 0 [])
    ∷ form_of sheet (answer 0 0 [])
    ∷ form_of sheet (press [])
    ∷ form_of sheet tail
    ∷ form_of sheet (link [])
    ∷ form_of sheet (command 0 [])
    ∷ form_of sheet (climate (pos 0) 0)
    ∷ form_of sheet (state [])
    ∷ form_of sheet break
    ∷ form_of sheet end
    ∷ form_of sheet (text 0 [])
    ∷ form_of sheet (response 0 [])
    ∷ form_of sheet (ask 0)
    ∷ form_of sheet (reply 0 0 0)
    ∷ form_of sheet (put 0 0 0)
    ∷ form_of sheet (done false)
    ∷ form_of sheet (nibe 0 [])
    ∷ form_of sheet (output w)
    ∷ form_of sheet (input w)
    ∷ form_of sheet (shutter w)
    ∷ form_of sheet (beat w)
    ∷ form_of sheet (homiq w)
    ∷ []

abbrev pub empty_wire : Wire
empty_wire = record { cmd = []; val = []; src = []; dst = []; id = 0; type = 0 }

abbrev pub form_named : Option Lookup → List ℕ → Form
form_named sheet n = form_in (form_of sheet tail) (forms sheet empty_wire) n
