-- 02, K4: "An object with the members of a line of 01, `kind` in place of at and len, in any order, becomes that
-- message." Here for each row of 01's table: its kind, its msg, and its members with their sorts.
-- Assumes nothing.
use Rattle.std.specs.Prelude.{Bool, List, [], ◌∷◌, ◌≡◌, ℕ, T, ℤ, pos, length, get_or}
use Rattle.digits.specs.Paper.Ascii.{ascii}
use Rattle.layouts.specs.Paper.Chars.{all, is_hex}
use Rattle.layouts.specs.Paper.Made.{Wire}
use Rattle.lines.specs.Paper.Line.{high_byte_first}
use Rattle.messages.specs.Paper.Message.{Message, read, set, answer, press, tail, link, command, climate, state}
use Rattle.messages.specs.Paper.Message.{break, end, text, response, ask, reply, put, done, nibe, output, input}
use Rattle.messages.specs.Paper.Message.{shutter, beat, homiq}
use Rattle.messages.specs.Paper.Table.{v_in, v_op, v_bat}
use Rattle.shapes.specs.Paper.Fields.{Named, ◌∶◌, whole, hex, chars, truth, Field, plain, reading}

-- ---- sorts

-- a whole number; so many bytes in hex; so many hex digits as they stand; any number of bytes in hex; characters; true
-- or false; a reading with so many decimals
pub data Sort : Type 0 where
  number : Sort
  bytes : ℕ → Sort
  digits : ℕ → Sort
  content : Sort
  string : Sort
  bool : Sort
  measured : ℕ → Sort

pub data IsOf : Sort → Field → Type 0 where
  a-number : {z : ℤ} → IsOf number (plain (whole z))
  some_bytes : {n : ℕ} {p : List ℕ} → length p ≡ n → IsOf (bytes n) (plain (hex p))
  some-digits : {n : ℕ} {d : List ℕ} → length d ≡ n → T (all is_hex d) → IsOf (digits n) (plain (chars d))
  a-content : {p : List ℕ} → IsOf content (plain (hex p))
  a-string : {p : List ℕ} → IsOf string (plain (chars p))
  a-bool : {b : Bool} → IsOf bool (plain (truth b))
  a-reading : {z : ℤ} {d : ℕ} → IsOf (measured d) (reading z d)

-- ---- shapes

pub record Shape : Type 0 where
  pub kind : ℕ
  pub msg : List ℕ
  pub members : List (Named Sort)

-- read `group,addr`; set `group,addr,out`; answer `addr,third,out`; press `addr`; tail, break, end none; link `data`;
-- command and response `id,data`; climate `temp,hum`; state `vin,vop,vbat,data`; text `id,text`; ask `reg`; reply and
-- put `reg,width,value`; done `ok`; nibe `cmd,data`; kind 5 `cmd,val,src,dst,id,type`
abbrev pub wired : List (Named Sort)
wired =
    ascii "cmd" ∶ string ∷ ascii "val" ∶ string ∷ ascii "src" ∶ string ∷ ascii "dst" ∶ string ∷ ascii "id" ∶ number
    ∷ ascii "type" ∶ string ∷ []

abbrev pub valued : List (Named Sort)
valued = ascii "reg" ∶ number ∷ ascii "width" ∶ number ∷ ascii "value" ∶ measured 0 ∷ []

abbrev pub shaped : ℕ → List ℕ → List (Named Sort) → Shape
shaped k msg ms = record { kind = k; msg = msg; members = ms }

-- the shapes, a line for each row of the table. An address has two bytes; "a press's six digits as they stand"
abbrev pub shapes : List Shape
shapes =
    shaped 1 (ascii "read") (ascii "group" ∶ number ∷ ascii "addr" ∶ bytes 2 ∷ [])
    ∷ shaped 1 (ascii "set") (ascii "group" ∶ number ∷ ascii "addr" ∶ bytes 2 ∷ ascii "out" ∶ bytes 6 ∷ [])
    ∷ shaped 1 (ascii "answer") (ascii "addr" ∶ bytes 2 ∷ ascii "third" ∶ number ∷ ascii "out" ∶ bytes 6 ∷ [])
    ∷ shaped 1 (ascii "press") (ascii "addr" ∶ digits 6 ∷ [])
    ∷ shaped 1 (ascii "tail") []
    ∷ shaped 1 (ascii "link") (ascii "data" ∶ content ∷ [])
    ∷ shaped 2 (ascii "command") (ascii "id" ∶ number ∷ ascii "data" ∶ content ∷ [])
    ∷ shaped 3 (ascii "climate") (ascii "temp" ∶ measured 2 ∷ ascii "hum" ∶ measured 1 ∷ [])
    ∷ shaped 3 (ascii "state")
    (ascii "vin" ∶ measured 2 ∷ ascii "vop" ∶ measured 3 ∷ ascii "vbat" ∶ measured 3 ∷ ascii "data" ∶ content ∷ [])
    ∷ shaped 3 (ascii "break") []
    ∷ shaped 3 (ascii "end") []
    ∷ shaped 3 (ascii "text") (ascii "id" ∶ number ∷ ascii "text" ∶ string ∷ [])
    ∷ shaped 3 (ascii "response") (ascii "id" ∶ number ∷ ascii "data" ∶ content ∷ [])
    ∷ shaped 4 (ascii "ask") (ascii "reg" ∶ number ∷ [])
    ∷ shaped 4 (ascii "reply") valued
    ∷ shaped 4 (ascii "put") valued
    ∷ shaped 4 (ascii "done") (ascii "ok" ∶ bool ∷ [])
    ∷ shaped 4 (ascii "nibe") (ascii "cmd" ∶ number ∷ ascii "data" ∶ content ∷ [])
    ∷ shaped 5 (ascii "output") wired
    ∷ shaped 5 (ascii "input") wired
    ∷ shaped 5 (ascii "shutter") wired
    ∷ shaped 5 (ascii "beat") wired
    ∷ shaped 5 (ascii "homiq") wired
    ∷ []

-- the shape of a row, counted from 1
abbrev pub no_shape : Shape
no_shape = shaped 0 [] []

abbrev pub shape_at : ℕ → Shape
shape_at r = get_or (no_shape ∷ shapes) r no_shape

-- ---- a message's fields

abbrev pub number_field : ℕ → Field
number_field n = plain (whole (pos n))

abbrev pub wired_fields : Wire → List Field
wired_fields w =
    plain (chars w.cmd) ∷ plain (chars w.val) ∷ plain (chars w.src) ∷ plain (chars w.dst)
    ∷ number_field w.id ∷ plain (chars (w.type ∷ [])) ∷ []

-- the values of its members, in the order of its shape
unfoldable pub fields_of : Message → List Field
fields_of (read g a) = number_field g ∷ plain (hex (high_byte_first a)) ∷ []
fields_of (set g a out) = number_field g ∷ plain (hex (high_byte_first a)) ∷ plain (hex out) ∷ []
fields_of (answer a third out) = plain (hex (high_byte_first a)) ∷ number_field third ∷ plain (hex out) ∷ []
fields_of (press d) = plain (chars d) ∷ []
fields_of tail = []
fields_of (link p) = plain (hex p) ∷ []
fields_of (command i p) = number_field i ∷ plain (hex p) ∷ []
fields_of (climate t h) = reading t 2 ∷ reading (pos h) 1 ∷ []
fields_of (state p) =
    reading (pos (v_in p)) 2 ∷ reading (pos (v_op p)) 3 ∷ reading (pos (v_bat p)) 3 ∷ plain (hex p) ∷ []
fields_of break = []
fields_of end = []
fields_of (text i p) = number_field i ∷ plain (chars p) ∷ []
fields_of (response i p) = number_field i ∷ plain (hex p) ∷ []
fields_of (ask r) = number_field r ∷ []
fields_of (reply r w v) = number_field r ∷ number_field w ∷ reading (pos v) 0 ∷ []
fields_of (put r w v) = number_field r ∷ number_field w ∷ reading (pos v) 0 ∷ []
fields_of (done ok) = plain (truth ok) ∷ []
fields_of (nibe c d) = number_field c ∷ plain (hex d) ∷ []
fields_of (output w) = wired_fields w
fields_of (input w) = wired_fields w
fields_of (shutter w) = wired_fields w
fields_of (beat w) = wired_fields w
fields_of (homiq w) = wired_fields w
