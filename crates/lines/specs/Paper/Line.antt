-- 01, "JSON and the listing program": "A line is one object with LF, no spaces: `at`, `len`, `msg`, then by message".
-- Assumes nothing.
use Rattle.std.specs.Prelude.{List, [], ◌∷◌, ◌++◌, ℕ, ◌+◌, ◌*◌, ◌/◌, ◌%◌, pos}
use Rattle.digits.specs.Paper.Ascii.{ascii}
use Rattle.layouts.specs.Paper.Made.{Wire}
use Rattle.messages.specs.Paper.Message.{Message, read, set, answer, press, tail, link, command, climate, state}
use Rattle.messages.specs.Paper.Message.{break, end, text, response, ask, reply, put, done, nibe, output, input}
use Rattle.messages.specs.Paper.Message.{shutter, beat, homiq, name}
use Rattle.messages.specs.Paper.Table.{v_in, v_op, v_bat}
use Rattle.json_values.specs.Paper.Json.{Member, ◌∶◌, object, number, hex, chars, quoted, truth, reading}

-- "a Nikobus module address is shown high byte first"
abbrev pub high_byte_first : ℕ → List ℕ
high_byte_first a = a / 256 ∷ a % 256 ∷ []

-- kind 5 `cmd,val,src,dst,id,type`; "The Homiq id is a number"
abbrev pub wired : Wire → List Member
wired w =
    ascii "cmd" ∶ chars w.cmd
    ∷ ascii "val" ∶ chars w.val
    ∷ ascii "src" ∶ chars w.src
    ∷ ascii "dst" ∶ chars w.dst
    ∷ ascii "id" ∶ number w.id
    ∷ ascii "type" ∶ chars (w.type ∷ [])
    ∷ []

-- read `group,addr`; set `group,addr,out`; answer `addr,third,out`; press `addr`; tail, break, end none; link `data`;
-- command and response `id,data`; climate `temp,hum`; state `vin,vop,vbat,data`; text `id,text`; ask `reg`; reply and
-- put `reg,width,value`; done `ok`; nibe `cmd,data`. Temperature and Vin are in hundredths, humidity in tenths, Vop
-- and Vbat in thousandths; "value unsigned with 0 decimals"; "a press's six digits as they stand".
unfoldable pub members : Message → List Member
members (read g a) = ascii "group" ∶ number g ∷ ascii "addr" ∶ hex (high_byte_first a) ∷ []
members (set g a out) =
    ascii "group" ∶ number g ∷ ascii "addr" ∶ hex (high_byte_first a) ∷ ascii "out" ∶ hex out ∷ []
members (answer a third out) =
    ascii "addr" ∶ hex (high_byte_first a) ∷ ascii "third" ∶ number third ∷ ascii "out" ∶ hex out ∷ []
members (press d) = ascii "addr" ∶ chars d ∷ []
members tail = []
members (link p) = ascii "data" ∶ hex p ∷ []
members (command i p) = ascii "id" ∶ number i ∷ ascii "data" ∶ hex p ∷ []
members (climate t h) = ascii "temp" ∶ reading t 2 ∷ ascii "hum" ∶ reading (pos h) 1 ∷ []
members (state p) =
    ascii "vin" ∶ reading (pos (v_in p)) 2
    ∷ ascii "vop" ∶ reading (pos (v_op p)) 3
    ∷ ascii "vbat" ∶ reading (pos (v_bat p)) 3
    ∷ ascii "data" ∶ hex p
    ∷ []
members break = []
members end = []
members (text i p) = ascii "id" ∶ number i ∷ ascii "text" ∶ chars p ∷ []
members (response i p) = ascii "id" ∶ number i ∷ ascii "data" ∶ hex p ∷ []
members (ask r) = ascii "reg" ∶ number r ∷ []
members (reply r w v) =
    ascii "reg" ∶ number r ∷ ascii "width" ∶ number w ∷ ascii "value" ∶ reading (pos v) 0 ∷ []
members (put r w v) =
    ascii "reg" ∶ number r ∷ ascii "width" ∶ number w ∷ ascii "value" ∶ reading (pos v) 0 ∷ []
members (done ok) = ascii "ok" ∶ truth ok ∷ []
members (nibe c d) = ascii "cmd" ∶ number c ∷ ascii "data" ∶ hex d ∷ []
members (output w) = wired w
members (input w) = wired w
members (shutter w) = wired w
members (beat w) = wired w
members (homiq w) = wired w

-- the line of a message whose frame stands at `at` and is `len` bytes long
unfoldable pub line : ℕ → ℕ → Message → List ℕ
line at len m =
    object
    (ascii "at" ∶ number at
    ∷ ascii "len" ∶ number len
    ∷ ascii "msg" ∶ quoted (name m)
    ∷ members m)
    ++ ascii "\n"

-- ours: no line of a frame of n bytes is longer than this
abbrev pub line_room : ℕ → ℕ
line_room n = 8 * n + 96
