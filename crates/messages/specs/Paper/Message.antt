-- 01, "Search, messages, commands": the messages.
-- Assumes nothing.
use Rattle.std.specs.Prelude.{Bool, List, ℕ, ℤ}
use Rattle.digits.specs.Paper.Ascii.{ascii}
use Rattle.layouts.specs.Paper.Made.{Wire}

-- The messages of the table, in its order, with their fields. (`data` is a word of the language. What the listing
-- calls so is a `payload` or a `content` here.) Homiq's messages all have the six fields from CMD to TYPE.
pub data Message : Type 0 where
  read : (group address : ℕ) → Message
  set : (group address : ℕ) (out : List ℕ) → Message
  answer : (address third : ℕ) (out : List ℕ) → Message
  press : (digits : List ℕ) → Message
  tail : Message
  link : (payload : List ℕ) → Message
  command : (id : ℕ) (payload : List ℕ) → Message
  climate : (temperature : ℤ) (humidity : ℕ) → Message
  state : (payload : List ℕ) → Message
  break : Message
  end : Message
  text : (id : ℕ) (payload : List ℕ) → Message
  response : (id : ℕ) (payload : List ℕ) → Message
  ask : (register : ℕ) → Message
  reply : (register width value : ℕ) → Message
  put : (register width value : ℕ) → Message
  done : (ok : Bool) → Message
  nibe : (command : ℕ) (content : List ℕ) → Message
  output : (fields : Wire) → Message
  input : (fields : Wire) → Message
  shutter : (fields : Wire) → Message
  beat : (fields : Wire) → Message
  homiq : (fields : Wire) → Message

-- what the table calls them
abbrev pub name : Message → List ℕ
name (read group address) = ascii "read"
name (set group address out) = ascii "set"
name (answer address third out) = ascii "answer"
name (press digits) = ascii "press"
name tail = ascii "tail"
name (link payload) = ascii "link"
name (command id payload) = ascii "command"
name (climate temperature humidity) = ascii "climate"
name (state payload) = ascii "state"
name break = ascii "break"
name end = ascii "end"
name (text id payload) = ascii "text"
name (response id payload) = ascii "response"
name (ask register) = ascii "ask"
name (reply register width value) = ascii "reply"
name (put register width value) = ascii "put"
name (done ok) = ascii "done"
name (nibe c d) = ascii "nibe"
name (output fields) = ascii "output"
name (input fields) = ascii "input"
name (shutter fields) = ascii "shutter"
name (beat fields) = ascii "beat"
name (homiq fields) = ascii "homiq"

-- their rows in the table, counted from the top
abbrev pub row : Message → ℕ
row (read group address) = 1
row (set group address out) = 2
row (answer address third out) = 3
row (press digits) = 4
row tail = 5
row (link payload) = 6
row (command id payload) = 7
row (climate temperature humidity) = 8
row (state payload) = 9
row break = 10
row end = 11
row (text id payload) = 12
row (response id payload) = 13
row (ask register) = 14
row (reply register width value) = 15
row (put register width value) = 16
row (done ok) = 17
row (nibe c d) = 18
row (output fields) = 19
row (input fields) = 20
row (shutter fields) = 21
row (beat fields) = 22
row (homiq fields) = 23
