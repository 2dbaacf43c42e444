-- What the writers of a line put, from the code's message and what stands beside it.
-- Assumes nothing.
use Rattle.std.specs.Prelude.{cond, List, [], ◌∷◌, ◌++◌, ℕ, ◌+◌, ◌-◌, ◌*◌, ◌≤◌, ◌<◌, ltb, pos, length, Ok, Err, Result}
use Rattle.std.proofs.Math.Option.{Option, none as without, some}
use Rattle.std.proofs.lemmas.List.Edits.{sets}
use Rattle.digits.specs.Paper.Ascii.{ascii}
use Rattle.digits.specs.declared.refusal.Refusal.{Refusal}
use Rattle.digits.specs.declared.refusal.Refusal.TheVariants.{NoRoom}
use Rattle.json_values.specs.Paper.Json.{Member, ◌∶◌, member, number, hex, chars, quoted, reading}
use Rattle.messages.specs.Paper.Homiq.{field_at}
use Rattle.messages.specs.Paper.Message.{Message, command, state, name}
use Rattle.messages.specs.Paper.Says.{of_nikobus, of_response, of_nibe}
use Rattle.messages.specs.declared.Message.{Message as Coded}
use Rattle.messages.specs.declared.Message.TheVariants.{Nikobus as OnNikobus, Command, Response as AsResponse}
use Rattle.messages.specs.declared.Message.TheVariants.{Nibe as OnNibe, Homiq as OnHomiq}
use Rattle.messages.specs.declared.homiq.Homiq.{Homiq}
use Rattle.messages.specs.declared.homiq.Homiq.TheVariants.{Output, Input, Shutter, Beat}
use Rattle.messages.specs.declared.homiq.Homiq.TheVariants as homiq_cases
use Rattle.messages.specs.declared.nest.Response.{Response}
use Rattle.messages.specs.declared.nest.Response.TheVariants.{Climate, State, Break, End, Text}
use Rattle.messages.specs.declared.nest.Response.TheVariants as response_cases
use Rattle.messages.specs.declared.nest.Volts.{Volts}
use Rattle.messages.specs.declared.nikobus.Nikobus.{Nikobus}
use Rattle.messages.specs.declared.nikobus.Nikobus.TheVariants.{Read, Set, Answer, Press, Tail, Link}
use Rattle.puts.specs.Paper.Put.{largest_place}
use Rattle.puts.specs.Paper.Wrote.{Written}
use Rattle.sheet.specs.Paper.Sheet.{Lookup}
use Rattle.lines.specs.Paper.Line.{members}
use Rattle.lines.specs.Paper.WithSheet.{members_with, further_members}

-- members, each behind a `,`
unfoldable pub commaed : List Member → List ℕ
commaed [] = []
commaed (m ∷ ms) = 44 ∷ (member m ++ commaed ms)

-- a line from its message's name to its last member
unfoldable pub named : Message → List ℕ
named m = name m ++ (34 ∷ commaed (members m))

-- the same by a sheet
unfoldable pub named_with : Option Lookup → Message → List ℕ
named_with sheet m = name m ++ (34 ∷ commaed (members_with sheet m ++ further_members sheet m))

-- what is put of each of the code's messages: a link's digits stand beside it as they are shown
unfoldable pub nikobus_name_and_members : Nikobus → List ℕ → List ℕ
nikobus_name_and_members (Read g a) s = named (of_nikobus (Read g a) [])
nikobus_name_and_members (Set g a out) s = named (of_nikobus (Set g a out) [])
nikobus_name_and_members (Answer a third out) s = named (of_nikobus (Answer a third out) [])
nikobus_name_and_members (Press d) s = named (of_nikobus (Press d) [])
nikobus_name_and_members Tail s = named (of_nikobus Tail [])
nikobus_name_and_members Link s = ascii "link\",\"data\":" ++ quoted s

-- the members of a state with these voltages; a payload that is too short has none
unfoldable pub volts_members : List ℕ → Result Volts Refusal → List ℕ
volts_members s (Ok v) =
    commaed
    (ascii "vin" ∶ reading (pos v.vin) 2
    ∷ ascii "vop" ∶ reading (pos v.vop) 3
    ∷ ascii "vbat" ∶ reading (pos v.vbat) 3
    ∷ ascii "data" ∶ hex s
    ∷ [])
volts_members s (Err why) = []

unfoldable pub state_members : List ℕ → List ℕ
state_members s = cond (ltb (length s) 16) [] (commaed (members (state s)))

unfoldable pub response_name_and_members : Response → List ℕ → List ℕ
response_name_and_members (Climate t h) s = named (of_response (Climate t h) s)
response_name_and_members State s = ascii "state\"" ++ state_members s
response_name_and_members Break s = named (of_response Break s)
response_name_and_members End s = named (of_response End s)
response_name_and_members (Text i) s = named (of_response (Text i) s)
response_name_and_members (response_cases.Other i) s = named (of_response (response_cases.Other i) s)

-- Homiq's fields are taken out of CMD to TYPE; its id stands there in digits
abbrev pub homiq_name : Homiq → List ℕ
homiq_name Output = ascii "output\""
homiq_name Input = ascii "input\""
homiq_name Shutter = ascii "shutter\""
homiq_name Beat = ascii "beat\""
homiq_name homiq_cases.Other = ascii "homiq\""

abbrev pub field_members : List ℕ → List Member
field_members s =
    ascii "cmd" ∶ chars (field_at 0 s)
    ∷ ascii "val" ∶ chars (field_at 1 s)
    ∷ ascii "src" ∶ chars (field_at 2 s)
    ∷ ascii "dst" ∶ chars (field_at 3 s)
    ∷ ascii "id" ∶ field_at 4 s
    ∷ ascii "type" ∶ chars (field_at 5 s)
    ∷ []

-- a sheet has a say in Nibe's alone
unfoldable pub name_and_members : Option Lookup → Coded → List ℕ → List ℕ
name_and_members sheet (OnNikobus e) s = nikobus_name_and_members e s
name_and_members sheet (Command i) s = named (command i s)
name_and_members sheet (AsResponse e) s = response_name_and_members e s
name_and_members sheet (OnNibe e) s = named_with sheet (of_nibe e s)
name_and_members sheet (OnHomiq e) s = homiq_name e ++ commaed (field_members s)

-- the whole line
unfoldable pub put : Option Lookup → Coded → List ℕ → ℕ → ℕ → List ℕ
put sheet e s at len =
    ascii "{\"at\":" ++ (number at ++ (ascii ",\"len\":" ++ (number len
    ++ (ascii ",\"msg\":\"" ++ (name_and_members sheet e s ++ ascii "}\n")))))

-- no line with n bytes beside its message is longer than this
abbrev pub a_byte : Option Lookup → ℕ
a_byte without = 8
a_byte (some look) = 26

abbrev pub most_beside : Option Lookup → ℕ → ℕ
most_beside sheet n = a_byte sheet * n + 352

-- a line is no longer than that, and a place can say where it ends
pub record Bounded (sheet : Option Lookup) (t : List ℕ) (beside : ℕ) : Type 0 where
  pub most : length t ≤ most_beside sheet beside
  pub short : length t ≤ largest_place

-- r is the right answer, and `later` the right room afterwards: all of bs is put at a place, or nothing if too little
-- is left behind it
pub data AllOrNone (bs room : List ℕ) (to : ℕ) : Written → List ℕ → Type 0 where
  all : length bs ≤ length room - to → AllOrNone bs room to (Ok (length bs)) (sets room to bs)
  none : length room - to < length bs → AllOrNone bs room to (Err NoRoom) room
