-- What the code's message says, put as a line, is the line of the message.
-- Assumes nothing.
use Rattle.std.specs.Prelude.{Result, Ok, Err}
use mathlib.Core.Path.{◌≡◌, refl, sym, ap, ◌∙◌, subst}
use mathlib.Core.Bool.{Bool, true, false, cond}
use mathlib.Core.List.{List, [], ◌++◌, append-nil}
use mathlib.Core.Option.{Option}
use Prim.Native.Nat.{ℕ, ◌≤◌}
use lib.Dec.{ltb}
use lib.ListN.{length}
use borrow.Author.Tests.{ltb-true, ltb-false, le-ltb}
use Rattle.digits.specs.Paper.Ascii.{ascii}
use Rattle.digits.specs.Paper.Hex.{hex_bytes}
use Rattle.digits.specs.declared.refusal.Refusal.{Refusal}
use Rattle.digits.specs.declared.refusal.Refusal.TheVariants.{OutOfLimits}
use Rattle.json_values.specs.Paper.Json.{Member, number, hex}
use Rattle.layouts.specs.Paper.Made.{Wire, Payload}
use Rattle.messages.specs.Paper.Message.{Message, link, state}
use Rattle.messages.specs.Paper.Panel.{ReadsVolts}
use Rattle.messages.specs.Paper.Says.{of_nikobus, of_response, of_homiq, SaysNikobus, a-link, another, SaysHomiq, Says}
use Rattle.messages.specs.Paper.Table.{Limits, v_in, v_op, v_bat}
use Rattle.messages.specs.declared.Message.{Message as Coded}
use Rattle.messages.specs.declared.Message.TheVariants.{Nikobus as OnNikobus, Command, Response as AsResponse, Nibe as OnNibe, Homiq as OnHomiq}
use Rattle.messages.specs.declared.homiq.Homiq.{Homiq}
use Rattle.messages.specs.declared.homiq.Homiq.TheVariants.{Output, Input, Shutter, Beat}
use Rattle.messages.specs.declared.homiq.Homiq.TheVariants as homiq_cases
use Rattle.messages.specs.declared.nest.Response.{Response}
use Rattle.messages.specs.declared.nest.Response.TheVariants.{Climate, State, Break, End, Text}
use Rattle.messages.specs.declared.nest.Response.TheVariants as response_cases
use Rattle.messages.specs.declared.nest.Volts.{Volts}
use Rattle.messages.specs.declared.nikobus.Nikobus.{Nikobus}
use Rattle.messages.specs.declared.nikobus.Nikobus.TheVariants.{Read, Set, Answer, Press, Tail, Link}
use Rattle.messages.proofs.Laws.Responses.{volts-refused, volts-read}
use Rattle.messages.proofs.Unique.{voltages}
use Rattle.messages.proofs.Laws.HomiqFields.{payload-cmd, payload-val, payload-src, payload-dst, payload-id, payload-type}
use Rattle.sheet.specs.Paper.Sheet.{Lookup}
use Rattle.lines.specs.Paper.Line.{members, wired}
use Rattle.lines.specs.Paper.WithSheet.{nothing, share, line_with}
use Rattle.lines.specs.Work.Put.{commaed, named, nikobus_name_and_members, volts_members, state_members, response_name_and_members, homiq_name, field_members, name_and_members, named_with, put}
use Rattle.lines.proofs.Laws.Put.{line-named, named-unshared}

-- ---- Nikobus

link-rest : (p : List ℕ) → nikobus_name_and_members Link (hex_bytes p) ≡ named (link p)
unfolding nikobus_name_and_members named members commaed
link-rest p = ap (λ (x : List ℕ). ascii "link\",\"data\":" ++ x) (sym (append-nil (hex p)))

fixed-rest : (e : Nikobus) (s : List ℕ) → (e ≡ Link → ⊥) → nikobus_name_and_members e s ≡ named (of_nikobus e [])
unfolding nikobus_name_and_members
fixed-rest (Read g a) s n = refl
fixed-rest (Set g a out) s n = refl
fixed-rest (Answer a third out) s n = refl
fixed-rest (Press d) s n = refl
fixed-rest Tail s n = refl
fixed-rest Link s n = absurd (n refl)

nikobus-said : (e : Nikobus) (s : List ℕ) (m : Message) → SaysNikobus e s m → nikobus_name_and_members e s ≡ named m
nikobus-said e s m (a-link f a) =
    ap (λ (x : Nikobus). nikobus_name_and_members x s) f ∙ ap (nikobus_name_and_members Link) a.digits ∙ link-rest a.payload ∙ ap named (sym a.is)
nikobus-said e s m (another n g) = fixed-rest e s n ∙ ap named (sym g)

-- ---- Nest

-- a state's members, from the voltages that are read from its payload
pub state-members : (s : List ℕ) (r : Result Volts Refusal) → ReadsVolts s r → volts_members s r ≡ state_members s
unfolding state_members volts_members members
state-members s r v = go (ltb (length s) 16) refl
  where
    go : (b : Bool) → ltb (length s) 16 ≡ b → volts_members s r ≡ cond b [] (commaed (members (state s)))
    go true e = ap (volts_members s) (voltages s r (Err OutOfLimits) v (volts-refused (ltb-true (length s) 16 e)))
    go false e = ap (volts_members s) (voltages s r (Ok (record { vin = v_in s; vop = v_op s; vbat = v_bat s })) v (volts-read (ltb-false (length s) 16 e) refl refl refl))

state-rest : (s : List ℕ) → 16 ≤ length s → response_name_and_members State s ≡ named (state s)
unfolding response_name_and_members state_members named
state-rest s h = ap (λ (b : Bool). ascii "state\"" ++ cond b [] (commaed (members (state s)))) (le-ltb (length s) 16 h)

response-rest : (e : Response) (s : List ℕ) → Limits (of_response e s) → response_name_and_members e s ≡ named (of_response e s)
unfolding response_name_and_members
response-rest (Climate t h) s l = refl
response-rest State s l = state-rest s l.enough
response-rest Break s l = refl
response-rest End s l = refl
response-rest (Text i) s l = refl
response-rest (response_cases.Other i) s l = refl

-- ---- Homiq

fields-wired : {s : List ℕ} {w : Wire} → Payload s w → field_members s ≡ wired w
fields-wired p = rw (payload-cmd p, payload-val p, payload-src p, payload-dst p, payload-id p, payload-type p) refl

wire-rest : (e : Homiq) (w : Wire) → homiq_name e ++ commaed (wired w) ≡ named (of_homiq e w)
unfolding named members
wire-rest Output w = refl
wire-rest Input w = refl
wire-rest Shutter w = refl
wire-rest Beat w = refl
wire-rest homiq_cases.Other w = refl

homiq-said : (e : Homiq) (s : List ℕ) (m : Message) → SaysHomiq e s m → homiq_name e ++ commaed (field_members s) ≡ named m
homiq-said e s m x = ap (λ (ms : List Member). homiq_name e ++ commaed ms) (fields-wired x.payload) ∙ wire-rest e x.wire ∙ ap named (sym x.is)

-- ---- a sheet has no say in them

nikobus-share : (e : Nikobus) (s : List ℕ) (m : Message) → SaysNikobus e s m → share m ≡ nothing
nikobus-share e s m (a-link f a) = ap share a.is
nikobus-share e s m (another n g) = ap share g ∙ go e
  where
    go : (e : Nikobus) → share (of_nikobus e []) ≡ nothing
    go (Read g a) = refl
    go (Set g a out) = refl
    go (Answer a third out) = refl
    go (Press d) = refl
    go Tail = refl
    go Link = refl

response-share : (e : Response) (s : List ℕ) → share (of_response e s) ≡ nothing
response-share (Climate t h) s = refl
response-share State s = refl
response-share Break s = refl
response-share End s = refl
response-share (Text i) s = refl
response-share (response_cases.Other i) s = refl

homiq-share : (e : Homiq) (w : Wire) → share (of_homiq e w) ≡ nothing
homiq-share Output w = refl
homiq-share Input w = refl
homiq-share Shutter w = refl
homiq-share Beat w = refl
homiq-share homiq_cases.Other w = refl

-- ---- the line

module _ (sheet : Option Lookup) where
  rest-said : (e : Coded) (s : List ℕ) (m : Message) → Limits m → Says e s m → name_and_members sheet e s ≡ named_with sheet m
  unfolding name_and_members
  rest-said (OnNikobus e) s m l x = nikobus-said e s m x ∙ named-unshared sheet m (nikobus-share e s m x)
  rest-said (Command i) s m l x = ap named (sym x) ∙ named-unshared sheet m (ap share x)
  rest-said (AsResponse e) s m l x = response-rest e s (subst Limits x l) ∙ ap named (sym x) ∙ named-unshared sheet m (ap share x ∙ response-share e s)
  rest-said (OnNibe e) s m l x = ap (named_with sheet) (sym x)
  rest-said (OnHomiq e) s m l x = homiq-said e s m x ∙ named-unshared sheet m (ap share x.is ∙ homiq-share e x.wire)

  pub put-said : (e : Coded) (s : List ℕ) (at len : ℕ) (m : Message) → Limits m → Says e s m → put sheet e s at len ≡ line_with sheet at len m
  unfolding put
  put-said e s at len m l x =
      ap (λ (y : List ℕ). ascii "{\"at\":" ++ (number at ++ (ascii ",\"len\":" ++ (number len ++ (ascii ",\"msg\":\"" ++ (y ++ ascii "}\n")))))) (rest-said e s m l x)
      ∙ line-named sheet at len m
