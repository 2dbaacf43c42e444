-- The table of forms is the paper's: its members, its names, and its values, which make their message again.
-- Assumes nothing.
use mathlib.Core.Bool.{Bool, true, false, cond}
use mathlib.Core.List.{List}
use mathlib.Core.Option.{Option, none, some}
use mathlib.Core.Path.{◌≡◌, refl, sym, ap, ◌∙◌, subst}
use Prim.Native.Nat.{ℕ, ◌^◌, ◌<◌}
use native.Mathlib.Omega.{arith}
use lib.Dec.{T, eqb}
use lib.IntN.{pos, nat_abs}
use borrow.Author.Tests.{eqb-true}
use Rattle.digits.specs.Paper.Ascii.{ascii}
use Rattle.digits.specs.Paper.Bytes.{Bytes}
use Rattle.digits.specs.Paper.LowFirst.{Width, Held, low_byte_first, low_value}
use Rattle.digits.proofs.Laws.Bytes.{bytes-nil, bytes-cons}
use Rattle.digits.proofs.Laws.LowFirst.{value_low}
use Rattle.json_values.specs.Paper.Json.{reading}
use Rattle.numbers.specs.Paper.ByteValues.{twos}
use Rattle.numbers.proofs.Laws.Values as numbers
use Rattle.sheet.specs.Paper.Sheet.{RegisterType, Lookup}
use Rattle.sheet.specs.Paper.Split.{typed_value}
use Rattle.layouts.specs.Paper.Chars.{all, is_hex}
use Rattle.layouts.specs.Paper.Homiq as homiqs
use Rattle.layouts.specs.Paper.Made.{Wire, homiq_of}
use Rattle.layouts.specs.Work.Heads.{is_byte}
use Rattle.layouts.proofs.Laws.ByteRuns.{bytes-by, one-of-bytes}
use Rattle.layouts.proofs.Laws.HomiqOne.{field-bytes}
use Rattle.messages.specs.Paper.Message.{Message, read, set, answer, press, tail, link, command, climate, state, break, end, text, response, ask, reply, put, done, nibe, output, input, shutter, beat, homiq, name}
use Rattle.messages.specs.Paper.Table.{Limits}
use Rattle.json_values.proofs.Laws.Tokens.{unquoted, Token, number-token, hex-token, chars-token, truth-token, reading-token}
use Rattle.lines.specs.Paper.Line.{high_byte_first, members}
use Rattle.lines.specs.Paper.WithSheet.{value_reading, members_with}
use Rattle.lines.specs.Work.Values.{Spelling, as_number, as_hex, as_chars, as_truth, as_reading, as_value, Of, spelt, Columns, close, column, Values, members_of, of_high_byte_first, wire_columns, wire_values, form_of, values, same_text, form_in, form_named}

-- ---- names and members

-- a message's name is that of its form and needs no escape, and its members are spelt by the form's columns
pub record SpeltAs (sheet : Option Lookup) (m : Message) : Type 0 where
  pub named : form_named sheet (name m) ≡ form_of sheet m
  pub plain : T (unquoted (name m))
  pub spelling : members_with sheet m ≡ members_of (form_of sheet m).columns (values sheet m)

pub spelt-as : (sheet : Option Lookup) (m : Message) → SpeltAs sheet m
unfolding form_in same_text unquoted members members_with
spelt-as sheet (read g a) = record { named = refl; plain = tt; spelling = refl }
spelt-as sheet (set g a out) = record { named = refl; plain = tt; spelling = refl }
spelt-as sheet (answer a third out) = record { named = refl; plain = tt; spelling = refl }
spelt-as sheet (press d) = record { named = refl; plain = tt; spelling = refl }
spelt-as sheet tail = record { named = refl; plain = tt; spelling = refl }
spelt-as sheet (link p) = record { named = refl; plain = tt; spelling = refl }
spelt-as sheet (command i p) = record { named = refl; plain = tt; spelling = refl }
spelt-as sheet (climate t h) = record { named = refl; plain = tt; spelling = refl }
spelt-as sheet (state p) = record { named = refl; plain = tt; spelling = refl }
spelt-as sheet break = record { named = refl; plain = tt; spelling = refl }
spelt-as sheet end = record { named = refl; plain = tt; spelling = refl }
spelt-as sheet (text i p) = record { named = refl; plain = tt; spelling = refl }
spelt-as sheet (response i p) = record { named = refl; plain = tt; spelling = refl }
spelt-as sheet (ask r) = record { named = refl; plain = tt; spelling = refl }
spelt-as sheet (reply r w v) = record { named = refl; plain = tt; spelling = refl }
spelt-as sheet (put r w v) = record { named = refl; plain = tt; spelling = refl }
spelt-as sheet (done ok) = record { named = refl; plain = tt; spelling = refl }
spelt-as sheet (nibe c d) = record { named = refl; plain = tt; spelling = refl }
spelt-as sheet (output w) = record { named = refl; plain = tt; spelling = refl }
spelt-as sheet (input w) = record { named = refl; plain = tt; spelling = refl }
spelt-as sheet (shutter w) = record { named = refl; plain = tt; spelling = refl }
spelt-as sheet (beat w) = record { named = refl; plain = tt; spelling = refl }
spelt-as sheet (homiq w) = record { named = refl; plain = tt; spelling = refl }

-- ---- the message that its values make

again : (a : ℕ) → of_high_byte_first (high_byte_first a) ≡ a
again a = omega arith

pub made : (sheet : Option Lookup) (m : Message) → (form_of sheet m).message (values sheet m) ≡ m
made sheet (read g a) = ap (read g) (again a)
made sheet (set g a out) = ap (λ (x : ℕ). set g x out) (again a)
made sheet (answer a third out) = ap (λ (x : ℕ). answer x third out) (again a)
made sheet (press d) = refl
made sheet tail = refl
made sheet (link p) = refl
made sheet (command i p) = refl
made sheet (climate t h) = refl
made sheet (state p) = refl
made sheet break = refl
made sheet end = refl
made sheet (text i p) = refl
made sheet (response i p) = refl
made sheet (ask r) = refl
made sheet (reply r w v) = refl
made sheet (put r w v) = refl
made sheet (done ok) = refl
made sheet (nibe c d) = refl
made sheet (output w) = refl
made sheet (input w) = refl
made sheet (shutter w) = refl
made sheet (beat w) = refl
made sheet (homiq w) = refl

-- ---- values that end where they end

-- strings of bytes
abbrev pub Proper : (k : Spelling) → Of k → Type 0
Proper as_number n = Unit
Proper as_hex s = Bytes s
Proper as_chars s = Bytes s
Proper as_truth b = Unit
Proper (as_reading d) z = Unit
Proper (as_value type w) v = Held w v

-- a value that is spelt without a type, and by its type
plain-token : {w : ℕ} → Token (λ (v : ℕ). Held w v) (λ v. reading (pos v) 0)
plain-token =
    record {
      same = λ x y s t p q f g e.
          let r = (reading-token 0).same (pos x) (pos y) s t tt tt f g e in
          (ap nat_abs r.0, r.1);
    }

typed-back : (type : RegisterType) {w v : ℕ} → type.width ≡ w → Held w v → twos type.width (typed_value type (low_byte_first w v)) ≡ v
typed-back type {w} {v} k h =
    let n : low_value (low_byte_first w v) ≡ v = value_low w v h.below in
    let few : low_value (low_byte_first w v) < 256 ^ type.width = rw (n, k) h.below in
    (numbers.of-twos (numbers.size (subst Width (sym k) h.known)) type.signed (low_value (low_byte_first w v)) few).1 ∙ n

typed-token : (type : RegisterType) {w : ℕ} → type.width ≡ w → Token (λ (v : ℕ). Held w v) (λ v. reading (typed_value type (low_byte_first w v)) type.decimals)
typed-token type {w} k =
    record {
      same = λ x y s t p q f g e.
          let r = (reading-token type.decimals).same (typed_value type (low_byte_first w x)) (typed_value type (low_byte_first w y)) s t tt tt f g e in
          (sym (typed-back type k p) ∙ ap (twos type.width) r.0 ∙ typed-back type k q, r.1);
    }

value-token : (type : Option RegisterType) (w : ℕ) → Token (λ (v : ℕ). Held w v) (value_reading type w)
value-token none w = plain-token
value-token (some type) w = go (eqb type.width w) refl
  where
    go : (b : Bool) → eqb type.width w ≡ b
        → Token (λ (v : ℕ). Held w v) (λ v. cond b (reading (typed_value type (low_byte_first w v)) type.decimals) (reading (pos v) 0))
    go true e = typed-token type (eqb-true type.width w e)
    go false e = plain-token

pub token : (k : Spelling) → Token (Proper k) (spelt k)
token as_number = number-token
token as_hex = hex-token
token as_chars = chars-token
token as_truth = truth-token
token (as_reading d) = reading-token d
token (as_value type w) = value-token type w

abbrev pub AllProper : (cs : Columns) → Values cs → Type 0
AllProper close v = Unit
AllProper (column n k cs) v = Proper k v.0 × AllProper (cs v.0) v.1

hex-bytes : (s : List ℕ) → T (all is_hex s) → Bytes s
unfolding is_hex all is_byte
hex-bytes = bytes-by is_hex (λ c t. one-of-bytes (ascii "0123456789ABCDEF") c tt t)

address-bytes : (a : ℕ) → a < 65536 → Bytes (high_byte_first a)
address-bytes a h = bytes-cons (omega arith) (bytes-cons (omega arith) bytes-nil)

wire-proper : (w : Wire) → homiqs.Limits (homiq_of w) → AllProper wire_columns (wire_values w)
unfolding all is_byte
wire-proper w l = (
  field-bytes w.cmd l.cmd.chars,
  (
    field-bytes w.val l.val.chars,
    (
      field-bytes w.src l.src.chars,
      (
        field-bytes w.dst l.dst.chars,
        (
          tt,
          (
            bytes-cons (one-of-bytes (ascii "sa") w.type tt l.type) bytes-nil,
            tt,
          ),
        ),
      ),
    ),
  ),
)

pub proper : (sheet : Option Lookup) (m : Message) → Limits m → AllProper (form_of sheet m).columns (values sheet m)
proper sheet (read g a) l = (tt, (address-bytes a l.1, tt))
proper sheet (set g a out) l = (tt, (address-bytes a l.1, (l.2.bytes, tt)))
proper sheet (answer a third out) l = (address-bytes a l.0, (tt, (l.2.bytes, tt)))
proper sheet (press d) l = (hex-bytes d l.1, tt)
proper sheet tail l = tt
proper sheet (link p) l = (l.bytes, tt)
proper sheet (command i p) l = (tt, (l.1.bytes, tt))
proper sheet (climate t h) l = (tt, (tt, tt))
proper sheet (state p) l = (tt, (tt, (tt, (l.bytes, tt))))
proper sheet break l = tt
proper sheet end l = tt
proper sheet (text i p) l = (tt, (l.1.bytes, tt))
proper sheet (response i p) l = (tt, (l.1.bytes, tt))
proper sheet (ask r) l = (tt, tt)
proper sheet (reply r w v) l = (tt, (tt, (l.1, tt)))
proper sheet (put r w v) l = (tt, (tt, (l.1, tt)))
proper sheet (done ok) l = (tt, tt)
proper sheet (nibe c d) l = (tt, (l.1.bytes, tt))
proper sheet (output w) l = wire-proper w l.limits
proper sheet (input w) l = wire-proper w l.limits
proper sheet (shutter w) l = wire-proper w l.limits
proper sheet (beat w) l = wire-proper w l.limits
proper sheet (homiq w) l = wire-proper w l
