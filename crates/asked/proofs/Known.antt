-- Known commands, read by the definitions.
-- Assumes nothing.
use mathlib.Core.List.{List, [], ◌∷◌, ◌++◌}
use mathlib.Core.Logic.{inl}
use mathlib.Core.Path.{refl}
use Prim.Native.Nat.{ℕ, ◌-◌}
use native.Mathlib.Omega.{arith}
use Rattle.std.specs.Prelude.{Some, None}
use Rattle.digits.specs.Paper.Ascii.{ascii}
use Rattle.digits.specs.Paper.Bits.{lows}
use Rattle.digits.specs.Paper.Bytes.{Bytes}
use Rattle.digits.specs.Paper.Decimal.{decimal, decimal_in, enough}
use Rattle.digits.specs.Paper.Hex.{hex_bytes, hex_byte, hex_digit}
use Rattle.digits.specs.Paper.LowFirst.{low_byte_first}
use Rattle.digits.proofs.Laws.Bytes.{bytes-nil, bytes-cons}
use Rattle.checks.specs.Paper.Bits.{bits, of_lows, of_bits, bits_of_bytes}
use Rattle.checks.specs.Paper.Check.{poly_bits, feed}
use Rattle.json_values.specs.Paper.Json as json
use Rattle.jsontext.specs.Paper.Names.{utf8, utf16, Unescaped, Short, Hex, Char, Chars, Other, Once, most_depth, InGrammar}
use Rattle.jsontext.proofs.Known as texts
use Rattle.layouts.specs.Paper.Chars.{all, one_of}
use Rattle.layouts.specs.Work.Heads.{starts}
use Rattle.lines.specs.Paper.Line.{members}
use Rattle.messages.specs.Paper.Message.{Message, read, tail, link, text}
use Rattle.messages.specs.Paper.Table.{content_of, Above}
use Rattle.messages.specs.Work.Look.{look, look_response, is_climate, is_state, is_break, is_end}
use Rattle.messages.proofs.Laws.Table.{free}
use Rattle.commands.specs.Paper.Answers.{MeantBytes}
use Rattle.shapes.specs.Paper.Fields.{◌∶◌, chars, Field, plain}
use Rattle.asked.specs.Paper.Field.{Spells}
use Rattle.asked.specs.Paper.Lacks.{without, LackOf}
use Rattle.asked.specs.Paper.Means.{named, Fills, Means}
use Rattle.asked.specs.Paper.Means as means
use Rattle.shapes.specs.Paper.Shapes.{number_field, fields_of}
use Rattle.asked.specs.Work.Rows.{same_text}
use Rattle.asked.specs.declared.lacks.Lack.TheVariants.{Text}
use Rattle.asked.proofs.Laws.LineMeans.{is_fine, by_members, counted, line-within}
use Rattle.asked.proofs.Laws.Objects.{Written, none, under, and, called, is_other, are_once, once-of}
use Rattle.asked.proofs.Laws.Refused.{lacks-none}
use Rattle.asked.proofs.Laws.Written.{is_itself, themselves}
use Rattle.asked.proofs.Laws.WrittenFields.{field, itself-written, spelt-written}

-- `{"kind":1,"msg":"read","group":1,"addr":"4707"}` means read, group 1, 4707
pub first : Means (ascii "{\"kind\":1,\"msg\":\"read\",\"group\":1,\"addr\":\"4707\"}") (read 1 0x4707)
unfolding json.object json.further members decimal decimal_in enough hex_bytes hex_byte hex_digit
first = line-within (read 1 0x4707) (inl refl, omega arith)

-- ---- a name twice

abbrev zero-digit : Hex 0x30 0
zero-digit = Hex.digit {v = 0} (omega arith)

-- `\u006bind`
escaped-kind : Chars (ascii "\\u006bind") (ascii "kind")
unfolding all is_itself
escaped-kind = Chars.more (Char.code zero-digit zero-digit (Hex.digit {v = 6} (omega arith)) (Hex.lower {v = 1} (omega arith))) (themselves (ascii "ind") tt)

-- `"kind":1`, `"\u006bind":1`, `"msg":"tail"`
two-kinds : Written Spells (most_depth - 1)
    (json.◌∶◌ (ascii "kind") (json.number 1) ∷ json.◌∶◌ (ascii "\\u006bind") (json.number 1) ∷ json.◌∶◌ (ascii "msg") (json.quoted (ascii "tail")) ∷ [])
    (ascii "kind" ∶ number_field 1 ∷ ascii "kind" ∶ number_field 1 ∷ ascii "msg" ∶ plain (chars (ascii "tail")) ∷ []) 54
unfolding all is_itself
two-kinds =
    and tt (counted 1 (omega arith))
    (under escaped-kind (counted 1 (omega arith)) (and tt (field (itself-written 14 4 {s = ascii "tail"} tt (omega arith) (omega arith))) none))

-- `{"kind":1,"\u006bind":1,"msg":"tail"}` is not in the grammar: once escapes are read, `kind` stands twice in it
pub third : InGrammar (ascii "{\"kind\":1,\"\\u006bind\":1,\"msg\":\"tail\"}") → ⊥
unfolding json.object json.further decimal decimal_in enough called
third g = same (once-of two-kinds (omega arith) g)
  where
    same : {n : List ℕ} {ns : List (List ℕ)} → Once (n ∷ n ∷ ns) → ⊥
    same (Once.and (Other.and f o) w) = f refl

-- ---- characters of each spelling

-- `é\u0000\/`, é in UTF-8
abbrev spellings : List ℕ
spellings = 0xC3 ∷ 0xA9 ∷ ascii "\\u0000\\/"

abbrev units : List ℕ
units = 0xE9 ∷ 0x00 ∷ 0x2F ∷ []

units-bytes : Bytes units
units-bytes = bytes-cons (omega arith) (bytes-cons (omega arith) (bytes-cons (omega arith) bytes-nil))

spelled : Chars spellings units
unfolding utf8 utf16
spelled =
    Chars.more (Char.unescaped plain)
    (Chars.more (Char.code zero-digit zero-digit zero-digit zero-digit) (Chars.more (Char.escaped Short.solidus) Chars.none))
  where
    plain : Unescaped 0xE9
    plain =
        record {
          low = omega arith;
          high = omega arith;
          no-quote = λ e. omega (arith, e);
          no-escape = λ e. omega (arith, e);
          no_surrogate = λ h. omega (arith, h.0);
        }

-- `{"kind":3,"msg":"text","id":1,"text":"é\u0000\/"}`
abbrev pub last_text : List ℕ
last_text = ascii "{\"kind\":3,\"msg\":\"text\",\"id\":1,\"text\":\"" ++ spellings ++ ascii "\"}"

-- it means text, id 1, E9 00 2F
pub last : Means last_text (text 1 units)
unfolding json.object json.further decimal decimal_in enough is_fine all is_itself called is_other are_once same_text fields_of named
last = by_members (text 1 units) tt (and tt (counted 1 (omega arith)) (and tt (field (spelt-written 14 10 spelled units-bytes (omega arith) (omega arith))) none))

-- which is of the table, and its frame is D5 D5 AA 96 01 00 03 00 E9 00 2F 9E BD
pub last_frame : MeantBytes (Means last_text) (0xD5 ∷ 0xD5 ∷ 0xAA ∷ 0x96 ∷ 0x01 ∷ 0x00 ∷ 0x03 ∷ 0x00 ∷ 0xE9 ∷ 0x00 ∷ 0x2F ∷ 0x9E ∷ 0xBD ∷ [])
unfolding content_of look look_response is_climate is_state is_break is_end one_of starts low_byte_first feed poly_bits bits lows of_bits of_lows bits_of_bytes
last_frame =
    record {
      message = text 1 units;
      meant = last;
      good =
          record {
            limits = (tt, record { enough = omega arith; short = omega arith; bytes = units-bytes });
            free = free (text 1 units) refl;
          };
      is = refl;
    }

-- ---- for each refusal of a command

abbrev pub tail_text : List ℕ
tail_text = ascii "{\"kind\":1,\"msg\":\"tail\"}"

pub a-tail : Means tail_text tail
unfolding json.object json.further members decimal decimal_in enough hex_bytes hex_byte hex_digit
a-tail = line-within tail tt

-- a link with the content of a read: `{"kind":1,"msg":"link","data":"120747"}`
abbrev pub link_text : List ℕ
link_text = ascii "{\"kind\":1,\"msg\":\"link\",\"data\":\"120747\"}"

pub a-link : Means link_text (link (0x12 ∷ 0x07 ∷ 0x47 ∷ []))
unfolding json.object json.further members decimal decimal_in enough hex_bytes hex_byte hex_digit
a-link =
    line-within (link (0x12 ∷ 0x07 ∷ 0x47 ∷ []))
    (record { enough = omega arith; short = omega arith; bytes = bytes-cons (omega arith) (bytes-cons (omega arith) (bytes-cons (omega arith) bytes-nil)) })

pub its-above : Above (link (0x12 ∷ 0x07 ∷ 0x47 ∷ []))
unfolding content_of low_byte_first
its-above = record { other = read 1 0x4707; above = omega arith; limits = (inl refl, omega arith); same = refl }

-- the empty text is no command
pub no-command : (r : ℕ) (fs : List Field) → Fills [] r fs → ⊥
no-command r fs x = texts.no-object _ x.object.many.object

pub means-nothing : (m : Message) → Means [] m → ⊥
means-nothing m x = texts.no-object _ x.many.object

-- a text with a name twice lacks the grammar, and the tail above nothing
pub twice-lacks : LackOf texts.twice (Some Text)
twice-lacks = without texts.not-in-the-grammar refl

pub tail-lacks : LackOf tail_text None
unfolding fields_of means.named
tail-lacks =
    lacks-none {r = 5} {fs = []}
    (record { low = omega arith; high = omega arith; fields = record { sorts = means.none; agree = λ e. absurd (omega (arith, e)) }; object = a-tail })
