-- RFC 8259, "JSON Grammar": its ABNF, rule by rule, each rule beside the line that it says; and RFC 3629, "Syntax of
-- UTF-8 Byte Sequences".
-- Assumes nothing.
use Rattle.std.specs.Prelude.{List, [], ℕ, zero, suc}
use Rattle.digits.specs.Paper.Ascii.{ascii}
use Rattle.jsontext.specs.Paper.Abnf.{Rule, byte, range, text, ◌⨾◌, ◌∕◌, opt, many, some}

-- ---- 2: structural characters and white space

-- ws = *( %x20 / %x09 / %x0_a / %x0_d )
abbrev pub blank : Rule
blank = byte 0x20 ∕ byte 0x09 ∕ byte 0x0A ∕ byte 0x0D

abbrev pub ws : Rule
ws = many blank

-- begin-array = ws %x5_b ws; begin-object = ws %x7_b ws; end-array = ws %x5_d ws; end-object = ws %x7_d ws;
-- name-separator = ws %x3_a ws; value-separator = ws %x2_c ws
abbrev pub begin-array : Rule
begin-array = ws ⨾ byte 0x5B ⨾ ws

abbrev pub begin-object : Rule
begin-object = ws ⨾ byte 0x7B ⨾ ws

abbrev pub end-array : Rule
end-array = ws ⨾ byte 0x5D ⨾ ws

abbrev pub end-object : Rule
end-object = ws ⨾ byte 0x7D ⨾ ws

abbrev pub name-separator : Rule
name-separator = ws ⨾ byte 0x3A ⨾ ws

abbrev pub value-separator : Rule
value-separator = ws ⨾ byte 0x2C ⨾ ws

-- ---- 6: numbers

-- RFC 5234: DIGIT = %x30-39; HEXDIG = DIGIT / "A" / "B" / "C" / "D" / "E" / "F", where case does not matter
abbrev pub DIGIT : Rule
DIGIT = range 0x30 0x39

abbrev pub HEXDIG : Rule
HEXDIG = DIGIT ∕ range 0x41 0x46 ∕ range 0x61 0x66

-- decimal-point = %x2_e; digit1-9 = %x31-39; e = %x65 / %x45; minus = %x2_d; plus = %x2_b; zero = %x30
abbrev pub digit1-9 : Rule
digit1-9 = range 0x31 0x39

abbrev pub e : Rule
e = byte 0x65 ∕ byte 0x45

abbrev pub minus : Rule
minus = byte 0x2D

-- int = zero / ( digit1-9 *DIGIT )
abbrev pub int : Rule
int = byte 0x30 ∕ (digit1-9 ⨾ many DIGIT)

-- frac = decimal-point 1*DIGIT
abbrev pub frac : Rule
frac = byte 0x2E ⨾ some DIGIT

-- exp = e [ minus / plus ] 1*DIGIT
abbrev pub exp : Rule
exp = e ⨾ opt (minus ∕ byte 0x2B) ⨾ some DIGIT

-- number = [ minus ] int [ frac ] [ exp ]
abbrev pub number : Rule
number = opt minus ⨾ int ⨾ opt frac ⨾ opt exp

-- ---- 7: strings

-- UTF8-tail = %x80-BF; UTF8-2 = %x_c2-DF UTF8-tail
abbrev pub UTF8-tail : Rule
UTF8-tail = range 0x80 0xBF

abbrev pub UTF8-2 : Rule
UTF8-2 = range 0xC2 0xDF ⨾ UTF8-tail

-- UTF8-3 = %x_e0 %x_a0-BF UTF8-tail / %x_e1-EC 2( UTF8-tail ) / %x_ed %x80-9F UTF8-tail / %x_ee-EF 2( UTF8-tail )
abbrev pub UTF8-3 : Rule
UTF8-3 =
    (byte 0xE0 ⨾ range 0xA0 0xBF ⨾ UTF8-tail) ∕ (range 0xE1 0xEC ⨾ UTF8-tail ⨾ UTF8-tail)
    ∕ (byte 0xED ⨾ range 0x80 0x9F ⨾ UTF8-tail) ∕ (range 0xEE 0xEF ⨾ UTF8-tail ⨾ UTF8-tail)

-- UTF8-4 = %x_f0 %x90-BF 2( UTF8-tail ) / %x_f1-F3 3( UTF8-tail ) / %x_f4 %x80-8F 2( UTF8-tail )
abbrev pub UTF8-4 : Rule
UTF8-4 =
    (byte 0xF0 ⨾ range 0x90 0xBF ⨾ UTF8-tail ⨾ UTF8-tail) ∕ (range 0xF1 0xF3 ⨾ UTF8-tail ⨾ UTF8-tail ⨾ UTF8-tail)
    ∕ (byte 0xF4 ⨾ range 0x80 0x8F ⨾ UTF8-tail ⨾ UTF8-tail)

-- unescaped = %x20-21 / %x23-5B / %x5_d-10FFFF
abbrev pub unescaped : Rule
unescaped = range 0x20 0x21 ∕ range 0x23 0x5B ∕ range 0x5D 0x7F ∕ UTF8-2 ∕ UTF8-3 ∕ UTF8-4

-- char = unescaped / escape ( %x22 / %x5_c / %x2_f / %x62 / %x66 / %x6_e / %x72 / %x74 / %x75 4HEXDIG ); escape = %x5_c
abbrev pub escaped : Rule
escaped =
    byte 0x22 ∕ byte 0x5C ∕ byte 0x2F ∕ byte 0x62 ∕ byte 0x66 ∕ byte 0x6E ∕ byte 0x72 ∕ byte 0x74
    ∕ (byte 0x75 ⨾ HEXDIG ⨾ HEXDIG ⨾ HEXDIG ⨾ HEXDIG)

unfoldable pub char : Rule
char = unescaped ∕ (byte 0x5C ⨾ escaped)

-- string = quotation-mark *char quotation-mark; quotation-mark = %x22
unfoldable pub string : Rule
string = byte 0x22 ⨾ many char ⨾ byte 0x22

-- ---- 3 to 5: values, objects, arrays

-- array = begin-array [ value *( value-separator value ) ] end-array
abbrev pub array : Rule → Rule
array value = begin-array ⨾ opt (value ⨾ many (value-separator ⨾ value)) ⨾ end-array

-- member = string name-separator value
abbrev pub member : Rule → Rule
member value = string ⨾ name-separator ⨾ value

-- object = begin-object [ member *( value-separator member ) ] end-object
abbrev pub object : Rule → Rule
object value = begin-object ⨾ opt (member value ⨾ many (value-separator ⨾ member value)) ⨾ end-object

-- value = false / null / true / object / array / number / string. 02, K4: "values nested at most 16 deep (the outermost
-- is 1)": here at most so deep, and with this rule for its objects
unfoldable pub value_with : (Rule → Rule) → ℕ → Rule
value_with object zero = λ s t. ⊥
value_with object (suc d) =
    text (ascii "false") ∕ text (ascii "null") ∕ text (ascii "true")
    ∕ object (value_with object d) ∕ array (value_with object d) ∕ number ∕ string

abbrev pub value : ℕ → Rule
value = value_with object

-- ---- 2: JSON-text = ws value ws

abbrev pub JSON-text : Rule → List ℕ → Type 0
JSON-text value s = (ws ⨾ value ⨾ ws) s []
