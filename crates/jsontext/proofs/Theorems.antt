-- What the definitions of the grammar and of an object come to, for a reader.
-- Assumes nothing.
use mathlib.Core.Logic.{◌↔◌}
use mathlib.Core.Path.{◌≡◌}
use mathlib.Core.List.{List, ◌++◌}
use Prim.Native.Nat.{ℕ, ◌≤◌}
use lib.ListN.{length}
use Rattle.digits.specs.Paper.Bytes.{part}
use Rattle.jsontext.specs.Paper.Faults.{FaultOf, none}
use Rattle.jsontext.specs.Paper.Json.{char, string, value, value_with, JSON-text}
use Rattle.jsontext.specs.Paper.Members.{IsObject, FirstNamed, value_ends, IsString}
use Rattle.jsontext.specs.Paper.Names.{Char, spelt, Member, names, Once, object_with, object_once, most_depth, InGrammar}
use Rattle.std.specs.Prelude.{None}
use Rattle.jsontext.proofs.Laws.Grammar.{Read, text-to, text-from}
use Rattle.jsontext.proofs.Laws.Objects as objects
use Rattle.jsontext.proofs.Laws.Parts as parts
use Rattle.jsontext.proofs.Laws.Rules as rules
use Rattle.jsontext.proofs.Laws.Spelt as spelling
use Rattle.jsontext.proofs.Laws.Units as units

-- WITHOUT `Once` THE GRAMMAR IS THE RFC'S: objects with their members, of which nothing is asked, are those of RFC 8259
pub rfc : (d : ℕ) (s t : List ℕ) → value_with (object_with (λ ms. Unit)) d s t ↔ value d s t
rfc d s t = (rules.from-any d s t, rules.to-any d s t)

-- WHAT ASKS LESS OF ITS OBJECTS DERIVES MORE
pub weaker : (A B : List Member → Type 0) → ((ms : List Member) → A ms → B ms)
    → (d : ℕ) (s t : List ℕ) → value_with (object_with A) d s t → value_with (object_with B) d s t
weaker = rules.weaker

-- SO EACH TEXT THAT IS ACCEPTED IS JSON BY RFC 8259
pub in-rfc : (s : List ℕ) → InGrammar s → JSON-text (value most_depth) s
in-rfc s g =
    let (m, x, (n, y, z)) = g.text in
    (m, x, (n, (rfc most_depth m n).0 (weaker (λ ms. Once (names ms)) (λ ms. Unit) (λ ms o. tt) most_depth m n y), z))

-- THE ABNF AND `Char` DERIVE THE SAME CHARACTERS: by RFC 8259 and RFC 3629, and by their numbers and `utf8`; and so of strings
pub same-characters : (s t : List ℕ) → char s t ↔ ((w : List ℕ) × (us : List ℕ) × Char w us × (s ≡ w ++ t))
same-characters s t = (there, back)
  where
    there : char s t → (w : List ℕ) × (us : List ℕ) × Char w us × (s ≡ w ++ t)
    there x = let c = spelling.char-spelt x in (c.bytes, c.units, c.is, c.there)

    back : (w : List ℕ) × (us : List ℕ) × Char w us × (s ≡ w ++ t) → char s t
    back (w, us, c, e) = rw e (spelling.a-char t c)

pub same-strings : (s t : List ℕ) → string s t ↔ ((us : List ℕ) × spelt us s t)
same-strings s t = (λ x. spelling.string-spelt x, λ x. spelling.spelt-string x.1)

-- A STRING HAS ONE LIST OF CODE UNITS
pub one_name : (us vs s t u : List ℕ) → spelt us s t → spelt vs s u → us ≡ vs
one_name us vs s t u x y = units.one_name x y

-- A TEXT IS ONE OBJECT AT MOST: its members have one order, and each has one name, one value and one place
pub one-object : (s : List ℕ) (ms ns : List Member) → IsObject s ms → IsObject s ns → ms ≡ ns
one-object s ms ns x y = objects.one-object x y

-- IN A TEXT OF THE GRAMMAR NO NAME STANDS TWICE, of those that a reader of its members finds
pub once-names : (s : List ℕ) (ms : List Member) → InGrammar s → IsObject s ms → Once (names ms)
once-names s ms g x = objects.once-names g x

-- THE VALUE OF A MEMBER IS THE PART OF THE TEXT BETWEEN ITS PLACES, which are in order and within the text
pub value-part : {s n : List ℕ} {ms : List Member} {m : Member} → IsObject s ms → FirstNamed n ms m
    → ((value_ends s m).from ≤ (value_ends s m).to) × ((value_ends s m).to ≤ length s) × (part (value_ends s m).from (value_ends s m).to s ≡ m.value)
value-part x f = let v = parts.value-part x f in (v.order, v.inside, v.is)

-- A TEXT OF THE GRAMMAR IS THE ONE THAT IS READ: blanks to their last, a value by its first bytes, and blanks to the end
pub as_read : (s : List ℕ) → JSON-text (value_with object_once most_depth) s ↔ Read most_depth s
as_read s = (text-to most_depth s, text-from most_depth s)

-- A TEXT OF THE GRAMMAR HAS NO FAULT, AND EVERY OTHER HAS ONE: of a text over the limit its length, else a place
pub no-fault : (s : List ℕ) → InGrammar s ↔ FaultOf s None
no-fault s = (λ g. none g, of)
  where
    of : FaultOf s None → InGrammar s
    of (none g) = g

-- A STRING HAS NO MORE CHARACTERS THAN BYTES
pub string-length : (s cs : List ℕ) → IsString s cs → length cs ≤ length s
string-length s cs x = parts.string-length x
