-- The value of a member is the part of the text between its places; and a string has no more characters than bytes.
-- Assumes nothing.
use mathlib.Core.Logic.{⊎_elim}
use mathlib.Core.Path.{◌≡◌, sym, ap, ◌∙◌}
use mathlib.Core.List.{List, [], ◌++◌, append_assoc}
use Prim.Native.Nat.{ℕ, ◌+◌, ◌≤◌}
use native.Mathlib.Omega.{arith}
use lib.Dec.{ltb}
use lib.ListN.{length, length-append}
use borrow.Author.Tests.{lt-ltb, le-ltb}
use Rattle.digits.specs.Paper.Bytes.{part}
use Rattle.digits.proofs.Laws.Parts.{part-middle}
use Rattle.jsontext.specs.Paper.Abnf.{Rule}
use Rattle.jsontext.specs.Paper.Members.{IsObject, FirstNamed, here, further, value_ends, IsString}
use Rattle.jsontext.specs.Paper.Names as names
use Rattle.jsontext.specs.Paper.Names.{Member, member, members, Char, Chars, utf8, utf16}
use Rattle.jsontext.proofs.Laws.Chars.{less}
use Rattle.jsontext.proofs.Laws.Narrow.{either}
use Rattle.jsontext.proofs.Laws.Rules.{Front, fronts, ws-front, mark-front, spelt-front, member-front}

-- ---- where a value stands

pub record Stands (s : List ℕ) (m : Member) : Type 0 where
  pub front : List ℕ
  pub rest : List ℕ
  pub is : s ≡ front ++ (m.value ++ rest)
  pub behind : m.behind ≡ length rest

-- behind a front part
later : {s t : List ℕ} {m : Member} → Front s t → Stands t m → Stands s m
later (v, e) x =
    record { front = v ++ x.front; rest = x.rest; is = e ∙ ap {B = List ℕ} (λ l. v ++ l) x.is ∙ sym (append_assoc v x.front _); behind = x.behind }

in-member : {v : Rule} {m : Member} {s t : List ℕ} → member v m s t → Stands s m
in-member {t = t} (names.is n c x e k) =
    later (fronts (spelt-front n) (mark-front 0x3A _ _ c)) (record { front = []; rest = t; is = e; behind = k })

in-further : {v : Rule} {n : List ℕ} {ms : List Member} {m : Member} {s t : List ℕ} → FirstNamed n ms m → names.further v ms s t → Stands s m
in-further (here e) (names.next c x r) = later (mark-front 0x2C _ _ c) (in-member x)
in-further (further f y) (names.next c x r) = later (fronts (mark-front 0x2C _ _ c) (member-front x)) (in-further y r)

in_members : {v : Rule} {n : List ℕ} {ms : List Member} {m : Member} {s t : List ℕ} → FirstNamed n ms m → members v ms s t → Stands s m
in_members (here e) (names.some x r) = in-member x
in_members (further f y) (names.some x r) = later (member-front x) (in-further y r)

in-object : {s n : List ℕ} {ms : List Member} {m : Member} → IsObject s ms → FirstNamed n ms m → Stands s m
in-object {s} x f =
    let (a, b, (c, (k, o, (w, y, z)), d)) = x.text in
    later (fronts (ws-front s a b) (mark-front 0x7B a k o)) (in_members f y)

-- the part between its places
pub record ValuePart (s : List ℕ) (m : Member) : Type 0 where
  pub order : (value_ends s m).from ≤ (value_ends s m).to
  pub inside : (value_ends s m).to ≤ length s
  pub is : part (value_ends s m).from (value_ends s m).to s ≡ m.value

stood : {s : List ℕ} {m : Member} → Stands s m → ValuePart s m
stood {s} {m} x =
    let whole : length s ≡ length x.front + (length m.value + length x.rest) = ap length x.is ∙ simp length-append in
    record {
      order = omega arith;
      inside = omega arith;
      is = ap {B = List ℕ} (part (value_ends s m).from (value_ends s m).to) x.is
          ∙ part-middle x.front m.value x.rest (value_ends s m).from (value_ends s m).to (omega (arith, x.behind)) (omega (arith, x.behind));
    }

pub value-part : {s n : List ℕ} {ms : List Member} {m : Member} → IsObject s ms → FirstNamed n ms m → ValuePart s m
value-part x f = stood (in-object x f)

-- ---- how long a string is

-- a character has no more code units than bytes
units-fit : (c : ℕ) → length (utf16 c) ≤ length (utf8 c)
unfolding utf8 utf16
units-fit c =
    let some : List ℕ → Type 0 = λ l. 1 ≤ length l in
    ⊎_elim
    (λ h. simp (lt-ltb c 0x10000 h) (either some (ltb c 0x80) (omega arith) (either some (ltb c 0x800) (omega arith) (omega arith))))
    (λ h. simp (le-ltb c 0x80 (omega arith), le-ltb c 0x800 (omega arith), le-ltb c 0x10000 h) (omega arith)) (less c 0x10000)

char-length : {w us : List ℕ} → Char w us → length us ≤ length w
char-length (names.unescaped {c = c} u) = units-fit c
char-length (names.escaped x) = omega arith
char-length (names.code a b c d) = omega arith

chars-length : {x us : List ℕ} → Chars x us → length us ≤ length x
chars-length names.none = omega arith
chars-length (names.more {w = w} {us = us} {x = x} {vs = vs} c r) =
    simp length-append (omega (arith, char-length c, chars-length r))

pub string-length : {s cs : List ℕ} → IsString s cs → length cs ≤ length s
string-length x = by x.string
  where
    by : {s cs : List ℕ} → names.spelt cs s [] → length cs ≤ length s
    by (names.quoted {x = x} c e) = rw e (simp length-append (omega (arith, chars-length c)))
