-- Examples: bytes and code units by computing, and texts by derivations, since the grammar is a relation and computes nothing.
-- Assumes nothing.
use mathlib.Core.Path.{◌≡◌, refl, sym, ap, subst, ◌∙◌}
use mathlib.Core.List.{List, [], ◌∷◌, ◌++◌}
use mathlib.Core.Logic.{inl, inr}
use Prim.Native.Nat.{ℕ, ◌≤◌}
use native.Mathlib.Omega.{arith}
use lib.ListN.{length}
use Rattle.digits.specs.Paper.Ascii.{ascii}
use Rattle.digits.proofs.Laws.Bytes.{bytes-nil, bytes-cons}
use Rattle.jsontext.specs.Paper.Abnf.{Rule, done, more}
use Rattle.jsontext.specs.Paper.Json.{blank, ws, begin-array, end-array, number, value, value_with}
use Rattle.jsontext.specs.Paper.Names.{utf8, utf16, Unescaped, Short, Hex, Char, Chars, spelt, quoted}
use Rattle.jsontext.specs.Paper.Names.{Member, names, member, further, members, object_of, Other, Once, object_once, InGrammar}
use Rattle.jsontext.specs.Paper.Members.{Bare, Bares, IsObject, value_ends, IsString}
use Rattle.jsontext.proofs.Laws.Blanks.{blanks}
use Rattle.jsontext.proofs.Laws.Places.{head_of, tail_of, nothing}
use Rattle.jsontext.proofs.Theorems.{once-names}

-- ---- characters

-- U+00E9, U+20AC, U+1F600
e-acute : utf8 0xE9 ≡ 0xC3 ∷ 0xA9 ∷ []
unfolding utf8
e-acute = refl

euro : utf8 0x20AC ≡ 0xE2 ∷ 0x82 ∷ 0xAC ∷ []
unfolding utf8
euro = refl

face : utf8 0x1F600 ≡ 0xF0 ∷ 0x9F ∷ 0x98 ∷ 0x80 ∷ []
unfolding utf8
face = refl

-- 02, K4: `\uD83D\uDE00` and the four bytes of U+1F600 are the same name
face-units : utf16 0x1F600 ≡ 0xD83D ∷ 0xDE00 ∷ []
unfolding utf16
face-units = refl

-- ---- strings and their units

abbrev zero-digit : Hex 0x30 0
zero-digit = Hex.digit {v = 0} (omega arith)

-- "a" and "\u0061"
letter : (t : List ℕ) → spelt (0x61 ∷ []) (0x22 ∷ 0x61 ∷ 0x22 ∷ t) t
unfolding utf8 utf16
letter t = quoted (Chars.more (Char.unescaped plain) Chars.none) refl
  where
    plain : Unescaped 0x61
    plain =
        record {
          low = omega arith;
          high = omega arith;
          no-quote = λ e. omega (arith, e);
          no-escape = λ e. omega (arith, e);
          no_surrogate = λ h. omega (arith, h.0);
        }

escaped-letter : spelt (0x61 ∷ []) (ascii "\"\\u0061\"") []
escaped-letter =
    quoted (Chars.more (Char.code zero-digit zero-digit (Hex.digit {v = 6} (omega arith)) (Hex.digit {v = 1} (omega arith))) Chars.none) refl

-- "\uD83D\uDe00", with digits of either case
escaped-face : spelt (0xD83D ∷ 0xDE00 ∷ []) (ascii "\"\\uD83D\\ude00\"") []
escaped-face =
    quoted
    (Chars.more (Char.code (Hex.upper {v = 3} (omega arith)) (Hex.digit {v = 8} (omega arith)) (Hex.digit {v = 3} (omega arith)) (Hex.upper {v = 3} (omega arith)))
    (Chars.more (Char.code (Hex.lower {v = 3} (omega arith)) (Hex.lower {v = 4} (omega arith)) zero-digit zero-digit) Chars.none))
    refl

-- "\n"
line-feed : spelt (0x0A ∷ []) (ascii "\"\\n\"") []
line-feed = quoted (Chars.more (Char.escaped Short.line-feed) Chars.none) refl

-- ---- texts

abbrev one-digit : (t : List ℕ) → number (0x31 ∷ t) t
one-digit t = (0x31 ∷ t, inr refl, (t, inr (t, (0x31, omega arith, omega arith, refl), done), (t, inr refl, inr refl)))

-- `1`
one : InGrammar (ascii "1")
unfolding value_with
one =
    record {
      short = omega arith;
      text = (_, done, (_, inr (inr (inr (inr (inr (inl (one-digit [])))))), done));
    }

-- ` []` and LF
opened : begin-array (ascii "[]\n") (ascii "]\n")
opened = (_, done, (_, refl, done))

closed : end-array (ascii "]\n") (ascii "\n")
closed = (_, done, (_, refl, done))

no-elements : InGrammar (ascii " []\n")
unfolding value_with
no-elements =
    record {
      short = omega arith;
      text = (_, more (inl refl) done, (_, inr (inr (inr (inr (inl (_, opened, (_, inr refl, closed)))))), more (inr (inr (inl refl))) done));
    }

-- `{"a":1}` has one member
abbrev its-member : Member
its-member = record { name = 0x61 ∷ []; value = 0x31 ∷ []; behind = 1 }

one_name : (value : Rule) → value (ascii "1}") (ascii "}") → object_of value (its-member ∷ []) (ascii "{\"a\":1}") []
one_name value v =
    (_, (_, done, (_, refl, done)), (_, members.some (member.is (letter _) (_, done, (_, refl, done)) v refl refl) further.done, (_, done, (_, refl, done))))

its-names : Once (names (its-member ∷ []))
unfolding names
its-names = Once.and Other.none Once.none

one-member : InGrammar (ascii "{\"a\":1}")
unfolding value_with
one-member =
    record {
      short = omega arith;
      text =
          (_, done, (_, inr (inr (inr (inl (its-member ∷ [], its-names, one_name _ its-value)))), done));
    }
  where
    its-value : value_with object_once 15 (ascii "1}") (ascii "}")
    its-value = inr (inr (inr (inr (inr (inl (one-digit (ascii "}")))))))

-- ---- no name twice: `{"a":1,"\u0061":2}` is an object with two members of one name, so it is not in the grammar

abbrev pub twice : List ℕ
twice = ascii "{\"a\":1,\"\\u0061\":2}"

abbrev its-first : Member
its-first = record { name = 0x61 ∷ []; value = 0x31 ∷ []; behind = 12 }

abbrev its-second : Member
its-second = record { name = 0x61 ∷ []; value = 0x32 ∷ []; behind = 1 }

a-digit : (b : ℕ) (t : List ℕ) → 0x31 ≤ b → b ≤ 0x39 → value 15 (b ∷ t) t
unfolding value_with
a-digit b t h k = inr (inr (inr (inr (inr (inl (b ∷ t, inr refl, (t, inr (t, (b, h, k, refl), done), (t, inr refl, inr refl))))))))

-- a digit is no blank, at the front or at the back
bare-digit : (b : ℕ) → 0x31 ≤ b → b ≤ 0x39 → Bare (b ∷ [])
bare-digit b h k = record { front = dark b h; back = λ u t e x. dark-last u t e x }
  where
    dark : (c : ℕ) → 0x31 ≤ c → {u : List ℕ} (t : List ℕ) → blank (c ∷ u) t → ⊥
    dark c l t (inl x) = omega (arith, head_of x)
    dark c l t (inr (inl x)) = omega (arith, head_of x)
    dark c l t (inr (inr (inl x))) = omega (arith, head_of x)
    dark c l t (inr (inr (inr x))) = omega (arith, head_of x)

    dark-last : (u t : List ℕ) → b ∷ [] ≡ u ++ t → blank t [] → ⊥
    dark-last [] t e x = dark b h [] (subst (λ (l : List ℕ). blank l []) (sym e) x)
    dark-last (c ∷ u) [] e x = no-blank x
      where
        no-blank : blank [] [] → ⊥
        no-blank (inl y) = nothing y
        no-blank (inr (inl y)) = nothing y
        no-blank (inr (inr (inl y))) = nothing y
        no-blank (inr (inr (inr y))) = nothing y
    dark-last (c ∷ []) (d ∷ t) e x = nothing (tail_of e)
    dark-last (c ∷ d ∷ u) (f ∷ t) e x = nothing (tail_of e)

escaped-name : (t : List ℕ) → spelt (0x61 ∷ []) (0x22 ∷ 0x5C ∷ 0x75 ∷ 0x30 ∷ 0x30 ∷ 0x36 ∷ 0x31 ∷ 0x22 ∷ t) t
escaped-name t = quoted (Chars.more (Char.code zero-digit zero-digit (Hex.digit {v = 6} (omega arith)) (Hex.digit {v = 1} (omega arith))) Chars.none) refl

its-object : IsObject twice (its-first ∷ its-second ∷ [])
its-object =
    record {
      short = omega arith;
      text = (
        _,
        done,
        (
          _,
          (
            _,
            (_, done, (_, refl, done)),
            (
              _,
              members.some (member.is (letter _) (_, done, (_, refl, done)) (a-digit 0x31 _ (omega arith) (omega arith)) refl refl)
                  (further.next (_, done, (_, refl, done)) (member.is (escaped-name _) (_, done, (_, refl, done)) (a-digit 0x32 _ (omega arith) (omega arith)) refl refl)
                  further.done),
              (_, done, (_, refl, done)),
            ),
          ),
          done,
        ),
      );
      bare = Bares.and (bare-digit 0x31 (omega arith) (omega arith)) (Bares.and (bare-digit 0x32 (omega arith) (omega arith)) Bares.none);
    }

pub not-in-the-grammar : InGrammar twice → ⊥
unfolding names
not-in-the-grammar g = same (once-names twice (its-first ∷ its-second ∷ []) g its-object)
  where
    same : Once ((0x61 ∷ []) ∷ (0x61 ∷ []) ∷ []) → ⊥
    same (Once.and (Other.and f o) w) = f refl

-- ---- members and characters

-- the value of `a` in `{"a":1}` is the byte at the place 5
its-value : value_ends (ascii "{\"a\":1}") its-member ≡ record { from = 5; to = 6 }
its-value = refl

-- the empty text is no object and no string
only-nothing : {t : List ℕ} → ws [] t → t ≡ []
only-nothing done = refl
only-nothing (more {m = m} b r) = absurd (blanks.never m b)

pub no-object : (ms : List Member) → IsObject [] ms → ⊥
no-object ms x =
    let (m, b, (n, (k, (p, c, (q, e, w)), y), z)) = x.text in
    let here : p ≡ [] = only-nothing (subst (λ (l : List ℕ). ws l p) (only-nothing b) c) in
    omega (arith, ap {B = ℕ} length (sym here ∙ e))

pub no-string : (cs : List ℕ) → IsString [] cs → ⊥
no-string cs x = by x.string
  where
    by : spelt cs [] [] → ⊥
    by (quoted {x = w} c e) = omega (arith, ap {B = ℕ} length e)

-- the string "\n" is one character of one byte
pub a-string : IsString (ascii "\"\\n\"") (0x0A ∷ [])
a-string = record { short = omega arith; string = line-feed; bytes = bytes-cons (omega arith) bytes-nil }
