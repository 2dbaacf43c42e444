-- Recognisers of Homiq frames.
-- Assumes nothing.
use Rattle.std.specs.Prelude.{Bool, ◌&&◌, List, [], ◌∷◌, ◌++◌, ◌≡◌, ℕ, ◌+◌, ◌-◌, eqb, leb, ltb, get_or, take, drop}
use Rattle.std.specs.Prelude.{Option, Some, None}
use Rattle.digits.specs.Paper.Ascii.{ascii}
use Rattle.digits.specs.Paper.Bytes.{part}
use Rattle.digits.specs.Paper.Decimal.{decimal}
use Rattle.digits.specs.Work.Decimal.{guess}
use Rattle.checks.specs.Paper.Buses.{homiq_crc}
use Rattle.checks.specs.Paper.Check.{check}
use Rattle.layouts.specs.Paper.Chars.{CR, LF}
use Rattle.layouts.specs.Paper.Homiq.{field_char, last_id, without_separators}
use Rattle.layouts.specs.Work.Heads.{Ends, only_if, word_len, leading, and_then, or_else}
use Rattle.layouts.specs.Work.Recogniser.{Recogniser}
use Rattle.layouts.specs.declared.Compared.{Compared}
use Rattle.layouts.specs.declared.homiq.Form.{Form}
use Rattle.layouts.specs.declared.homiq.Numeral.{Numeral}

-- a field of at most `most` characters, and `;`
unfoldable pub field_len : ℕ → List ℕ → ℕ
field_len most s =
    let n = leading field_char (take (most + 1) s) in
    only_if (ltb 0 n) (only_if (leb n most) (only_if (eqb (get_or s n 0) 59) (n + 1)))

-- a decimal digit
unfoldable pub is_figure : ℕ → Bool
is_figure c = leb 48 c && leb c 57

-- the number that up to four digits at the head are
unfoldable pub number_in : List ℕ → ℕ
number_in s = guess 0 (take (leading is_figure (take 4 s)) s)

-- a number of at most `most`, and `;`
unfoldable pub number_len : ℕ → List ℕ → ℕ
number_len most s = let v = number_in s in only_if (leb v most) (word_len (decimal v ++ ascii ";") s)

-- what the code answers of such a number: where its `;` ends, and which it is
abbrev pub NumberAt : ℕ → List ℕ → Option Numeral → Type 0
NumberAt most s None = number_len most s ≡ 0
NumberAt most s (Some n) = Ends (number_len most) s (Some n.end) × (n.value ≡ number_in s)

-- TYPE and `;`
unfoldable pub type_len : List ℕ → ℕ
type_len s = or_else (word_len (ascii "s;") s) (word_len (ascii "a;") s)

-- `<;` CMD `;` VAL `;` SRC `;` DST `;` ID `;` TYPE `;`
unfoldable pub head_len : List ℕ → ℕ
head_len =
    and_then (and_then (and_then (and_then (and_then (and_then (word_len (ascii "<;"))
    (λ _. field_len 8)) (λ _. field_len 16)) (λ _. field_len 4)) (λ _. field_len 4)) (λ _. number_len last_id))
    (λ _. type_len)

-- CMD `;` VAL `;` SRC `;` DST `;` ID `;`, where an ID is at most `last`
unfoldable pub five_within : ℕ → List ℕ → ℕ
five_within last =
    and_then (and_then (and_then (and_then (field_len 8) (λ _. field_len 16)) (λ _. field_len 4)) (λ _. field_len 4))
    (λ _. number_len last)

-- .. of a frame: a payload but for its last character
abbrev pub five_len : List ℕ → ℕ
five_len = five_within last_id

-- .. CRC `;` `>` CR LF
unfoldable pub homiq_form_len : List ℕ → ℕ
homiq_form_len = and_then (and_then head_len (λ _. number_len 255)) (λ _. word_len (ascii ">" ++ (CR ∷ LF ∷ [])))

-- what the code answers of what is laid out so: where TYPE's `;` ends, the number behind it, and the length
abbrev pub FormAt : List ℕ → Option Form → Type 0
FormAt s None = homiq_form_len s ≡ 0
FormAt s (Some f) =
    Ends homiq_form_len s (Some f.len) × Ends head_len s (Some f.before) × (f.crc ≡ number_in (drop f.before s))

-- the number behind TYPE, and the CRC of what stands from CMD to there, the separators left out
unfoldable pub homiq_pair : List ℕ → Compared
homiq_pair w =
    record {
      found = number_in (drop (head_len w) w);
      expected = check homiq_crc (without_separators (part 2 (head_len w) w));
    }

-- where the payload of what is laid out so ends
unfoldable pub homiq_to : List ℕ → ℕ
homiq_to w = head_len w - 1

abbrev pub homiq_recogniser : Recogniser
homiq_recogniser = record { form = homiq_form_len; pairs = λ w. homiq_pair w ∷ []; from = λ w. 2; to = homiq_to }
