-- Recognisers of Nikobus frames.
-- Assumes nothing.
use Rattle.std.specs.Prelude.{cond, List, [], ◌∷◌, ◌++◌, ℕ, ◌+◌, ◌-◌, ◌*◌, ◌%◌, eqb, leb, ltb, length, get_or, take}
use Rattle.digits.specs.Paper.Ascii.{ascii}
use Rattle.digits.specs.Paper.Bytes.{part}
use Rattle.digits.specs.Paper.Hex.{hex_byte}
use Rattle.digits.specs.Work.Hex.{place_of}
use Rattle.checks.specs.Paper.Buses.{nikobus_crc16, nikobus_crc8}
use Rattle.checks.specs.Paper.Check.{check}
use Rattle.layouts.specs.Paper.Chars.{is_hex, CR}
use Rattle.layouts.specs.Work.Heads.{only_if, starts, word_len, run_len, and_then, or_else}
use Rattle.layouts.specs.Work.Recogniser.{Recogniser}
use Rattle.layouts.specs.declared.Compared.{Compared}

-- the byte that two characters are, if they are digits
abbrev pub hex_pair : ℕ → ℕ → ℕ
hex_pair x y = place_of x * 16 + place_of y

-- the bytes that digits are, two each
unfoldable pub bytes_of : List ℕ → List ℕ
bytes_of [] = []
bytes_of (x ∷ []) = []
bytes_of (x ∷ y ∷ s) = hex_pair x y ∷ bytes_of s

-- k digits
abbrev pub digits_len : ℕ → List ℕ → ℕ
digits_len k s = run_len is_hex k s

-- LL, if `$` and two digits stand at the head and LL is allowed; else 0
unfoldable pub ll_of : List ℕ → ℕ
ll_of s =
    let ll = hex_pair (get_or s 1 0) (get_or s 2 0) in
    only_if (starts (ascii "$" ++ hex_byte ll) s) (only_if (leb 0x0C ll) (only_if (eqb (ll % 2) 0) ll))

-- `$`, LL
unfoldable pub link_head_len : List ℕ → ℕ
link_head_len s = only_if (ltb 0 (ll_of s)) 3

-- .. the digits of payload, CRC16 and CRC8, CR
unfoldable pub link_form_len : List ℕ → ℕ
link_form_len = and_then (and_then link_head_len (λ w. digits_len (ll_of w - 4))) (λ _. word_len (CR ∷ []))

-- `#N`, six digits, CR
unfoldable pub press_len : List ℕ → ℕ
press_len = and_then (and_then (word_len (ascii "#N")) (λ _. digits_len 6)) (λ _. word_len (CR ∷ []))

-- `#E1`, CR
unfoldable pub tail_len : List ℕ → ℕ
tail_len = word_len (ascii "#E1" ++ (CR ∷ []))

unfoldable pub nikobus_form_len : List ℕ → ℕ
nikobus_form_len s = or_else (link_form_len s) (or_else (press_len s) (tail_len s))

-- the number that four characters from a place on are, if they are digits
abbrev pub hex_four : List ℕ → ℕ → ℕ
hex_four w i = hex_pair (get_or w i 0) (get_or w (i + 1) 0) * 256 + hex_pair (get_or w (i + 2) 0) (get_or w (i + 3) 0)

-- what the four digits before the last three characters are, and CRC16
unfoldable pub pair16 : List ℕ → Compared
pair16 w =
    record {
      found = hex_four w (length w - 7);
      expected = check nikobus_crc16 (bytes_of (part 3 (length w - 7) w));
    }

-- what the two before the last are, and CRC8
unfoldable pub pair8 : List ℕ → Compared
pair8 w =
    record {
      found = hex_pair (get_or w (length w - 3) 0) (get_or w (length w - 3 + 1) 0);
      expected = check nikobus_crc8 (take (length w - 3) w);
    }

-- both, of a link
unfoldable pub nikobus_pairs : List ℕ → List Compared
nikobus_pairs w = cond (starts (ascii "$") w) (pair16 w ∷ pair8 w ∷ []) []

-- where the payload of what is laid out so begins and ends
unfoldable pub nikobus_from : List ℕ → ℕ
nikobus_from w = cond (starts (ascii "$") w) 3 (cond (starts (ascii "#N") w) 2 4)

unfoldable pub nikobus_to : List ℕ → ℕ
nikobus_to w = cond (starts (ascii "$") w) (length w - 7) (cond (starts (ascii "#N") w) 8 4)

abbrev pub nikobus_recogniser : Recogniser
nikobus_recogniser = record { form = nikobus_form_len; pairs = nikobus_pairs; from = nikobus_from; to = nikobus_to }
