-- Which of Homiq's messages a command and a value are, by tests.
-- Assumes nothing.
use Rattle.std.specs.Prelude.{Bool, cond, ◌&&◌, List, ◌++◌, ℕ, eqb, leb, length, get_or, drop}
use Rattle.digits.specs.Paper.Ascii.{ascii}
use Rattle.digits.specs.Paper.Decimal.{decimal}
use Rattle.digits.specs.Work.Decimal.{guess}
use Rattle.layouts.specs.Paper.Chars.{one_of}
use Rattle.layouts.specs.Work.Heads.{starts}
use Rattle.messages.specs.declared.homiq.Homiq.{Homiq}
use Rattle.messages.specs.declared.homiq.Homiq.TheVariants.{Output, Input, Shutter, Beat, Other}

-- two lists are one
abbrev pub same : List ℕ → List ℕ → Bool
same a b = eqb (length b) (length a) && starts a b

-- a mark, and behind it the digits of a number that is at most `most`
unfoldable pub is_marked_number : List ℕ → ℕ → List ℕ → Bool
is_marked_number mark most cmd =
    let n = guess 0 (drop (length mark) cmd) in
    leb n most && same (mark ++ decimal n) cmd

unfoldable pub is_letter : List ℕ → List ℕ → Bool
is_letter letters val = eqb (length val) 1 && one_of letters (get_or val 0 0)

unfoldable pub which_of : List ℕ → List ℕ → Homiq
which_of cmd val =
    cond (is_marked_number (ascii "O.") 9 cmd && is_letter (ascii "01") val) Output
    (cond (is_marked_number (ascii "I.") 15 cmd && is_letter (ascii "01") val) Input
    (cond (same (ascii "UD") cmd && is_letter (ascii "uds") val) Shutter
    (cond (same (ascii "HB") cmd && is_letter (ascii "1") val) Beat
    Other)))
