-- A payload laid out as a frame, whatever it is.
-- Assumes nothing.
use Rattle.std.specs.Prelude.{List, [], ◌∷◌, ◌++◌, ℕ}
use Rattle.digits.specs.Paper.Ascii.{ascii}
use Rattle.digits.specs.Paper.Decimal.{decimal}
use Rattle.checks.specs.Paper.Buses.{homiq_crc}
use Rattle.checks.specs.Paper.Check.{check}
use Rattle.layouts.specs.Paper.Chars.{CR, LF}
use Rattle.layouts.specs.Paper.Homiq.{without_separators}

abbrev pub around : List ℕ → List ℕ
around p =
    ascii "<;" ++ p ++ ascii ";" ++ decimal (check homiq_crc (without_separators p)) ++ ascii ";>" ++ (CR ∷ LF ∷ [])
