-- The version of the library as one number: 1.5.0 is 10500.
-- Assumes nothing.
use Rattle.std.specs.Prelude.{ℕ}

abbrev pub version : ℕ
version = 10500
