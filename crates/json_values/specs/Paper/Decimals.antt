-- 01, Numbers: "with 0 to 3 decimals".
-- Assumes nothing.
use Rattle.std.specs.Prelude.{ℕ}
use Rattle.json_values.specs.declared.Decimals.{Decimals}
use Rattle.json_values.specs.declared.Decimals.TheVariants.{Zero, One, Two, Three}

abbrev pub decimals_of : Decimals → ℕ
decimals_of Zero = 0
decimals_of One = 1
decimals_of Two = 2
decimals_of Three = 3
