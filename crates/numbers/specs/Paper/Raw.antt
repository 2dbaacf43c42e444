-- 01, Numbers: "A raw number is −2,147,483,648 to 4,294,967,295, with 0 to 3 decimals."
-- Assumes nothing.
use Rattle.std.specs.Prelude.{ℕ, ℤ, pos, neg_ℤ, ◌≤ℤ◌}

-- z is from `least` to `most`
pub record Between (least most z : ℤ) : Type 0 where
  pub low : least ≤ℤ z
  pub high : z ≤ℤ most

abbrev pub Raw : ℤ → Type 0
Raw z = Between (neg_ℤ (pos 2147483648)) (pos 4294967295) z

abbrev pub most_decimals : ℕ
most_decimals = 3
