-- Document 01's readings, byte for byte, by computation.
-- Assumes nothing.
use mathlib.Core.Path.{◌≡◌, refl}
use lib.IntN.{pos, negsuc}
use Rattle.digits.specs.Paper.Ascii.{ascii}
use Rattle.digits.specs.Paper.Bits.{lows}
use Rattle.digits.specs.Paper.Decimal.{decimal, decimal_in, enough}
use Rattle.numbers.specs.Paper.Single.{from_first_one, significant_bits, fits_single}
use Rattle.numbers.specs.Paper.Text.{last_digits, text_of}
use Rattle.json_values.specs.Paper.Json.{object, further, reading}

-- "A reading is `{"raw":-125,"dec":1,"text":"-12.5","f32":true}`"
minus-125 : reading (negsuc 124) 1 ≡ ascii "{\"raw\":-125,\"dec\":1,\"text\":\"-12.5\",\"f32\":true}"
unfolding reading object further text_of last_digits decimal decimal_in enough fits_single significant_bits from_first_one lows
minus-125 = refl

-- f32 tells 16777216 from 16777217
fits : reading (pos 16777216) 0 ≡ ascii "{\"raw\":16777216,\"dec\":0,\"text\":\"16777216\",\"f32\":true}"
unfolding reading object further text_of last_digits decimal decimal_in enough fits_single significant_bits from_first_one lows
fits = refl

fits_not : reading (pos 16777217) 0 ≡ ascii "{\"raw\":16777217,\"dec\":0,\"text\":\"16777217\",\"f32\":false}"
unfolding reading object further text_of last_digits decimal decimal_in enough fits_single significant_bits from_first_one lows
fits_not = refl
