-- A number as text. In order: how many decimal digits it has, its digits, and the digits behind a point.
-- Assumes nothing.
use Rattle.std.specs.Prelude.{ℕ, zero, suc, ◌/◌, ◌%◌, ◌^◌, cond, List, ltb}
use Rattle.io.specs.Digits.{last_digits}
use Rattle.text.specs.Put.{right_text}

-- one digit below 10, and else one more than a tenth of the number has; at most k + 1
unfoldable pub digit_count : ℕ → ℕ → ℕ
digit_count zero n = 1
digit_count (suc k) n = cond (ltb n 10) 1 (suc (digit_count k (n / 10)))

-- the decimal digits of a number of 64 bits, which has 20 at most
unfoldable pub number_text : ℕ → List ℕ
number_text n = last_digits 10 (digit_count 19 n) n

-- n parts, of which 10 ^ places make one whole: what is left of the wholes, with zeros in front up to `places` digits
abbrev pub rest_text : ℕ → ℕ → List ℕ
rest_text places n = right_text places 48 (number_text (n % 10 ^ places))
