-- What a book sells: the price, what clears, the make-whole and the daily total; and the total of its delivery year.
-- Assumes nothing.
use Rattle.std.specs.Prelude.{ℕ, ◌+◌, cond, List, [], ◌∷◌, eqb, ltb}
use Rattle.sale.specs.declared.Clearing.{Clearing}
use Rattle.wording.specs.Words.{as_one, first_true, cents_of, price_word}

-- a make-whole: there is one, or there is no price, or it is zero, or no row commits more than it cleared
abbrev pub paid_word : ℕ → ℕ → ℕ
paid_word price make_whole = cond (ltb 0 make_whole) 0 (cond (eqb price 2) 1 (cond (eqb price 1) 2 3))

-- a daily total: of a price over zero, or there is no price, or it is zero
abbrev pub daily_word : ℕ → ℕ
daily_word price = cond (eqb price 2) 1 (cond (eqb price 1) 2 0)

-- something clears, or there are no offers, or none at or under the curve's highest price
abbrev pub total_word : ℕ → ℕ → ℕ
total_word total offers = first_true (ltb 0 total) (eqb offers 0)

unfoldable pub sold_numbers : Clearing → ℕ → List ℕ
sold_numbers k offers =
    price_word k.price
    ∷ cents_of k.price
    ∷ k.total
    ∷ total_word k.total offers
    ∷ k.make_whole
    ∷ paid_word (price_word k.price) k.make_whole
    ∷ k.daily
    ∷ daily_word (price_word k.price)
    ∷ cents_of k.price
    ∷ k.total
    ∷ []

unfoldable pub year_numbers : ℕ → ℕ → ℕ → ℕ → List ℕ
year_numbers year days daily total =
    total ∷ days ∷ daily ∷ as_one (eqb days 366) ∷ (year + 1) ∷ year ∷ (year + 1) ∷ []
