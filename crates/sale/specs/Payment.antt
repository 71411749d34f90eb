-- The clearing of what a book says, and what it leaves in the lists of cleared and committed tenths.
-- Assumes nothing.
use Rattle.std.specs.Prelude.{List, ℕ, length}
use Rattle.laws.specs.Filled.{filled}
use Rattle.values.specs.Contents.{Contents}
use Rattle.pricing.specs.Price.{as_price}
use Rattle.sale.specs.Auction.{total, price, row_cleared, row_committed, all_make_whole, daily_total, year_total}
use Rattle.sale.specs.declared.Clearing.{Clearing}

-- the clearing of contents
unfoldable pub clearing_of : Contents → Clearing
clearing_of c =
    record { total = total c; price = as_price (price c); make_whole = all_make_whole c; daily = daily_total c; year = year_total c }

-- a list with what each row clears, and one with what each commits; entries past the last row are not touched
unfoldable pub cleared_list : Contents → List ℕ → List ℕ
cleared_list c before = filled (row_cleared c) (length c.offers) before

unfoldable pub committed_list : Contents → List ℕ → List ℕ
committed_list c before = filled (row_committed c) (length c.offers) before
