-- The report of a book: for every string of bytes one text.
-- Assumes nothing.
use Rattle.std.specs.Prelude.{ℕ, List, ◌++◌, length, Err, Ok}
use Rattle.std.proofs.Math.Option.{Option}
use Rattle.layout.specs.Read.{contents_of}
use Rattle.values.specs.Contents.{Contents, offer_at}
use Rattle.book.specs.Faults.{first_fault}
use Rattle.sale.specs.Auction.{total, price, row_cleared, row_committed, row_make_whole, daily_total, year_total}
use Rattle.report.specs.Lines.{cleared_word, daily_word, year_word, line_text, price_text, refusal_text, row_text, rows_text}
use Rattle.values.specs.Refusals.{Verdict}

-- the lines of a clearing: X, the price, every row in book order, the daily and the year total
abbrev pub lines_text : ℕ → Option ℕ → (ℕ → List ℕ) → ℕ → ℕ → ℕ → List ℕ
lines_text x quote line n daily year =
    line_text cleared_word x
    ++ price_text quote
    ++ rows_text line n
    ++ line_text daily_word daily
    ++ line_text year_word year

-- those of what an accepted book says
unfoldable pub clearing_text : Contents → List ℕ
clearing_text c =
    lines_text (total c) (price c)
    (λ row. row_text (offer_at c.offers row).resource (row_cleared c row) (row_committed c row) (row_make_whole c row))
    (length c.offers) (daily_total c) (year_total c)

-- a refusal's one line, or the lines of the clearing
abbrev pub report_by : Verdict → List ℕ → List ℕ
report_by (Ok u) lines = lines
report_by (Err refusal) lines = refusal_text refusal

unfoldable pub report_text : List ℕ → List ℕ
report_text b = report_by (first_fault b) (clearing_text (contents_of b))
