-- The lines of a clearing whose rows stand in two lists.
-- Assumes nothing.
use Rattle.std.specs.Prelude.{ℕ, ◌-◌, List, get_or}
use Rattle.std.proofs.Math.Option.{Option}
use Rattle.auction.specs.Settlement.{mills}
use Rattle.settle.specs.inner.Read.{quoted}
use Rattle.layout.specs.Form.{edition_of, offer_count}
use Rattle.layout.specs.Read.{row_offer}
use Rattle.sale.specs.declared.Clearing.{Clearing}
use Rattle.report.specs.Lines.{row_text}
use Rattle.report.specs.Report.{lines_text}

-- a row's line, with what it clears and commits in two lists
abbrev pub sold_line : List ℕ → Option ℕ → List ℕ → List ℕ → ℕ → List ℕ
sold_line b quote cleared committed row =
    row_text (row_offer b (edition_of b) 1 row).resource (get_or cleared row 0) (get_or committed row 0)
    (mills quote (get_or committed row 0 - get_or cleared row 0))

-- those of a clearing whose rows stand in two lists
unfoldable pub sold_text : List ℕ → Clearing → List ℕ → List ℕ → List ℕ
sold_text b c cleared committed =
    lines_text c.total (quoted c.price) (sold_line b (quoted c.price) cleared committed) (offer_count b)
    c.daily c.year
