-- How an accepted book clears: the numbers of its answer, its curve, its total and its price, then of its levels.
-- Assumes nothing.
use Rattle.std.specs.Prelude.{ℕ, List, [], ◌∷◌, ◌++◌, Ok, Err}
use Rattle.calendar.specs.Year.{days_of}
use Rattle.readout.specs.declared.Head.{Head}
use Rattle.sale.specs.declared.Clearing.{Clearing}
use Rattle.reasons.specs.declared.stop.Stop.{Stop}
use Rattle.workings.specs.Works.{worked, WorksAnswer}
use Rattle.lines.specs.Sold.{sold_numbers, year_numbers}
use Rattle.lines.specs.Points.{prices_numbers, quantities_numbers}
use Rattle.lines.specs.Total.{total_numbers, price_numbers}
use Rattle.headpage.specs.Levels.{levels_parts}
use Rattle.headpage.specs.Division.{divided_parts}

-- the answer, the curve, the total and the price
unfoldable pub market_parts : Head → Clearing → Stop → List (List ℕ)
market_parts h k stop =
    let p = h.parameters in
    sold_numbers k h.offers
    ∷ year_numbers p.year (days_of p.year) k.daily k.year
    ∷ prices_numbers p stop.curve
    ∷ quantities_numbers p stop.curve
    ∷ total_numbers stop h.offers
    ∷ price_numbers k.price stop
    ∷ []

-- the same, the price levels, and how the level at which the total stops is divided
unfoldable pub cleared_parts : List ℕ → Head → Clearing → Stop → (spares contenders : ℕ) → List (List ℕ)
cleared_parts b h k stop spares contenders =
    market_parts h k stop ++ (levels_parts b ++ divided_parts b h.edition stop.level spares contenders)

-- of the workings of a book; nothing of a book that has none
abbrev pub accepted_by : List ℕ → Head → Clearing → WorksAnswer → List (List ℕ)
accepted_by b h k (Ok w) = cleared_parts b h k w.stop w.contest.spares w.contest.contenders
accepted_by b h k (Err refusal) = []

unfoldable pub accepted_parts : List ℕ → Head → Clearing → List (List ℕ)
accepted_parts b h k = accepted_by b h k (worked b 600 600 600)
