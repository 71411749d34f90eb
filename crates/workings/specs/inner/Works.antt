-- The workings over columns of rows: a row's by the least that it commits.
-- Assumes nothing.
use Rattle.std.specs.Prelude.{ℕ, ◌-◌, cond, List, ltb, get_or, Some, None}
use Rattle.auction.specs.Offers.{Offers}
use Rattle.auction.specs.Clearing.{cleared_total, clearing_price}
use Rattle.auction.specs.Shares.{cleared}
use Rattle.auction.specs.Settlement.{mills}
use Rattle.curve.specs.Price.{demand_of}
use Rattle.curve.specs.declared.Curve.{Curve}
use Rattle.levels.specs.Stop.{stop_level}
use Rattle.pricing.specs.Price.{as_price, ClearingPrice}
use Rattle.settle.specs.inner.Read.{quoted}
use Rattle.settle.specs.inner.Rows.{committed_from}
use Rattle.reasons.specs.Stop.{stop_at}
use Rattle.reasons.specs.Share.{row_share_at}
use Rattle.ladder.specs.Ladder.{ladder_at}
use Rattle.turns.specs.Turn.{turn_at}
use Rattle.workings.specs.Works.{contest_at, WorkedRow}
use Rattle.workings.specs.declared.row.RowWorks.{RowWorks}
use Rattle.workings.specs.declared.works.Works.{Works}

module _ (o : Offers) (x : ℕ) (price : ClearingPrice) where
  -- a row that is there, by the least that it commits
  unfoldable pub row_works_by : (least row : ℕ) → RowWorks
  row_works_by least row =
      let c = cleared o x row in
      let committed = committed_from least c in
      record { turn = turn_at o x row; committed = committed; make_whole = mills (quoted price) (committed - c) }

  -- a row that may not be there, by a list of leasts
  unfoldable pub worked_row_by : List ℕ → ℕ → WorkedRow
  worked_row_by leasts row = cond (ltb row o.count) (Some (row_works_by (get_or leasts row 0) row)) None

-- the workings of offers on a curve
unfoldable pub works_at : Curve → Offers → List ℕ → (row rung place : ℕ) → Works
works_at c o leasts row rung place =
    let x = cleared_total (demand_of c) o in
    let price = as_price (clearing_price (demand_of c) o) in
    record {
      stop = stop_at c o;
      price = price;
      share = row_share_at o x row;
      row = worked_row_by o x price leasts row;
      ladder = ladder_at o x rung;
      contest = contest_at o x (stop_level o x) place;
    }
