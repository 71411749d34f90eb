-- The workings of what an accepted book says, over its offers and the curve that its parameters select.
-- Assumes nothing.
use Rattle.std.specs.Prelude.{ℕ, cond, List, ltb, length, Err, Some, None, Ok}
use Rattle.auction.specs.Offers.{Offers}
use Rattle.auction.specs.Shares.{spare_tenths}
use Rattle.values.specs.Contents.{Contents}
use Rattle.layout.specs.Read.{contents_of}
use Rattle.book.specs.Faults.{first_fault}
use Rattle.levels.specs.Stop.{stop_level}
use Rattle.pricing.specs.Price.{as_price}
use Rattle.region.specs.Region.{region_curve}
use Rattle.sale.specs.Auction.{offers_of, total, price, row_committed, row_make_whole}
use Rattle.reasons.specs.Stop.{stop_at}
use Rattle.reasons.specs.Share.{row_share_at}
use Rattle.ladder.specs.Ladder.{ladder_at}
use Rattle.turns.specs.Order.{contenders, placed_at}
use Rattle.turns.specs.Turn.{turn_at}
use Rattle.workings.specs.declared.spares.Contest.{Contest}
use Rattle.workings.specs.declared.row.RowWorks.{RowWorks}
use Rattle.workings.specs.declared.works.Works.{Works}
use Rattle.values.specs.Refusals.{Verdict, no_fault}
use Rattle.std.specs.declared.result.Result.{Result}
use Rattle.std.specs.declared.option.Option.{Option}
use Rattle.values.specs.declared.refusal.Refusal.{Refusal}

-- the workings of a book, or its refusal: a book that is not accepted has none
abbrev pub WorksAnswer : Type 0
WorksAnswer = Result Works Refusal

-- what a row works out to, where there is such a row
abbrev pub WorkedRow : Type 0
WorkedRow = Option RowWorks

-- the contest for the spare tenths of the level at p, where x clears, and who stands at a place in it
unfoldable pub contest_at : Offers → (x p place : ℕ) → Contest
contest_at o x p place = record { spares = spare_tenths o x p; contenders = contenders o p; placed = placed_at o x p place }

module _ (c : Contents) where
  -- a row's turn, what it commits and its make-whole
  unfoldable pub row_works : ℕ → RowWorks
  row_works row =
      record {
        turn = turn_at (offers_of c.offers) (total c) row;
        committed = row_committed c row;
        make_whole = row_make_whole c row;
      }

  -- the same of a row that may not be there
  unfoldable pub worked_row : ℕ → WorkedRow
  worked_row row = cond (ltb row (length c.offers)) (Some (row_works row)) None

  -- where X stops, the price, a row, a rung of the ladder of price levels, and a place in the contest of the level at which X stops
  unfoldable pub works_of : (row rung place : ℕ) → Works
  works_of row rung place =
      let o = offers_of c.offers in
      let x = total c in
      record {
        stop = stop_at (region_curve c.parameters) o;
        price = as_price (price c);
        share = row_share_at o x row;
        row = worked_row row;
        ladder = ladder_at o x rung;
        contest = contest_at o x (stop_level o x) place;
      }

-- the workings of a book that is accepted, and of any other its refusal
abbrev pub worked_by : Verdict → Works → WorksAnswer
worked_by (Ok u) works = Ok works
worked_by (Err refusal) works = Err refusal

-- the workings of a book's bytes: of a row, of a rung of the ladder, of a place in the contest
abbrev pub worked : List ℕ → (row rung place : ℕ) → WorksAnswer
worked b row rung place = worked_by (first_fault b) (works_of (contents_of b) row rung place)
