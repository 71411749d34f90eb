-- LOSERS DON'T MATTER, for every falling demand and any offers.
-- Assumes nothing.
use mathlib.Core.Path.{◌∙◌}
use mathlib.Core.Option.{some}
use Rattle.std.specs.Prelude.{◌≡◌, ℕ}
use Rattle.auction.specs.Offers.{Offers, Demand, Falling}
use Rattle.auction.specs.Clearing.{clearing_price}
use Rattle.auction.specs.Losers.{row_of, rows_at_or_below, Unmoved}
use Rattle.auction.proofs.ByRow.{cleared-by-row}
use Rattle.auction.proofs.Unmoved.{loser-clears-nothing, total-unmoved, price-unmoved, sold-unmoved}

module _ (d : Demand) (o o' : Offers) (p : ℕ) (falling : Falling d) (priced : clearing_price d o ≡ some p)
    (same : rows_at_or_below p o ≡ rows_at_or_below p o') where
  -- REQUEST 05. Where the offers at the clearing price or below are the same, losers move neither total nor price nor any amount.
  pub losers-dont-matter : Unmoved d o o' p
  losers-dont-matter =
      let price' = price-unmoved d o o' p falling priced same in
      record {
        total = total-unmoved d o o' p falling priced same;
        price = price';
        sold = sold-unmoved d o o' p falling priced same;
        nothing = λ i l. cleared-by-row o _ i ∙ loser-clears-nothing d o p falling priced (row_of o i) l;
        nothing' = λ i l. cleared-by-row o' _ i ∙ loser-clears-nothing d o' p falling price' (row_of o' i) l;
      }
