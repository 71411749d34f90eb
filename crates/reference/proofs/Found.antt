-- What offers come to on the reference curve, by a total that they can supply while they cannot supply one tenth more.
--
-- In order: the curve never rises; what offers come to at a total; that a total so found is the cleared one.
-- Assumes nothing.
use mathlib.Core.Path.{◌≡◌, refl, sym, ap, ◌∙◌}
use mathlib.Core.Bool.{true, false, cond}
use mathlib.Core.List.{List}
use mathlib.Core.Option.{Option, none, some}
use Prim.Native.Nat.{ℕ, suc}
use native.Mathlib.Omega.{arith}
use lib.Dec.{eqb, leb}
use lib.ListN.{length}
use borrow.Author.Tests.{leb-true}
use Rattle.laws.specs.Sum.{sum_to, sum_where, count_where}
use Rattle.laws.specs.Largest.{least_where, lesser}
use Rattle.laws.proofs.Largests.{largest-found}
use Rattle.auction.specs.Offers.{Demand, supply, supply_below, level_sum}
use Rattle.auction.specs.Clearing.{cleared_total, next_price}
use Rattle.auction.specs.Shares.{level_amount, weighted, share_down, remainder, spare_tenths, ahead, rank, cleared}
use Rattle.auction.proofs.Total.{supplies, supplies-closed}
use Rattle.curve.specs.Shape.{Shaped}
use Rattle.curve.specs.Price.{line, tenth_price, demand_of}
use Rattle.curve.proofs.Prices.{curve-falls}
use Rattle.reference.specs.Book.{curve_in, reference, example_offers, by_row, outcome}

-- the reference curve, as the demand side
abbrev demand : Demand
demand = demand_of reference

-- its points go right and never up
reference-shaped : Shaped reference
unfolding curve_in
reference-shaped =
    record {
      prices-fall = omega arith;
      price-most = omega arith;
      first-rises = omega arith;
      second-rises = omega arith;
      quantity-most = omega arith;
    }

-- what offers come to at a total x: it, the price or none, and what each row clears of it. It opens with all that it is made of.
unfoldable pub outcome_at : List (ℕ × ℕ) → ℕ → ℕ × Option ℕ × List ℕ
unfolding sum_to sum_where count_where least_where curve_in line tenth_price supply supply_below level_sum
    next_price level_amount weighted share_down remainder spare_tenths ahead rank cleared
outcome_at rows x =
    let o = example_offers rows in
    (x, cond (eqb x 0) none (some (lesser (demand.price x) (next_price o x))), by_row (cleared o x) (length rows))

outcome-total : (rows : List (ℕ × ℕ)) → outcome rows ≡ outcome_at rows (cleared_total demand (example_offers rows))
unfolding outcome outcome_at
outcome-total rows = refl

-- a total that the offers can supply, while they cannot supply one tenth more, is what they come to
module _ (rows : List (ℕ × ℕ)) (x : ℕ) (within : leb x reference.q3 ≡ true)
    (supplied : supplies demand (example_offers rows) x ≡ true) (no_more : supplies demand (example_offers rows) (suc x) ≡ false) where
  total-found : x ≡ cleared_total demand (example_offers rows)
  unfolding cleared_total
  total-found =
      largest-found (supplies demand (example_offers rows)) reference.q3 x
      (supplies-closed demand (example_offers rows) (curve-falls reference reference-shaped))
      (leb-true x reference.q3 within) (λ l. supplied) (λ l. no_more)

  pub outcome-found : outcome rows ≡ outcome_at rows x
  outcome-found = outcome-total rows ∙ ap (outcome_at rows) (sym total-found)
