-- What `share_out` is given, as its stages want it.
--
-- In order: a level holds its total; a level's sum is in a book's range; the level at which a total stops looks at no stamp,
-- no resource and no step; what the stages know of the rows and the level.
-- Assumes nothing.
use mathlib.Core.Path.{sym, subst}
use mathlib.Core.List.{List}
use Prim.Native.Nat.{ℕ, ◌≤◌}
use native.Mathlib.Omega.{arith}
use lib.ListN.{get_or}
use lib.Dec.{eqb}
use Rattle.laws.proofs.Sums.{sum_to-mono}
use Rattle.laws.proofs.Compare.{sum_to-const}
use Rattle.laws.proofs.Where.{sum_where-all}
use Rattle.auction.specs.Offers.{Offers, supply, supply_below, level_sum}
use Rattle.auction.specs.Shares.{level_amount}
use Rattle.auction.proofs.LevelDivision.{level_amount-most}
use Rattle.levels.specs.declared.level.Level.{Level}
use Rattle.columns.specs.inner.Column.{rows_of}
use Rattle.levels.specs.inner.Rows.{RowLists, listed}
use Rattle.levels.specs.Stop.{stop_level}
use Rattle.levels.specs.inner.Stop.{StopsAt}
use Rattle.shares.specs.inner.Out.{Ordered}
use Rattle.parts.specs.inner.Divides.{DividesRows}
use Rattle.shares.specs.inner.Stages.{Stopped}
use Rattle.shares.proofs.Sharing.{stop-some}

-- the level at which a total stops holds the total
pub stops-own : (o : Offers) (x : ℕ) (l : Level) → StopsAt o x l → StopsAt o l.total l
stops-own o x l s = subst (λ (y : ℕ). StopsAt o y l) (sym s.total) s

-- what n rows offer at a price is in a book's range
level-low : (prices quantities : List ℕ) (n p : ℕ) → RowLists prices quantities n
    → level_sum (listed prices quantities n) p ≤ 120000000
unfolding level_sum
level-low prices quantities n p r =
    omega (
      arith,
      sum_where-all (λ i. eqb (get_or prices i 0) p) (λ i. get_or quantities i 0) n,
      sum_to-mono (λ i. get_or quantities i 0) (λ i. 200000) n r.small,
      sum_to-const 200000 n,
      r.few,
    )

module _ (prices quantities stamps resources steps : List ℕ) (n : ℕ) (l : Level) where
  abbrev rows : Offers
  rows = rows_of prices quantities stamps resources steps n

  -- a total of rows stops where a total of their prices and quantities does
  stops-rows : StopsAt (listed prices quantities n) l.total l → StopsAt rows l.total l
  unfolding stop_level level_amount supply supply_below level_sum
  stops-rows s = record { total = s.total; price = s.price; amount = s.amount; sum = s.sum; reach = s.reach }

  module _ (r : RowLists prices quantities n) (o : Ordered quantities stamps resources steps n)
      (s : StopsAt (listed prices quantities n) l.total l) where
    -- the rows, with their stamps, resources and steps, are offers of which a total stops at the level
    pub rows-stopped : Stopped rows l
    rows-stopped = record { stops = stops-rows s; cheap = r.cheap; positive = o.positive }

    -- the level's numbers can be divided among the rows
    pub rows-divide : DividesRows l prices quantities n
    rows-divide =
        record {
          rows = r;
          each = λ i h.
              record {
                some = stop-some rows l rows-stopped i h;
                within = omega (arith, s.amount, s.sum, level_amount-most (listed prices quantities n) l.total l.price);
                low = omega (arith, s.sum, level-low prices quantities n l.price r);
                small = r.small i h;
              };
        }
