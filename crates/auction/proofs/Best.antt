-- Amounts that clear by the clearing price are the best choice.
--
-- In order: amounts that clear by price are best; amounts that divide the cleared total by levels, however each level is
-- divided, clear by price and are best.
-- Assumes nothing.
use mathlib.Core.Path.{◌≡◌}
use Prim.Native.Nat.{ℕ, ◌≤◌, ◌<◌}
use native.Mathlib.Nat.{le_refl, le_trans}
use native.Mathlib.Omega.{arith}
use Rattle.laws.proofs.Cases.{by_order}
use Rattle.laws.proofs.Sums.{sum_to-place}
use Rattle.auction.specs.Offers.{Offers, Demand, Falling}
use Rattle.auction.specs.Clearing.{cleared_total}
use Rattle.auction.specs.Surplus.{total}
use Rattle.auction.specs.Demands.{IsTotal, ByPrice, Best}
use Rattle.auction.proofs.Supply.{supply-all, supply-place}
use Rattle.auction.proofs.Total.{total-is-largest, supply-past-total}
use Rattle.auction.proofs.Price.{Margin, margin_price, margin_price-margin, price-some, price-margin}
use Rattle.auction.proofs.Levels.{level-under-price, level-over-price}
use Rattle.auction.proofs.ByLevel.{ByLevel, by_level-total, by_level-whole, by_level-nothing}
use Rattle.auction.proofs.Optimal.{Separated, no-more-surplus, equal-surplus-clears-no-more}

total-place : (o : Offers) (x : ℕ → ℕ) (i : ℕ) → i < o.count → x i ≤ total o x
unfolding total
total-place o x i l = sum_to-place x o.count i l

module _ (d : Demand) (o : Offers) (x : ℕ → ℕ) (falling : Falling d) (b : ByPrice d o x) where
  margin : Margin d o (cleared_total d o) (margin_price d o (cleared_total d o))
  margin = margin_price-margin d o (cleared_total d o) falling (total-is-largest d o)

  -- where nothing clears, an offer under the price at the margin has nothing to sell
  margin-whole : (i : ℕ) → i < o.count → o.price i < margin_price d o (cleared_total d o) → x i ≡ o.quantity i
  margin-whole i l h =
      by_order (cleared_total d o) 0
      (λ z. omega (arith, b.within i l, supply-place o (o.price i) i l (le_refl _), margin.under (o.price i) h))
      (λ z. b.whole _ (price-some d o z) i l h)

  margin-nothing : (i : ℕ) → i < o.count → margin_price d o (cleared_total d o) < o.price i → x i ≡ 0
  margin-nothing i l h =
      by_order (cleared_total d o) 0
      (λ z. omega (arith, total-place o x i l, b.sum))
      (λ z. b.nothing _ (price-some d o z) i l h)

  by_price-separated : Separated d o (margin_price d o (cleared_total d o)) x
  by_price-separated =
      record {
        whole = margin-whole;
        nothing = margin-nothing;
        up_to = λ k z l. margin.up_to k (rw (← b.sum) l);
        past = λ k l h. margin.past k (rw (← b.sum) l) h;
      }

  by_price-total : IsTotal d o (total o x)
  by_price-total = rw b.sum (total-is-largest d o)

  -- amounts that clear by price are the best choice
  pub by_price-best : Best d o x
  by_price-best =
      record {
        choice = record { within = b.within; up_to = by_price-total.within };
        most = no-more-surplus d o _ x by_price-separated;
        largest = λ a c e.
            equal-surplus-clears-no-more d o _ x by_price-separated a c e
            (supply-past-total d o (total o x) falling by_price-total);
      }

-- amounts that divide the cleared total by levels clear by price
pub by_level-by_price : (d : Demand) (o : Offers) (x : ℕ → ℕ) → Falling d → ByLevel o (cleared_total d o) x → ByPrice d o x
by_level-by_price d o x falling b =
    let t = cleared_total d o in
    record {
      within = b.within;
      sum = by_level-total o t x b (le_trans (total-is-largest d o).supplied (supply-all o (d.price t)));
      whole = λ p e i l h. by_level-whole o t x b i l (level-under-price d o t p _ (price-margin d o p falling e) h);
      nothing = λ p e i l h. by_level-nothing o t x b i l (level-over-price d o t p _ (price-margin d o p falling e) h);
    }

-- so they are the best choice
pub by_level-best : (d : Demand) (o : Offers) (x : ℕ → ℕ) → Falling d → ByLevel o (cleared_total d o) x → Best d o x
by_level-best d o x falling b = by_price-best d o x falling (by_level-by_price d o x falling b)
