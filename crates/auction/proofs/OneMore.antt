-- One more offer never lowers the cleared total and never raises the price.
--
-- In order: a book with one more offer supplies no less; what holds wherever no less is supplied.
-- Assumes nothing.
use mathlib.Core.Path.{◌≡◌, ap}
use Prim.Native.Nat.{ℕ, ◌≤◌, ◌<◌}
use native.Mathlib.Nat.{le_refl, le_trans}
use lib.Dec.{leb}
use Rattle.laws.proofs.Cases.{by_order}
use Rattle.laws.proofs.Where.{sum_where-more, sum_where-agree}
use Rattle.auction.specs.Offers.{Offers, Demand, Falling, supply}
use Rattle.auction.specs.Clearing.{cleared_total}
use Rattle.auction.specs.Demands.{OneMore, NoDearer}
use Rattle.auction.proofs.Total.{total-is-largest}
use Rattle.auction.proofs.Price.{Margin, margin_price, margin_price-margin, margin_price-greatest}
use Rattle.auction.proofs.Price.{price-some, price-some-only, price-margin_price, price-margin}

-- at every price no less is offered
abbrev pub NoLess : Offers → Offers → Type 0
NoLess o o' = (p : ℕ) → supply o p ≤ supply o' p

-- with one more offer no less is offered
pub one-more-no-less : (o o' : Offers) → OneMore o o' → NoLess o o'
unfolding supply
one-more-no-less o o' m p =
    rw (m.count, sum_where-agree _ _ o.quantity o'.quantity o.count same m.quantity)
    (sum_where-more _ o'.quantity o.count)
  where
    same : (i : ℕ) → i < o.count → leb (o.price i) p ≡ leb (o'.price i) p
    same i l = ap (λ (q : ℕ). leb q p) (m.price i l)

module _ (d : Demand) (o o' : Offers) (more : NoLess o o') where
  total-no-less : cleared_total d o ≤ cleared_total d o'
  total-no-less =
      let t = total-is-largest d o in
      (total-is-largest d o').most (cleared_total d o) t.within (le_trans t.supplied (more _))

  margin-no-more : (q : ℕ) → Falling d → Margin d o' (cleared_total d o') q → q ≤ margin_price d o (cleared_total d o)
  margin-no-more q falling m =
      let x = cleared_total d o in
      let t = total-is-largest d o' in
      by_order (cleared_total d o') x
      (λ h. margin_price-greatest d o x q (m.up_to x total-no-less) (λ r l. le_trans (more r) (le_trans (m.under r l) h)))
      (λ h. le_trans (m.up_to _ (le_refl _)) ((margin_price-margin d o x falling (total-is-largest d o)).past _ h t.within))

  -- where no less is offered at every price, the total does not fall and the price does not rise
  pub no-less-no-dearer : Falling d → NoDearer d o o'
  no-less-no-dearer falling =
      record {
        total = total-no-less;
        priced = λ p e. (_, price-some d o' (le_trans (price-some-only d o p e) total-no-less));
        price = λ p q e f. rw (← price-margin_price d o p e) (margin-no-more q falling (price-margin d o' q falling f));
      }

-- one more offer never lowers the total and never raises the price
pub one-more-no-dearer : (d : Demand) (o o' : Offers) → Falling d → OneMore o o' → NoDearer d o o'
one-more-no-dearer d o o' falling m = no-less-no-dearer d o o' (one-more-no-less o o' m) falling
