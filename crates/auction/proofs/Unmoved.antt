-- What losers leave as it is, for every falling demand and any offers.
--
-- In order: where the offers at the clearing price or below are the same, so is the total; so is the price; so is what they clear.
-- Assumes nothing.
use mathlib.Core.Path.{◌≡◌, sym, ap, fun_ext, ◌∙◌}
use mathlib.Core.List.{map}
use mathlib.Core.Option.{some}
use Prim.Native.Nat.{ℕ, suc, ◌≤◌, ◌<◌}
use native.Mathlib.Nat.{le_antisymm, le_refl, le_trans, le_of_lt, not-le_of_lt, le_of_suc-le-suc}
use native.Mathlib.Omega.{arith}
use lib.Dec.{leb}
use borrow.Author.Tests.{leb-true}
use Rattle.laws.specs.Lists.{list_of, those}
use Rattle.laws.proofs.Compare.{le-unless}
use Rattle.laws.proofs.Listing.{list_of-map}
use Rattle.laws.proofs.Those.{those-map, those-agree}
use Rattle.auction.specs.Offers.{Offers, Demand, Falling, supply}
use Rattle.auction.specs.Clearing.{cleared_total, clearing_price}
use Rattle.auction.specs.Demands.{IsTotal, Suppliable}
use Rattle.auction.specs.Losers.{Row, row_of, rows_at_or_below, Sold, sold_at_or_below}
use Rattle.auction.proofs.Supply.{supply-mono, supply_below-suc}
use Rattle.auction.proofs.Total.{total-is-largest, total-alone, supply-past-total}
use Rattle.auction.proofs.Price.{Margin, margin_price, margin_price-margin, margin_price-greatest}
use Rattle.auction.proofs.Price.{price-some, price-some-only, price-margin_price, price-margin}
use Rattle.auction.proofs.Levels.{level-over-price}
use Rattle.auction.proofs.ByRow.{row_clears, cleared-by-row, clears-nothing}
use Rattle.auction.proofs.Shared.{supply-shared, clears-shared}

-- over the clearing price an offer clears nothing, whatever it offers
pub loser-clears-nothing : (d : Demand) (o : Offers) (p : ℕ) → Falling d → clearing_price d o ≡ some p
    → (r : Row) → p < r.price → row_clears o (cleared_total d o) r ≡ 0
loser-clears-nothing d o p falling e r l =
    clears-nothing o (cleared_total d o) r (level-over-price d o _ p r.price (price-margin d o p falling e) l)

module _ (d : Demand) (o o' : Offers) (p : ℕ) (falling : Falling d) (priced : clearing_price d o ≡ some p)
    (same : rows_at_or_below p o ≡ rows_at_or_below p o') where
  abbrev x : ℕ
  x = cleared_total d o

  margin : Margin d o x p
  margin = price-margin d o p falling priced

  -- the offers at p or below supply x, in both
  enough : x ≤ supply o' p
  enough = omega (arith, margin.over (suc p) (le_refl (suc p)), supply_below-suc o p, supply-shared p o o' same p (le_refl p))

  -- past x the curve asks p or less, where both offer the same
  past : (k : ℕ) → x < k → k ≤ d.last → supply o' (d.price k) ≤ x
  past k h l =
      omega (arith, supply-shared p o o' same (d.price k) (margin.past k h l), supply-past-total d o x falling (total-is-largest d o) k h l)

  most : (k : ℕ) → k ≤ d.last → Suppliable d o' k → k ≤ x
  most k l s = le-unless k x (λ h. not-le_of_lt h (le_trans s (past k h l)))

  total_kept : IsTotal d o' x
  total_kept =
      record {
        within = (total-is-largest d o).within;
        supplied = le_trans enough (supply-mono o' p (d.price x) (margin.up_to x (le_refl x)));
        most = most;
      }

  pub total-unmoved : cleared_total d o ≡ cleared_total d o'
  total-unmoved = total-alone d o' _ _ total_kept (total-is-largest d o')

  margin' : Margin d o' x (margin_price d o' x)
  margin' = margin_price-margin d o' x falling total_kept

  no_lower : p ≤ margin_price d o' x
  no_lower =
      margin_price-greatest d o' x p (margin.up_to x (le_refl x))
      (λ q l. omega (arith, supply-shared p o o' same q (le_of_lt l), margin.under q l))

  -- were the price of o' over p, a higher price than p would stand at the margin of o
  higher-under : p < margin_price d o' x → (q : ℕ) → q < suc p → supply o q ≤ x
  higher-under h q l = omega (arith, supply-mono o q p (le_of_suc-le-suc l), supply-shared p o o' same p (le_refl p), margin'.under p h)

  higher-refuted : p < margin_price d o' x → ⊥
  higher-refuted h =
      let higher = margin_price-greatest d o x (suc p) (le_trans h (margin'.up_to x (le_refl x))) (higher-under h) in
      omega (arith, price-margin_price d o p priced)

  no-higher : margin_price d o' x ≤ p
  no-higher = le-unless _ _ higher-refuted

  pub price-unmoved : clearing_price d o' ≡ some p
  price-unmoved =
      price-some d o' (rw (← total-unmoved) (price-some-only d o p priced))
      ∙ ap some (ap (margin_price d o') (sym total-unmoved) ∙ le_antisymm no-higher no_lower)

  -- each offer at p or below clears what it cleared
  pub clears-unmoved : (r : Row) → r.price ≤ p → row_clears o (cleared_total d o) r ≡ row_clears o' (cleared_total d o') r
  clears-unmoved r l = clears-shared p o o' same x r l ∙ ap (λ (t : ℕ). row_clears o' t r) total-unmoved

  sold-by-row : (e : Offers) → sold_at_or_below p d e ≡ map (λ (r : Row). record { row = r; tenths = row_clears e (cleared_total d e) r }) (rows_at_or_below p e)
  unfolding sold_at_or_below rows_at_or_below
  sold-by-row e =
      let sale : Row → Sold = λ r. record { row = r; tenths = row_clears e (cleared_total d e) r } in
      let rows = list_of (row_of e) e.count in
      ap (λ (f : ℕ → Sold). those (λ (s : Sold). leb s.row.price p) (list_of f e.count))
      (fun_ext (λ i. ap (λ (t : ℕ). record { row = row_of e i; tenths = t }) (cleared-by-row e (cleared_total d e) i)))
      ∙ ap (those (λ (s : Sold). leb s.row.price p)) (list_of-map sale (row_of e) e.count)
      ∙ those-map (λ (s : Sold). leb s.row.price p) sale rows

  pub sold-unmoved : sold_at_or_below p d o ≡ sold_at_or_below p d o'
  unfolding rows_at_or_below
  sold-unmoved =
      sold-by-row o
      ∙ those-agree (λ (r : Row). leb r.price p) _ _ (λ r e. ap (λ (t : ℕ). record { row = r; tenths = t }) (clears-unmoved r (leb-true _ _ e))) (list_of (row_of o) o.count)
      ∙ ap (map (λ (r : Row). record { row = r; tenths = row_clears o' (cleared_total d o') r })) same
      ∙ sym (sold-by-row o')
