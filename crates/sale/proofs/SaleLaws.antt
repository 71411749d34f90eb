-- What a sale over columns says: the total and the price by offers of price and quantity alone, and the sale of contents.
--
-- In order: the level at which a total stops, by its own total; the total and the price look at no stamp, no resource
-- number and no step; a sale over the columns of contents is theirs.
-- Assumes nothing.
use mathlib.Core.Path.{◌≡◌, refl, ap, sym, subst, ◌∙◌}
use mathlib.Core.List.{List}
use Prim.Native.Nat.{ℕ, ◌≤◌}
use lib.ListN.{length}
use Rattle.auction.specs.Offers.{Offers, supply}
use Rattle.auction.specs.Clearing.{cleared_total, next_price, clearing_price}
use Rattle.values.specs.Contents.{Contents}
use Rattle.values.specs.declared.head.Parameters.{Parameters}
use Rattle.region.specs.Region.{region_curve}
use Rattle.curve.specs.Price.{demand_of}
use Rattle.curve.specs.declared.Curve.{Curve}
use Rattle.levels.specs.inner.Rows.{RowLists, listed}
use Rattle.levels.specs.inner.Stop.{StopsAt}
use Rattle.pricing.specs.Price.{as_price, ClearingPrice}
use Rattle.pricing.specs.inner.Price.{price_at}
use Rattle.levels.specs.declared.level.Level.{Level}
use Rattle.pricing.proofs.Agree.{price-agrees}
use Rattle.shares.specs.inner.Out.{SharedOut}
use Rattle.columns.specs.inner.Column.{rows_of}
use Rattle.columns.specs.inner.Columns.{Columns}
use Rattle.sale.specs.Auction.{total, price}
use Rattle.sale.specs.Payment.{cleared_list}
use Rattle.sale.specs.inner.Sale.{Stands, SoldColumns}
use Rattle.sale.specs.declared.sell.Sale.{Sale}
use Rattle.sale.proofs.Sales.{columns-offers, shared-cleared}

pub stops-own : (o : Offers) (x : ℕ) (l : Level) → StopsAt o x l → StopsAt o l.total l
stops-own o x l s = subst (λ (y : ℕ). StopsAt o y l) (sym s.total) s

module _ (prices quantities stamps resources steps : List ℕ) (n : ℕ) where
  abbrev few : Offers
  few = listed prices quantities n

  abbrev all : Offers
  all = rows_of prices quantities stamps resources steps n

  total-listed : (c : Curve) → cleared_total (demand_of c) few ≡ cleared_total (demand_of c) all
  unfolding cleared_total supply
  total-listed c = refl

  price-listed : (c : Curve) → clearing_price (demand_of c) few ≡ clearing_price (demand_of c) all
  unfolding clearing_price cleared_total next_price supply
  price-listed c = refl

  -- the total, the price by the level and the amounts shared out are a sale of the columns
  pub sold-columns : (c : Curve) (x : ℕ) (l : Level) (q : ClearingPrice) (before after : List ℕ)
      → RowLists prices quantities n → x ≡ cleared_total (demand_of c) few → StopsAt few x l → q ≡ price_at (demand_of c) l
      → SharedOut all l.total before after
      → SoldColumns c all before (record { total = x; price = q }) after
  sold-columns c x l q before after rows e s f shared =
      record {
        quantity = e ∙ total-listed c;
        quote = f ∙ price-agrees (demand_of c) few l rows.cheap (subst (λ (y : ℕ). StopsAt few y l) e s) ∙ ap as_price (price-listed c);
        amounts = subst (λ (y : ℕ). SharedOut all y before after) s.total shared;
      }

-- a sale over the columns of contents: X, the price, and what each row clears
pub record SoldAs (c : Contents) (before : List ℕ) (s : Sale) (after : List ℕ) : Type 0 where
  pub quantity : s.total ≡ total c
  pub quote : s.price ≡ as_price (price c)
  pub amounts : after ≡ cleared_list c before

pub sold-contents : (c : Contents) (p : Parameters) (n : ℕ) (v : Columns) → Stands c p n v
    → (curve : Curve) → curve ≡ region_curve p
    → (before after : List ℕ) (s : Sale) → n ≤ length before
    → SoldColumns curve (rows_of v.prices v.quantities v.stamps v.resources v.steps n) before s after
    → SoldAs c before s after
unfolding total price
sold-contents c p n v stands curve f before after s long sold =
    let same : curve ≡ region_curve c.parameters = f ∙ ap region_curve stands.own in
    let x : s.total ≡ total c = sold.quantity ∙ rw (same, columns-offers c p n v stands) in
    record {
      quantity = x;
      quote = sold.quote ∙ rw (same, columns-offers c p n v stands);
      amounts = shared-cleared c p n v stands s.total before after long x sold.amounts;
    }
