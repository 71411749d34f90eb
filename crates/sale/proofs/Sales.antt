-- What the columns of contents are to the market: the same offers, with what the market asks of them.
--
-- In order: the columns are the offers of the contents; their prices and quantities; their keys for the spare tenths; the leasts
-- that they commit; the amounts shared out are what the rows clear.
-- Assumes nothing.
use mathlib.Core.Path.{◌≡◌, ap, sym, subst, ◌∙◌}
use mathlib.Core.List.{List}
use Prim.Native.Nat.{ℕ, ◌≤◌, ◌<◌}
use native.Mathlib.Omega.{arith}
use lib.ListN.{length, get_or}
use Rattle.std.proofs.lemmas.List.{length-take-le}
use Rattle.laws.specs.Filled.{filled}
use Rattle.auction.specs.Offers.{Offers}
use Rattle.auction.specs.Shares.{cleared}
use Rattle.values.specs.Contents.{Contents}
use Rattle.values.specs.declared.head.Parameters.{Parameters}
use Rattle.levels.specs.inner.Rows.{RowLists}
use Rattle.shares.specs.inner.Out.{SharedOut, Ordered}
use Rattle.shares.proofs.Outcome.{shared-filled}
use Rattle.columns.specs.inner.Column.{row_price, row_quantity, row_least, row_resource, row_stamp, row_step, rows_of}
use Rattle.columns.specs.inner.Columns.{Columns, Listed}
use Rattle.columns.specs.inner.Sides.{first_rows}
use Rattle.columns.proofs.Firsts.{first-listed}
use Rattle.columns.proofs.Offers.{column-long, column-row, listed-offers}
use Rattle.sale.specs.Auction.{offers_of, total, row_cleared}
use Rattle.sale.specs.Payment.{cleared_list}
use Rattle.sale.specs.inner.Sale.{Stands}

module _ (c : Contents) (p : Parameters) (n : ℕ) (v : Columns) (s : Stands c p n v) where
  -- a row of the code is one of the contents
  there : (i : ℕ) → i < n → i < length c.offers
  there i l = rw s.count at l

  -- the columns are the offers of the contents
  pub columns-offers : rows_of v.prices v.quantities v.stamps v.resources v.steps n ≡ offers_of c.offers
  unfolding offers_of
  columns-offers =
      ap (rows_of v.prices v.quantities v.stamps v.resources v.steps) s.count ∙ listed-offers c.offers v s.listed

  pub columns-rows : RowLists v.prices v.quantities n
  columns-rows =
      let l = s.listed in
      let ok = s.clearable in
      record {
        priced = omega (arith, column-long (row_price c.offers) l.read.price l.enough, s.count);
        sized = omega (arith, column-long (row_quantity c.offers) l.read.quantity l.enough, s.count);
        few = omega (arith, ok.few, s.count);
        small = λ i h.
            omega (
              arith,
              column-row (row_quantity c.offers) l.read.quantity l.enough i (there i h),
              (ok.priced i (there i h)).sound.quantity-to,
            );
        cheap = λ i h.
            omega (
              arith,
              column-row (row_price c.offers) l.read.price l.enough i (there i h),
              (ok.priced i (there i h)).price-most,
            );
      }

  pub columns-ordered : Ordered v.quantities v.stamps v.resources v.steps n
  columns-ordered =
      let l = s.listed in
      record {
        stamps-long = omega (arith, column-long (row_stamp c.offers) l.read.stamp l.enough, s.count);
        resources-long = omega (arith, column-long (row_resource c.offers) l.read.resource l.enough, s.count);
        steps-long = omega (arith, column-long (row_step c.offers) l.read.step l.enough, s.count);
        positive = λ i h.
            omega (
              arith,
              column-row (row_quantity c.offers) l.read.quantity l.enough i (there i h),
              (s.clearable.priced i (there i h)).sound.quantity-from,
            );
      }

  -- the leasts that the rows commit
  pub leasts-long : n ≤ length v.leasts
  leasts-long =
      omega (arith, column-long (row_least c.offers) s.listed.read.least s.listed.enough, s.count)

  pub leasts-row : (i : ℕ) → i < n → get_or v.leasts i 0 ≡ row_least c.offers i
  leasts-row i h = column-row (row_least c.offers) s.listed.read.least s.listed.enough i (there i h)

  -- the amounts shared out over the columns are what the rows clear
  pub shared-cleared : (x : ℕ) (before after : List ℕ) → n ≤ length before → x ≡ total c
      → SharedOut (rows_of v.prices v.quantities v.stamps v.resources v.steps n) x before after
      → after ≡ cleared_list c before
  unfolding cleared_list row_cleared offers_of
  shared-cleared x before after long e shared =
      shared-filled _ x before after long shared
      ∙ ap (λ (o : Offers). filled (cleared o x) o.count before) columns-offers
      ∙ ap (λ (y : ℕ). filled (cleared (offers_of c.offers) y) (length c.offers) before) e

  module _ (w : Columns) (e : w ≡ first_rows n v) where
    -- as many rows as the contents have
    pub first-count : length w.prices ≡ n
    first-count = ap (λ (u : Columns). length u.prices) e ∙ length-take-le n v.prices columns-rows.priced

    -- the contents stand in the first rows, and in nothing past them
    pub first-stands : Stands c p (length w.prices) w
    first-stands =
        record {
          own = s.own;
          count = first-count ∙ s.count;
          clearable = s.clearable;
          listed = subst (Listed c.offers) (sym e) (first-listed c.offers n v s.count s.listed);
        }
