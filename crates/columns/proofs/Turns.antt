-- Reading offers row by row: where the columns begin, what one more row adds, where they end.
-- Assumes nothing.
use mathlib.Core.Path.{◌≡◌, ap, ◌∙◌}
use mathlib.Core.List.{List}
use Prim.Native.Nat.{ℕ, ◌+◌}
use lib.ListN.{set}
use Rattle.laws.proofs.Fills.{filled_none, filled_more}
use Rattle.values.specs.Values.{held}
use Rattle.values.specs.inner.Values.{least_of}
use Rattle.values.specs.Contents.{offer_at}
use Rattle.values.specs.declared.place.Offer.{Offer}
use Rattle.columns.specs.inner.Column.{row_price, row_quantity, row_least, row_resource, row_stamp, row_step}
use Rattle.columns.specs.inner.Columns.{Columns, columns_of, ColumnsRead}

-- before the first row each column is as it was
pub columns-none : (offers : List Offer) (lists : Columns) → ColumnsRead offers 0 lists lists
columns-none offers lists =
    record {
      price = filled_none (row_price offers) lists.prices;
      quantity = filled_none (row_quantity offers) lists.quantities;
      least = filled_none (row_least offers) lists.leasts;
      resource = filled_none (row_resource offers) lists.resources;
      stamp = filled_none (row_stamp offers) lists.stamps;
      step = filled_none (row_step offers) lists.steps;
    }

-- the columns with an offer, the price that it holds and the least that it commits, stored at a row
abbrev pub stored : Columns → ℕ → Offer → ℕ → ℕ → Columns
stored lists row o price least =
    columns_of (set lists.prices row price) (set lists.quantities row o.quantity) (set lists.leasts row least)
    (set lists.resources row o.resource) (set lists.stamps row o.stamp) (set lists.steps row o.step)

-- a row's offer, stored into each column, adds the row
pub columns-more : (offers : List Offer) (row : ℕ) {before after : Columns} {o : Offer} {price least : ℕ}
    → ColumnsRead offers row before after → o ≡ offer_at offers row → price ≡ held o.price → least ≡ least_of o.block
    → ColumnsRead offers (row + 1) before (stored after row o price least)
columns-more offers row read e p l =
    record {
      price = filled_more (row_price offers) row _ read.price (p ∙ ap (λ o. held o.price) e);
      quantity = filled_more (row_quantity offers) row _ read.quantity (ap (λ o. o.quantity) e);
      least = filled_more (row_least offers) row _ read.least (l ∙ ap (λ o. least_of o.block) e);
      resource = filled_more (row_resource offers) row _ read.resource (ap (λ o. o.resource) e);
      stamp = filled_more (row_stamp offers) row _ read.stamp (ap (λ o. o.stamp) e);
      step = filled_more (row_step offers) row _ read.step (ap (λ o. o.step) e);
    }

-- after as many rows as there are, all are read
pub columns-all : {offers : List Offer} {row n : ℕ} {before after : Columns} → ColumnsRead offers row before after → row ≡ n
    → ColumnsRead offers n before after
columns-all read e = rw e at read
