-- What a sale of columns asks of them, and what it yields.
-- Assumes nothing.
use Rattle.std.specs.Prelude.{ℕ, ◌≡◌, List, length}
use Rattle.values.specs.Contents.{Contents}
use Rattle.values.specs.declared.head.Parameters.{Parameters}
use Rattle.limits.specs.Clearable.{Clearable}
use Rattle.columns.specs.inner.Columns.{Columns, Listed}
use Rattle.auction.specs.Offers.{Offers}
use Rattle.auction.specs.Clearing.{cleared_total, clearing_price}
use Rattle.curve.specs.Price.{demand_of}
use Rattle.curve.specs.declared.Curve.{Curve}
use Rattle.pricing.specs.Price.{as_price}
use Rattle.shares.specs.inner.Out.{SharedOut}
use Rattle.sale.specs.Payment.{clearing_of, cleared_list, committed_list}
use Rattle.sale.specs.declared.Clearing.{Clearing}
use Rattle.sale.specs.declared.sell.Sale.{Sale}

-- contents that can be cleared, as the code has them: the parameters, the number of rows, and the columns of all rows
pub record Stands (c : Contents) (p : Parameters) (n : ℕ) (v : Columns) : Type 0 where
  pub own : p ≡ c.parameters
  pub count : n ≡ length c.offers
  pub clearable : Clearable c
  pub listed : Listed c.offers v

-- there are contents that stand so
pub record SomeStand (p : Parameters) (n : ℕ) (v : Columns) : Type 0 where
  pub contents : Contents
  pub stands : Stands contents p n v

-- the clearing of contents, with what each row clears and commits in two lists
pub record ClearedAs (c : Contents) (cleared committed : List ℕ) (r : Clearing) (cleared' committed' : List ℕ) : Type 0 where
  pub clearing : r ≡ clearing_of c
  pub cleared-holds : cleared' ≡ cleared_list c cleared
  pub committed-holds : committed' ≡ committed_list c committed

-- whatever contents stand in the columns, theirs is the clearing
abbrev pub ClearsColumns : Parameters → ℕ → Columns → (cleared committed : List ℕ) → Clearing → (cleared' committed' : List ℕ) → Type 0
ClearsColumns p n v cleared committed r cleared' committed' =
    (c : Contents) → Stands c p n v → ClearedAs c cleared committed r cleared' committed'

-- the sale of offers on a curve: X at the clearing price, and the amounts are what each row clears of X
pub record SoldColumns (c : Curve) (o : Offers) (before : List ℕ) (s : Sale) (after : List ℕ) : Type 0 where
  pub quantity : s.total ≡ cleared_total (demand_of c) o
  pub quote : s.price ≡ as_price (clearing_price (demand_of c) o)
  pub amounts : SharedOut o s.total before after
