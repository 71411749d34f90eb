-- Six columns side by side, room for rows in them, and what they hold once the rows are read.
-- Assumes nothing.
use Rattle.std.specs.Prelude.{ℕ, ◌≤◌, ◌≡◌, List, length, replicate}
use Rattle.values.specs.declared.place.Offer.{Offer}
use Rattle.columns.specs.inner.Column.{row_price, row_quantity, row_least, row_resource, row_stamp, row_step, Column}

-- the six lists that a book is read into
pub record Columns : Type 0 where
  pub prices : List ℕ
  pub quantities : List ℕ
  pub leasts : List ℕ
  pub resources : List ℕ
  pub stamps : List ℕ
  pub steps : List ℕ

abbrev pub columns_of : (prices quantities leasts resources stamps steps : List ℕ) → Columns
columns_of prices quantities leasts resources stamps steps =
    record { prices = prices; quantities = quantities; leasts = leasts; resources = resources; stamps = stamps; steps = steps }

-- six columns of so many zeros
abbrev pub empty : ℕ → Columns
empty m = columns_of (replicate m 0) (replicate m 0) (replicate m 0) (replicate m 0) (replicate m 0) (replicate m 0)

-- each list has a place for every one of n rows
pub record Room (n : ℕ) (lists : Columns) : Type 0 where
  pub price : n ≤ length lists.prices
  pub quantity : n ≤ length lists.quantities
  pub least : n ≤ length lists.leasts
  pub resource : n ≤ length lists.resources
  pub stamp : n ≤ length lists.stamps
  pub step : n ≤ length lists.steps

-- columns of zeros with a place for every one of n rows
pub record Blank (n : ℕ) (lists : Columns) : Type 0 where
  pub room : ℕ
  pub enough : n ≤ room
  pub zeros : lists ≡ empty room

-- the first n offers stand in the lists, in order, and nothing else in them is touched
pub record ColumnsRead (offers : List Offer) (n : ℕ) (before after : Columns) : Type 0 where
  -- the price that each row holds
  pub price : Column (row_price offers) n before.prices after.prices
  -- the quantity that each row offers
  pub quantity : Column (row_quantity offers) n before.quantities after.quantities
  -- the least that each row commits once any of it clears
  pub least : Column (row_least offers) n before.leasts after.leasts
  -- the number of each row's resource
  pub resource : Column (row_resource offers) n before.resources after.resources
  -- each row's time stamp
  pub stamp : Column (row_stamp offers) n before.stamps after.stamps
  -- which of its resource's steps each row is
  pub step : Column (row_step offers) n before.steps after.steps

-- all offers of a book stand in columns that had room for them and held nothing else
pub record Listed (offers : List Offer) (lists : Columns) : Type 0 where
  pub room : ℕ
  pub enough : length offers ≤ room
  pub read : ColumnsRead offers (length offers) (empty room) lists
