-- Whether rows that stand in columns pass 6, 7 and 10, told by tests of each row that wait for no other: its columns are tested one
-- by one, and what no column tells as the row is put into them.
--
-- In order: one row by its own columns, by those of the row before it and by what no column tells; all rows; the rows put.
-- Assumes nothing.
use Rattle.std.specs.Prelude.{ℕ, ◌+◌, ◌-◌, ◌%◌, ◌≤◌, ◌≡◌, Bool, cond, ◌&&◌, ◌||◌, List, length, get_or, eqb, leb, ltb}
use Rattle.laws.specs.Sum.{every}
use Rattle.values.specs.Contents.{offer_at}
use Rattle.values.specs.declared.place.Offer.{Offer}
use Rattle.limits.specs.Parameters.{within}
use Rattle.steps.specs.Steps.{flexible}
use Rattle.columns.specs.inner.Columns.{Columns, ColumnsRead}

-- ---- one row

-- Its own columns are in range. A missing price is held as all ones, which is not. The least that it commits is its minimum block, or
-- 1, which is in range wherever the quantity is.
unfoldable pub row_holds : (price quantity least resource step : ℕ) → Bool
row_holds price quantity least resource step =
    leb price 1000000 && (within 1 200000 quantity && (within 1 quantity least && (leb 1 resource && within 1 10 step)))

-- It has step 1, or the resource number of the row before it, one step more, and a price that is not lower. The step before is cut to
-- a byte, which leaves one in range as it is.
unfoldable pub step_kept : (least price other resource last step : ℕ) → Bool
step_kept least price other resource last step =
    eqb step 1 || (eqb resource other && (eqb step (last % 256 + 1) && leb least price))

-- Its offer has a seller, and past step 1 no minimum block.
unfoldable pub rest_holds : Offer → Bool
rest_holds o = leb 1 o.seller && (eqb o.step 1 || flexible o.block)

-- ---- all rows

module _ (prices quantities leasts resources steps : List ℕ) where
  -- n rows stand in each of five columns
  abbrev pub Long : ℕ → Type 0
  Long n =
      (n ≤ length prices)
      × ((n ≤ length quantities)
      × ((n ≤ length leasts)
      × ((n ≤ length resources)
      × (n ≤ length steps))))

  abbrev pub values_hold : ℕ → Bool
  values_hold n =
      every
      (λ row. row_holds (get_or prices row 0) (get_or quantities row 0) (get_or leasts row 0) (get_or resources row 0) (get_or steps row 0))
      n

module _ (prices resources steps : List ℕ) where
  -- row 0 has no row before it, and so it has step 1
  abbrev pub step_at : ℕ → Bool
  step_at row =
      cond (ltb 0 row)
      (step_kept (get_or prices (row - 1) 0) (get_or prices row 0) (get_or resources (row - 1) 0) (get_or resources row 0) (get_or steps (row - 1) 0)
      (get_or steps row 0))
      (eqb (get_or steps row 0) 1)

  abbrev pub steps_hold : ℕ → Bool
  steps_hold n = every step_at n

-- offers of edition 1 have step 1 throughout, and there no step is tested
abbrev pub columns_hold : ℕ → (prices quantities leasts resources steps : List ℕ) → ℕ → Bool
columns_hold edition prices quantities leasts resources steps n =
    values_hold prices quantities leasts resources steps n && (eqb edition 1 || steps_hold prices resources steps n)

-- ---- the rows put

-- n offers stand in columns, and whether each holds by what no column tells
pub record RowsPut (offers : List Offer) (n : ℕ) (told : Bool) (before after : Columns) : Type 0 where
  pub rest : told ≡ every (λ row. rest_holds (offer_at offers row)) n
  pub read : ColumnsRead offers n before after
