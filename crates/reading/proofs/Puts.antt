-- Laws of `RowsPut`: what the loop has shown that puts a book's rows into columns.
--
-- In order: no row yet; one more row; the columns are as long as they were; the loop's end.
-- Assumes nothing.
use mathlib.Core.Path.{◌≡◌, sym, ap, ap₂, ◌∙◌}
use mathlib.Core.Bool.{Bool, true, ◌&&◌}
use mathlib.Core.List.{List}
use Prim.Native.Nat.{ℕ, ◌+◌, ◌≤◌}
use native.Mathlib.Numerals.{add-one}
use native.Mathlib.Omega.{arith}
use lib.ListN.{length}
use Rattle.laws.proofs.Everys.{every-zero, every-suc}
use Rattle.laws.proofs.Filling.{length-filling}
use Rattle.values.specs.Values.{held}
use Rattle.values.specs.inner.Values.{least_of}
use Rattle.values.specs.Contents.{offer_at}
use Rattle.values.specs.declared.place.Offer.{Offer}
use Rattle.columns.specs.inner.Column.{row_resource, row_step}
use Rattle.columns.specs.inner.Columns.{Columns, Room}
use Rattle.columns.proofs.Turns.{stored, columns-none, columns-more}
use Rattle.reading.specs.inner.Lanes.{rest_holds, RowsPut}

module _ (offers : List Offer) where
  -- where the loop begins
  pub put-none : (lists : Columns) → RowsPut offers 0 true lists lists
  put-none lists = record { rest = sym (every-zero _); read = columns-none offers lists }

  -- one more row
  pub put-more : (row : ℕ) {told holds : Bool} {before after : Columns} {o : Offer} {price least : ℕ}
      → RowsPut offers row told before after → o ≡ offer_at offers row → price ≡ held o.price → least ≡ least_of o.block
      → holds ≡ rest_holds o → RowsPut offers (row + 1) (told && holds) before (stored after row o price least)
  put-more row put own p l h =
      record {
        rest = rw (add-one, every-suc) (ap₂ ◌&&◌ put.rest (h ∙ ap rest_holds own));
        read = columns-more offers row put.read own p l;
      }

  -- the columns still have room for all rows
  pub put-room : (n : ℕ) {told : Bool} {before after : Columns} → RowsPut offers n told before after → Room n before
      → (n ≤ length after.resources) × (n ≤ length after.steps)
  put-room n put room = (
    omega (arith, room.resource, length-filling (row_resource offers) n _ put.read.resource),
    omega (arith, room.step, length-filling (row_step offers) n _ put.read.step),
  )

-- the loop ends with as many rows as there are
pub put-end : {offers : List Offer} {row n : ℕ} {told : Bool} {before after : Columns}
    → RowsPut offers row told before after → row ≡ n → RowsPut offers n told before after
put-end put e = rw e at put
