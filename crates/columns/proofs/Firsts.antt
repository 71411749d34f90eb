-- The first rows of columns that were zeros: a column cut to them, and all six.
-- Assumes nothing.
use mathlib.Core.Path.{◌≡◌, refl, sym, ◌∙◌}
use mathlib.Core.List.{List}
use Prim.Native.Nat.{ℕ, ◌≤◌, ◌<◌}
use native.Mathlib.Nat.{le_refl}
use native.Mathlib.Omega.{arith}
use lib.ListN.{length, take}
use lib.Seq.{ext_get_or}
use Rattle.std.proofs.lemmas.List.{get_or-take, length-take-le}
use Rattle.laws.specs.Filled.{filled}
use Rattle.laws.proofs.Filling.{zeros, length-zeros, length-filling}
use Rattle.laws.proofs.Fills.{get_d-filled}
use Rattle.values.specs.declared.place.Offer.{Offer}
use Rattle.columns.specs.inner.Column.{Column}
use Rattle.columns.specs.inner.Columns.{Columns, Listed}
use Rattle.columns.specs.inner.Sides.{first_rows}
use Rattle.columns.proofs.Offers.{column-long, column-row}

-- a column of n rows that was zeros, cut to them
column-first : (value : ℕ → ℕ) {n m : ℕ} {after : List ℕ} → Column value n (zeros m) after → n ≤ m
    → Column value n (zeros n) (take n after)
column-first value {n} {m} {after} column enough =
    let long : length (take n after) ≡ n = length-take-le n after (column-long value column enough) in
    ext_get_or 0 (take n after) (filled value n (zeros n))
    (long ∙ sym (length-filling value n (zeros n) refl ∙ length-zeros n))
    (λ i h.
    let l : i < n = omega (arith, long) in
    get_or-take n after i 0 l
    ∙ column-row value column enough i l
    ∙ sym (get_d-filled value n (zeros n) i 0 (omega (arith, length-zeros n)) l))

-- all offers of a book stand in the first rows
pub first-listed : (offers : List Offer) (n : ℕ) (v : Columns) → n ≡ length offers → Listed offers v → Listed offers (first_rows n v)
first-listed offers n v e l =
    rw e
    (record {
      room = length offers;
      enough = le_refl _;
      read =
          record {
            price = column-first _ l.read.price l.enough;
            quantity = column-first _ l.read.quantity l.enough;
            least = column-first _ l.read.least l.enough;
            resource = column-first _ l.read.resource l.enough;
            stamp = column-first _ l.read.stamp l.enough;
            step = column-first _ l.read.step l.enough;
          };
    })
