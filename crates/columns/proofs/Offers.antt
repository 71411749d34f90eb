-- Offers that stand in columns, read at every row.
--
-- In order: a column holds each row's value and is long enough; of all offers it is the value as a function of the row, and so
-- the columns are the offers of the auction; columns of zeros have room, and once all offers are read they are listed.
-- Assumes nothing.
use mathlib.Core.Path.{◌≡◌, refl, ap, sym, subst, ◌∙◌, fun_ext}
use mathlib.Core.List.{List}
use Prim.Native.Nat.{ℕ, ◌≤◌, ◌<◌}
use native.Mathlib.Omega.{arith}
use lib.ListN.{length, get_or, get_or-eq_default}
use borrow.Author.Tests.{lt-ltb, le-ltb}
use Rattle.laws.proofs.Cases.{by_order, cond-true, cond-false}
use Rattle.laws.proofs.Fills.{get_d-filled}
use Rattle.laws.proofs.Filling.{zeros, length-zeros, length-filling, filled-zeros}
use Rattle.auction.specs.Offers.{Offers}
use Rattle.values.specs.Values.{held}
use Rattle.values.specs.Contents.{no_offer, offer_at}
use Rattle.values.specs.declared.place.Offer.{Offer}
use Rattle.columns.specs.inner.Column.{row_price, row_quantity, row_stamp, row_resource, row_step, Column, rows_of}
use Rattle.columns.specs.inner.Columns.{Columns, empty, Blank, Room, ColumnsRead, Listed}

module _ (value : ℕ → ℕ) {n m : ℕ} {after : List ℕ} (column : Column value n (zeros m) after) (enough : n ≤ m) where
  pub column-long : n ≤ length after
  column-long = omega (arith, length-filling value n (zeros m) column, length-zeros m)

  pub column-row : (i : ℕ) → i < n → get_or after i 0 ≡ value i
  column-row i l = ap (λ (xs : List ℕ). get_or xs i 0) column ∙ get_d-filled value n (zeros m) i 0 (omega (arith, length-zeros m)) l

module _ (offers : List Offer) where
  -- a value of each offer, which is 0 past the last, in a column of all of them
  column-all : (of : Offer → ℕ) {m : ℕ} {after : List ℕ} → of no_offer ≡ 0
      → Column (λ i. of (offer_at offers i)) (length offers) (zeros m) after → length offers ≤ m
      → ◌≡◌ {A = ℕ → ℕ} (λ i. get_or after i 0) (λ i. of (offer_at offers i))
  column-all of {m} none column enough =
      filled-zeros (λ i. of (offer_at offers i)) (length offers) m enough column
      ∙ fun_ext (λ i. by_order (length offers) i
      (λ h. cond-false _ _ _ (le-ltb i (length offers) h) ∙ sym (ap of (get_or-eq_default offers no_offer h) ∙ none))
      (λ h. cond-true _ _ _ (lt-ltb i (length offers) h)))

-- the offers of an auction, by row
abbrev pub offers_by : List Offer → Offers
offers_by offers =
    record {
      count = length offers;
      price = row_price offers;
      quantity = row_quantity offers;
      stamp = row_stamp offers;
      resource = row_resource offers;
      step = row_step offers;
    }

-- all offers in columns are those of the auction
pub listed-offers : (offers : List Offer) (v : Columns) → Listed offers v
    → rows_of v.prices v.quantities v.stamps v.resources v.steps (length offers) ≡ offers_by offers
listed-offers offers v l =
    λ i.
    record {
      count = length offers;
      price = column-all offers (λ o. held o.price) refl l.read.price l.enough i;
      quantity = column-all offers (λ o. o.quantity) refl l.read.quantity l.enough i;
      stamp = column-all offers (λ o. o.stamp) refl l.read.stamp l.enough i;
      resource = column-all offers (λ o. o.resource) refl l.read.resource l.enough i;
      step = column-all offers (λ o. o.step) refl l.read.step l.enough i;
    }

-- columns of zeros have a place for every row
zeros-room : (n m : ℕ) → n ≤ m → Room n (empty m)
zeros-room n m l =
    let long : n ≤ length (zeros m) = omega (arith, length-zeros m) in
    record { price = long; quantity = long; least = long; resource = long; stamp = long; step = long }

pub blank-room : (n : ℕ) (v : Columns) → Blank n v → Room n v
blank-room n v b = subst (Room n) (sym b.zeros) (zeros-room n b.room b.enough)

-- all offers read into columns of zeros are listed
pub blank-listed : (offers : List Offer) (n : ℕ) (before after : Columns) → n ≡ length offers → Blank n before
    → ColumnsRead offers (length offers) before after → Listed offers after
blank-listed offers n before after e b read =
    record {
      room = b.room;
      enough = omega (arith, b.enough);
      read = subst (λ (v : Columns). ColumnsRead offers (length offers) v after) b.zeros read;
    }
