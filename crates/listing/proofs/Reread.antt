-- What the plain structs keep of what a book says.
--
-- In order: a value that goes out and comes in again is the same, and so are parameters and offers; rows that go out alike are the
-- same offer; what stands in an entry of the array, filled or not.
-- Assumes nothing.
use mathlib.Core.Path.{◌≡◌, refl, sym, ap, ◌∙◌}
use mathlib.Core.List.{List}
use Prim.Native.Nat.{ℕ, zero, suc, ◌≤◌, ◌<◌}
use native.Mathlib.Omega.{arith}
use lib.ListN.{length, get_or}
use lib.Seq.{get_or-set_same, get_or-set_other}
use Rattle.laws.proofs.Cases.{by-equality}
use Rattle.values.specs.declared.Value.{Value}
use Rattle.values.specs.declared.Value.TheVariants.{Given, Missing}
use Rattle.values.specs.declared.head.Parameters.{Parameters}
use Rattle.values.specs.declared.place.Offer.{Offer}
use Rattle.plain.specs.Given.{value_in, parameters_in, offer_in}
use Rattle.plain.specs.declared.structs.OzpRow.{OzpRow}
use Rattle.listing.specs.Listed.{value_out, offer_out, contents_out, filled_rows}
use Rattle.listing.proofs.Listings.{length-filled}

-- ---- values, parameters and offers

value-again : (v : Value) → value_in (value_out v) ≡ v
unfolding value_in
value-again (Given number) = refl
value-again Missing = refl

-- Parameters that are read from a book and handed in again are the book's own, what is missing among them.
pub parameters-again : (edition : ℕ) (p : Parameters) (rows : ℕ) → parameters_in (contents_out edition p rows).parameters ≡ p
parameters-again edition p rows =
    λ i. record {
      year = p.year;
      cost = value-again p.cost i;
      offset = value-again p.offset i;
      outage = value-again p.outage i;
      requirement = value-again p.requirement i;
      margin = value-again p.margin i;
    }

-- So is an offer.
pub offer-again : (o : Offer) → offer_in (offer_out o) ≡ o
offer-again o =
    λ i. record {
      resource = o.resource;
      seller = o.seller;
      price = value-again o.price i;
      quantity = o.quantity;
      block = value-again o.block i;
      stamp = o.stamp;
      step = o.step;
    }

-- Rows that are shown alike are the same offer: nothing is lost, and no value needs to be in any range.
pub offer-told : (o p : Offer) → offer_out o ≡ offer_out p → o ≡ p
offer-told o p e = sym (offer-again o) ∙ ap offer_in e ∙ offer-again p

-- ---- the entries of the array

module _ (f : ℕ → OzpRow) where
  -- an entry that was filled holds its row's values
  pub get_d-filled : (n : ℕ) (xs : List OzpRow) (i : ℕ) (d : OzpRow) → n ≤ length xs → i < n → get_or (filled_rows f n xs) i d ≡ f i
  unfolding filled_rows
  get_d-filled zero xs i d h l = absurd (omega arith)
  get_d-filled (suc n) xs i d h l =
      by-equality i n
      (λ e. rw e (get_or-set_same (filled_rows f n xs) n (f n) d (omega (arith, length-filled f n xs))))
      (λ e. get_or-set_other (filled_rows f n xs) n i (f n) d e ∙ get_d-filled n xs i d (omega arith) (omega arith))

  -- an entry past those holds what it held
  pub get_d-unfilled : (n : ℕ) (xs : List OzpRow) (i : ℕ) (d : OzpRow) → n ≤ i → get_or (filled_rows f n xs) i d ≡ get_or xs i d
  unfolding filled_rows
  get_d-unfilled zero xs i d h = refl
  get_d-unfilled (suc n) xs i d h =
      get_or-set_other (filled_rows f n xs) n i (f n) d (λ e. omega arith) ∙ get_d-unfilled n xs i d (omega arith)
