-- The contracts of the lines on what a book states and how it clears leave one outcome but for the words: any two that a contract
-- allows, by one form, coincide.
-- Assumes nothing.
use mathlib.Core.Path.{◌≡◌}
use mathlib.Core.List.{List}
use Prim.Native.Nat.{ℕ}
use contract.Lifetimes.{Lfts}
use denote.Ref.{MutBor}
use Rattle.values.specs.declared.head.Parameters.{Parameters}
use Rattle.curve.specs.declared.Curve.{Curve}
use Rattle.reasons.specs.declared.stop.Stop.{Stop}
use Rattle.sale.specs.declared.Clearing.{Clearing}
use Rattle.wording.proofs.Worded.{one_form}
use Rattle.lines.proofs.stated.put_stated.Reads as put-stated
use Rattle.lines.proofs.sold.put_sold.Reads as put-sold
use Rattle.lines.proofs.sold.put_year.Reads as put-year
use Rattle.lines.proofs.points.put_prices.Reads as put-prices
use Rattle.lines.proofs.points.put_quantities.Reads as put-quantities
use Rattle.lines.proofs.total.put_total.Reads as put-total
use Rattle.lines.proofs.total.put_price.Reads as put-price
use Rattle.pricing.specs.Price.{ClearingPrice}

module _ (κs : Lfts 1) (room after other : MutBor (List ℕ)) (at r s : ℕ) where
  -- what a book states, by the contract of `put_stated`
  pub put-stated-decided : (edition : ℕ) (p : Parameters) (offers : ℕ)
      → (e : put-stated.Post κs (room, (at, (edition, (p, (offers, tt))))) r (after, (at, (edition, (p, (offers, tt))))))
      → (f : put-stated.Post κs (room, (at, (edition, (p, (offers, tt))))) s (other, (at, (edition, (p, (offers, tt))))))
      → e.form ≡ f.form → (r ≡ s) × (after.now ≡ other.now)
  put-stated-decided edition p offers e f same = one_form e f same

  -- what a book sells, by the contract of `put_sold`
  pub put-sold-decided : (k : Clearing) (offers : ℕ)
      → (e : put-sold.Post κs (room, (at, (k, (offers, tt)))) r (after, (at, (k, (offers, tt)))))
      → (f : put-sold.Post κs (room, (at, (k, (offers, tt)))) s (other, (at, (k, (offers, tt)))))
      → e.form ≡ f.form → (r ≡ s) × (after.now ≡ other.now)
  put-sold-decided k offers e f same = one_form e f same

  -- the total of a year, by the contract of `put_year`
  pub put-year-decided : (year days daily total : ℕ)
      → (e : put-year.Post κs (room, (at, (year, (days, (daily, (total, tt)))))) r (after, (at, (year, (days, (daily, (total, tt)))))))
      → (f : put-year.Post κs (room, (at, (year, (days, (daily, (total, tt)))))) s (other, (at, (year, (days, (daily, (total, tt)))))))
      → e.form ≡ f.form → (r ≡ s) × (after.now ≡ other.now)
  put-year-decided year days daily total e f same = one_form e f same

  -- the prices of the curve's points, by the contract of `put_prices`
  pub put-prices-decided : (p : Parameters) (c : Curve)
      → (e : put-prices.Post κs (room, (at, (p, (c, tt)))) r (after, (at, (p, (c, tt)))))
      → (f : put-prices.Post κs (room, (at, (p, (c, tt)))) s (other, (at, (p, (c, tt)))))
      → e.form ≡ f.form → (r ≡ s) × (after.now ≡ other.now)
  put-prices-decided p c e f same = one_form e f same

  -- the quantities of the curve's points, by the contract of `put_quantities`
  pub put-quantities-decided : (p : Parameters) (c : Curve)
      → (e : put-quantities.Post κs (room, (at, (p, (c, tt)))) r (after, (at, (p, (c, tt)))))
      → (f : put-quantities.Post κs (room, (at, (p, (c, tt)))) s (other, (at, (p, (c, tt)))))
      → e.form ≡ f.form → (r ≡ s) × (after.now ≡ other.now)
  put-quantities-decided p c e f same = one_form e f same

  -- the cleared total, by the contract of `put_total`
  pub put-total-decided : (stop : Stop) (offers : ℕ)
      → (e : put-total.Post κs (room, (at, (stop, (offers, tt)))) r (after, (at, (stop, (offers, tt)))))
      → (f : put-total.Post κs (room, (at, (stop, (offers, tt)))) s (other, (at, (stop, (offers, tt)))))
      → e.form ≡ f.form → (r ≡ s) × (after.now ≡ other.now)
  put-total-decided stop offers e f same = one_form e f same

  -- the price, by the contract of `put_price`
  pub put-price-decided : (price : ClearingPrice) (stop : Stop)
      → (e : put-price.Post κs (room, (at, (price, (stop, tt)))) r (after, (at, (price, (stop, tt)))))
      → (f : put-price.Post κs (room, (at, (price, (stop, tt)))) s (other, (at, (price, (stop, tt)))))
      → e.form ≡ f.form → (r ≡ s) × (after.now ≡ other.now)
  put-price-decided price stop e f same = one_form e f same
