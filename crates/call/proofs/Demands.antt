-- The demands, read on the call: for every string of bytes on which it answers with a clearing.
--
-- In order: the total is the largest that can be supplied; the price; where nothing clears there is no price and nothing is
-- paid; the numbers in the cleared buffer clear by price, and are the best choice; they divide each price level by the stated
-- shares; minimum blocks change nothing of what is cleared.
-- Assumes nothing.
use mathlib.Core.Path.{◌≡◌, ap, ◌∙◌}
use mathlib.Core.List.{List}
use Prim.Native.Nat.{ℕ, ◌<◌}
use lib.ListN.{get_or}
use contract.Lifetimes.{Lfts}
use denote.Ref.{Bor, MutBor}
use Rattle.std.specs.Prelude.{Ok}
use Rattle.laws.proofs.Sums.{sum_to-ext}
use Rattle.auction.specs.Offers.{Offers, Demand}
use Rattle.auction.specs.Clearing.{cleared_total, clearing_price}
use Rattle.auction.specs.Shares.{cleared}
use Rattle.auction.specs.Demands.{IsTotal, ByPrice, Best, Divided}
use Rattle.auction.proofs.Total.{total-is-largest}
use Rattle.auction.proofs.Best.{by_price-best}
use Rattle.auction.proofs.Cleared.{cleared-by_price}
use Rattle.auction.proofs.Divided.{cleared-divided, divided-agree}
use Rattle.pricing.specs.Price.{as_price}
use Rattle.layout.specs.Read.{contents_of}
use Rattle.sale.specs.Auction.{offers_of, demand, total, price, row_cleared}
use Rattle.call.specs.Answer.{Outcome}
use Rattle.sale.specs.Payment.{clearing_of}
use Rattle.sale.specs.declared.Clearing.{Clearing}
use Rattle.book.proofs.Accepted.{accepted-clearable}
use Rattle.sale.proofs.Ground.{clearable-falls, clearable-proper}
use Rattle.values.specs.Contents.{Contents}
use Rattle.limits.specs.Clearable.{Clearable}
use Rattle.call.proofs.Decided.{Called, call-outcome}
use Rattle.call.proofs.Outcomes.{cleared-accepted, cleared-clearing, cleared-row}

-- amounts that agree in every row clear by price alike
by_price-agree : (d : Demand) (o : Offers) (x y : ℕ → ℕ) → ((i : ℕ) → i < o.count → y i ≡ x i) → ByPrice d o x → ByPrice d o y
unfolding Rattle.auction.specs.Surplus.total
by_price-agree d o x y e h =
    record {
      within = λ i l. rw (e i l) (h.within i l);
      sum = sum_to-ext y x o.count e ∙ h.sum;
      whole = λ p f i l g. e i l ∙ h.whole p f i l g;
      nothing = λ p f i l g. e i l ∙ h.nothing p f i l g;
    }

module _ (κs : Lfts 3) (book : Bor (List ℕ)) (cleared₀ committed₀ cleared₁ committed₁ : MutBor (List ℕ)) (k : Clearing)
    (called : Called κs book cleared₀ committed₀ cleared₁ committed₁ (Ok k)) where
  abbrev b : List ℕ
  b = book.now

  out : Outcome b cleared₀.now committed₀.now (Ok k) cleared₁.now committed₁.now
  out = call-outcome κs book cleared₀ committed₀ cleared₁ committed₁ (Ok k) called

  -- what the book says, the curve that its parameters select, and its offers
  abbrev said : Contents
  said = contents_of b

  abbrev asked : Demand
  asked = demand said

  abbrev offered : Offers
  offered = offers_of said.offers

  -- the numbers in the cleared buffer
  abbrev amounts : ℕ → ℕ
  amounts row = get_or cleared₁.now row 0

  clearable : Clearable said
  clearable = accepted-clearable b (cleared-accepted b cleared₀.now committed₀.now k cleared₁.now committed₁.now out)

  -- DEMAND 2. The cleared total is the largest quantity that offers priced at or under the curve there can supply.
  pub call-total : IsTotal asked offered k.total
  unfolding total clearing_of
  call-total = rw (ap (λ (c : Clearing). c.total) (cleared-clearing b cleared₀.now committed₀.now k cleared₁.now committed₁.now out)) (total-is-largest asked offered)

  -- The price is the clearing price, or its absence.
  pub call-price : k.price ≡ as_price (clearing_price asked offered)
  unfolding price clearing_of
  call-price = ap (λ (c : Clearing). c.price) (cleared-clearing b cleared₀.now committed₀.now k cleared₁.now committed₁.now out)

  -- DEMAND 2. Every offer under the price clears in full, every offer over it nothing, and the amounts add up to the total.
  pub call-by-price : ByPrice asked offered amounts
  unfolding row_cleared total offers_of
  call-by-price =
      by_price-agree asked offered (cleared offered (cleared_total asked offered)) amounts
      (λ i l. cleared-row b cleared₀.now committed₀.now k cleared₁.now committed₁.now out i l)
      (cleared-by_price asked offered (clearable-falls said clearable) (clearable-proper said clearable))

  -- DEMAND 3. No other choice of amounts leaves more surplus, and none with equal surplus clears more.
  pub call-best : Best asked offered amounts
  call-best = by_price-best asked offered amounts (clearable-falls said clearable) call-by-price

  -- DEMAND 3. Offers tied at one price divide what that price sells by the stated shares.
  pub call-shares : Divided offered (cleared_total asked offered) amounts
  unfolding row_cleared total offers_of
  call-shares =
      divided-agree offered (cleared_total asked offered) (cleared offered (cleared_total asked offered)) amounts
      (λ i l. cleared-row b cleared₀.now committed₀.now k cleared₁.now committed₁.now out i l)
      (cleared-divided offered (cleared_total asked offered) (clearable-proper said clearable))
