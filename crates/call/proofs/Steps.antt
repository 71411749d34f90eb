-- TEN PRICE STEPS, read on an accepted book and on the call.
--
-- In order: no two rows have one resource and one step; the rows of a resource stand together, counted up from 1, at prices that
-- never fall; a dearer one clears nothing until a cheaper one is cleared whole.
-- Assumes nothing.
use mathlib.Core.Path.{◌≡◌}
use mathlib.Core.Bool.{true}
use mathlib.Core.List.{List}
use Prim.Native.Nat.{ℕ, ◌≤◌, ◌<◌}
use native.Mathlib.Omega.{arith}
use lib.ListN.{length, get_or}
use contract.Lifetimes.{Lfts}
use denote.Ref.{Bor, MutBor}
use Rattle.std.specs.Prelude.{Ok}
use Rattle.laws.proofs.Cases.{by_order}
use Rattle.laws.proofs.Sums.{sum_to-place}
use Rattle.auction.specs.Offers.{Offers, Demand}
use Rattle.auction.specs.Clearing.{cleared_total}
use Rattle.auction.specs.Demands.{ByPrice}
use Rattle.auction.proofs.Price.{margin_price, price-some}
use Rattle.values.specs.Values.{held}
use Rattle.values.specs.Contents.{offer_at}
use Rattle.values.specs.declared.place.Offer.{Offer}
use Rattle.values.proofs.Firsts.{and_then-right}
use Rattle.limits.specs.Offers.{rows_fault}
use Rattle.limits.specs.Given.{parameters_fault}
use Rattle.layout.specs.Read.{contents_of}
use Rattle.book.specs.Faults.{contents_fault, first_fault}
use Rattle.book.proofs.Accepted.{accepted-contents, accepted-clearable}
use Rattle.sale.specs.Auction.{offers_of}
use Rattle.sale.specs.declared.Clearing.{Clearing}
use Rattle.call.specs.Steps.{Together, StepOne}
use Rattle.call.proofs.Decided.{Called}
use Rattle.call.proofs.Demands.{call-by-price}
use Rattle.call.proofs.Together.{together, step-one}
use Rattle.values.specs.Refusals.{no_fault}

-- ---- the rows of an accepted book

module _ (b : List ℕ) (accepted : first_fault b ≡ no_fault) where
  -- the offers that it says, by row, and how many they are
  abbrev offer : ℕ → Offer
  offer = offer_at (contents_of b).offers

  abbrev count : ℕ
  count = length (contents_of b).offers

  rows : rows_fault true (contents_of b).edition offer count ≡ no_fault
  unfolding contents_fault
  rows = and_then-right (parameters_fault (contents_of b).parameters) _ (accepted-contents b accepted)

  -- REQUEST 06. In an accepted book no two rows have the same resource and the same step.
  pub steps-distinct : (row other : ℕ) → row < count → other < count
      → (offer row).resource ≡ (offer other).resource → (offer row).step ≡ (offer other).step → row ≡ other
  steps-distinct = (accepted-clearable b accepted).distinct

  -- REQUEST 06. Two rows of one resource stand together: all rows between them are that resource's, their steps are counted up,
  -- and the price does not fall.
  pub steps-together : (i j : ℕ) → i ≤ j → j < count → (offer i).resource ≡ (offer j).resource → Together offer i j
  steps-together = together (contents_of b).edition offer count rows

  -- REQUEST 06. Every resource's steps start at 1: a row of step 1 stands no later than any other of that resource.
  pub steps-from-one : (row : ℕ) → row < count → StepOne offer row
  steps-from-one = step-one (contents_of b).edition offer count rows

-- ---- what clears of them

-- amounts that clear by price: where an offer does not clear whole, every dearer one clears nothing
dearer-nothing : (d : Demand) (o : Offers) (x : ℕ → ℕ) → ByPrice d o x → (i j : ℕ) → i < o.count → j < o.count
    → o.price i < o.price j → (x i ≡ o.quantity i → ⊥) → x j ≡ 0
unfolding Rattle.auction.specs.Surplus.total
dearer-nothing d o x by i j l m dearer part =
    by_order (cleared_total d o) 0
    (λ none. omega (arith, sum_to-place x o.count j m, by.sum))
    (λ some.
    let p = margin_price d o (cleared_total d o) in
    let priced = price-some d o some in
    by_order p (o.price i)
    (λ h. by.nothing p priced j m (omega arith))
    (λ h. absurd (part (by.whole p priced i l h))))

module _ (κs : Lfts 3) (book : Bor (List ℕ)) (cleared₀ committed₀ cleared₁ committed₁ : MutBor (List ℕ)) (k : Clearing)
    (called : Called κs book cleared₀ committed₀ cleared₁ committed₁ (Ok k)) where
  -- REQUEST 06. Where a row does not clear whole, every dearer row clears nothing: no step of a resource clears before its
  -- cheaper steps are cleared whole.
  pub steps-in-order : let offer = offer_at (contents_of book.now).offers in
      let amounts : ℕ → ℕ = λ row. get_or cleared₁.now row 0 in
      (i j : ℕ) → i < length (contents_of book.now).offers → j < length (contents_of book.now).offers
      → held (offer i).price < held (offer j).price → (amounts i ≡ (offer i).quantity → ⊥) → amounts j ≡ 0
  unfolding offers_of
  steps-in-order = dearer-nothing _ _ _ (call-by-price κs book cleared₀ committed₀ cleared₁ committed₁ k called)
