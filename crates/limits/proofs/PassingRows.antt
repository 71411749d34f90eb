-- What rows that passed the tests are: offers of a sound book, priced where prices are needed, each the first step of its resource
-- or behind the step before it, and no two with one resource number and one step.
--
-- In order: what a row without fault passed, by 6 and 7, by 8, by 10; rows that have one resource number and one step;
-- rows that are priced.
-- Assumes nothing.
use mathlib.Core.Path.{◌≡◌, refl, sym, ◌∙◌}
use mathlib.Core.Bool.{Bool, true}
use Prim.Native.Nat.{ℕ, zero, suc, ◌-◌, ◌<◌}
use native.Mathlib.Omega.{arith}
use borrow.Author.Tests.{eq-eqb}
use Rattle.laws.proofs.Cases.{by_order, by-equality}
use Rattle.values.specs.Refusals.{and_then, no_fault}
use Rattle.values.specs.declared.place.Offer.{Offer}
use Rattle.values.specs.declared.refusal.Refusal.TheVariants.{RepeatedResource, BrokenSteps}
use Rattle.values.proofs.Firsts.{unless-passed, and_then-left, and_then-right, first-at}
use Rattle.repeats.specs.Repeats.{fresh, no_repeat}
use Rattle.repeats.proofs.Fresh.{fresh-differs, repeat-tested}
use Rattle.steps.specs.Steps.{step_holds}
use Rattle.steps.proofs.Following.{Follows, step-past-zero, step-past-follows}
use Rattle.limits.specs.Offers.{offer_fault, repeat_fault, step_fault, rows_fault}
use Rattle.limits.specs.Ranges.{SoundOffer, PricedOffer}
use Rattle.limits.proofs.PassingOffers.{offer-sound, offer-in-range, offer-priced}

module _ (prices_needed : Bool) (edition : ℕ) (offers : ℕ → Offer) (n : ℕ)
    (e : rows_fault prices_needed edition offers n ≡ no_fault) where
  row-passed : (row : ℕ) → row < n
      → and_then (offer_fault prices_needed edition (offers row) row)
      (and_then (repeat_fault offers row) (step_fault (offers (row - 1)) (offers row) row)) ≡ no_fault
  unfolding rows_fault
  row-passed row l = first-at _ n row e l

  -- Each row passes 6 and 7.
  pub rows-values : (row : ℕ) → row < n → offer_fault prices_needed edition (offers row) row ≡ no_fault
  rows-values row l = and_then-left (offer_fault prices_needed edition (offers row) row) _ (row-passed row l)

  -- Where the rows have no fault, each is an offer of a sound book.
  pub rows-sound : (row : ℕ) → row < n → SoundOffer (offers row)
  rows-sound row l = offer-sound edition (offers row) (offer-in-range prices_needed edition (offers row) row (rows-values row l))

  -- It passes 8: the resource number of a row with step 1 stands in no earlier row.
  pub rows-fresh : (row : ℕ) → row < n → (offers row).step ≡ 1 → fresh (λ r. (offers r).resource) row ≡ true
  unfolding repeat_fault
  rows-fresh row l one =
      sym (repeat-tested (λ r. (offers r).resource) (λ r. (offers r).step) row (eq-eqb (offers row).step 1 one))
      ∙ unless-passed (no_repeat (λ r. (offers r).resource) (λ r. (offers r).step) row) (RepeatedResource row)
      (and_then-left (repeat_fault offers row) _ (and_then-right (offer_fault prices_needed edition (offers row) row) _ (row-passed row l)))

  -- It passes 10: it keeps the rules of steps.
  pub rows-steps : (row : ℕ) → row < n → step_holds (offers (row - 1)) (offers row) row ≡ true
  unfolding step_fault
  rows-steps row l =
      unless-passed (step_holds (offers (row - 1)) (offers row) row) (BrokenSteps row)
      (and_then-right (repeat_fault offers row) _ (and_then-right (offer_fault prices_needed edition (offers row) row) _ (row-passed row l)))

  -- A row past step 1 stands behind another, whose offer it follows.
  pub rows_behind : (row : ℕ) → row < n → ((offers row).step ≡ 1 → ⊥) → 0 < row
  rows_behind row l past = step-past-zero (offers (row - 1)) (offers row) row past (rows-steps row l)

  pub rows-follow : (row : ℕ) → row < n → ((offers row).step ≡ 1 → ⊥) → Follows (offers (row - 1)) (offers row)
  rows-follow row l past = step-past-follows (offers (row - 1)) (offers row) row past (rows-steps row l)

  -- rows with step 1 and one resource number are one row
  firsts-distinct : (row other : ℕ) → row < n → other < n → (offers row).resource ≡ (offers other).resource
      → (offers row).step ≡ 1 → (offers other).step ≡ 1 → row ≡ other
  firsts-distinct row other l m same one also =
      by_order row other
      (λ h. by_order other row
      (λ k. omega arith)
      (λ k. absurd (fresh-differs (λ r. (offers r).resource) other row (rows-fresh other m also) k same)))
      (λ k. absurd (fresh-differs (λ r. (offers r).resource) row other (rows-fresh row l one) k (sym same)))

  -- so are rows with any step: each stands behind the step before it, and those are one row
  steps-distinct : (step row other : ℕ) → row < n → other < n → (offers row).resource ≡ (offers other).resource
      → (offers row).step ≡ step → (offers other).step ≡ step → row ≡ other
  steps-distinct zero row other l m same s t = absurd (omega (arith, (rows-sound row l).step_from))
  steps-distinct (suc step) row other l m same s t =
      by-equality step 0
      (λ z. firsts-distinct row other l m same (omega arith) (omega arith))
      (λ past.
      let f = rows-follow row l (λ one. past (omega arith)) in
      let g = rows-follow other m (λ one. past (omega arith)) in
      let a = rows_behind row l (λ one. past (omega arith)) in
      let b = rows_behind other m (λ one. past (omega arith)) in
      let before =
      steps-distinct step (row - 1) (other - 1) (omega arith) (omega arith) (sym f.resource ∙ same ∙ g.resource)
      (omega (arith, f.step)) (omega (arith, g.step)) in
      omega arith)

  -- Rows with one resource number and one step are one row.
  pub rows-distinct : (row other : ℕ) → row < n → other < n → (offers row).resource ≡ (offers other).resource
      → (offers row).step ≡ (offers other).step → row ≡ other
  rows-distinct row other l m same also = steps-distinct (offers other).step row other l m same also refl

-- Where clearing's tests find no fault in the rows, each row has a price as well.
pub rows-priced : (edition : ℕ) (offers : ℕ → Offer) (n : ℕ) → rows_fault true edition offers n ≡ no_fault
    → (row : ℕ) → row < n → PricedOffer (offers row)
rows-priced edition offers n e row l = offer-priced edition (offers row) row (rows-values true edition offers n e row l)
