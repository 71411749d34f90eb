-- An offer whose columns hold, and that holds by what no column tells, passes 6 and 7, and 10 where its step stands behind the row
-- before it.
--
-- In order: its values; its step.
-- Assumes nothing.
use mathlib.Core.Path.{◌≡◌, refl, ◌∙◌}
use mathlib.Core.Bool.{Bool, true, false, ◌&&◌, ◌||◌, true≢false, false≢true}
use Prim.Native.Nat.{ℕ, ◌+◌, ◌%◌, ◌≤◌, ◌<◌}
use native.Mathlib.Omega.{arith}
use lib.Dec.{eqb, leb}
use borrow.Author.Tests.{eqb-true, eq-eqb, le-leb, lt-ltb}
use Rattle.laws.proofs.Cases.{by-test, cond-true, cond-false, and-true, and_left, and_right}
use Rattle.values.specs.Values.{held}
use Rattle.values.specs.inner.Values.{least_of}
use Rattle.values.specs.declared.Value.{Value}
use Rattle.values.specs.declared.Value.TheVariants.{Given, Missing}
use Rattle.values.specs.declared.place.Offer.{Offer}
use Rattle.values.proofs.Firsts.{unless-true, and_then-next}
use Rattle.limits.specs.Parameters.{within, given_within}
use Rattle.limits.specs.Offers.{price_fault, step_within, offer_in_range, offer_fault}
use Rattle.steps.specs.Steps.{not_cheaper, step_follows, step_holds}
use Rattle.reading.specs.inner.Lanes.{row_holds, step_kept, rest_holds}
use Rattle.values.specs.Refusals.{no_fault}

-- ---- its values

-- a price that is held in range is given
price-given : (price : Value) (row : ℕ) → leb (held price) 1000000 ≡ true → price_fault price row ≡ no_fault
price-given (Given number) row e = refl
price-given Missing row e = absurd (false≢true e)

price-within : (price : Value) → leb (held price) 1000000 ≡ true → given_within 0 1000000 price ≡ true
price-within (Given number) e = and-true (leb 0 number) (leb number 1000000) (le-leb 0 number (omega arith)) e
price-within Missing e = refl

block_within : (quantity : ℕ) (block : Value) → within 1 quantity (least_of block) ≡ true → given_within 1 quantity block ≡ true
block_within quantity (Given tenths) e = e
block_within quantity Missing e = refl

step-within : (edition step : ℕ) → (edition ≡ 1 → step ≡ 1) → within 1 10 step ≡ true → step_within edition step ≡ true
step-within edition step one e =
    by-test (eqb edition 1)
    (λ t. cond-true (eqb edition 1) (eqb step 1) (within 1 10 step) t ∙ eq-eqb step 1 (one (eqb-true edition 1 t)))
    (λ t. cond-false (eqb edition 1) (eqb step 1) (within 1 10 step) t ∙ e)

-- the columns of one offer
abbrev pub offer_holds : Offer → Bool
offer_holds o = row_holds (held o.price) o.quantity (least_of o.block) o.resource o.step

module _ (o : Offer) (values : offer_holds o ≡ true) where
  from-price : within 1 200000 o.quantity && (within 1 o.quantity (least_of o.block) && (leb 1 o.resource && within 1 10 o.step)) ≡ true
  unfolding row_holds
  from-price = and_right (leb (held o.price) 1000000) _ values

  price-held : leb (held o.price) 1000000 ≡ true
  unfolding row_holds
  price-held = and_left (leb (held o.price) 1000000) _ values

  quantity-held : within 1 200000 o.quantity ≡ true
  quantity-held = and_left (within 1 200000 o.quantity) _ from-price

  from-least : leb 1 o.resource && within 1 10 o.step ≡ true
  from-least =
      and_right (within 1 o.quantity (least_of o.block)) _ (and_right (within 1 200000 o.quantity) _ from-price)

  least-held : within 1 o.quantity (least_of o.block) ≡ true
  least-held =
      and_left (within 1 o.quantity (least_of o.block)) _ (and_right (within 1 200000 o.quantity) _ from-price)

  pub step-held : within 1 10 o.step ≡ true
  step-held = and_right (leb 1 o.resource) _ from-least

  -- it passes 6 and 7
  pub offer-passes : (edition row : ℕ) → (edition ≡ 1 → o.step ≡ 1) → rest_holds o ≡ true → offer_fault true edition o row ≡ no_fault
  unfolding offer_fault offer_in_range rest_holds
  offer-passes edition row one rest =
      and_then-next (price_fault o.price row) _ (price-given o.price row price-held)
      ∙ unless-true _ _
      (and-true (leb 1 o.resource) _ (and_left (leb 1 o.resource) _ from-least)
      (and-true (leb 1 o.seller) _ (and_left (leb 1 o.seller) _ rest)
      (and-true (given_within 0 1000000 o.price) _ (price-within o.price price-held)
      (and-true (within 1 200000 o.quantity) _ quantity-held
      (and-true (given_within 1 o.quantity o.block) _ (block_within o.quantity o.block least-held)
      (step-within edition o.step one step-held))))))

-- ---- its step

pub or_right : (s t : Bool) → s ≡ false → s || t ≡ true → t ≡ true
or_right true t e f = absurd (true≢false e)
or_right false t e f = f

not-cheaper : (v w : Value) → leb (held v) (held w) ≡ true → not_cheaper v w ≡ true
not-cheaper (Given least) (Given price) e = e
not-cheaper (Given least) Missing e = refl
not-cheaper Missing w e = refl

-- a row past step 1 that stands behind the step before it follows it
row-follows : (before o : Offer) → before.step ≤ 10 → rest_holds o ≡ true
    → step_kept (held before.price) (held o.price) before.resource o.resource before.step o.step ≡ true
    → eqb o.step 1 ≡ false → step_follows before o ≡ true
unfolding rest_holds step_kept step_follows
row-follows before o few rest kept past =
    let from1 = or_right (eqb o.step 1) _ past kept in
    let from2 = and_right (eqb o.resource before.resource) _ from1 in
    let next = eqb-true o.step (before.step % 256 + 1) (and_left (eqb o.step (before.step % 256 + 1)) _ from2) in
    and-true (eqb o.resource before.resource) _ (and_left (eqb o.resource before.resource) _ from1)
    (and-true (eqb o.step (before.step + 1)) _ (eq-eqb o.step (before.step + 1) (omega (arith, next, few)))
    (and-true (not_cheaper before.price o.price) _
    (not-cheaper before.price o.price (and_right (eqb o.step (before.step % 256 + 1)) _ from2))
    (or_right (eqb o.step 1) _ past (and_right (leb 1 o.seller) _ rest))))

-- so a row that has one before it keeps the rules of steps
pub step_keeps : (before o : Offer) (row : ℕ) → 0 < row → before.step ≤ 10 → rest_holds o ≡ true
    → step_kept (held before.price) (held o.price) before.resource o.resource before.step o.step ≡ true
    → step_holds before o row ≡ true
unfolding step_holds
step_keeps before o row behind few rest kept =
    by-test (eqb o.step 1)
    (λ t. rw t)
    (λ t. rw (t, lt-ltb 0 row behind) (row-follows before o few rest kept t))
