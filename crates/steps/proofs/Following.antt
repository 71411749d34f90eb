-- What a row that keeps the rules of steps is: the first step of its resource, or one that follows the row before it.
--
-- In order: the prices of neighbouring steps, a block; an offer that follows; a row past step 1; a row of step 1; how the rules are
-- tested past step 1.
-- Assumes nothing.
use mathlib.Core.Path.{◌≡◌, refl, sym, ap, ◌∙◌}
use mathlib.Core.Bool.{true, false, ◌&&◌, false≢true}
use Prim.Native.Nat.{ℕ, ◌+◌, ◌≤◌, ◌<◌}
use native.Mathlib.Omega.{arith}
use lib.Dec.{eqb, ltb}
use borrow.Author.Tests.{eqb-true, eq-eqb, ne_eqb, leb-true, ltb-true, lt-ltb, le-ltb}
use Rattle.laws.proofs.Cases.{by_order, and_left, and_right}
use Rattle.values.specs.declared.Value.{Value}
use Rattle.values.specs.declared.Value.TheVariants.{Given, Missing}
use Rattle.values.specs.declared.place.Offer.{Offer}
use Rattle.steps.specs.Steps.{not_cheaper, flexible, step_follows, step_holds}

-- An offer that follows the one before it, in sentences.
pub record Follows (before o : Offer) : Type 0 where
  pub resource : o.resource ≡ before.resource
  pub step : o.step ≡ before.step + 1
  pub price : (least price : ℕ) → before.price ≡ Given least → o.price ≡ Given price → least ≤ price
  pub block : o.block ≡ Missing

not-cheaper : (v w : Value) (least price : ℕ) → not_cheaper v w ≡ true → v ≡ Given least → w ≡ Given price → least ≤ price
not-cheaper v w least price e f g = leb-true least price (rw (f, g) at e)

no_block : (v : Value) → flexible v ≡ true → v ≡ Missing
no_block (Given block) e = absurd (false≢true e)
no_block Missing e = refl

-- no offer follows itself
not_itself : (o : Offer) → step_follows o o ≡ false
unfolding step_follows
not_itself o = rw (eq-eqb o.resource o.resource refl, ne_eqb o.step (o.step + 1) (λ e. omega arith))

module _ (before o : Offer) where
  pub step_follows_lem : step_follows before o ≡ true → Follows before o
  unfolding step_follows
  step_follows_lem e =
      let from1 = and_right (eqb o.resource before.resource) _ e in
      let from2 = and_right (eqb o.step (before.step + 1)) _ from1 in
      record {
        resource = eqb-true _ _ (and_left (eqb o.resource before.resource) _ e);
        step = eqb-true _ _ (and_left (eqb o.step (before.step + 1)) _ from1);
        price = λ least price. not-cheaper before.price o.price least price (and_left (not_cheaper before.price o.price) _ from2);
        block = no_block o.block (and_right (not_cheaper before.price o.price) _ from2);
      }

  module _ (row : ℕ) where
    -- a row past step 1 has a row before it, and follows it
    step-behind : (o.step ≡ 1 → ⊥) → step_holds before o row ≡ true → ltb 0 row && step_follows before o ≡ true
    unfolding step_holds
    step-behind past e = rw (ne_eqb o.step 1 past) at e

    pub step-past-zero : (o.step ≡ 1 → ⊥) → step_holds before o row ≡ true → 0 < row
    step-past-zero past e = ltb-true 0 row (and_left (ltb 0 row) _ (step-behind past e))

    pub step-past-follows : (o.step ≡ 1 → ⊥) → step_holds before o row ≡ true → Follows before o
    step-past-follows past e = step_follows_lem (and_right (ltb 0 row) _ (step-behind past e))

    -- a row with step 1 keeps the rules, whatever stands before it
    pub step-first : o.step ≡ 1 → step_holds before o row ≡ true
    unfolding step_holds
    step-first e = rw (eq-eqb o.step 1 e)

    -- past step 1 it keeps them where it follows the row before, for which row 0, that has none, may stand itself
    pub step-past-holds : (o.step ≡ 1 → ⊥) → (row ≡ 0 → before ≡ o) → step_holds before o row ≡ step_follows before o
    unfolding step_holds
    step-past-holds past own =
        rw (ne_eqb o.step 1 past)
        (by_order row 0
        (λ h. rw (le-ltb 0 row h) (sym (ap (λ (b : Offer). step_follows b o) (own (omega arith)) ∙ not_itself o)))
        (λ h. rw (lt-ltb 0 row h)))
