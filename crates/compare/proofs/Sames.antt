-- What the tests of sameness say.
--
-- In order: two values, two offers and two sets of parameters that pass are the same, and the same pass; the code's equality.
-- Assumes nothing.
use mathlib.Core.Path.{◌≡◌, refl, sym, ap, ◌∙◌}
use mathlib.Core.Bool.{Bool, true, false, cond, not, false≢true}
use Prim.Native.Nat.{ℕ}
use lib.Dec.{eqb}
use borrow.Author.Tests.{eqb-true, eq-eqb, not-true, not-false}
use Rattle.laws.proofs.Cases.{and-true, and_left, and_right}
use Rattle.values.specs.declared.Value.{Value}
use Rattle.values.specs.declared.Value.TheVariants.{Given, Missing}
use Rattle.values.specs.declared.head.Parameters.{Parameters}
use Rattle.values.specs.declared.place.Offer.{Offer}
use Rattle.values.specs.contracts.ValuePartialEq.TheImpl as value-eq
use Rattle.values.specs.contracts.place.OfferPartialEq.TheImpl as offer-eq
use Rattle.compare.specs.Same.{same_value, same_offer, field_apart}
use Rattle.std.specs.Prelude.{Some, None}
use Rattle.std.specs.declared.option.Option.{Option}

eqb-self : (n : ℕ) → eqb n n ≡ true
eqb-self n = eq-eqb n n refl

value_same : (v w : Value) → same_value v w ≡ true → v ≡ w
value_same (Given n) (Given m) e = ap Given (eqb-true n m e)
value_same (Given n) Missing e = absurd (false≢true e)
value_same Missing (Given m) e = absurd (false≢true e)
value_same Missing Missing e = refl

value-self : (v : Value) → same_value v v ≡ true
value-self (Given n) = eqb-self n
value-self Missing = refl

-- ---- offers

-- offers that pass the test are the same
pub offer-same : (o other : Offer) → same_offer o other ≡ true → o ≡ other
unfolding same_offer
offer-same o other e =
    let e₁ = and_right (eqb o.resource other.resource) _ e in
    let e₂ = and_right (eqb o.seller other.seller) _ e₁ in
    let e₃ = and_right (same_value o.price other.price) _ e₂ in
    let e₄ = and_right (eqb o.quantity other.quantity) _ e₃ in
    let e₅ = and_right (same_value o.block other.block) _ e₄ in
    λ i. record {
      resource = eqb-true o.resource other.resource (and_left (eqb o.resource other.resource) _ e) i;
      seller = eqb-true o.seller other.seller (and_left (eqb o.seller other.seller) _ e₁) i;
      price = value_same o.price other.price (and_left (same_value o.price other.price) _ e₂) i;
      quantity = eqb-true o.quantity other.quantity (and_left (eqb o.quantity other.quantity) _ e₃) i;
      block = value_same o.block other.block (and_left (same_value o.block other.block) _ e₄) i;
      stamp = eqb-true o.stamp other.stamp (and_left (eqb o.stamp other.stamp) _ e₅) i;
      step = eqb-true o.step other.step (and_right (eqb o.stamp other.stamp) _ e₅) i;
    }

-- an offer passes beside itself
pub offer-self : (o : Offer) → same_offer o o ≡ true
unfolding same_offer
offer-self o =
    and-true _ _ (eqb-self o.resource)
    (and-true _ _ (eqb-self o.seller)
    (and-true _ _ (value-self o.price)
    (and-true _ _ (eqb-self o.quantity)
    (and-true _ _ (value-self o.block) (and-true _ _ (eqb-self o.stamp) (eqb-self o.step))))))

-- the code's `==` is the test
pub value-equal : (v w : Value) → value-eq.ghosts.eq v w ≡ same_value v w
value-equal (Given n) (Given m) = refl
value-equal (Given n) Missing = refl
value-equal Missing (Given m) = refl
value-equal Missing Missing = refl

-- and its `!=` the other way round
pub values-differ : {t : Bool} (v w : Value) → t ≡ not (value-eq.ghosts.eq v w) → t ≡ true → same_value v w ≡ false
values-differ v w e f = sym (value-equal v w) ∙ not-true _ (sym e ∙ f)

pub values-agree : {t : Bool} (v w : Value) → t ≡ not (value-eq.ghosts.eq v w) → t ≡ false → same_value v w ≡ true
values-agree v w e f = sym (value-equal v w) ∙ not-false _ (sym e ∙ f)

pub offer-equal : (o other : Offer) → offer-eq.ghosts.eq o other ≡ same_offer o other
unfolding same_offer
offer-equal o other = rw (value-equal o.price other.price, value-equal o.block other.block) refl

-- ---- parameters

-- where no field is told, the values are the same, and what comes next tells none
next_field : (t : Bool) (next : Option ℕ) (field : ℕ) → cond t next (Some field) ≡ None → (t ≡ true) × (next ≡ None)
next_field true next field e = (refl, e)
next_field false next field e = cc

-- parameters of which no field differs are the same
pub parameters-same : (p other : Parameters) → field_apart p other ≡ None → p ≡ other
unfolding field_apart
parameters-same p other e =
    let e₁ = next_field (eqb p.year other.year) _ 1 e in
    let e₂ = next_field (same_value p.cost other.cost) _ 2 e₁.1 in
    let e₃ = next_field (same_value p.offset other.offset) _ 3 e₂.1 in
    let e₄ = next_field (same_value p.outage other.outage) _ 4 e₃.1 in
    let e₅ = next_field (same_value p.requirement other.requirement) _ 5 e₄.1 in
    let e₆ = next_field (same_value p.margin other.margin) None 6 e₅.1 in
    λ i. record {
      year = eqb-true p.year other.year e₁.0 i;
      cost = value_same p.cost other.cost e₂.0 i;
      offset = value_same p.offset other.offset e₃.0 i;
      outage = value_same p.outage other.outage e₄.0 i;
      requirement = value_same p.requirement other.requirement e₅.0 i;
      margin = value_same p.margin other.margin e₆.0 i;
    }

-- of parameters beside themselves no field differs
pub parameters-self : (p : Parameters) → field_apart p p ≡ None
unfolding field_apart
parameters-self p =
    rw (eqb-self p.year, value-self p.cost, value-self p.offset, value-self p.outage, value-self p.requirement, value-self p.margin)
