-- Parameters that pass 5 fit the bytes of block 0, and offers that pass have steps of their edition.
--
-- In order: a value; the parameters; the step of an offer that passes; contents that pass.
-- Assumes nothing.
use mathlib.Core.Path.{◌≡◌}
use mathlib.Core.Bool.{Bool, true, false, cond}
use mathlib.Core.List.{List}
use Prim.Native.Nat.{ℕ, ◌≤◌, ◌<◌}
use native.Mathlib.Omega.{arith}
use lib.Dec.{eqb, leb}
use lib.ListN.{length}
use borrow.Author.Tests.{eq-eqb, eqb-true}
use Rattle.laws.proofs.Cases.{and_right}
use Rattle.values.specs.Contents.{Contents, offer_at}
use Rattle.values.specs.declared.Value.{Value}
use Rattle.values.specs.declared.Value.TheVariants.{Given, Missing}
use Rattle.values.specs.Refusals.{parameter_out_of_range, unless, and_then, Verdict, no_fault}
use Rattle.values.specs.declared.refusal.Refusal.TheVariants.{ParameterOutOfRange, OfferOutOfRange}
use Rattle.values.specs.declared.head.Parameters.{Parameters}
use Rattle.values.specs.declared.place.Offer.{Offer}
use Rattle.values.proofs.Firsts.{unless-passed, and_then-left, and_then-right}
use Rattle.limits.specs.Parameters.{within, given_within, by_margin, offset_most, margin_within, range_fault}
use Rattle.limits.proofs.Passing.{within-to}
use Rattle.limits.specs.Offers.{step_within, offer_in_range, offer_fault, rows_fault}
use Rattle.limits.proofs.PassingRows.{rows-values}
use Rattle.layout.specs.Layout.{edition_known}
use Rattle.book.specs.Faults.{given_fault}
use Rattle.encoding.specs.Widths.{ValueFits, OffersFit}
use Rattle.encoding.specs.inner.Fits.{ParametersFit, StepFits, Fits}
use Rattle.writer.proofs.Placed.{StepsWithin}

-- a value within a range that 32 bits hold
value-fits : (least most : ℕ) (v : Value) → most < 4294967296 → given_within least most v ≡ true → ValueFits v
value-fits least most (Given number) l e = omega (arith, within-to least most number e)
value-fits least most Missing l e = omega arith

-- the most of an offset, and the margin of a year
offset-fits : (cost : Value) → given_within 1 1000000 cost ≡ true → offset_most cost < 4294967296
offset-fits (Given number) e = omega (arith, within-to 1 1000000 number e)
offset-fits Missing e = omega arith

margin-fits : (year : ℕ) (v : Value) → margin_within year v ≡ true → ValueFits v
margin-fits year (Given number) e = omega (arith, within-to 0 5000 number (and_right (by_margin year) (within 0 5000 number) e))
margin-fits year Missing e = omega arith

pub range-fits : (p : Parameters) → range_fault p ≡ no_fault → ParametersFit p
unfolding range_fault
range-fits p e =
    let t₁ : Bool = within 2022 2099 p.year in
    let t₂ : Bool = given_within 1 1000000 p.cost in
    let t₃ : Bool = given_within 0 (offset_most p.cost) p.offset in
    let t₄ : Bool = given_within 0 5000 p.outage in
    let t₅ : Bool = given_within 1000 2000000 p.requirement in
    let t₆ : Bool = margin_within p.year p.margin in
    let f : Bool → ℕ → Verdict = λ t field. unless t (parameter_out_of_range field) in
    let rest₅ : Verdict = and_then (f t₅ 5) (f t₆ 6) in
    let rest₄ : Verdict = and_then (f t₄ 4) rest₅ in
    let rest₃ : Verdict = and_then (f t₃ 3) rest₄ in
    let rest₂ : Verdict = and_then (f t₂ 2) rest₃ in
    let e₂ : rest₂ ≡ no_fault = and_then-right (f t₁ 1) rest₂ e in
    let e₃ : rest₃ ≡ no_fault = and_then-right (f t₂ 2) rest₃ e₂ in
    let e₄ : rest₄ ≡ no_fault = and_then-right (f t₃ 3) rest₄ e₃ in
    let e₅ : rest₅ ≡ no_fault = and_then-right (f t₄ 4) rest₅ e₄ in
    let year : p.year ≤ 2099 = within-to 2022 2099 p.year (unless-passed t₁ (ParameterOutOfRange 1) (and_then-left (f t₁ 1) rest₂ e)) in
    let cost : t₂ ≡ true = unless-passed t₂ (ParameterOutOfRange 2) (and_then-left (f t₂ 2) rest₃ e₂) in
    let offset : t₃ ≡ true = unless-passed t₃ (ParameterOutOfRange 3) (and_then-left (f t₃ 3) rest₄ e₃) in
    let outage : t₄ ≡ true = unless-passed t₄ (ParameterOutOfRange 4) (and_then-left (f t₄ 4) rest₅ e₄) in
    let requirement : t₅ ≡ true = unless-passed t₅ (ParameterOutOfRange 5) (and_then-left (f t₅ 5) (f t₆ 6) e₅) in
    let margin : t₆ ≡ true = unless-passed t₆ (ParameterOutOfRange 6) (and_then-right (f t₅ 5) (f t₆ 6) e₅) in
    record {
      year = omega (arith, year);
      cost = value-fits 1 1000000 p.cost (omega arith) cost;
      offset = value-fits 0 (offset_most p.cost) p.offset (offset-fits p.cost cost) offset;
      outage = value-fits 0 5000 p.outage (omega arith) outage;
      requirement = value-fits 1000 2000000 p.requirement (omega arith) requirement;
      margin = margin-fits p.year p.margin margin;
    }

-- ---- offers that pass

-- an offer's step, of the edition's own
step_fits : (edition step : ℕ) → step_within edition step ≡ true → StepFits edition step
step_fits edition step = own (eqb edition 1) (λ e. eq-eqb edition 1 e)
  where
    own : (t : Bool) → (edition ≡ 1 → t ≡ true) → cond t (eqb step 1) (within 1 10 step) ≡ true → StepFits edition step
    own true first e = let one = eqb-true step 1 e in record { one = λ f. one; byte = omega arith }
    own false first e = record { one = λ f. cc (first f); byte = omega (arith, within-to 1 10 step e) }

offer-step : (edition : ℕ) (o : Offer) (row : ℕ) → offer_fault false edition o row ≡ no_fault → step_within edition o.step ≡ true
unfolding offer_fault offer_in_range
offer-step edition o row e =
    and_right (given_within 1 o.quantity o.block) _
    (and_right (within 1 200000 o.quantity) _
    (and_right (given_within 0 1000000 o.price) _
    (and_right (leb 1 o.seller) _ (and_right (leb 1 o.resource) _ (unless-passed _ (OfferOutOfRange row) e)))))

-- Offers that pass have steps of their edition.
pub rows-within : (edition : ℕ) (offers : List Offer) → rows_fault false edition (offer_at offers) (length offers) ≡ no_fault
    → StepsWithin edition offers
rows-within edition offers e row l =
    offer-step edition (offer_at offers row) row (rows-values false edition (offer_at offers) (length offers) e row l)

-- Contents in which nothing is found fit the bytes of a book.
pub given-fits : (c : Contents) → length c.offers ≤ 600 → edition_known c.edition ≡ true → given_fault c ≡ no_fault
    → OffersFit c.offers → Fits c
unfolding given_fault
given-fits c few known e fit =
    let rows = and_then-right (range_fault c.parameters) _ e in
    record {
      edition = known;
      few = few;
      parameters = range-fits c.parameters (and_then-left (range_fault c.parameters) _ e);
      offers = fit;
      steps = λ row l. step_fits c.edition (offer_at c.offers row).step (rows-within c.edition c.offers rows row l);
    }
