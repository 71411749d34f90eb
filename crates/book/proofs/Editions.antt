-- Rows that all have step 1 have the same first fault in every edition, and so has what a book says of them.
-- Assumes nothing.
use mathlib.Core.Path.{◌≡◌, refl, ap, ap₂, ◌∙◌}
use mathlib.Core.Bool.{Bool, true, false, cond}
use mathlib.Core.List.{List}
use Prim.Native.Nat.{ℕ, ◌-◌, ◌<◌}
use lib.Dec.{eqb}
use lib.ListN.{length}
use Rattle.values.specs.Refusals.{and_then, Verdict}
use Rattle.values.specs.Contents.{Contents, offer_at}
use Rattle.values.specs.declared.place.Offer.{Offer}
use Rattle.values.proofs.Firsts.{first-ext}
use Rattle.limits.specs.Given.{parameters_fault}
use Rattle.limits.specs.Parameters.{range_fault}
use Rattle.limits.specs.Offers.{step_within, offer_in_range, offer_fault, repeat_fault, step_fault, rows_fault}
use Rattle.book.specs.Faults.{contents_fault, given_fault}

-- step 1 is within the range of every edition
step-one-by : (t : Bool) → cond t true true ≡ true
step-one-by true = refl
step-one-by false = refl

step-one-within : (edition : ℕ) (o : Offer) → o.step ≡ 1 → step_within edition o.step ≡ true
step-one-within edition o e = rw e (step-one-by (eqb edition 1))

module _ (needed : Bool) (edition edition' : ℕ) where
  offer-any : (o : Offer) (row : ℕ) → o.step ≡ 1 → offer_fault needed edition o row ≡ offer_fault needed edition' o row
  unfolding offer_fault offer_in_range
  offer-any o row e = rw (step-one-within edition o e, step-one-within edition' o e)

  -- the rows
  pub rows-any-edition : (offers : ℕ → Offer) (n : ℕ) → ((row : ℕ) → row < n → (offers row).step ≡ 1)
      → rows_fault needed edition offers n ≡ rows_fault needed edition' offers n
  unfolding rows_fault
  rows-any-edition offers n ones =
      first-ext _ _ n
      (λ row l.
      ap (λ (v : Verdict). and_then v (and_then (repeat_fault offers row) (step_fault (offers (row - 1)) (offers row) row)))
      (offer-any (offers row) row (ones row l)))

-- contents with the same parameters and the same offers, all of step 1
module _ (c c' : Contents) (parameters : c.parameters ≡ c'.parameters) (offers : c.offers ≡ c'.offers)
    (ones : (row : ℕ) → row < length c.offers → (offer_at c.offers row).step ≡ 1) where
  rows_same : (needed : Bool)
      → rows_fault needed c.edition (offer_at c.offers) (length c.offers)
      ≡ rows_fault needed c'.edition (offer_at c'.offers) (length c'.offers)
  rows_same needed =
      rows-any-edition needed c.edition c'.edition (offer_at c.offers) (length c.offers) ones
      ∙ ap (λ (os : List Offer). rows_fault needed c'.edition (offer_at os) (length os)) offers

  pub contents-any-edition : contents_fault c ≡ contents_fault c'
  unfolding contents_fault
  contents-any-edition = ap₂ and_then (ap parameters_fault parameters) (rows_same true)

  pub given-any-edition : given_fault c ≡ given_fault c'
  unfolding given_fault
  given-any-edition = ap₂ and_then (ap range_fault parameters) (rows_same false)
