-- What is known of a book that is accepted, and of one that is sound.
--
-- In order: what an accepted book says can be cleared; its rows lie within it; it is sound. Then each test of a sound book, its
-- rows and its offers.
-- Assumes nothing.
use mathlib.Core.Path.{◌≡◌, sym, subst, ◌∙◌}
use mathlib.Core.Bool.{true, false}
use mathlib.Core.List.{List}
use Prim.Native.Nat.{ℕ, ◌≤◌, ◌<◌}
use lib.ListN.{length}
use Rattle.values.specs.Refusals.{and_then, no_fault}
use Rattle.values.specs.Contents.{Contents, offer_at}
use Rattle.values.proofs.Firsts.{and_then-next, and_then-left, and_then-right}
use Rattle.limits.specs.Parameters.{missing_fault, range_fault}
use Rattle.limits.specs.Given.{parameters_fault}
use Rattle.limits.specs.Ranges.{SoundOffer}
use Rattle.limits.specs.Clearable.{Clearable}
use Rattle.limits.proofs.Passing.{parameters-ranged}
use Rattle.limits.proofs.PassingRows.{rows-sound, rows-priced, rows-distinct}
use Rattle.layout.specs.Form.{form_fault, offer_count}
use Rattle.layout.specs.Read.{contents_of}
use Rattle.layout.specs.inner.Read.{Inside}
use Rattle.layout.proofs.Passing.{form-passed-count}
use Rattle.layout.proofs.Contained.{contents-count}
use Rattle.book.specs.Faults.{contents_fault, first_fault, sound_fault}
use Rattle.book.proofs.Stages.{book_rows, sound-formed, form-inside}
use Rattle.book.proofs.Unpriced.{rows-unpriced}

-- Contents of at most 600 offers that pass 4 to 8 and 10 can be cleared.
pub contents-clearable : (c : Contents) → length c.offers ≤ 600 → contents_fault c ≡ no_fault → Clearable c
unfolding contents_fault parameters_fault
contents-clearable c few passed =
    let given = and_then-left (parameters_fault c.parameters) _ passed in
    let rows = and_then-right (parameters_fault c.parameters) _ passed in
    record {
      few = few;
      parameters =
          parameters-ranged c.parameters (and_then-left (missing_fault c.parameters) _ given)
          (and_then-right (missing_fault c.parameters) _ given);
      priced = rows-priced c.edition (offer_at c.offers) (length c.offers) rows;
      distinct = rows-distinct true c.edition (offer_at c.offers) (length c.offers) rows;
    }

-- a book of good form says at most 600 offers
form-few : (b : List ℕ) → form_fault b ≡ no_fault → length (contents_of b).offers ≤ 600
form-few b formed = subst (λ (n : ℕ). n ≤ 600) (contents-count b) (form-passed-count b formed)

-- ---- an accepted book

module _ (b : List ℕ) (accepted : first_fault b ≡ no_fault) where
  -- It passes 1 to 3.
  pub accepted-form : form_fault b ≡ no_fault
  unfolding first_fault
  accepted-form = and_then-left (form_fault b) _ accepted

  -- What it says passes 4 to 8 and 10.
  pub accepted-contents : contents_fault (contents_of b) ≡ no_fault
  unfolding first_fault
  accepted-contents = and_then-right (form_fault b) _ accepted

  -- What it says can be cleared: parameters given and in range, offers priced and in range, no resource's step
  -- twice.
  pub accepted-clearable : Clearable (contents_of b)
  accepted-clearable = contents-clearable (contents_of b) (form-few b accepted-form) accepted-contents

  -- Its rows are at most 600 and lie within it.
  pub accepted-inside : Inside b 1 (offer_count b)
  accepted-inside = form-inside b accepted-form

  -- It is sound.
  pub accepted-sound : sound_fault b ≡ no_fault
  unfolding contents_fault parameters_fault
  accepted-sound =
      let p = (contents_of b).parameters in
      let given = and_then-left (parameters_fault p) _ accepted-contents in
      sound-formed b accepted-form
      ∙ and_then-next (range_fault p) _ (and_then-right (missing_fault p) _ given)
      ∙ rows-unpriced (contents_of b).edition (offer_at (contents_of b).offers) (length (contents_of b).offers)
      (and_then-right (parameters_fault p) _ accepted-contents)

-- ---- a sound book

module _ (b : List ℕ) (sound : sound_fault b ≡ no_fault) where
  -- It passes 1 to 3.
  pub sound-form : form_fault b ≡ no_fault
  unfolding sound_fault
  sound-form = and_then-left (form_fault b) _ sound

  range-then-rows : and_then (range_fault (contents_of b).parameters) (book_rows false b) ≡ no_fault
  range-then-rows = sym (sound-formed b sound-form) ∙ sound

  -- The parameters that it gives pass 5.
  pub sound-range : range_fault (contents_of b).parameters ≡ no_fault
  sound-range = and_then-left (range_fault (contents_of b).parameters) _ range-then-rows

  -- Its rows pass 7, 8 and 10 on what they give.
  pub sound-rows : book_rows false b ≡ no_fault
  sound-rows = and_then-right (range_fault (contents_of b).parameters) _ range-then-rows

  -- Each of its offers has the values that it gives within their ranges.
  pub sound-offers : (row : ℕ) → row < length (contents_of b).offers → SoundOffer (offer_at (contents_of b).offers row)
  sound-offers = rows-sound false (contents_of b).edition (offer_at (contents_of b).offers) (length (contents_of b).offers) sound-rows

  -- No two of its rows have one resource number and one step.
  pub sound-distinct : (row other : ℕ) → row < length (contents_of b).offers → other < length (contents_of b).offers
      → (offer_at (contents_of b).offers row).resource ≡ (offer_at (contents_of b).offers other).resource
      → (offer_at (contents_of b).offers row).step ≡ (offer_at (contents_of b).offers other).step
      → row ≡ other
  sound-distinct = rows-distinct false (contents_of b).edition (offer_at (contents_of b).offers) (length (contents_of b).offers) sound-rows
