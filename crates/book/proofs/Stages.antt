-- The faults of a book, stage by stage as the code goes: the form, the parameters, the rows.
--
-- In order: the rows of what it says; what comes before them; the form in two steps; a book whose form is refused; what decides
-- where the form passed; that its rows then lie within it.
-- Assumes nothing.
use mathlib.Core.Path.{◌≡◌, refl, ap, ap₂, ◌∙◌}
use mathlib.Core.Bool.{Bool, true, false}
use mathlib.Core.List.{List}
use Prim.Native.Nat.{ℕ}
use lib.ListN.{length}
use Rattle.std.specs.Prelude.{Err, Ok}
use Rattle.values.specs.Refusals.{and_then, Verdict, no_fault}
use Rattle.values.specs.Contents.{offer_at}
use Rattle.values.proofs.Firsts.{and_then-next, and_then-refused, and_then-left, and_then-right}
use Rattle.limits.specs.Parameters.{range_fault}
use Rattle.limits.specs.Given.{parameters_fault}
use Rattle.limits.specs.Offers.{rows_fault}
use Rattle.layout.specs.Form.{length_fault, check_fault, layout_fault, form_fault, edition_of, offer_count}
use Rattle.layout.specs.Read.{row_offers, contents_of}
use Rattle.layout.specs.inner.Read.{Inside}
use Rattle.layout.proofs.Passing.{form-passed-count, form-passed-row}
use Rattle.layout.proofs.Contained.{contents-count}
use Rattle.book.specs.Faults.{contents_fault, first_fault, given_fault, sound_fault}
use Rattle.book.specs.inner.Opening.{before_rows}
use Rattle.values.specs.declared.refusal.Refusal.{Refusal}

and_then-assoc : (u v w : Verdict) → and_then u (and_then v w) ≡ and_then (and_then u v) w
and_then-assoc (Ok u) v w = refl
and_then-assoc (Err refusal) v w = refl

-- ---- the rows

-- the first fault of the rows of what a book says, where prices are needed or not
abbrev pub book_rows : Bool → List ℕ → Verdict
book_rows needed b = rows_fault needed (contents_of b).edition (offer_at (contents_of b).offers) (length (contents_of b).offers)

-- as the code reads them, by the edition and the count that block 0 states
pub rows-own : (needed : Bool) (b : List ℕ) (edition n : ℕ) → edition ≡ edition_of b → n ≡ offer_count b
    → rows_fault needed edition (offer_at (row_offers b edition 1 n)) n ≡ book_rows needed b
unfolding contents_of
rows-own needed b edition n e f =
    ap₂ (λ (k m : ℕ). rows_fault needed k (offer_at (row_offers b k 1 m)) m) e f
    ∙ ap (rows_fault needed (edition_of b) (offer_at (contents_of b).offers)) (contents-count b)

-- ---- what comes before the rows

-- of a book to be cleared it decides, and then the rows do
pub first-before : (b : List ℕ) → first_fault b ≡ and_then (before_rows b) (book_rows true b)
unfolding first_fault contents_fault before_rows
first-before b = and_then-assoc (form_fault b) _ _

-- where it passed, the form did, and the parameters
pub before-form : (b : List ℕ) → before_rows b ≡ no_fault → form_fault b ≡ no_fault
unfolding before_rows
before-form b e = and_then-left (form_fault b) _ e

pub before-parameters : (b : List ℕ) → before_rows b ≡ no_fault → parameters_fault (contents_of b).parameters ≡ no_fault
unfolding before_rows
before-parameters b e = and_then-right (form_fault b) _ e

-- ---- the form, in two steps

module _ (b : List ℕ) where
  -- the length is refused
  pub form-length : {refusal : Refusal} → length_fault b ≡ Err refusal → form_fault b ≡ Err refusal
  unfolding form_fault
  form-length e = and_then-refused (length_fault b) _ _ e

  -- where it passed the blocks decide
  pub form-blocks : length_fault b ≡ no_fault → form_fault b ≡ and_then (check_fault b) (layout_fault b)
  unfolding form_fault
  form-blocks e = and_then-next (length_fault b) _ e

-- ---- the form is refused

module _ (b : List ℕ) {refusal : Refusal} (refused : form_fault b ≡ Err refusal) where
  pub before-form-refused : before_rows b ≡ Err refusal
  unfolding before_rows
  before-form-refused = and_then-refused (form_fault b) _ refusal refused

  pub sound-form-refused : sound_fault b ≡ Err refusal
  unfolding sound_fault
  sound-form-refused = and_then-refused (form_fault b) _ refusal refused

-- so it is where the length is
pub before-length : (b : List ℕ) {refusal : Refusal} → length_fault b ≡ Err refusal → before_rows b ≡ Err refusal
before-length b e = before-form-refused b (form-length b e)

-- ---- the form passed

module _ (b : List ℕ) (formed : form_fault b ≡ no_fault) where
  -- before the rows the parameters decide
  pub before-formed : before_rows b ≡ parameters_fault (contents_of b).parameters
  unfolding before_rows
  before-formed = and_then-next (form_fault b) _ formed

  -- of soundness 5 decides, and then the rows
  pub sound-formed : sound_fault b ≡ and_then (range_fault (contents_of b).parameters) (book_rows false b)
  unfolding sound_fault given_fault
  sound-formed = and_then-next (form_fault b) _ formed

  -- its rows are at most 600 and lie within it
  pub form-inside : Inside b 1 (offer_count b)
  form-inside = record { few = form-passed-count b formed; within = form-passed-row b formed }
