-- The numbers of a refused book: the refusal, what is wrong at its place, and all that is missing.
-- Assumes nothing.
use Rattle.std.specs.Prelude.{ℕ, ◌-◌, cond, List, [], ◌∷◌, ◌++◌, eqb, length, Err, Some, None, Ok}
use Rattle.std.specs.declared.option.Option.{Option}
use Rattle.values.specs.declared.place.Offer.{Offer}
use Rattle.values.specs.declared.refusal.Refusal.{Refusal}
use Rattle.values.specs.declared.refusal.Refusal.TheVariants.{WrongLength, WrongCheck, WrongLayout, MissingParameter, ParameterOutOfRange, OfferOutOfRange, RepeatedResource, BrokenSteps}
use Rattle.values.specs.Refusals.{Verdict, number_of, place_of}
use Rattle.causes.specs.declared.Cause.{Cause}
use Rattle.causes.specs.Cause.{number_of as test_number, cause_of}
use Rattle.causes.specs.Rules.{broken_number, step_cause}
use Rattle.readout.specs.declared.Head.{Head}
use Rattle.readout.specs.Facts.{row_in, earlier_in}
use Rattle.faultlines.specs.Refused.{length_numbers, check_numbers, layout_numbers, parameter_numbers, refused_row_numbers}
use Rattle.faultlines.specs.Wrong.{values_numbers, rules_numbers}
use Rattle.rowlines.specs.Rows.{offer_numbers}
use Rattle.refusing.specs.Missing.{missing_parts}
use Rattle.readout.specs.Read.{RowOffer}

-- 3: the test that fails first
abbrev pub layout_parts : ℕ → Option Cause → List (List ℕ)
layout_parts block (Some cause) = layout_numbers block (test_number cause.test) cause.byte ∷ []
layout_parts block None = []

-- 1 to 3: why a book cannot be read
abbrev pub unread_parts : List ℕ → Verdict → List (List ℕ)
unread_parts b (Err WrongLength) = length_numbers (length b) ∷ []
unread_parts b (Err (WrongCheck block)) = check_numbers block ∷ []
unread_parts b (Err refusal) = layout_parts (place_of refusal) (cause_of b)
unread_parts b (Ok u) = []

-- an offer, where it is there
abbrev pub offer_parts : (edition row : ℕ) → RowOffer → List (List ℕ)
offer_parts edition row (Some o) = offer_numbers edition row o ∷ []
offer_parts edition row None = []

-- 10: the rule that is broken, and the row before, where there is one
abbrev pub steps_behind : (edition row : ℕ) → Offer → RowOffer → List (List ℕ)
steps_behind edition row o (Some before) =
    rules_numbers (broken_number (step_cause before o row)) ∷ offer_numbers edition (row - 1) before ∷ []
steps_behind edition row o None = []

unfoldable pub steps_parts : List ℕ → (edition row : ℕ) → Offer → List (List ℕ)
steps_parts b edition row o =
    cond (eqb row 0) (rules_numbers (broken_number (step_cause o o 0)) ∷ []) (steps_behind edition row o (row_in b (row - 1)))

-- what a row is held against, by its refusal: 8 the first row with its resource, 10 the rules of steps
abbrev pub against_parts : List ℕ → ℕ → Refusal → ℕ → Offer → ℕ → List (List ℕ)
against_parts b edition (RepeatedResource place) row o first = offer_parts edition first (row_in b first)
against_parts b edition (BrokenSteps place) row o first = steps_parts b edition row o
against_parts b edition refusal row o first = []

-- what is wrong with it: 7 its values beside their ranges, else its offer behind what it is held against
abbrev pub wrong_parts : List ℕ → ℕ → Refusal → ℕ → Offer → ℕ → List (List ℕ)
wrong_parts b edition (OfferOutOfRange place) row o first = values_numbers edition o ∷ []
wrong_parts b edition refusal row o first = against_parts b edition refusal row o first ++ (offer_numbers edition row o ∷ [])

-- 6, 7, 8 and 10: a row that is refused
abbrev pub refused_row : List ℕ → ℕ → Refusal → ℕ → RowOffer → List (List ℕ)
refused_row b edition refusal row (Some o) =
    refused_row_numbers (number_of refusal) row o.resource (earlier_in b row)
    ∷ wrong_parts b edition refusal row o (earlier_in b row)
refused_row b edition refusal row None = []

-- a refusal of what a book says: 1 to 5 at a parameter, of which a book that can be read has 4 and 5 alone, the others at a row
abbrev pub fault_parts : List ℕ → Head → Refusal → List (List ℕ)
fault_parts b h WrongLength = parameter_numbers 1 0 h.parameters ∷ []
fault_parts b h (WrongCheck block) = parameter_numbers 2 block h.parameters ∷ []
fault_parts b h (WrongLayout block) = parameter_numbers 3 block h.parameters ∷ []
fault_parts b h (MissingParameter field) = parameter_numbers 4 field h.parameters ∷ []
fault_parts b h (ParameterOutOfRange field) = parameter_numbers 5 field h.parameters ∷ []
fault_parts b h refusal = refused_row b h.edition refusal (place_of refusal) (row_in b (place_of refusal))

-- and all that is missing
unfoldable pub refused_parts : List ℕ → Head → Refusal → List (List ℕ)
refused_parts b h refusal = fault_parts b h refusal ++ missing_parts b h.edition h.parameters
