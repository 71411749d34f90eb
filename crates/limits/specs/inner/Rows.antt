-- The rows' first fault in two passes: 6, 7 and 10 by row, and then 8 among the rows before the one refused.
-- Assumes nothing.
use Rattle.std.specs.Prelude.{ℕ, ◌-◌, Bool, cond, ltb, Err, Ok}
use Rattle.values.specs.Refusals.{place_of, repeated_resource, broken_steps, unless, and_then, first, Verdict}
use Rattle.values.specs.declared.place.Offer.{Offer}
use Rattle.repeats.specs.inner.Repeats.{first_repeat}
use Rattle.limits.specs.Offers.{offer_fault, step_fault}

-- 6, where prices are needed, 7 and 10 of a row, with the offer of the row before it
unfoldable pub row_fault : Bool → ℕ → Offer → Offer → ℕ → Verdict
row_fault prices_needed edition before o row = and_then (offer_fault prices_needed edition o row) (step_fault before o row)

-- the same of a row past step 1, told by whether it follows the row before it
unfoldable pub past_fault : Bool → ℕ → Offer → Bool → ℕ → Verdict
past_fault prices_needed edition o follows row =
    and_then (offer_fault prices_needed edition o row) (unless follows (broken_steps row))

-- the first row that has one of them
unfoldable pub values_fault : Bool → ℕ → (ℕ → Offer) → ℕ → Verdict
values_fault prices_needed edition offers n = first (λ row. row_fault prices_needed edition (offers (row - 1)) (offers row) row) n

-- how many rows stand before the one that the fault found refuses: all n where none is refused
abbrev pub rows_before : Verdict → ℕ → ℕ
rows_before (Ok u) n = n
rows_before (Err refusal) n = place_of refusal

-- a repeat among those rows comes before the refusal
unfoldable pub with_repeats : Verdict → (ℕ → ℕ) → (ℕ → ℕ) → ℕ → Verdict
with_repeats found resources steps n =
    let limit = rows_before found n in
    let repeat = first_repeat resources steps limit in
    cond (ltb repeat limit) (repeated_resource repeat) found
