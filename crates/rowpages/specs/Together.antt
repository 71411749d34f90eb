-- The numbers of a resource's steps taken together.
-- Assumes nothing.
use Rattle.std.specs.Prelude.{ℕ, ◌+◌, ◌-◌, Bool, false, cond, ◌||◌, List, [], ◌∷◌, ltb, Some, None, Ok, Err}
use Rattle.laws.specs.Sum.{sum_to}
use Rattle.readout.specs.Facts.{row_in}
use Rattle.workings.specs.Works.{worked, WorkedRow, WorksAnswer}
use Rattle.rowlines.specs.Rows.{together_numbers}
use Rattle.readout.specs.Read.{RowOffer}

-- what a row clears, and what it offers: nothing where it is not there
abbrev pub cleared_by : WorkedRow → ℕ
cleared_by (Some w) = w.turn.cleared
cleared_by None = 0

abbrev pub cleared_in : WorksAnswer → ℕ
cleared_in (Ok w) = cleared_by w.row
cleared_in (Err refusal) = 0

abbrev pub offered_in : RowOffer → ℕ
offered_in (Some o) = o.quantity
offered_in None = 0

-- a row that is a further step of its resource
abbrev pub further_step : RowOffer → Bool
further_step (Some o) = ltb 1 o.step
further_step None = false

-- behind the last of several steps: how many there are, what they clear and what they offer
abbrev pub together_parts : List ℕ → ℕ → RowOffer → List (List ℕ)
together_parts b row (Some o) =
    let first = row + 1 - o.step in
    cond (ltb (row + 1) o.step || (ltb o.step 2 || further_step (row_in b (row + 1)))) []
    (together_numbers o.resource o.step
    (sum_to (λ j. cleared_in (worked b (first + j) 600 600)) o.step)
    (sum_to (λ j. offered_in (row_in b (first + j))) o.step)
    ∷ [])
together_parts b row None = []
