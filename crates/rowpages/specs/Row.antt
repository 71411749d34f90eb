-- The numbers of a row in full.
-- Assumes nothing.
use Rattle.std.specs.Prelude.{ℕ, cond, ◌||◌, List, [], ◌∷◌, ◌++◌, eqb, Some, None, Ok, Err}
use Rattle.values.specs.declared.place.Offer.{Offer}
use Rattle.reasons.specs.declared.share.Share.{Share}
use Rattle.workings.specs.declared.row.RowWorks.{RowWorks}
use Rattle.rowlines.specs.Rows.{offer_numbers, part_numbers, settled_numbers}
use Rattle.rowlines.specs.Turn.{turn_numbers}
use Rattle.pricing.specs.Price.{ClearingPrice}
use Rattle.reasons.specs.Share.{RowShare}
use Rattle.readout.specs.Read.{RowOffer}
use Rattle.workings.specs.Works.{WorkedRow, WorksAnswer}

-- a row's turn in the contest, where its level is divided
unfoldable pub turn_parts : ℕ → Share → RowWorks → List (List ℕ)
turn_parts edition s w = cond (eqb s.amount 0 || eqb s.amount s.sum) [] (turn_numbers edition w.turn ∷ [])

-- its offer, its part of its level, its turn, and what it clears, commits and is paid
unfoldable pub full_parts : (edition row : ℕ) → Offer → ClearingPrice → Share → RowWorks → List (List ℕ)
full_parts edition row o price s w =
    offer_numbers edition row o
    ∷ part_numbers o.quantity s
    ∷ (turn_parts edition s w ++ (settled_numbers price w.turn.cleared w.committed w.make_whole ∷ []))

-- by its workings, where they are there
abbrev pub worked_parts : (edition row : ℕ) → Offer → ClearingPrice → RowShare → WorkedRow → List (List ℕ)
worked_parts edition row o price (Some s) (Some w) = full_parts edition row o price s w
worked_parts edition row o price (Some s) None = []
worked_parts edition row o price None w = []

-- a row that is there, of a book that is accepted
abbrev pub row_parts : (edition row : ℕ) → RowOffer → WorksAnswer → List (List ℕ)
row_parts edition row (Some o) (Ok w) = worked_parts edition row o w.price w.share w.row
row_parts edition row (Some o) (Err refusal) = []
row_parts edition row None w = []
