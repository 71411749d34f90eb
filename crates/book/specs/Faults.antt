-- The refusals of a book in their stated order, and soundness.
-- Assumes nothing.
use Rattle.std.specs.Prelude.{ℕ, true, false, List, length}
use Rattle.values.specs.Refusals.{and_then, Verdict}
use Rattle.values.specs.Contents.{Contents, offer_at}
use Rattle.layout.specs.Read.{contents_of}
use Rattle.layout.specs.Form.{form_fault}
use Rattle.limits.specs.Parameters.{range_fault}
use Rattle.limits.specs.Given.{parameters_fault}
use Rattle.limits.specs.Offers.{rows_fault}

-- what is found first in contents that are to be cleared: 4; 5 by field; rows from 0, each for 6, 7, 8, 10
unfoldable pub contents_fault : Contents → Verdict
contents_fault c =
    and_then (parameters_fault c.parameters) (rows_fault true c.edition (offer_at c.offers) (length c.offers))

-- THE TABLE. The first fault of a book that is to be cleared: 1; 2 over all blocks; 3 likewise; then 4 to 8 and 10 on what it
-- says.
unfoldable pub first_fault : List ℕ → Verdict
first_fault b = and_then (form_fault b) (contents_fault (contents_of b))

-- what is found first in contents where missing values are no fault: 5, 7, 8 and 10 on what is given
unfoldable pub given_fault : Contents → Verdict
given_fault c =
    and_then (range_fault c.parameters) (rows_fault false c.edition (offer_at c.offers) (length c.offers))

-- A sound book passes 1 to 3, and its given values pass 5, 7, 8 and 10; its missing values are no fault.
unfoldable pub sound_fault : List ℕ → Verdict
sound_fault b = and_then (form_fault b) (given_fault (contents_of b))
