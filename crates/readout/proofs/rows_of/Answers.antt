-- `rows_of` counts the rows of a book whose form is right.
-- Assumes nothing.
use native.Mathlib.Omega.{arith}
use Rattle.values.proofs.Firsts.{is_ok-passed}
use Rattle.layout.proofs.Passing.{form-passed-length, form-passed-count}
use Rattle.layout.proofs.Contained.{contents-count}
use Rattle.readout.proofs.Offered.{rows-read}
use Rattle.readout.proofs.rows_of.Goals as goal

pub offer_count-requires : goal.offer_count-requires
offer_count-requires c = grind (arith, is_ok-passed, form-passed-length)

pub returns-then-is_ok : goal.returns-then-is_ok
returns-then-is_ok c = grind (arith, is_ok-passed, form-passed-count, contents-count, rows-read)
