-- `own_bytes` hands back nothing of a book that is refused, and else the row's part, where the row is there.
-- Assumes nothing.
use native.Mathlib.Omega.{arith}
use Rattle.values.proofs.Firsts.{is_ok-passed}
use Rattle.layout.proofs.Passing.{form-passed-length, form-passed-row}
use Rattle.layout.proofs.Handed.{row-part}
use Rattle.layout.proofs.reader.own_bytes.Goals as goal

pub offer_count-requires : goal.offer_count-requires
offer_count-requires c = grind (arith, is_ok-passed, form-passed-length)

pub row_bytes-requires : goal.row_bytes-requires
row_bytes-requires c = grind (arith, is_ok-passed, form-passed-row)

pub returns-then-row-offer_count : goal.returns-then-row-offer_count
returns-then-row-offer_count c = grind (arith, row-part)

pub returns-else-is_ok : goal.returns-else-is_ok
returns-else-is_ok c = grind (arith, row-part)
