-- `rows_handed` counts the rows that the reader hands back. The loop's invariant: as many as were asked.
-- Assumes nothing.
use Prim.Native.Nat.{◌≤◌}
use Rattle.layout.specs.Form.{form_fault, offer_count}
use Rattle.verdicts.specs.inner.Handed.{rows_handed}
use Rattle.verdicts.proofs.rows_handed.Given as goal

abbrev pub invariant-loop-row : goal.invariant-loop-row
invariant-loop-row l = l.row ≤ rows_handed (form_fault l.book) (offer_count l.book)
