-- `rows_handed` counts the rows that the reader hands back. The loop's invariant: as many as were asked.
-- Assumes nothing.
use mathlib.Core.Path.{sym, ap, ◌∙◌}
use native.Mathlib.Omega.{arith}
use lib.ListN.{length}
use borrow.Author.Tests.{eqb-true, eqb-false}
use Rattle.verdicts.proofs.Handing.{handed-empty, handed-more, handed-few}
use Rattle.verdicts.proofs.rows_handed.Goals as goal

pub returns-then-is_empty : goal.returns-then-is_empty
returns-then-is_empty c =
    handed-empty _ _ c.loop-row.invariant
    (ap length (sym c.own_bytes.ensures) ∙ eqb-true _ _ (sym c.is_empty.ensures ∙ c.if-is_empty.true))

pub loop-row-preserved : goal.loop-row-preserved
loop-row-preserved c =
    handed-more _ _ (λ e. eqb-false _ _ (sym c.is_empty.ensures ∙ c.if-is_empty.false) (ap length c.own_bytes.ensures ∙ e))

pub returns : goal.returns
returns c = omega (arith, handed-few c.args.book.now)
