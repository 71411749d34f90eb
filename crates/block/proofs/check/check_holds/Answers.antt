-- `check_holds` tells whether the last four bytes hold both sums: it compares what its callees ensure.
-- Assumes nothing.
use mathlib.Core.Path.{sym, ◌∙◌}
use borrow.Author.Tests.{eq-eqb, ne_eqb}
use Rattle.block.specs.Check.{check_holds}
use Rattle.block.proofs.Steps.{block_sum-first, block_total-second}
use Rattle.block.proofs.Boards.{kept}
use Rattle.block.proofs.check.check_holds.Goals as goal

pub returns-then-from-u16_at : goal.returns-then-from-u16_at
unfolding check_holds
returns-then-from-u16_at c =
    let s = c.args.s.now in
    rw (
      ← (c.check_sums-sums.ensures.sum_value ∙ kept (block_sum-first s)),
      ← (c.check_sums-sums.ensures.total_value ∙ kept (block_total-second s)),
      ← c.u16_at.ensures.0,
      ← c.u16_at-then-from-u16_at.ensures.0,
      eq-eqb _ _ (sym c.from.ensures ∙ c.if-from-u16_at.true),
      c.from-then-from-u16_at.ensures,
    )

pub returns-else-from-u16_at : goal.returns-else-from-u16_at
unfolding check_holds
returns-else-from-u16_at c =
    let s = c.args.s.now in
    rw (
      ← (c.check_sums-sums.ensures.sum_value ∙ kept (block_sum-first s)),
      ← c.u16_at.ensures.0,
      ne_eqb _ _ (λ e. c.if-from-u16_at.false (c.from.ensures ∙ e)),
    ) (ne_eqb _ _ c.if-from-u16_at.false)
