-- `check_sums` puts the columns together: what each callee ensures, by the laws of Together.
-- Assumes nothing.
use mathlib.Core.Path.{refl}
use native.Mathlib.Nat.{le_refl}
use Rattle.laws.proofs.Filling.{zeros}
use Rattle.block.proofs.Together.{sum-together, total-together}
use Rattle.block.proofs.check.check_sums.Goals as goal

pub returns : goal.returns
returns c =
    let s = c.args.s.now in
    let sums = c.over_columns.ensures in
    let filling = c.column_sums-totals.ensures.sums_after in record {
      sum_value = sum-together s _ (zeros 16) filling (le_refl 16) sums.sum_value sums.total_value c.over_first-first.ensures.sum_value;
      total_value = total-together s _ (zeros 16) filling (le_refl 16) sums.sum_value sums.total_value c.over_first-first.ensures.total_value
          c.column_sums-totals.ensures.value
          refl;
    }
