-- `column_sums` runs over each column. The loop's invariant: the totals of the columns passed, added up, and their sums.
-- Assumes nothing.
use mathlib.Core.Path.{◌≡◌, refl, sym, ap, ◌∙◌}
use Prim.Native.Nat.{ℕ, ◌+◌, ◌%◌}
use native.Mathlib.Numerals.{add-one}
use native.Mathlib.Omega.{arith}
use Rattle.laws.proofs.Sums.{sum_to-suc}
use Rattle.laws.proofs.Loops.{kept-none, kept-all}
use Rattle.laws.proofs.Fills.{filled_none, filled_more}
use Rattle.laws.proofs.Filling.{length-filling, filled-all}
use Rattle.block.specs.Running.{running_sum}
use Rattle.block.specs.inner.Columns.{in_column, column_total}
use Rattle.block.proofs.Boards.{kept, kept-added, added-kept}
use Rattle.block.proofs.columns.column_sums.Goals as goal

pub loop-column-init : goal.loop-column-init
loop-column-init c = (omega arith, kept-none _ 65535, filled_none _ _)

pub bounds-sums-column : goal.bounds-sums-column
bounds-sums-column c = omega (arith, length-filling _ _ _ c.loop-column.invariant.2)

pub loop-column-preserved : goal.loop-column-preserved
loop-column-preserved c =
    let rows = c.over_rows-rows in
    let s = c.args.s.now in
    let i = c.loop-column.column in (
      omega arith,
      kept-added _ (column_total s i) c.loop-column.invariant.1 rows.ensures.total_value refl
          ∙ kept (sym (rw (add-one, sum_to-suc))),
      filled_more _ _ _ c.loop-column.invariant.2
          (added-kept _ _ rows.ensures.sum_value refl
          ∙ ap (λ (x : ℕ). (running_sum (in_column s i) 30 30 + x) % 65536) c.from.ensures),
    )

pub returns : goal.returns
returns c =
    let all : c.loop-column.column ≡ 16 = omega arith in
    record {
      value = kept-all _ _ c.loop-column.invariant.1 all;
      sums_after = filled-all _ _ c.loop-column.invariant.2 all;
    }
