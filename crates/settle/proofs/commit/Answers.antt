-- `settle::commit` writes what each row commits. The loop's invariant: the rows passed have what they commit, and their
-- tenths past what cleared, at most 200,000 each, are summed.
-- Assumes nothing.
use mathlib.Core.Path.{ap, ◌∙◌}
use Prim.Native.Nat.{ℕ, ◌≤◌, ◌-◌}
use native.Mathlib.Omega.{arith}
use lib.ListN.{get_or}
use Rattle.laws.specs.Sum.{sum_to}
use Rattle.laws.proofs.Fills.{filled_none, filled_more}
use Rattle.laws.proofs.Filling.{length-filling, in-filling, filled-all}
use Rattle.laws.proofs.Loops.{added_none, added_more}
use Rattle.settle.proofs.commit.Goals as goal
use Rattle.settle.proofs.commit.Goals.{After-committed_of-committed}

pub loop-row-init : goal.loop-row-init
loop-row-init c = (omega arith, filled_none _ _, added_none _, omega arith)

pub bounds-out-row : goal.bounds-out-row
bounds-out-row c = in-filling _ _ _ c.loop-row.invariant.1 (omega arith)

-- a row commits at most 200,000 tenths past what cleared
modest : (c : After-committed_of-committed) → c.committed_of-committed.result ≤ 200000
modest c = omega (arith, c.committed_of-committed.ensures.0, c.requires.0.modest c.loop-row.row (omega arith))

pub overflow_add-past : goal.overflow_add-past
overflow_add-past c =
    omega (arith, modest (goal.at.overflow_add-past c).After-committed_of-committed, c.requires.0.few)

pub loop-row-preserved : goal.loop-row-preserved
loop-row-preserved c =
    let told = c.committed_of-committed.ensures.0 in
    let cleared = get_or c.args.cleared.now c.loop-row.row 0 in
    let inv = c.loop-row.invariant in (
      omega arith,
      filled_more _ _ _ inv.1 told,
      added_more _ _ inv.2 (ap (λ (committed : ℕ). committed - cleared) told),
      omega (arith, modest (goal.at.loop-row-preserved c).After-committed_of-committed),
    )

pub shape_of-out : goal.shape_of-out
shape_of-out c = length-filling _ _ _ c.loop-row.invariant.1

pub returns : goal.returns
returns c =
    record {
      out_after = filled-all _ _ c.loop-row.invariant.1 (omega arith);
      value = (c.loop-row.invariant.2 ∙ ap (sum_to _) (omega arith), omega (arith, c.requires.0.few));
    }
