-- `sums_from` adds one row after another. The loop's invariant: both sums of the rows so far, each row of 32 bits.
-- Assumes nothing.
use mathlib.Core.Path.{◌∙◌}
use Rattle.laws.proofs.Loops.{added_none, added_more}
use native.Mathlib.Omega.{arith}
use borrow.Author.Rules.{rules}
use Rattle.rowpages.proofs.together.sums_from.Goals as goal

pub loop-j-init : goal.loop-j-init
loop-j-init c = (search rules, added_none _, added_none _, omega arith, omega arith)

pub loop-j-preserved : goal.loop-j-preserved
loop-j-preserved c =
    let inv = c.loop-j.invariant in
    let cleared = c.from-cleared.ensures ∙ c.cleared_of.ensures in
    let offered = c.from-offered.ensures ∙ c.offered_of.ensures in
    (search rules, added_more _ _ inv.1 cleared, added_more _ _ inv.2 offered, omega (arith, inv.3), omega (arith, inv.4))
