-- `unrepeated_rows` passes no repeat. The loop's invariant: no row passed is one, and both flags of its resource number are set.
-- Assumes nothing.
use mathlib.Core.Path.{◌≡◌, sym, ap, ◌∙◌}
use mathlib.Core.Bool.{true}
use Prim.Native.Nat.{◌+◌}
use native.Mathlib.Omega.{arith}
use lib.ListN.{get_or}
use borrow.Author.Rules.{rules}
use Rattle.laws.specs.Sum.{every}
use Rattle.laws.proofs.Everys.{every-zero}
use Rattle.repeats.specs.Repeats.{no_repeat}
use Rattle.repeats.proofs.Failing.{every_more}
use Rattle.repeats.proofs.Fresh.{repeat-fresh, repeat-untested}
use Rattle.repeats.proofs.Flagged.{unmet-fresh, by-unset}
use Rattle.repeats.proofs.Marked.{Marked, marked-none, marked_more, marked-same, by-passed, as_before}
use Rattle.repeats.proofs.flags.unrepeated_rows.Goals as goal
use Rattle.repeats.proofs.flags.unrepeated_rows.Goals.{Joined-steps-row, then-steps-row, else-steps-row, then-steps-row-2+else-not-absent, else-steps-row-2}

pub returns-then-n-lt-FEW : goal.returns-then-n-lt-FEW
returns-then-n-lt-FEW c = (omega arith, every-zero _)

pub loop-row-init : goal.loop-row-init
loop-row-init c = (search rules, every-zero _, marked-none _ _ (search rules))

-- the row is no repeat, and its flags are set: by the turn, or by the row before it
passed : (c : Joined-steps-row)
    → let a = c.args in
    (no_repeat (λ r. get_or a.resources.now r 0) (λ r. get_or a.steps.now r 0) c.loop-row.row ≡ true)
    × Marked (λ r. get_or a.resources.now r 0) c.if-steps-row.met (c.loop-row.row + 1)
passed c =
    let inv = c.loop-row.invariant in
    let resources = c.args.resources.now in
    elim c.if-steps-row.branch [
      | then-steps-row w ↦ (
        elim w.if-steps-row-2.branch [
          | then-steps-row-2+else-not-absent v ↦ repeat-fresh _ _ _ (sym v.absent.ensures ∙ v.if-not-absent.false)
          | else-steps-row-2 v ↦
              by-unset _ _ _ v.if-steps-row-2.false
              (repeat-untested _ _ _)
              (λ unset. repeat-fresh _ _ _ (unmet-fresh _ _ _ _ _ w.flag_of_sum-by_sum.ensures.0 inv.2.sum unset))
              (λ unset. repeat-fresh _ _ _ (unmet-fresh _ _ _ _ _ w.flag_of_product-by_product.ensures.0 inv.2.product unset))
        ],
        rw w.met-is (marked_more _ _ _ _ _ w.flag_of_sum-by_sum.ensures w.flag_of_product-by_product.ensures inv.2),
      )
      | else-steps-row w ↦
          let skipped = by-passed _ _ w.if-steps-row.false in
          let same = as_before (λ r. get_or resources r 0) _ (sym c.as_before.ensures ∙ skipped.1) in
          (repeat-untested _ _ _ skipped.0, rw w.met-is (marked-same _ _ _ same.0 same.1 inv.2))
    ]

pub loop-row-preserved : goal.loop-row-preserved
loop-row-preserved c =
    let next = passed (goal.at.loop-row-preserved c).Joined-steps-row in (
      omega arith,
      every_more _ _ c.loop-row.invariant.1 next.0,
      next.1,
    )

pub returns : goal.returns
returns c = (omega arith, ap (every _) (omega arith) ∙ c.loop-row.invariant.1)
