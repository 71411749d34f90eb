-- `checks` finds the first block whose check is wrong. The loop's invariant: the blocks passed had right ones.
-- Assumes nothing.
use mathlib.Core.Bool.{not}
use mathlib.Core.Path.{◌≡◌, sym, ap, ◌∙◌}
use native.Mathlib.Omega.{arith}
use borrow.Author.Rules.{rules}
use Rattle.block.specs.Check.{check_holds}
use Rattle.values.specs.Refusals.{first}
use Rattle.values.proofs.Firsts.{unless-held, unless-failed, first-zero, first_on, first-refused}
use Rattle.sections.specs.Blocks.{block_of}
use Rattle.sections.proofs.Parts.{block-part}
use Rattle.layout.specs.Form.{check_fault}
use Rattle.layout.proofs.form.checks.Goals as goal
use Rattle.layout.proofs.form.checks.Goals.{After-check_holds}

pub loop-k-init : goal.loop-k-init
loop-k-init c = (search rules, first-zero _)

-- what the call ensures, of the block of the definition
as-block : (c : After-check_holds) →
    let book = c.args.book.now in
    c.check_holds.result ≡ check_holds (block_of book c.loop-k.k)
as-block c = c.check_holds.ensures ∙ ap check_holds (block-part _ _)

pub returns-then-not-check_holds : goal.returns-then-not-check_holds
unfolding check_fault
returns-then-not-check_holds c =
    sym
    (first-refused _ _ _ _ (omega arith)
    c.loop-k.invariant.1
    (unless-failed _ (as-block (goal.at.returns-then-not-check_holds c).After-check_holds) (ap not c.if-not-check_holds.true)))

pub loop-k-preserved : goal.loop-k-preserved
loop-k-preserved c = (
  search rules,
  first_on _ _
      c.loop-k.invariant.1
      (unless-held _ (as-block (goal.at.loop-k-preserved c).After-check_holds) (ap not c.if-not-check_holds.false)),
)

pub returns : goal.returns
unfolding check_fault
returns c = sym c.loop-k.invariant.1 ∙ ap (first _) (omega arith)
