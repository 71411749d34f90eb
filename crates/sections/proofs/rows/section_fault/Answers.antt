-- `section_fault` finds the first block of a section whose layout is wrong. The loop's invariant: those passed had right ones.
-- Assumes nothing.
use mathlib.Core.Bool.{not}
use mathlib.Core.Path.{◌≡◌, sym, ap, ◌∙◌}
use Prim.Native.Nat.{◌+◌}
use native.Mathlib.Omega.{arith}
use borrow.Author.Rules.{rules}
use Rattle.values.specs.Refusals.{first}
use Rattle.values.proofs.Firsts.{unless-held, unless-failed, first-zero, first_on, first-refused}
use Rattle.sections.specs.Blocks.{block_of}
use Rattle.sections.specs.Section.{rows_here, rows_hold, block_fault, section_fault}
use Rattle.sections.proofs.Parts.{block-part}
use Rattle.sections.proofs.rows.section_fault.Goals as goal
use Rattle.sections.proofs.rows.section_fault.Goals.{After-rows_hold}

pub loop-j-init : goal.loop-j-init
loop-j-init c = (search rules, first-zero _)

-- what the call ensures, of the block of the definition
as-block : (c : After-rows_hold) →
    let args = c.args in
    let j = c.loop-j.j in
    let t = args.section in
    c.rows_hold.result ≡ rows_hold t (block_of args.book.now (t.first + j)) (t.number + j) (rows_here t.rows j)
as-block c = simp (block-part, c.rows_here.ensures) at c.rows_hold.ensures

pub returns-then-not-rows_hold : goal.returns-then-not-rows_hold
unfolding section_fault block_fault
returns-then-not-rows_hold c =
    sym
    (first-refused _ _ _ _
    (omega arith)
    c.loop-j.invariant.1
    (unless-failed _ (as-block (goal.at.returns-then-not-rows_hold c).After-rows_hold) (ap not c.if-not-rows_hold.true)))

pub loop-j-preserved : goal.loop-j-preserved
unfolding block_fault
loop-j-preserved c = (
  search rules,
  first_on _ _
      c.loop-j.invariant.1
      (unless-held _ (as-block (goal.at.loop-j-preserved c).After-rows_hold) (ap not c.if-not-rows_hold.false)),
)

pub returns : goal.returns
unfolding section_fault
returns c = sym c.loop-j.invariant.1 ∙ ap (first _) (omega arith)
