-- `blocks_cause` tells the cause in block 0 or, where that passed, in the first offer block that fails.
-- Assumes nothing.
use mathlib.Core.Path.{◌≡◌, sym, ap, subst, ◌∙◌}
use native.Mathlib.Omega.{arith}
use Rattle.std.proofs.lemmas.Result.{err_from_is_err_and}
use Rattle.values.proofs.Firsts.{and_then-next, and_then-refused}
use Rattle.sections.specs.Blocks.{block_count, block_of}
use Rattle.sections.specs.inner.Section.{Fits}
use Rattle.layout.proofs.Holding.{length-holds, head-holds}
use Rattle.causes.specs.Cause.{head_cause, section_cause, blocks_cause}
use Rattle.causes.proofs.Passes.{passes}
use Rattle.causes.proofs.Agreeing.{head-agree}
use Rattle.causes.proofs.blocks_cause.Goals as goal
use Rattle.causes.proofs.blocks_cause.Goals.{After-head_cause, In_ok-head_cause}
use Rattle.values.specs.Refusals.{no_fault}

pub slice_bounds-head_cause-end : goal.slice_bounds-head_cause-end
slice_bounds-head_cause-end c = omega (arith, length-holds _ c.requires)

-- what the call ensures, of the block of the definition
as-head : (c : After-head_cause) → c.head_cause.result ≡ head_cause (block_of c.args.book.now 0) (block_count c.args.book.now)
unfolding block_of
as-head c = c.head_cause.ensures

pub returns-in_err-head_cause : goal.returns-in_err-head_cause
unfolding blocks_cause
returns-in_err-head_cause c =
    let at = goal.at.returns-in_err-head_cause c in
    let failed = err_from_is_err_and c.from_residual.result c.from_residual.ensures.1 in
    rw (failed.1, failed.2) (sym (and_then-refused _ _ _ (sym (as-head at.After-head_cause) ∙ c.in_err-head_cause.was)))

-- past the test block 0 passed
head-told : (c : In_ok-head_cause) →
    let book = c.args.book.now in
    c.head_cause.result ≡ head_cause (block_of book 0) (block_count book) → head_cause (block_of book 0) (block_count book) ≡ no_fault
head-told c own = sym own ∙ c.in_ok-head_cause.was

pub offers_section-requires : goal.offers_section-requires
offers_section-requires c = omega (arith, length-holds _ c.requires)

pub section_cause-requires : goal.section_cause-requires
section_cause-requires c =
    let at = goal.at.section_cause-requires c in
    let n = head-holds _ _ (sym (head-agree _ _) ∙ ap passes (head-told at.In_ok-head_cause (as-head at.After-head_cause))) in
    let l = length-holds _ c.requires in
    subst (Fits _) (sym c.offers_section.ensures)
    (record {
      within = omega (arith, n, l);
      few = omega (arith, n);
      numbered = omega (arith, n);
    })

pub returns : goal.returns
unfolding blocks_cause
returns c =
    let at = goal.at.returns c in
    c.section_cause.ensures
    ∙ ap (section_cause _) c.offers_section.ensures
    ∙ sym (and_then-next _ _ (head-told at.In_ok-head_cause (as-head at.After-head_cause)))
