-- `layouts` tests block 0 first, and then the section of the offers, of which block 0 states the number.
-- Assumes nothing.
use mathlib.Core.Bool.{not}
use mathlib.Core.Path.{◌≡◌, sym, ap, subst, ◌∙◌}
use native.Mathlib.Omega.{arith}
use Rattle.values.proofs.Firsts.{unless-held, unless-failed, and_then-next, and_then-refused}
use Rattle.sections.specs.Blocks.{block_count, block_of}
use Rattle.sections.specs.Section.{section_fault}
use Rattle.sections.specs.inner.Section.{Fits}
use Rattle.layout.specs.Layout.{head_holds}
use Rattle.layout.specs.Form.{offer_count, layout_fault}
use Rattle.layout.proofs.Holding.{CountHolds, head-holds}
use Rattle.layout.proofs.form.layouts.Goals as goal
use Rattle.layout.proofs.form.layouts.Goals.{After-head_holds, Else-not-head_holds}

-- what the call ensures, of the block of the definition
as-head : (c : After-head_holds) →
    let book = c.args.book.now in
    c.head_holds.result ≡ head_holds (block_of book 0) (block_count book)
unfolding block_of
as-head c = c.head_holds.ensures ∙ ap (head_holds _) c.requires.0

pub returns-then-not-head_holds : goal.returns-then-not-head_holds
unfolding layout_fault
returns-then-not-head_holds c =
    sym (and_then-refused _ _ _ (unless-failed _ (as-head (goal.at.returns-then-not-head_holds c).After-head_holds) (ap not c.if-not-head_holds.true)))

-- past the test of block 0 the number of offers fits
counted : (c : Else-not-head_holds) →
    let book = c.args.book.now in
    c.head_holds.result ≡ head_holds (block_of book 0) (block_count book) → CountHolds (block_count book) (offer_count book)
counted c own = head-holds _ _ (sym own ∙ c.if-not-head_holds.false)

pub section_fault-requires : goal.section_fault-requires
section_fault-requires c =
    let at = goal.at.section_fault-requires c in
    let n = counted at.Else-not-head_holds (as-head at.After-head_holds) in
    subst (Fits _) (sym c.offers_section.ensures)
    (record {
      within = omega (arith, n);
      few = omega (arith, n);
      numbered = omega (arith, n);
    })

pub returns : goal.returns
unfolding layout_fault
returns c =
    c.section_fault.ensures
    ∙ ap (section_fault _) c.offers_section.ensures
    ∙ sym (and_then-next _ _ (unless-held _ (as-head (goal.at.returns c).After-head_holds) (ap not c.if-not-head_holds.false)))
