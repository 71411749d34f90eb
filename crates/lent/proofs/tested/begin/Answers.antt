-- `begin` tests what stands before the rows.
-- Assumes nothing.
use mathlib.Core.Path.{ap, ◌∙◌}
use Rattle.values.specs.Contents.{no_offer}
use Rattle.values.specs.declared.head.Parameters.{Parameters}
use Rattle.writer.specs.inner.Opening.{opening_fault}
use Rattle.lent.specs.inner.Drafts.{before_of, draft_by, draft_of}
use Rattle.lent.proofs.tested.begin.Goals as goal
use Rattle.values.specs.Refusals.{Verdict}

pub returns : goal.returns
unfolding draft_of
returns c =
    let a = c.args in
    c.drafted.ensures
    ∙ ap (λ (v : Verdict). draft_by v a.rows (before_of no_offer))
    (c.opening_fault-fault.ensures ∙ ap (λ (p : Parameters). opening_fault a.edition p a.rows) c.parameters_in.ensures)
