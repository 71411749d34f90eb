-- `unrepeated` keeps the rows where no repeat is refused.
-- Assumes nothing.
use mathlib.Core.Path.{ap, ◌∙◌}
use Rattle.lent.specs.inner.Drafts.{draft_by}
use Rattle.lent.proofs.tested.unrepeated.Goals as goal
use Rattle.values.specs.Refusals.{Verdict}

pub returns : goal.returns
returns c =
    let a = c.args in
    c.drafted.ensures ∙ ap (λ (v : Verdict). draft_by v a.d.rows a.d.before) c.repeat_fault.ensures
