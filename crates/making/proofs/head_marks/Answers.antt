-- `head_marks` adds the bits of the parameters that are given.
-- Assumes nothing.
use Rattle.making.proofs.Fields.{head-marks}
use borrow.Author.Rules.{rules}
use Rattle.making.proofs.head_marks.Goals as goal

pub returns : goal.returns
returns c = (
  head-marks c.args.p c.mark_of.ensures.0 c.mark_of-2.ensures.0 c.mark_of-3.ensures.0 c.mark_of-4.ensures.0 c.mark_of-5.ensures.0,
  search rules,
)
