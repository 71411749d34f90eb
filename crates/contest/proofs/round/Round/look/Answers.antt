-- `look` counts the contenders under a number, which takes the place of one of the two.
-- Assumes nothing.
use Rattle.contest.proofs.Closing.{looked-low, looked-high}
use Rattle.contest.proofs.round.Round.look.Goals as goal

pub returns-then-count-self : goal.returns-then-count-self
returns-then-count-self c =
    looked-low _ _ _ _ c.args.b c.requires.between _ _ c.requires.low_le_mid.0 c.under-count.ensures.0 c.if-count-self.true

pub returns : goal.returns
returns c =
    looked-high _ _ _ _ c.args.b c.requires.between _ _ c.requires.low_le_mid.1 c.under-count.ensures.0 c.if-count-self.false c.under-count.ensures.1
