-- `sift` tells the contest by one key: nothing where nothing is left or the keys are alike, and else by the key that parts the
-- contenders.
-- Assumes nothing.
use native.Mathlib.Omega.{arith}
use Rattle.contest.proofs.Telling.{told-alike, told-key, told-nothing}
use Rattle.contest.proofs.sift.Goals as goal

pub returns-then-spare-eq0 : goal.returns-then-spare-eq0
returns-then-spare-eq0 c = λ rest i. told-nothing _ _ _ rest _ c.if-spare-eq0.true

pub returns-then-alike : goal.returns-then-alike
returns-then-alike c =
    let keys = c.args.keys.now in
    told-alike keys _ _ _ (c.alike.ensures c.if-alike.true)

pub overflow_sub-result : goal.overflow_sub-result
overflow_sub-result c =
    let parted = c.threshold-parting.ensures in
    omega (arith, parted.parts.enough, parted.won)

pub returns : goal.returns
returns c =
    let parted = c.threshold-parting.ensures in
    told-key _ _ _ _ _ _ c.requires.standing c.hold.ensures _ parted.won parted.parts
