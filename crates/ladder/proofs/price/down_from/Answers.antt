-- `down_from` goes down. The loop's invariant: what is left to go from here leads to the same price.
-- Assumes nothing.
use mathlib.Core.Path.{sym, ◌∙◌}
use Prim.Native.Nat.{◌+◌, ◌-◌}
use native.Mathlib.Omega.{arith}
use Rattle.ladder.proofs.Climbs.{down-all, down-one, down_ends}
use Rattle.ladder.proofs.price.down_from.Goals as goal

pub returns-in-None : goal.returns-in-None
returns-in-None c =
    sym (c.loop.invariant ∙ down_ends _ _ _ (c.args.k - (c.loop.counter + 1)) _ (omega arith) c.in-None.ensures)

pub loop-preserved : goal.loop-preserved
loop-preserved c = c.loop.invariant ∙ down-one _ _ _ _ _ _ (omega arith) c.in-Some.ensures

pub returns : goal.returns
returns c = sym (c.loop.invariant ∙ down-all _ _ _ _ (omega arith))
