-- `rung_price` goes up. The loop's invariant: what is left to go from here leads to the same price.
-- Assumes nothing.
use mathlib.Core.Path.{sym, ◌∙◌}
use Prim.Native.Nat.{◌+◌, ◌-◌}
use native.Mathlib.Omega.{arith}
use Rattle.ladder.proofs.Climbs.{up-here, up_one, up_ends, found-cheap}
use Rattle.ladder.proofs.price.rung_price.Goals as goal

pub overflow_add-at : goal.overflow_add-at
overflow_add-at c = record { fits = omega (arith, found-cheap _ _ _ _ c.requires c.in_ok-at.ensures) }

pub returns-in_err-at : goal.returns-in_err-at
returns-in_err-at c =
    c.from_residual.ensures
    ∙ up_ends _ _ _ (c.args.k - (c.loop.counter + 1)) _ (omega arith) c.in_err-at.ensures
    ∙ sym c.loop.invariant

pub loop-preserved : goal.loop-preserved
loop-preserved c = c.loop.invariant ∙ up_one _ _ _ _ _ _ (omega arith) c.in_ok-at.ensures

pub returns : goal.returns
returns c = c.lowest_from-2.ensures ∙ sym (c.loop.invariant ∙ up-here _ _ _ _ (omega arith))
