-- `levels::level::level_at` meets its contract: the total is the one that the curve reaches.
-- Assumes nothing.
use mathlib.Core.Path.{refl}
use Rattle.levels.proofs.level.level_at.Goals as goal

pub returns : goal.returns
returns c =
    record {
      total = rw c.min.ensures at c.reached-total.ensures;
      price = refl;
      amount = c.min-2.ensures;
      sum = refl;
      reach = refl;
    }
