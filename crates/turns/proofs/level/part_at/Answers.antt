-- `part_at` is a row's part of its own level.
-- Assumes nothing.
use mathlib.Core.Path.{refl}
use native.Mathlib.Omega.{arith}
use Rattle.levels.specs.inner.Asks.{offers_in}
use Rattle.turns.proofs.Leveled.{level-parted, part-own}
use Rattle.turns.proofs.level.part_at.Goals as goal

pub part-requires : goal.part-requires
part-requires c =
    let found = level-parted _ _ _ _ _ _ c.requires.0 c.level_at-level.ensures in
    (λ e. found.some _ c.requires.1 refl, found.within, c.args.asks.now.listed.small _ c.requires.1)

pub returns : goal.returns
returns c = (
  part-own (offers_in c.args.asks.now) c.args.x c.args.row _ _ c.level_at-level.ensures c.part.ensures.0,
  omega (arith, c.part.ensures.1, c.args.asks.now.listed.small _ c.requires.1),
)
