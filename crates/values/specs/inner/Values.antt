-- The least that an offer commits, told from its minimum block.
-- Assumes nothing.
use Rattle.std.specs.Prelude.{ℕ}
use Rattle.values.specs.declared.Value.{Value}
use Rattle.values.specs.declared.Value.TheVariants.{Given, Missing}

-- The least that an offer with this minimum block commits, once any of it clears: the block, or, where it is flexible, the
-- least that clears at all.
abbrev pub least_of : Value → ℕ
least_of (Given tenths) = tenths
least_of Missing = 1
