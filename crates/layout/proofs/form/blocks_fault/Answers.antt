-- `blocks_fault` meets its contract: a length that holds is whole blocks, one at least and no more than 41.
-- Assumes nothing.
use native.Mathlib.Omega.{arith}
use Rattle.layout.proofs.Holding.{length-holds}
use Rattle.layout.proofs.form.blocks_fault.Goals as goal

pub checks-requires : goal.checks-requires
checks-requires c = omega (arith, length-holds _ c.requires)

pub layouts-requires : goal.layouts-requires
layouts-requires c = omega (arith, length-holds _ c.requires)
