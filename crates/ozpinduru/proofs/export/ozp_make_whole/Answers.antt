-- `ozp_make_whole` pays by the kind of an answer.
-- Assumes nothing.
use mathlib.Core.Path.{◌∙◌}
use native.Mathlib.Omega.{arith}
use Rattle.ozpinduru.proofs.Exports.{whole-priced, whole-unpriced, whole-neither}
use Rattle.ozpinduru.proofs.export.ozp_make_whole.Goals as goal

pub returns-in-1 : goal.returns-in-1
returns-in-1 c = c.make_whole.ensures ∙ whole-priced _ _ _ _ c.in-1.is

pub returns-in-2 : goal.returns-in-2
returns-in-2 c = c.make_whole-in-2.ensures ∙ whole-unpriced _ _ _ _ c.in-2.is

pub returns-in_default : goal.returns-in_default
returns-in_default c = whole-neither _ _ _ _ (λ e. omega arith) (λ e. omega arith)
