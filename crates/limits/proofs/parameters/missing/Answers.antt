-- `missing` gives the first missing field by the marks: a byte's inverse is what is left of 255.
-- Assumes nothing.
use mathlib.Core.Path.{◌∙◌, sym}
use native.Mathlib.Omega.{arith}
use borrow.Author.Tests.{lt-ltb, le-ltb}
use Rattle.laws.proofs.Cases.{cond-true, cond-false}
use Rattle.limits.proofs.Marks.{gap-missing}
use Rattle.limits.proofs.parameters.missing.Goals as goal

pub returns-then-gap-values_needed : goal.returns-then-gap-values_needed
returns-then-gap-values_needed c =
    sym (cond-true _ _ _ (lt-ltb _ _ c.if-gap-values_needed.true)) ∙ gap-missing _ _ _ c.values_needed.ensures.0 (omega arith)

pub returns-else-gap-values_needed : goal.returns-else-gap-values_needed
returns-else-gap-values_needed c =
    sym (cond-false _ _ _ (le-ltb _ _ c.if-gap-values_needed.false)) ∙ gap-missing _ _ _ c.values_needed.ensures.0 (omega arith)
