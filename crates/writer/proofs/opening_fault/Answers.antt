-- `opening_fault` tests the edition, the count and the parameters in their order.
-- Assumes nothing.
use mathlib.Core.Path.{refl, sym, ◌∙◌}
use borrow.Author.Rules.{rules}
use borrow.Author.Tests.{lt-leb, le-leb}
use Rattle.writer.specs.inner.Opening.{opening_fault}
use Rattle.writer.proofs.opening_fault.Goals as goal

pub returns-then-not-edition_known : goal.returns-then-not-edition_known
unfolding opening_fault
returns-then-not-edition_known c = rw (sym c.edition_known.ensures ∙ c.if-not-edition_known.true) refl

pub returns-then-rows-gt600 : goal.returns-then-rows-gt600
unfolding opening_fault
returns-then-rows-gt600 c =
    rw (sym c.edition_known.ensures ∙ c.if-not-edition_known.false, lt-leb _ 600 c.if-rows-gt600.true) refl

pub returns : goal.returns
unfolding opening_fault
returns c =
    rw (sym c.edition_known.ensures ∙ c.if-not-edition_known.false, le-leb c.args.rows 600 (search rules))
    c.parameter_fault.ensures
