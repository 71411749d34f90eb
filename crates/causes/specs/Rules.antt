-- Which of the rules of steps a row breaks first.
-- Assumes nothing.
use Rattle.std.specs.Prelude.{ℕ, ◌+◌, cond, eqb, Some, None}
use Rattle.std.specs.declared.option.Option.{Option}
use Rattle.values.specs.declared.place.Offer.{Offer}
use Rattle.steps.specs.Steps.{not_cheaper, flexible}
use Rattle.causes.specs.declared.rules.Rule.{Rule}
use Rattle.causes.specs.declared.rules.Rule.TheVariants.{Before, Resource, Step, Price, Block}

-- the rules of steps, by their numbers: 1 there is no row before it, 2 it is of another resource, 3 it is not one step more, 4 its
-- price is under the one before, 5 it has a minimum block
abbrev pub rule_number : Rule → ℕ
rule_number Before = 1
rule_number Resource = 2
rule_number Step = 3
rule_number Price = 4
rule_number Block = 5

-- the number of a rule that is broken, and 0 where none is
abbrev pub broken_number : Option Rule → ℕ
broken_number (Some rule) = rule_number rule
broken_number None = 0

-- between an offer and the one before it, in the order of step_follows; none where it follows
unfoldable pub follow_cause : Offer → Offer → Option Rule
follow_cause before o =
    cond (eqb o.resource before.resource)
    (cond (eqb o.step (before.step + 1))
    (cond (not_cheaper before.price o.price) (cond (flexible o.block) None (Some Block)) (Some Price))
    (Some Step))
    (Some Resource)

-- of a row, in the order of step_holds; none where it keeps the rules
unfoldable pub step_cause : Offer → Offer → ℕ → Option Rule
step_cause before o row = cond (eqb o.step 1) None (cond (eqb row 0) (Some Before) (follow_cause before o))
