-- `compare_against` hands on the second book's refusal, and else compares where there is a price.
-- Assumes nothing.
use mathlib.Core.Path.{◌≡◌, sym, ◌∙◌}
use Rattle.book.specs.Faults.{first_fault}
use Rattle.compare.proofs.Compared.{against-refused, against-none, against-priced}
use Rattle.compare.proofs.compare_against.Goals as goal
use Rattle.compare.proofs.compare_against.Goals.{In_default}
use Rattle.values.specs.Refusals.{no_fault}

pub returns-in-Err : goal.returns-in-Err
returns-in-Err c = against-refused _ _ _ _ _ (sym c.verdict.ensures ∙ c.in-Err.is)

-- past the test the second book is accepted
accepted : (c : In_default) → first_fault c.args.second.now ≡ no_fault
accepted c = sym c.verdict.ensures ∙ c.in_default.is

pub compare_to-requires : goal.compare_to-requires
compare_to-requires c = (c.requires, accepted (goal.at.compare_to-requires c).In_default)

pub returns-in-Some : goal.returns-in-Some
returns-in-Some c =
    c.compare_to.ensures ∙ against-priced _ _ _ _ _ (accepted (goal.at.returns-in-Some c).In_default) c.in-Some.is

pub returns-in-None : goal.returns-in-None
returns-in-None c = against-none _ _ _ _ (accepted (goal.at.returns-in-None c).In_default) c.in-None.is
