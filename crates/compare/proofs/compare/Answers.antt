-- `compare` hands on the first book's refusal, and else compares to its price.
-- Assumes nothing.
use mathlib.Core.Path.{◌≡◌, sym, ◌∙◌}
use Rattle.std.specs.Prelude.{Ok}
use Rattle.call.specs.Answer.{answer_of}
use Rattle.compare.proofs.Compared.{first-refused, first-accepted, first-cleared}
use Rattle.compare.proofs.compare.Goals as goal
use Rattle.compare.proofs.compare.Goals.{In-Ok}

-- the first book is cleared
cleared : (c : In-Ok) → answer_of c.args.first.now ≡ Ok c.in-Ok.c
cleared c = sym c.quote.ensures ∙ c.in-Ok.is

pub compare_against-requires : goal.compare_against-requires
compare_against-requires c =
    first-accepted _ c.args.second.now _ (cleared (goal.at.compare_against-requires c).In-Ok)

pub returns-in-Err : goal.returns-in-Err
returns-in-Err c = first-refused _ _ _ (sym c.quote.ensures ∙ c.in-Err.is)

pub returns-in-Ok : goal.returns-in-Ok
returns-in-Ok c =
    c.compare_against.ensures ∙ first-cleared _ _ _ (cleared (goal.at.returns-in-Ok c).In-Ok)
