-- `compare_to` compares the parameters of two accepted books, and then their offers.
-- Assumes nothing.
use mathlib.Core.Path.{◌≡◌, ap₂, ◌∙◌}
use native.Mathlib.Omega.{arith}
use Rattle.sections.specs.Blocks.{block_of}
use Rattle.layout.specs.Read.{contents_of}
use Rattle.layout.proofs.Contained.{contents-parameters}
use Rattle.compare.specs.Same.{field_apart}
use Rattle.compare.proofs.Compared.{accepted-long, accepted-inside, parameters-differ, offers-own, offers-decide}
use Rattle.compare.proofs.compare_to.Goals as goal
use Rattle.compare.proofs.compare_to.Goals.{After-field_apart-apart}

pub slice_bounds-parameters_in-end : goal.slice_bounds-parameters_in-end
slice_bounds-parameters_in-end c = omega (arith, accepted-long _ c.requires.0)

pub slice_bounds-parameters_in-end-2 : goal.slice_bounds-parameters_in-end-2
slice_bounds-parameters_in-end-2 c = omega (arith, accepted-long _ c.requires.1)

-- what is told is told of what the books say
told : (c : After-field_apart-apart) → let a = c.args in
    c.field_apart-apart.result ≡ field_apart (contents_of a.first.now).parameters (contents_of a.second.now).parameters
unfolding block_of
told c =
    c.field_apart-apart.ensures
    ∙ ap₂ field_apart (c.parameters_in.ensures ∙ contents-parameters _) (c.parameters_in-2.ensures ∙ contents-parameters _)

pub returns-in-Some : goal.returns-in-Some
returns-in-Some c =
    parameters-differ _ _ _ _ (told (goal.at.returns-in-Some c).After-field_apart-apart) _ c.in-Some.is

pub offer_count-requires : goal.offer_count-requires
offer_count-requires c = accepted-long _ c.requires.0

pub offer_count-requires-2 : goal.offer_count-requires-2
offer_count-requires-2 c = accepted-long _ c.requires.1

pub compare_offers-requires : goal.compare_offers-requires
compare_offers-requires c =
    (accepted-inside _ c.requires.0 c.offer_count.ensures.0, accepted-inside _ c.requires.1 c.offer_count-2.ensures.0)

pub returns : goal.returns
returns c =
    c.compare_offers.ensures
    ∙ offers-own _ _ _ _ _ c.offer_count.ensures.0 c.offer_count-2.ensures.0
    ∙ offers-decide _ _ _ _ (told (goal.at.returns c).After-field_apart-apart) c.in_default.is
