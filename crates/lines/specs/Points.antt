-- The curve that the year of parameters selects, and how its points come of them: prices in cents, before they are divided by the
-- days and by what the outage rate leaves; quantities as parts of what stands for the requirement.
-- Assumes nothing.
use Rattle.std.specs.Prelude.{ℕ, ◌+◌, ◌-◌, ◌*◌, max, Bool, cond, List, [], ◌∷◌}
use Rattle.values.specs.Values.{held}
use Rattle.values.specs.declared.head.Parameters.{Parameters}
use Rattle.limits.specs.Parameters.{by_margin}
use Rattle.curve.specs.Shape.{weights2022, weights2026}
use Rattle.curve.specs.declared.Curve.{Curve}
use Rattle.curve.specs.declared.Weights.{Weights}
use Rattle.wording.specs.Words.{as_one}

-- the weights of an edition of the curve: the early one goes by the margin
unfoldable pub weights_of : Bool → Weights
weights_of early = cond early weights2022 weights2026

-- what stands for the requirement: 100 percent, or 100 percent and the margin
unfoldable pub whole_of : Bool → ℕ → ℕ
whole_of early margin = cond early (10000 + margin) 10000

-- so many quarters of C minus E, in cents
unfoldable pub net_cents : ℕ → ℕ → ℕ → ℕ
net_cents cost offset quarters = (cost - offset) * quarters * 25

-- the greater of C and so many quarters of C minus E, in cents
unfoldable pub first_cents : ℕ → ℕ → ℕ → ℕ
first_cents cost offset quarters = max (cost * 100) (net_cents cost offset quarters)

unfoldable pub prices_numbers : Parameters → Curve → List ℕ
prices_numbers p c =
    let early = by_margin p.year in
    let weights = weights_of early in
    as_one early
    ∷ as_one early
    ∷ first_cents (held p.cost) (held p.offset) weights.first
    ∷ (10000 - held p.outage)
    ∷ c.p1.0
    ∷ net_cents (held p.cost) (held p.offset) weights.second
    ∷ (10000 - held p.outage)
    ∷ c.p2.0
    ∷ []

unfoldable pub quantities_numbers : Parameters → Curve → List ℕ
quantities_numbers p c =
    let early = by_margin p.year in
    let weights = weights_of early in
    let whole = whole_of early (held p.margin) in
    (whole - weights.under)
    ∷ whole
    ∷ c.q1
    ∷ (whole + weights.over)
    ∷ whole
    ∷ c.q2
    ∷ (whole + weights.last)
    ∷ whole
    ∷ c.q3
    ∷ as_one early
    ∷ whole
    ∷ []
