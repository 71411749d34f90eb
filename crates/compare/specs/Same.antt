-- When two values, two offers or two sets of parameters are the same, as tests.
-- Assumes nothing.
use Rattle.std.specs.Prelude.{ℕ, Bool, true, false, cond, ◌&&◌, eqb, Some, None}
use Rattle.std.specs.declared.option.Option.{Option}
use Rattle.values.specs.declared.Value.{Value}
use Rattle.values.specs.declared.Value.TheVariants.{Given, Missing}
use Rattle.values.specs.declared.head.Parameters.{Parameters}
use Rattle.values.specs.declared.place.Offer.{Offer}

-- both given with one number, or both missing
abbrev pub same_value : Value → Value → Bool
same_value (Given number) (Given other) = eqb number other
same_value (Given number) Missing = false
same_value Missing (Given other) = false
same_value Missing Missing = true

-- the same resource, seller, price, quantity, minimum block, time stamp and step
unfoldable pub same_offer : Offer → Offer → Bool
same_offer o other =
    eqb o.resource other.resource
    && (eqb o.seller other.seller
    && (same_value o.price other.price
    && (eqb o.quantity other.quantity
    && (same_value o.block other.block
    && (eqb o.stamp other.stamp
    && eqb o.step other.step)))))

-- the first field in which parameters differ: 1 delivery year, 2 C, 3 E, 4 F, 5 R, 6 the reserve margin; none where they are the same
unfoldable pub field_apart : Parameters → Parameters → Option ℕ
field_apart p other =
    cond (eqb p.year other.year)
    (cond (same_value p.cost other.cost)
    (cond (same_value p.offset other.offset)
    (cond (same_value p.outage other.outage)
    (cond (same_value p.requirement other.requirement)
    (cond (same_value p.margin other.margin) None (Some 6))
    (Some 5))
    (Some 4))
    (Some 3))
    (Some 2))
    (Some 1)
