-- What a caller hands in: values, parameters and rows as plain structs of numbers, by the rules of Structs.
-- Assumes nothing.
use Rattle.std.specs.Prelude.{ℕ, cond, List, map, eqb}
use Rattle.values.specs.declared.Value.{Value}
use Rattle.values.specs.declared.Value.TheVariants.{Given, Missing}
use Rattle.values.specs.Contents.{Contents}
use Rattle.values.specs.declared.head.Parameters.{Parameters}
use Rattle.values.specs.declared.place.Offer.{Offer}
use Rattle.plain.specs.Structs.{no_value}
use Rattle.plain.specs.declared.structs.OzpValue.{OzpValue}
use Rattle.plain.specs.declared.structs.OzpParameters.{OzpParameters}
use Rattle.plain.specs.declared.structs.OzpRow.{OzpRow}

-- 1 given, 4 missing, whatever its number; a value of any other kind is out of every range: all ones, which none admits
unfoldable pub value_in : OzpValue → Value
value_in v = cond (eqb v.kind 1) (Given v.number) (cond (eqb v.kind 4) Missing (Given no_value))

abbrev pub parameters_in : OzpParameters → Parameters
parameters_in p =
    record {
      year = p.year;
      cost = value_in p.cost;
      offset = value_in p.offset;
      outage = value_in p.outage;
      requirement = value_in p.requirement;
      margin = value_in p.margin;
    }

abbrev pub offer_in : OzpRow → Offer
offer_in row =
    record {
      resource = row.resource;
      seller = row.seller;
      price = value_in row.price;
      quantity = row.quantity;
      block = value_in row.block;
      stamp = row.stamp;
      step = row.step;
    }

-- what an edition, parameters and rows say together
abbrev pub contents_in : ℕ → OzpParameters → List OzpRow → Contents
contents_in edition p rows = record { edition = edition; parameters = parameters_in p; offers = map offer_in rows }
