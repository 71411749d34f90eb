-- A row that passes whatever stands before it, told from a caller's numbers.
-- Assumes nothing.
use Rattle.std.specs.Prelude.{ℕ, Bool, ◌&&◌, ◌||◌, eqb, leb}
use Rattle.limits.specs.Parameters.{within}
use Rattle.plain.specs.declared.structs.OzpValue.{OzpValue}
use Rattle.plain.specs.declared.structs.OzpRow.{OzpRow}

-- given and in range
abbrev pub price_passes : OzpValue → Bool
price_passes price = eqb price.kind 1 && leb price.number 1000000

-- missing, or given from 1 to the quantity
abbrev pub block_passes : OzpValue → ℕ → Bool
block_passes block quantity = eqb block.kind 4 || (eqb block.kind 1 && within 1 quantity block.number)

-- step 1, a price, and every value in range
unfoldable pub passes_alone : OzpRow → Bool
passes_alone row =
    leb 1 row.resource
    && (leb 1 row.seller
    && (price_passes row.price
    && (within 1 200000 row.quantity
    && (block_passes row.block row.quantity
    && eqb row.step 1))))
