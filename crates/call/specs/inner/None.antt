-- The clearing of a book of no rows.
-- Assumes nothing.
use Rattle.std.specs.Prelude.{None}
use Rattle.sale.specs.declared.Clearing.{Clearing}

abbrev pub none_cleared : Clearing
none_cleared = record { total = 0; price = None; make_whole = 0; daily = 0; year = 0 }
