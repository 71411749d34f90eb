-- The first i entries of the array are filled, and each that is to be filled lies in the array.
use Rattle.std.proofs.Common.{◌≡◌, ◌≤◌, length}
use Rattle.listing.specs.Listed.{exported_contents, filled_rows, row_out, rows_filled}
use Rattle.ozpinduru.proofs.read.ozp_read.Given as goal

abbrev pub invariant-loop-i : goal.invariant-loop-i
invariant-loop-i l = record {
  inside : l.i-end ≤ length l.rows;
  counted : l.i-end ≡ rows_filled (exported_contents l.fn.book (length l.fn.rows));
  filled : l.rows ≡ filled_rows (row_out l.fn.book) l.i l.fn.rows;
}
