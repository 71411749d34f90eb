-- The rows are tested with an array that keeps them, and then for repeats with what it keeps.
use Rattle.std.proofs.Common.{map, ℕ, arith}
use lib.ListN.{length-replicate}
use Rattle.plain.specs.Given.{offer_in}
use Rattle.ozpinduru.proofs.Writing.{search-asks}
use Rattle.ozpinduru.proofs.write.tested_in.Goals as goal

pub unrepeated-requires : goal.unrepeated-requires
unrepeated-requires g c =
    let long = length-replicate {A = ℕ} g.row.N 0 in
    search-asks c.args.edition (map offer_in c.args.rows.now) c.args.d _ _ _ c.test_rows-found.auto.kept c.test_rows-found.ensures
    (omega (arith, long)) (omega (arith, long))

pub returns : goal.returns
returns g c = record {
  before = _;
  kept = _;
  found = _;
  long = c.test_rows-found.auto.kept;
  tested = c.test_rows-found.ensures;
  answered = c.unrepeated.ensures;
}
