-- The first i rows are tested.
use Rattle.std.proofs.Common.{◌≡◌, ◌-◌}
use mathlib.Core.List.{map}
use Rattle.plain.specs.Given.{offer_in}
use Rattle.lent.proofs.Testing.{Tested, draft_at, kept_at}
use Rattle.ozpinduru.proofs.write.test_rows.Given as goal

abbrev pub invariant-loop-i : goal.invariant-loop-i
invariant-loop-i l = record {
  draft : l.t ≡ draft_at l.edition (map offer_in l.fn.rows) l.fn.d l.fn.kept l.i;
  kept : l.kept ≡ kept_at l.edition (map offer_in l.fn.rows) l.fn.d l.fn.kept l.i;
  tested : Tested l.edition (map offer_in l.fn.rows) l.fn.d l.fn.kept l.i;
}

abbrev pub decreases-loop-i : goal.decreases-loop-i
decreases-loop-i l = l.fn.d.rows - l.i
