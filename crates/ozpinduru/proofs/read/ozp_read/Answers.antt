-- Each turn fills the entry of one row that the book has, which lies in the array.
use Rattle.std.proofs.Common.{arith, sym, ap, ◌≡◌, ◌∙◌, length, length-set, add-one}
use Rattle.laws.proofs.Cases.{by_order}
use Rattle.listing.specs.Listed.{row_out, rows_filled, exported_contents}
use Rattle.listing.proofs.Listings.{entered-row, entered-entry, filled_none, filled_next}
use Rattle.ozpinduru.proofs.read.ozp_read.Goals as goal

pub loop-i-init : goal.loop-i-init
loop-i-init c =
    let counted : c.filled-i-end.result ≡ rows_filled (exported_contents c.args.book.now (length c.args.rows.now)) = c.filled-i-end.ensures ∙ ap rows_filled c.contents-c.ensures in
    record {
      inside = by_order c.filled-i-end.result (length c.args.rows.now) (λ l. l)
          (λ l. let past = entered-entry c.args.book.now (length c.args.rows.now) (length c.args.rows.now) (omega arith) in omega arith);
      counted = counted;
      filled = sym (filled_none (row_out c.args.book.now) c.args.rows.now);
    }

pub row_at-requires : goal.row_at-requires
row_at-requires c = entered-row c.args.book.now (length c.args.rows.now) c.loop-i.i (omega arith)

pub loop-i-preserved : goal.loop-i-preserved
loop-i-preserved c = record {
  inside = omega (arith, length-set c.loop-i.rows c.loop-i.i c.row_at.result);
  counted = c.loop-i.invariant.counted;
  filled = rw (c.loop-i.invariant.filled, c.row_at.ensures, add-one) (filled_next (row_out c.args.book.now) c.loop-i.i c.args.rows.now);
}
