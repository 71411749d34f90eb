-- Each turn puts one row more.
use Rattle.std.proofs.Common.{arith, ◌∙◌, add-one}
use Rattle.lent.proofs.Placing.{placed-none, placed-next}
use Rattle.ozpinduru.proofs.write.put_rows.Goals as goal

pub loop-i-init : goal.loop-i-init
loop-i-init c = placed-none c.args.edition c.args.room.now c.args.rows.now

pub loop-i-preserved : goal.loop-i-preserved
loop-i-preserved c =
    rw add-one (c.put_row.ensures ∙ rw c.loop-i.invariant (placed-next c.args.edition c.args.room.now c.args.rows.now c.loop-i.i _ (omega arith)))
