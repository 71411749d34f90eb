-- `put_values` puts C, E, F and R one behind the other.
-- Assumes nothing.
use Rattle.making.proofs.Fields.{put-values}
use Rattle.making.proofs.put_values.Goals as goal

pub returns : goal.returns
returns c =
    put-values c.args.b.now c.args.p c.requires
    c.put_value.ensures c.put_value-2.ensures c.put_value-3.ensures c.put_value-4.ensures
