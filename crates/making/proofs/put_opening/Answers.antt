-- `put_opening` puts what block 0 says field by field.
-- Assumes nothing.
use Rattle.making.proofs.Fields.{put-opening}
use Rattle.making.proofs.put_opening.Goals as goal

pub returns : goal.returns
returns c =
    put-opening c.args.b.now c.args.edition c.args.p c.args.rows _ c.requires c.head_marks.ensures.0
    c.put_letters.ensures c.put_u16.ensures c.put_u16-2.ensures c.put_values.ensures c.put_u16-3.ensures
    c.put_u16-4.ensures c.put_value.ensures
