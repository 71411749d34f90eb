-- `seal` puts both sums of a block behind the rest of it.
-- Assumes nothing.
use mathlib.Core.Path.{◌∙◌}
use Rattle.sections.proofs.Parts.{part-from}
use Rattle.making.proofs.Fields.{put-sums}
use Rattle.making.proofs.seal.Goals as goal

pub returns : goal.returns
returns c =
    let sums = c.check_sums-sums.ensures in
    put-sums c.args.b.now c.args.at _ c.requires (part-from c.args.b.now c.args.at 512) (c.from.ensures ∙ sums.sum_value)
    (c.from-2.ensures ∙ sums.total_value)
    c.put_u16.ensures c.put_u16-2.ensures
