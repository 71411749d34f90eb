-- `put_row` puts the offer of a row.
-- Assumes nothing.
use mathlib.Core.Path.{ap, ◌∙◌}
use Rattle.places.specs.inner.Rows.{put_row}
use Rattle.lent.proofs.put_row.Goals as goal

pub returns : goal.returns
returns c =
    let a = c.args in
    c.put_row.ensures ∙ ap (put_row a.room.now a.edition a.i) c.offer_in.ensures
