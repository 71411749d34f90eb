-- `read_columns` is `read_rows`, of the lists of the columns.
-- Assumes nothing.
use Rattle.reading.proofs.read_columns.Goals as goal

pub returns : goal.returns
returns g c = c.read_rows.ensures
