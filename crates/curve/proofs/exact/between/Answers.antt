-- `curve::exact::between` meets its contract: quotient and remainder are those of the line.
-- Assumes nothing.
use Rattle.curve.specs.Price.{line}
use Rattle.curve.specs.Exact.{exact_line}
use Rattle.curve.proofs.exact.between.Goals as goal

pub returns : goal.returns
unfolding line exact_line
returns c = rw (c.from.ensures, c.from-2.ensures, c.from-3.ensures, c.from-4.ensures, c.from-width.ensures)
