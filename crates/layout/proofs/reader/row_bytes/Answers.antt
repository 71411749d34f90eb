-- `row_bytes` cuts the row's place out of the book.
-- Assumes nothing.
use mathlib.Core.Path.{ap, ◌∙◌}
use lib.ListN.{length}
use Rattle.sections.proofs.Parts.{row-part, row-length}
use Rattle.layout.proofs.reader.row_bytes.Goals as goal

pub returns : goal.returns
returns c =
    let same = row-part _ _ _ c.requires in
    (same, ap length same ∙ row-length _ _ _ c.requires)
